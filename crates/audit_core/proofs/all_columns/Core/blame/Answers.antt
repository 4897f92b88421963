use Rattle.std.proofs.Common.{rules, ◌≡◌, [], ◌∷◌, length, Some, refl, ap, subst, ◌∙◌, arith}
use Rattle.std.specs.Prelude.{slice_get}
use Rattle.std.proofs.lemmas.Option.{slice_get_read, slice_get_within}
use Rattle.audit_core.specs.Audited.{Audited}
use Rattle.audit_core.specs.Blame.{IsReleasedWith, IsJudgedReleasedWith}
use Rattle.audit_core.proofs.Blamed.{judged_with_all, one_more_passes}
use Rattle.audit_core.proofs.all_columns.Core.blame.Goals as goal

pub loop-group-init : goal.loop-group-init
loop-group-init c = record { judged = λ i p below here. absurd (omega (arith, below)); decided = λ possible i p below here. absurd (omega (arith, below)) }

pub returns-then-not-branch-2 : goal.returns-then-not-branch-2
returns-then-not-branch-2 c =
    let group = c.group-item.result in
    let groups = c.groups-group-items.ensures ∙ ap (λ (a : Audited). a.setting.protected.groups) c.self.view_is in
    let at : slice_get c.args.self.now.setting.protected.groups c.loop-group.group-index ≡ Some group =
    subst (λ list. slice_get list c.loop-group.group-index ≡ Some group) groups
    (slice_get_read c.groups-group-items.result.now _ c.loop-group.group-index group refl c.loop-group-test.true c.group-item.is) in
    let none : IsJudgedReleasedWith c.args.self.now.setting c.args.self.now.history c.args.asked.now [] = search rules in
    record {
      judged = (
        none,
        record {
          at = c.loop-group.group-index;
          group = group;
          stands = at;
          named = refl;
          denies = λ passes. search rules;
          before =
              c.loop-group.invariant.judged;
        },
      );
      decided = λ possible.
          let released : IsReleasedWith c.args.self.now.setting c.args.self.now.history c.args.asked.now [] = search rules in (
            released,
            record {
              at = c.loop-group.group-index;
              group = group;
              stands = at;
              named = refl;
              denies = λ passes. search rules;
              before =
                  c.loop-group.invariant.decided possible;
            },
          );
    }

pub loop-group-preserved : goal.loop-group-preserved
loop-group-preserved c =
    let group = c.group-item.result in
    let groups = c.groups-group-items.ensures ∙ ap (λ (a : Audited). a.setting.protected.groups) c.self.view_is in
    let at : slice_get c.args.self.now.setting.protected.groups c.loop-group.group-index ≡ Some group =
    subst (λ list. slice_get list c.loop-group.group-index ≡ Some group) groups
    (slice_get_read c.groups-group-items.result.now _ c.loop-group.group-index group refl c.loop-group-test.true c.group-item.is) in
    let passes : IsJudgedReleasedWith c.args.self.now.setting c.args.self.now.history c.args.asked.now (group ∷ []) = search rules in
    record {
      judged = one_more_passes c.args.self.now.setting.protected.groups (IsJudgedReleasedWith c.args.self.now.setting c.args.self.now.history c.args.asked.now)
          c.loop-group.group-index group at passes c.loop-group.invariant.judged;
      decided = λ possible.
          let released : IsReleasedWith c.args.self.now.setting c.args.self.now.history c.args.asked.now (group ∷ []) = search rules in
          one_more_passes c.args.self.now.setting.protected.groups (IsReleasedWith c.args.self.now.setting c.args.self.now.history c.args.asked.now)
          c.loop-group.group-index group at released (c.loop-group.invariant.decided possible);
    }

pub unreachable-requires : goal.unreachable-requires
unreachable-requires c =
    let none : IsJudgedReleasedWith c.args.self.now.setting c.args.self.now.history c.args.asked.now [] = search rules in
    let groups = c.groups-group-items.ensures ∙ ap (λ (a : Audited). a.setting.protected.groups) c.self.view_is in
    c.requires.denied (judged_with_all c.args.self.now.setting c.args.self.now.history c.args.asked.now c.sets_have_one_form.ensures none
    (λ i p here. c.loop-group.invariant.judged i p
    (omega (arith, slice_get_within c.args.self.now.setting.protected.groups i p here, ap length groups, c.loop-group-test.false)) here))
