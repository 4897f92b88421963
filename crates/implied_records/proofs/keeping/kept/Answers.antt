use Rattle.std.proofs.Common.{◌≡◌, ◌+◌, take, [], ◌∷◌, ◌++◌, List, sym, ap, ◌∙◌, subst}
use Rattle.std.proofs.lemmas.Bool.{true≢false}
use Rattle.audit_types.specs.declared.records.Answered.{Answered}
use Rattle.audit_types.specs.Limits.{most_rows, most_width}
use Rattle.audit_types.specs.Headcount.{Headcount, headcount}
use Rattle.audit_types.specs.History.{Protection, setting_of}
use Rattle.audit_types.specs.declared.records.Protected.{Protected}
use Rattle.audit_core.specs.Audited.{Audited}
use Rattle.implied_records.specs.Kept.{IsKeptOf}
use Rattle.implied_records.specs.Kept.IsKeptOf.{none}
use Rattle.implied_records.proofs.NextRecord.{NextLaws, fits, narrow, possible, one_stays, one_left_out}
use Rattle.implied_records.proofs.keeping.kept.Goals as goal
use Rattle.implied_records.proofs.keeping.kept.Goals.{then-not-is_implied+in_ok-take, else-not-is_implied}

-- these groups and these people, at the greatest bounds
abbrev guards : List Protected → Headcount → Protection
guards groups people = record { groups = groups; people = people; width = most_width; reach = most_rows }

pub loop-answered-init : goal.loop-answered-init
loop-answered-init c = record {
  setting = ap (λ (a : Audited). a.setting) c.in_ok-core.ensures ∙ ap (setting_of c.args.shape.now) c.new-unguarded.ensures
      ∙ ap (λ groups. setting_of c.args.shape.now (guards groups c.new-rows.result.people)) c.new-2.ensures.items
      ∙ ap (λ people. setting_of c.args.shape.now (guards [] people)) (c.new-rows.ensures.people ∙ ap (λ counts. headcount counts 2 0) c.new.ensures.items);
  kept = subst (λ (l : List Answered). IsKeptOf c.args.shape.now [] l) (sym (ap (λ (a : Audited). a.history) c.in_ok-core.ensures)) none;
}

pub is_implied-requires-clause-fits : goal.is_implied-requires-clause-fits
is_implied-requires-clause-fits c =
    fits (record {
      decisions = c.kept_of_legal.ensures.decisions;
      legal = c.kept_of_legal.ensures.legal;
      possible = c.true_answers.ensures.legal;
      grows =
          c.released_records.ensures;
    })
    c.args.shape.now c.args.history.now c.requires c.loop-answered.core.setting c.loop-answered.invariant.setting c.loop-answered.answered-index
    c.answered-item.result c.loop-answered-test.true c.answered-item.is c.loop-answered.core.history c.loop-answered.invariant.kept

pub is_implied-requires-clause-possible : goal.is_implied-requires-clause-possible
is_implied-requires-clause-possible c =
    possible (record {
      decisions = c.kept_of_legal.ensures.decisions;
      legal = c.kept_of_legal.ensures.legal;
      possible = c.true_answers.ensures.legal;
      grows =
          c.released_records.ensures;
    })
    c.args.shape.now c.args.history.now c.requires c.loop-answered.core.setting c.loop-answered.invariant.setting c.loop-answered.answered-index
    c.answered-item.result c.loop-answered-test.true c.answered-item.is c.loop-answered.core.history c.loop-answered.invariant.kept

pub take-requires-clause-fits : goal.take-requires-clause-fits
take-requires-clause-fits c =
    fits (record {
      decisions = c.kept_of_legal.ensures.decisions;
      legal = c.kept_of_legal.ensures.legal;
      possible = c.true_answers.ensures.legal;
      grows =
          c.released_records.ensures;
    })
    c.args.shape.now c.args.history.now c.requires c.loop-answered.core.setting c.loop-answered.invariant.setting c.loop-answered.answered-index
    c.answered-item.result c.loop-answered-test.true c.answered-item.is c.loop-answered.core.history c.loop-answered.invariant.kept

pub take-requires-clause-narrow : goal.take-requires-clause-narrow
take-requires-clause-narrow c =
    narrow (record {
      decisions = c.kept_of_legal.ensures.decisions;
      legal = c.kept_of_legal.ensures.legal;
      possible = c.true_answers.ensures.legal;
      grows =
          c.released_records.ensures;
    })
    c.args.shape.now c.args.history.now c.requires c.loop-answered.core.setting c.loop-answered.invariant.setting c.loop-answered.answered-index
    c.answered-item.result c.loop-answered-test.true c.answered-item.is c.loop-answered.core.history c.loop-answered.invariant.kept

pub loop-answered-preserved : goal.loop-answered-preserved
loop-answered-preserved c =
    let laws : NextLaws = record {
      decisions = c.kept_of_legal.ensures.decisions;
      legal = c.kept_of_legal.ensures.legal;
      possible =
          c.true_answers.ensures.legal;
      grows = c.released_records.ensures;
    } in
    let r = c.answered-item.result in
    elim c.if-not-is_implied.branch [
      | then-not-is_implied+in_ok-take w ↦
          let is : c.if-not-is_implied.core ≡ record c.loop-answered.core { history = c.loop-answered.core.history ++ r ∷ [] } = w.core-is
          ∙ w.in_ok-take.ensures.ok in
          record {
            setting = ap (λ (a : Audited). a.setting) is ∙ c.loop-answered.invariant.setting;
            kept = subst (λ (l : List Answered). IsKeptOf c.args.shape.now (take (c.loop-answered.answered-index + 1) c.args.history.now) l)
                (sym (ap (λ (a : Audited). a.history) is))
                (one_stays laws c.args.shape.now c.args.history.now c.requires c.loop-answered.core.setting c.loop-answered.invariant.setting
                c.loop-answered.answered-index
                r c.loop-answered-test.true c.answered-item.is c.loop-answered.core.history c.loop-answered.invariant.kept
                (λ implied. true≢false (sym (c.is_implied.ensures.1 implied) ∙ w.if-not-is_implied.true)));
          }
      | else-not-is_implied w ↦ record {
        setting = ap (λ (a : Audited). a.setting) w.core-is ∙ c.loop-answered.invariant.setting;
        kept = subst (λ (a : Audited). IsKeptOf c.args.shape.now (take (c.loop-answered.answered-index + 1) c.args.history.now) a.history) (sym w.core-is)
            (one_left_out laws c.args.shape.now c.args.history.now c.requires c.loop-answered.core.setting c.loop-answered.invariant.setting
            c.loop-answered.answered-index
            r c.loop-answered-test.true c.answered-item.is c.loop-answered.core.history c.loop-answered.invariant.kept
            (c.is_implied.ensures.0 w.if-not-is_implied.false));
      }
    ]
