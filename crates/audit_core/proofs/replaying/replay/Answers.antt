use Rattle.std.proofs.Common.{rules, ◌≡◌, [], ◌∷◌, ◌++◌, take, get_or, Result, Err, IfErr, refl, sym, ap, subst, ◌∙◌, arith}
use Rattle.std.proofs.lemmas.List.{take_more}
use Rattle.std.proofs.lemmas.Option.{slice_get_read, slice_get_within}
use Rattle.audit_types.specs.declared.records.Answered.{Answered}
use Rattle.audit_types.specs.History.{FitsShape, setting_of}
use Rattle.audit_core.specs.Audited.{Audited}
use Rattle.audit_core.specs.declared.replaying.ReplayFault.{ReplayFault}
use Rattle.audit_core.specs.Released.{IsJudgedReleased, ReplayCause, TellsUnreleased}
use Rattle.audit_core.proofs.Replays.{cause_of_unreleased, next_was_released}
use Rattle.audit_core.proofs.replaying.replay.Goals as goal

abbrev ended_by : ReplayFault → Result Audited ReplayFault
ended_by fault = Err fault

pub returns-in_err-take_again-clause-cause : goal.returns-in_err-take_again-clause-cause
returns-in_err-take_again-clause-cause c =
    let i = c.loop-place.invariant in
    let setting = setting_of c.args.shape c.args.protected in
    let list = c.args.list.now in
    let place = c.loop-place.place in
    let r = c.index-list-place.result in
    let fault = c.in_err-take_again.field-0.0 in
    let here = slice_get_read list _ place r refl c.loop-place-test.true c.index-list-place.is in
    let core : c.loop-place.core ≡ record { setting = setting; history = take place list } = search rules in
    let tells = subst (λ (a : Audited). TellsUnreleased a place r fault) core c.in_err-take_again.ensures.err in
    let same : c.from_residual-in_err-take_again.result ≡ ended_by fault = search rules in
    subst (λ (ended : Result Audited ReplayFault). IfErr ended (λ f. ReplayCause f setting list)) (sym same)
    (cause_of_unreleased setting list place r here i.released fault tells)

pub loop-place-preserved : goal.loop-place-preserved
loop-place-preserved c =
    let i = c.loop-place.invariant in
    let setting = setting_of c.args.shape c.args.protected in
    let list = c.args.list.now in
    let place = c.loop-place.place in
    let r = c.index-list-place.result in
    let inside = c.loop-place-test.true in
    let here : get_or list place r ≡ r = sym c.index-list-place.is in
    let there = slice_get_read list _ place r refl inside c.index-list-place.is in
    let core : c.loop-place.core ≡ record { setting = setting; history = take place list } = search rules in
    let released = subst (λ (a : Audited). IsJudgedReleased a.setting a.history r) core c.in_ok-take_again.ensures.released in
    let fits : FitsShape c.args.shape r.column r.rows = subst (λ (x : Answered). FitsShape c.args.shape x.column x.rows) here (c.requires.fit place r inside) in
    record {
      same_setting = ap (λ (a : Audited). a.setting) c.in_ok-take_again.ensures.takes ∙ i.same_setting;
      so_far =
          ap (λ (a : Audited). a.history) c.in_ok-take_again.ensures.takes ∙ ap (λ h. h ++ r ∷ []) i.so_far
          ∙ sym (take_more list place r inside ∙ ap (λ x. take place list ++ x ∷ []) here);
      released = next_was_released setting list place r there (record { fits = fits; released = released }) i.released;
    }

pub returns-clause-released : goal.returns-clause-released
returns-clause-released c = record {
  few = c.requires.few;
  each = λ i r here. c.loop-place.invariant.released i r (omega (arith, slice_get_within c.args.list.now i r here, c.loop-place-test.false)) here;
}
