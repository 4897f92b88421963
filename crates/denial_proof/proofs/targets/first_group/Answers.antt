use Rattle.std.proofs.Common.{◌≡◌, below_more, List, Some, length, refl, sym, ap, ◌∙◌, subst, arith}
use Rattle.std.specs.Prelude.{slice_get}
use Rattle.std.proofs.lemmas.Bool.{true≢false}
use Rattle.std.proofs.lemmas.Option.{slice_get_read, slice_get_within}
use Rattle.audit_types.specs.declared.records.Protected.{Protected}
use Rattle.denial_proof.proofs.FirstTargets.{told_group}
use Rattle.denial_proof.proofs.targets.first_group.Goals as goal

pub loop-place-preserved : goal.loop-place-preserved
loop-place-preserved c =
    let protected = c.args.protected.now in
    let items = c.groups-entry-items.result.now in
    let p = c.entry-item.result in
    let place = c.loop-place.place in
    let read : slice_get items place ≡ Some p = slice_get_read items (length items) place p refl c.loop-place-test.true c.entry-item.is in
    let there = subst (λ (list : List Protected). slice_get list place ≡ Some p) c.groups-entry-items.ensures read in
    below_more _ _ c.loop-place.invariant
    (λ tells. true≢false (sym (c.is_told.ensures.1 (told_group c.args.n protected c.args.column c.args.basis.now c.requires.n place p there tells))
    ∙ c.if-is_told.false))

pub returns : goal.returns
returns c = λ place tells.
    let within = slice_get_within c.args.protected.now.groups place tells.is_target.entry tells.is_target.there in
    let all = ap (λ (list : List Protected). length list) c.groups-entry-items.ensures in
    c.loop-place.invariant place (omega arith) tells
