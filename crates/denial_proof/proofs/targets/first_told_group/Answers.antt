use Rattle.std.proofs.Common.{◌≡◌, below_more, List, Some, length, refl, ap, subst, arith}
use Rattle.std.specs.Prelude.{slice_get}
use Rattle.std.proofs.lemmas.Option.{slice_get_read, slice_get_within}
use Rattle.audit_types.specs.declared.records.Protected.{Protected}
use Rattle.denial_proof.specs.declared.proof_parts.Target.TheVariants.{Group}
use Rattle.denial_proof.specs.Canonical.{Tells}
use Rattle.denial_proof.proofs.FirstTargets.{first_beside, teller_first}
use Rattle.denial_proof.proofs.targets.first_told_group.Goals as goal

pub teller_of_group-requires-clause-there : goal.teller_of_group-requires-clause-there
teller_of_group-requires-clause-there c =
    let items = c.groups-entry-items.result.now in
    let p = c.entry-item.result in
    let place = c.loop-place.place in
    let read : slice_get items place ≡ Some p = slice_get_read items (length items) place p refl c.loop-place-test.true c.entry-item.is in
    subst (λ (list : List Protected). slice_get list place ≡ Some p) c.groups-entry-items.ensures read

pub loop-place-preserved : goal.loop-place-preserved
loop-place-preserved c = below_more _ _ c.loop-place.invariant (rw c.in_default.is at c.in_ok-own.ensures)

pub returns-in-Some-clause-some : goal.returns-in-Some-clause-some
returns-in-Some-clause-some c =
    let protected = c.args.protected.now in
    let rows = c.args.basis.now.rows in
    let least = rw c.in-Some.is at c.in_ok-own.ensures in
    teller_first c.args.n protected c.args.column rows c.requires.no_row c.requires.no_pair c.requires.no_group c.loop-place.place c.in-Some.own
    (first_beside (λ g p. Tells c.args.n protected c.args.column rows (Some p) (Group g)) c.loop-place.place c.in-Some.own c.loop-place.invariant least)

pub returns-clause-none : goal.returns-clause-none
returns-clause-none c = λ g p tells.
    let within = slice_get_within c.args.protected.now.groups g tells.is_target.entry tells.is_target.there in
    let all = ap (λ (list : List Protected). length list) c.groups-entry-items.ensures in
    c.loop-place.invariant g (omega arith) p tells
