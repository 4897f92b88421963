use Rattle.std.proofs.Common.{ℤ, pos, get_or, length, subst, ap, ◌∙◌, arith, rules}
use Rattle.std.specs.Prelude.{FitsSigned, ◌-ℤ◌, ◌*ℤ◌}
use Rattle.std.specs.Int.{w128}
use mir.Val.{to_z, of_z}
use Rattle.std.proofs.lemmas.Int.{to_z-of_z}
use Rattle.sum_basis.proofs.MergedNumbers.{passed, widened_small}
use Rattle.sum_basis.proofs.SparseRows.{IsPartlyTaken, stands_within, not_yet_taken, one_entry_taken, all_entries_taken}
use Rattle.sum_basis.proofs.ListContents.{none, value_small}
use Rattle.sum_basis.proofs.sparse.subtract.Goals as goal

pub slice_copy_out-before : goal.slice_copy_out-before
slice_copy_out-before c =
    rw c.loop-e.auto.row
    (stands_within 0 (length c.args.row.now) c.args.entries.now c.loop-e.e-index
    (record { place = 0; value = pos 0 }) c.requires.listed c.loop-e-test.true).inside

pub bounds-row-place : goal.bounds-row-place
bounds-row-place c =
    rw c.loop-e.auto.row
    (stands_within 0 (length c.args.row.now) c.args.entries.now c.loop-e.e-index
    (record { place = 0; value = pos 0 }) c.requires.listed c.loop-e-test.true).inside

pub less-requires-clause-x : goal.less-requires-clause-x
less-requires-clause-x c =
    let e = get_or c.args.entries.now c.loop-e.e-index (record { place = 0; value = pos 0 }) in
    let fits : FitsSigned w128 (get_or c.loop-e.row e.place (pos 0)) = search rules in
    let same = not_yet_taken c.args.row.now c.loop-e.row (to_z w128 (of_z w128 c.args.times)) (length c.args.row.now) c.args.entries.now c.loop-e.e-index
    (record { place = 0; value = pos 0 }) c.requires.listed c.loop-e-test.true c.loop-e.invariant in
    rw (to_z-of_z w128 (get_or c.loop-e.row e.place (pos 0)) fits, same) (c.requires.row e.place)

pub loop-e-preserved : goal.loop-e-preserved
loop-e-preserved c =
    let e = get_or c.args.entries.now c.loop-e.e-index (record { place = 0; value = pos 0 }) in
    let fits : FitsSigned w128 (get_or c.loop-e.row e.place (pos 0)) = search rules in
    let small : FitsSigned w128 c.number.result = search rules in
    let result : FitsSigned w128 c.less.result = search rules in
    one_entry_taken c.args.row.now c.loop-e.row (to_z w128 (of_z w128 c.args.times)) c.args.entries.now c.loop-e.e-index
    (record { place = 0; value = pos 0 }) _ c.loop-e-test.true
    (rw c.loop-e.auto.row (stands_within 0 (length c.args.row.now) c.args.entries.now c.loop-e.e-index
    (record { place = 0; value = pos 0 }) c.requires.listed c.loop-e-test.true).inside)
    c.loop-e.invariant
    (to_z-of_z w128 c.less.result result ∙ c.less.ensures ∙ ap (λ z. z -ℤ to_z w128 (of_z w128 c.args.times) *ℤ to_z w128 (of_z w128 c.number.result))
    (to_z-of_z w128 (get_or c.loop-e.row e.place (pos 0)) fits)
    ∙ ap (λ z. get_or c.loop-e.row e.place (pos 0) -ℤ to_z w128 (of_z w128 c.args.times) *ℤ z) (passed c.number.result e.value small c.number.ensures))

pub returns : goal.returns
returns c =
    all_entries_taken c.args.row.now c.loop-e.row c.args.times c.args.entries.now c.loop-e.e-index c.loop-e.auto.row c.requires.listed (omega arith)
    (subst (λ (t : ℤ). IsPartlyTaken c.args.row.now c.loop-e.row t c.args.entries.now c.loop-e.e-index)
    (to_z-of_z w128 c.args.times c.ranges.times) c.loop-e.invariant)

pub less-requires-clause-times : goal.less-requires-clause-times
less-requires-clause-times c = rw (to_z-of_z w128 c.args.times c.ranges.times) c.requires.times

pub less-requires-clause-y : goal.less-requires-clause-y
less-requires-clause-y c =
    let value : FitsSigned w128 c.number.result = search rules in
    widened_small c.number.result (get_or c.args.entries.now c.loop-e.e-index none).value value c.number.ensures
    (value_small c.args.entries.now c.loop-e.e-index c.loop-e-test.true c.requires.small)
