use Rattle.std.proofs.Common.{◌≤◌, ◌^◌, ℤ, length, get_or, sym, ap, ◌∙◌, subst, arith, rules}
use Rattle.std.specs.Prelude.{FitsSigned, ◌*ℤ◌, ◌-ℤ◌, unsigned_abs}
use Rattle.std.specs.Int.{w128}
use Rattle.std.proofs.lemmas.Int.{to_z-of_z}
use Rattle.sum_basis.specs.Reach.{one_if, times_of}
use Rattle.sum_basis.specs.Sparse.{entry_at}
use Rattle.sum_basis.proofs.MergedNumbers.{passed}
use Rattle.sum_basis.proofs.ListContents.{none}
use Rattle.sum_basis.proofs.SparseRows.{listed_to, stands_within, own_value}
use Rattle.sum_basis.proofs.SmallEntries.{entry_small, times_small}
use Rattle.sum_basis.proofs.Moving.{without_at, not_yet_moved, place_moved, one_more_moved, all_moved}
use Rattle.sum_basis.proofs.counting.move_row.Goals as goal

pub value_at-before-requires : goal.value_at-before-requires
value_at-before-requires c = listed_to 0 (length c.args.counts.now) 65536 c.args.free.now (omega (arith, c.requires.at_most)) c.requires.free.0

pub bounds-counts-place : goal.bounds-counts-place
bounds-counts-place c =
    place_moved c.args.counts.now c.loop-e.counts c.args.new.now (entry_at c.args.free.now) c.loop-e.e-index none c.requires.new.0 c.loop-e-test.true
    c.loop-e.invariant

pub moved-requires-clause-before : goal.moved-requires-clause-before
moved-requires-clause-before c =
    let fits : FitsSigned w128 c.value_at-before.result = search rules in
    let place = (get_or c.args.new.now c.loop-e.e-index none).place in
    rw (to_z-of_z w128 c.value_at-before.result fits) (subst (λ (z : ℤ). unsigned_abs z ≤ 2 ^ 56) (sym c.value_at-before.ensures)
    (entry_small (length c.args.counts.now) c.args.free.now place c.requires.free))

pub moved-requires-clause-times : goal.moved-requires-clause-times
moved-requires-clause-times c =
    rw (to_z-of_z w128 c.args.times c.ranges.times, c.requires.times)
    (times_small (length c.args.counts.now) c.args.new.now c.args.free.now c.requires.free)

pub moved-requires-clause-some : goal.moved-requires-clause-some
moved-requires-clause-some c =
    let fits : FitsSigned w128 c.number.result = search rules in (
      λ zero. c.requires.some (sym (to_z-of_z w128 c.args.times c.ranges.times) ∙ zero),
      λ zero. (stands_within 0 (length c.args.counts.now) c.args.new.now c.loop-e.e-index none c.requires.new.0 c.loop-e-test.true).some
          (sym (passed c.number.result (get_or c.args.new.now c.loop-e.e-index none).value fits c.number.ensures) ∙ zero),
    )

pub moved-requires-clause-counted : goal.moved-requires-clause-counted
moved-requires-clause-counted c =
    let fits : FitsSigned w128 c.value_at-before.result = search rules in
    let one = ap one_if (to_z-of_z w128 c.value_at-before.result fits ∙ c.value_at-before.ensures) in
    let enough = c.requires.counted (get_or c.args.new.now c.loop-e.e-index none).place in
    let same = not_yet_moved c.args.counts.now c.loop-e.counts c.args.new.now (entry_at c.args.free.now) c.loop-e.e-index none c.requires.new.0
    c.loop-e-test.true c.loop-e.invariant in
    omega arith

pub moved-requires-clause-few : goal.moved-requires-clause-few
moved-requires-clause-few c =
    let few = c.requires.few (get_or c.args.new.now c.loop-e.e-index none).place in
    let same = not_yet_moved c.args.counts.now c.loop-e.counts c.args.new.now (entry_at c.args.free.now) c.loop-e.e-index none c.requires.new.0
    c.loop-e-test.true c.loop-e.invariant in
    omega arith

pub bounds-counts-place-in-loop-e : goal.bounds-counts-place-in-loop-e
bounds-counts-place-in-loop-e c =
    place_moved c.args.counts.now c.loop-e.counts c.args.new.now (entry_at c.args.free.now) c.loop-e.e-index none c.requires.new.0 c.loop-e-test.true
    c.loop-e.invariant

pub loop-e-preserved : goal.loop-e-preserved
loop-e-preserved c =
    let new = c.args.new.now in
    let f = entry_at c.args.free.now in
    let e = get_or new c.loop-e.e-index none in
    let by = (get_or new 0 none).value in
    let before = c.value_at-before.result in
    let fits : FitsSigned w128 before = search rules in
    let value_fits : FitsSigned w128 c.number.result = search rules in
    let by_fits : FitsSigned w128 c.number-by.result = search rules in
    let is =
    rw (
      passed c.number-by.result by by_fits c.number-by.ensures,
      to_z-of_z w128 before fits,
      to_z-of_z w128 c.args.times c.ranges.times,
      passed c.number.result e.value value_fits c.number.ensures,
    )
    at c.moved.ensures in
    let own = own_value 0 (length c.args.counts.now) new c.loop-e.e-index none c.requires.new.0 c.loop-e-test.true in
    let left = ap one_if (without_at new f none e.place e.value (let within = c.loop-e-test.true in omega arith) own
    ∙ ap (λ (z : ℤ). by *ℤ z -ℤ times_of new f *ℤ e.value) (sym c.value_at-before.ensures)
    ∙ ap (λ (t : ℤ). by *ℤ before -ℤ t *ℤ e.value) (sym c.requires.times)) in
    let one = ap one_if c.value_at-before.ensures in
    one_more_moved c.args.counts.now c.loop-e.counts new f c.loop-e.e-index none c.requires.new.0 c.loop-e-test.true c.loop-e.invariant c.moved.result
    (omega (arith, is, left, one))

pub returns-clause-moved : goal.returns-clause-moved
returns-clause-moved c =
    all_moved c.args.counts.now c.loop-e.counts c.args.new.now (entry_at c.args.free.now) c.loop-e.e-index c.requires.new.0
    (let ends = c.loop-e-test.false in omega arith) c.loop-e.invariant
