use Rattle.std.proofs.Common.{get_or, pos, refl, arith}
use Rattle.sum_basis.proofs.Tallies.{place_inside, not_yet_tallied, one_more_tallied}
use Rattle.sum_basis.proofs.counting.tally.Goals as goal

pub bounds-counts-e : goal.bounds-counts-e
bounds-counts-e c =
    place_inside c.args.counts.now c.loop-e.counts c.args.entries.now c.loop-e.e-index (record { place = 0; value = pos 0 }) c.requires.listed
    c.loop-e-test.true c.loop-e.invariant

pub overflow_add-counts : goal.overflow_add-counts
overflow_add-counts c =
    let few = c.requires.few (get_or c.args.entries.now c.loop-e.e-index (record { place = 0; value = pos 0 })).place in
    let same = not_yet_tallied c.args.counts.now c.loop-e.counts c.args.entries.now c.loop-e.e-index (record { place = 0; value = pos 0 }) c.requires.listed
    c.loop-e-test.true c.loop-e.invariant in
    omega arith

pub bounds-counts-e-in-loop-e : goal.bounds-counts-e-in-loop-e
bounds-counts-e-in-loop-e c =
    place_inside c.args.counts.now c.loop-e.counts c.args.entries.now c.loop-e.e-index (record { place = 0; value = pos 0 }) c.requires.listed
    c.loop-e-test.true c.loop-e.invariant

pub loop-e-preserved : goal.loop-e-preserved
loop-e-preserved c =
    one_more_tallied c.args.counts.now c.loop-e.counts c.args.entries.now c.loop-e.e-index (record { place = 0; value = pos 0 }) c.requires.listed
    c.loop-e-test.true c.loop-e.invariant _ refl
