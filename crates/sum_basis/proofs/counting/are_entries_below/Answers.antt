use Rattle.std.proofs.Common.{ℕ, ◌+◌, ◌<◌, length, get_or, subst, arith}
use Rattle.sum_basis.proofs.ListContents.{none}
use Rattle.sum_basis.proofs.SparseRows.{stands_within}
use Rattle.sum_basis.proofs.Tallies.{entry_there}
use Rattle.sum_basis.proofs.counting.are_entries_below.Goals as goal

pub bounds-counts-e : goal.bounds-counts-e
bounds-counts-e c = (stands_within 0 (length c.args.counts.now) c.args.entries.now c.loop-e.e-index none c.requires.listed c.loop-e-test.true).inside

pub returns : goal.returns
returns c = λ yes j some.
    let at = entry_there c.args.entries.now j none some in
    subst (λ (i : ℕ). get_or c.args.counts.now i 0 + c.args.more < c.args.reach) at.2
    (c.loop-e.invariant at.0 (let ends = c.loop-e-test.false in let within = at.1 in omega arith))
