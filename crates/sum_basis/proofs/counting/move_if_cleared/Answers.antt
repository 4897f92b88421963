use Rattle.std.proofs.Common.{◌≡◌, ℕ, ◌+◌, pos, length, get_or, sym, ap, ◌∙◌, arith, rules}
use Rattle.std.specs.Prelude.{FitsSigned}
use Rattle.std.specs.Int.{w128}
use Rattle.std.proofs.lemmas.Int.{to_z-of_z}
use Rattle.sum_basis.specs.Reach.{times_of, without_new}
use Rattle.sum_basis.specs.Sparse.{entry_at}
use Rattle.sum_basis.proofs.Along.{one_alike}
use Rattle.sum_basis.proofs.SparseRows.{listed_to}
use Rattle.sum_basis.proofs.Tallies.{as_it_was, as_it_is}
use Rattle.sum_basis.proofs.counting.move_if_cleared.Goals as goal

pub times_at-times-requires : goal.times_at-times-requires
times_at-times-requires c = listed_to 0 (length c.args.counts.now) 65536 c.args.free.now (omega (arith, c.requires.at_most)) c.requires.free.0

pub returns-else-not-is_zero-clause-moved : goal.returns-else-not-is_zero-clause-moved
returns-else-not-is_zero-clause-moved c = λ j.
    let new = c.args.new.now in
    let f = entry_at c.args.free.now in
    let fits : FitsSigned w128 c.times_at-times.result = search rules in
    let told = rw (to_z-of_z w128 c.times_at-times.result fits) at c.is_zero.ensures in
    let none : times_of new f ≡ pos 0 = sym c.times_at-times.ensures ∙ told.0 c.if-not-is_zero.false in
    ap (λ (m : ℕ). get_or c.args.counts.now j 0 + m)
    (one_alike (f j) (without_new new f j) (as_it_was (length c.args.counts.now) new f c.requires.new.0 none j)
    (as_it_is (length c.args.counts.now) new f c.requires.new.0 none j))
