use Rattle.std.proofs.Common.{◌≤◌, ◌^◌, ℤ, length, sym, subst, arith, rules}
use Rattle.std.specs.Prelude.{FitsSigned, unsigned_abs}
use Rattle.std.specs.Int.{w128}
use Rattle.std.proofs.lemmas.Int.{to_z-of_z}
use Rattle.sum_basis.proofs.SmallEntries.{times_small}
use Rattle.sum_basis.proofs.SparseRows.{listed_to}
use Rattle.sum_basis.proofs.telling.key_of.Goals as goal

pub times_at-requires : goal.times_at-requires
times_at-requires c = listed_to 0 (length c.args.weights.now) 65536 c.args.entries.now (let few = c.requires.few in omega arith) c.requires.entries.0

pub point_after-point-requires : goal.point_after-point-requires
point_after-point-requires c =
    let fits : FitsSigned w128 c.times_at.result = search rules in
    rw (to_z-of_z w128 c.times_at.result fits) (subst (λ (z : ℤ). unsigned_abs z ≤ 2 ^ 56) (sym c.times_at.ensures)
    (times_small (length c.args.weights.now) c.args.list.now c.args.entries.now c.requires.entries))
