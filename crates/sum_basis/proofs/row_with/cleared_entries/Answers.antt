use Rattle.std.proofs.Common.{List, subst, rules}
use Rattle.std.specs.Prelude.{FitsSigned}
use Rattle.std.specs.Int.{w128}
use Rattle.std.proofs.lemmas.Int.{to_z-of_z}
use Rattle.sum_basis.specs.Elimination.{IsCleared}
use Rattle.sum_basis.specs.Sparse.{row_of, entries_of}
use Rattle.sum_basis.specs.declared.sparse.FreeEntry.{FreeEntry}
use Rattle.sum_basis.proofs.ClearedLists.{head_small}
use Rattle.sum_basis.proofs.row_with.cleared_entries.Goals as goal

pub new-requires : goal.new-requires
new-requires c =
    let n = c.args.columns in
    let fits : FitsSigned w128 c.clear.new.row.head = search rules in
    let made = row_of n (entries_of c.clear.new.row) in
    let cleared = subst (λ (es : List FreeEntry). IsCleared n (row_of n c.args.new.now) (row_of n es) made) c.in_ok-made.ensures.same c.clear.ensures.cleared in
    rw (to_z-of_z w128 c.clear.new.row.head fits) (head_small n c.clear.new.row c.clear.ensures.kept (c.requires.narrow made cleared))
