use Rattle.std.proofs.Common.{◌≡◌, ◌++◌, ℤ, Vec, Global, drop, length, map}
use Rattle.std.specs.Vec.Iter.{into_iter_items}
use Rattle.table_load.specs.Cells.{numbered, public_count}
use Rattle.table_load.specs.Kept.{cells_kept}
use Rattle.table_load.proofs.publics.Public.of_numbers.Given as goal

abbrev pub invariant-loop-place : goal.invariant-loop-place
invariant-loop-place l = record {
  columns : numbered l.schema.columns (map (λ (v : Vec ℤ Global). v.items) l.fn.lists.items) ≡ map cells_kept l.columns.items ++ numbered
      (drop l.place l.schema.columns) (map (λ (v : Vec ℤ Global). v.items) (into_iter_items l.left));
  enough : length (into_iter_items l.left) ≡ public_count (drop l.place l.schema.columns);
}
