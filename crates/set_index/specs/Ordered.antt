-- In which order the rows of a column are listed.
use Rattle.std.specs.Prelude.{ℕ, pos, true, List, [], slice_index_or}
use Rattle.std.specs.Cmp.Lexicographic.{slice_cmp}
use Rattle.std.specs.List.Sorted.{IsPermutation, IsSorted}
use Rattle.std.specs.Ordering.{int_cmp, nat_cmp, then_cmp}
use Rattle.std.specs.declared.cmp.Ordering.{Ordering}
use Rattle.std.specs.declared.cmp.Ordering.TheVariants.{Equal}
use Rattle.audit_types.specs.Rows.{rows_that}
use Rattle.table_load.specs.Cells.{Cells, hidden, numbers, texts}

-- how the values of two rows compare: numbers as whole numbers, texts by their bytes
abbrev pub compare_cells : Cells → ℕ → ℕ → Ordering
compare_cells hidden r s = Equal
compare_cells (numbers xs) r s = int_cmp (slice_index_or xs r (pos 0)) (slice_index_or xs s (pos 0))
compare_cells (texts ts) r s = slice_cmp nat_cmp (slice_index_or ts r []) (slice_index_or ts s [])

-- how two rows compare: by their values, and if these are equal, by their numbers
abbrev pub compare_rows : Cells → ℕ → ℕ → Ordering
compare_rows cells = then_cmp (compare_cells cells) nat_cmp

-- each of n row numbers once, in ascending order of value and then of row
pub record IsOrder (n : ℕ) (cells : Cells) (order : List ℕ) : Type 0 where
  pub each_once : IsPermutation (rows_that (λ r. true) n) order
  pub ascending : IsSorted (compare_rows cells) order

-- a column that everybody may see
abbrev pub IsShown : Cells → Type 0
IsShown hidden = ⊥
IsShown (numbers xs) = Unit {0}
IsShown (texts ts) = Unit {0}
