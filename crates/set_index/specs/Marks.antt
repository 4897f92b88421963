-- Rows in some order, and the sets of the first of them.
use Rattle.std.specs.Prelude.{◌≡◌, ℕ, ◌*◌, ◌<◌, List, length, take, slice_index_or, Option, Some, None}
use Rattle.std.specs.List.Sorted.{IsSorted}
use Rattle.audit_types.specs.Rows.{Rows, has_row, rows_that}
use Rattle.table_load.specs.Cells.{Cells, hidden}
use Rattle.set_index.specs.Ordered.{compare_rows}

-- the rows of a table in some order
pub record SortedView : Type 0 where
  pub rows : ℕ
  pub order : List ℕ

-- the set of the first rows of an order
abbrev pub first_rows : ℕ → List ℕ → ℕ → List ℕ
first_rows n order count = rows_that (has_row (take count order)) n

-- the set of the first 16 k rows, for each k up to the end of the order
pub record AreMarks (n : ℕ) (order : List ℕ) (marks : List Rows) : Type 0 where
  pub enough : length order < 16 * length marks
  pub sets : (k : ℕ) (d : Rows) → k < length marks → slice_index_or marks k d ≡ record { n = n; list = first_rows n order (16 * k) }

-- the rows of a column in ascending order, and nothing if it is hidden
abbrev pub SortsColumn : ℕ → Cells → Option SortedView → Type 0
SortsColumn n cells None = cells ≡ hidden
SortsColumn n cells (Some s) = (s.rows ≡ n) × IsSorted (compare_rows cells) s.order
