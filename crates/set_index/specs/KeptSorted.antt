-- How the rows of a column are kept in order.
use Rattle.std.specs.Prelude.{◌<◌, ◌≤◌, true}
use Rattle.std.specs.List.Sorted.{IsPermutation}
use Rattle.audit_types.specs.Limits.{most_rows}
use Rattle.audit_types.specs.Rows.{rows_that}
use Rattle.set_index.specs.Marks.{SortedView, AreMarks}
use Rattle.set_index.specs.declared.sorted.Sorted.TheInside as sorted

abbrev pub sorted_view : sorted.Inside → SortedView
sorted_view a = record { rows = a.rows; order = a.order.items }

-- each of 1 to most_rows rows once, with the sets of the first of them
pub record IsKeptSorted (a : sorted.Inside) : Type 0 where
  pub some : 0 < a.rows
  pub at_most : a.rows ≤ most_rows
  pub each_once : IsPermutation (rows_that (λ r. true) a.rows) a.order.items
  pub marks : AreMarks a.rows a.order.items a.marks.items
