-- Lists of sets of rows of one table.
use Rattle.std.specs.Prelude.{ℕ, List, [], slice_index_or, ◌<◌, length}
use Rattle.audit_types.specs.Rows.{Rows}

-- sets of rows of a table of n rows, in order, and how many of them there is room for
pub record ListOfRows : Type 0 where
  pub n : ℕ
  pub list : List Rows
  pub capacity : ℕ

-- no rows
abbrev pub no_rows : Rows
no_rows = record { n = 0; list = [] }

-- the rows of the set at a place, and none past the last
abbrev pub rows_at : List Rows → ℕ → List ℕ
rows_at sets k = (slice_index_or sets k no_rows).list

-- there is room for one set more
abbrev pub HasRoom : ListOfRows → Type 0
HasRoom sets = length sets.list < sets.capacity
