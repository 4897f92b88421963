-- What a condition means over the public part of a table.
use Rattle.std.specs.Prelude.{ℕ, Bool, true, false, ◌&&◌, List, Option, Some, None}
use Rattle.std.specs.List.{list_any, list_all}
use Rattle.audit_types.specs.Rows.{has_row, rows_that}
use Rattle.table_load.specs.Cells.{PublicView, Cells, hidden, numbers, texts, cells_at, number_of_cell, text_of_cell}
use Rattle.predicate_lang.specs.Trees.{Tree, all_rows, negation, both, either, compared, among}
use Rattle.predicate_lang.specs.Meaning.{Row, satisfies, compares_cell}
use Rattle.predicate_lang.specs.declared.trees.Op.{Op}
use Rattle.predicate_lang.specs.declared.trees.Op.TheVariants.{Eq}
use Rattle.predicate_lang.specs.declared.trees.Literal.{Literal}
use Rattle.predicate_lang.specs.declared.trees.Literal.TheVariants.{Number, Text}

-- a row of the table, as its number and its text in each column
abbrev pub row_at : PublicView → ℕ → Row
row_at p r = record { number = λ place. number_of_cell p place r; text = λ place. text_of_cell p place r }

-- the rows that satisfy a condition
abbrev pub satisfying : PublicView → Tree → List ℕ
satisfying p t = rows_that (λ r. satisfies (row_at p r) t) p.rows

-- whether a row is among those that may be asked of
abbrev pub is_asked : Option (List ℕ) → ℕ → Bool
is_asked None r = true
is_asked (Some only) r = has_row only r

-- the rows that a condition means: those that satisfy it, of those that may be asked of
abbrev pub meaning : PublicView → Tree → List ℕ
meaning p t = rows_that (λ r. is_asked p.only r && satisfies (row_at p r) t) p.rows

-- the rows whose cell in a column compares so with a literal
abbrev pub meets : PublicView → ℕ → Op → Literal → List ℕ
meets p place o l = rows_that (λ r. compares_cell (row_at p r) place o l) p.rows

-- the rows whose cell in a column is one of the literals
abbrev pub meets_any : PublicView → ℕ → List Literal → List ℕ
meets_any p place ls = rows_that (λ r. list_any (compares_cell (row_at p r) place Eq) ls) p.rows

-- ---- which conditions can be asked

-- the column is there and holds what the literal is
abbrev pub is_kept : Cells → Literal → Bool
is_kept hidden l = false
is_kept (numbers xs) (Number n) = true
is_kept (numbers xs) (Text t) = false
is_kept (texts ts) (Number n) = false
is_kept (texts ts) (Text t) = true

abbrev pub are_kept : Cells → List Literal → Bool
are_kept cells ls = list_all (is_kept cells) ls

-- each column of the condition is there, and holds what its literals are
abbrev pub fits_public : PublicView → Tree → Bool
fits_public p all_rows = true
fits_public p (negation t) = fits_public p t
fits_public p (both t u) = fits_public p t && fits_public p u
fits_public p (either t u) = fits_public p t && fits_public p u
fits_public p (compared place o l) = is_kept (cells_at p place) l
fits_public p (among place ls) = are_kept (cells_at p place) ls
