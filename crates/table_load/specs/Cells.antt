-- What a table holds, column by column.
use Rattle.std.specs.Prelude.{◌≡◌, ◌≢◌, ℕ, ◌<◌, ◌≤◌, ℤ, pos, ◌<ℤ◌, unsigned_abs, true, cond, List, [], ◌∷◌, length, drop, map, count_by, slice_index_or, Option, Some, None, option_map, unwrap_or, position}
use Rattle.std.specs.List.{AllByRecursion}
use Rattle.audit_types.specs.Limits.{most_rows}
use Rattle.audit_types.specs.History.{Secrets}
use Rattle.audit_types.specs.Shapes.{IsShape, columns}
use Rattle.audit_types.specs.declared.shapes.Shape.{Shape}
use Rattle.schema_json.specs.Columns.{Column, is_public, is_secret, is_count, role_at}
use Rattle.schema_json.specs.declared.roles.Role.{Role}
use Rattle.schema_json.specs.declared.roles.Role.TheVariants.{Text, Number, Count, Sum, Max, Min}
use Rattle.table_load.specs.Numerals.{in_range}

-- a column by its place in the schema: numbers, texts, or one that is not public
pub data Cells : Type 0 where
  hidden : Cells
  numbers : List ℤ → Cells
  texts : List (List ℕ) → Cells

-- what contracts see of a `Public`: the number of rows, and the columns by their places in the schema; and the rows that may be asked of, if
-- not all may be, of which a file says nothing
pub record PublicView : Type 0 where
  pub rows : ℕ
  pub columns : List Cells
  pub only : Option (List ℕ)

-- the same, of which each row may be asked
abbrev pub whole : PublicView → PublicView
whole p = record p { only = None }

-- what contracts see of a `Secret`: the shape, and a list of numbers for each secret column
pub record SecretView : Type 0 where
  pub shape : Shape
  pub lists : Secrets

-- a table: what everybody may see of it, and what the auditor guards
pub record TableView : Type 0 where
  pub public : PublicView
  pub secret : SecretView

-- the column at a place
abbrev pub cells_at : PublicView → ℕ → Cells
cells_at p place = slice_index_or p.columns place hidden

-- the numbers of a column of numbers
abbrev pub numbers_of : Cells → List ℤ
numbers_of (numbers xs) = xs
numbers_of cells = []

-- the texts of a column of texts
abbrev pub texts_of : Cells → List (List ℕ)
texts_of (texts ts) = ts
texts_of cells = []

-- the number of a row in a column, 0 if there is none
abbrev pub number_of_cell : PublicView → ℕ → ℕ → ℤ
number_of_cell p place row = slice_index_or (numbers_of (cells_at p place)) row (pos 0)

-- the text of a row in a column, empty if there is none
abbrev pub text_of_cell : PublicView → ℕ → ℕ → List ℕ
text_of_cell p place row = slice_index_or (texts_of (cells_at p place)) row []

-- how many people each row stands for; no numbers if no column says so
abbrev pub counts_of : List Column → PublicView → List ℕ
counts_of columns p = unwrap_or (option_map (λ place. map unsigned_abs (numbers_of (cells_at p place))) (position (λ c. is_count c.role) columns)) []

-- n numbers in range
pub record AreNumbers (n : ℕ) (list : List ℤ) : Type 0 where
  pub one_each : length list ≡ n
  pub within : AllByRecursion (λ z. in_range z ≡ true) list

-- a column with a cell for each of n rows, unless it is hidden
abbrev pub AreCells : ℕ → Cells → Type 0
AreCells n hidden = Unit {0}
AreCells n (numbers list) = AreNumbers n list
AreCells n (texts list) = length list ≡ n

-- 1 to most_rows rows, and columns with a cell for each
pub record IsPublic (p : PublicView) : Type 0 where
  pub some : 0 < p.rows
  pub at_most : p.rows ≤ most_rows
  pub columns : AllByRecursion (AreCells p.rows) p.columns

-- a shape, and for each of its columns a number in range for each row
pub record IsSecret (s : SecretView) : Type 0 where
  pub shape : IsShape s.shape
  pub one_each : length s.lists ≡ columns s.shape
  pub numbers : AllByRecursion (AreNumbers s.shape.rows) s.lists

-- a column of numbers
abbrev pub HasNumbers : Cells → Type 0
HasNumbers hidden = ⊥
HasNumbers (numbers xs) = Unit {0}
HasNumbers (texts ts) = ⊥

-- a column of texts
abbrev pub HasTexts : Cells → Type 0
HasTexts hidden = ⊥
HasTexts (numbers xs) = ⊥
HasTexts (texts ts) = Unit {0}

-- a column of numbers that are at least 1
abbrev pub HasCounts : Cells → Type 0
HasCounts cells = HasNumbers cells × AllByRecursion (λ z. pos 0 <ℤ z) (numbers_of cells)

-- a column that holds what its role says
abbrev pub HoldsRole : Role → Cells → Type 0
HoldsRole Text cells = HasTexts cells
HoldsRole Number cells = HasNumbers cells
HoldsRole Count cells = HasCounts cells
HoldsRole Sum cells = cells ≡ hidden
HoldsRole Max cells = cells ≡ hidden
HoldsRole Min cells = cells ≡ hidden

-- a public part whose columns hold what the schema's roles say
abbrev pub FitsSchema : List Column → PublicView → Type 0
FitsSchema schema p = (place : ℕ) (role : Role) → role_at schema place ≡ Some role → HoldsRole role (cells_at p place)

-- how many columns are public
abbrev pub public_count : List Column → ℕ
public_count schema = count_by (λ c. is_public c.role) schema

-- the first of the lists
abbrev pub first_list : List (List ℤ) → List ℤ
first_list [] = []
first_list (w ∷ lists) = w

-- a list for each public column, none of them a count and all of them numbers in range, 1 to most_rows and as many in each
pub record AreLists (schema : List Column) (lists : List (List ℤ)) : Type 0 where
  pub no_texts : AllByRecursion (λ c. c.role ≢ Text) schema
  pub no_counts : AllByRecursion (λ c. c.role ≢ Count) schema
  pub one_each : length lists ≡ public_count schema
  pub some : 0 < length (first_list lists)
  pub at_most : length (first_list lists) ≤ most_rows
  pub numbers : AllByRecursion (AreNumbers (length (first_list lists))) lists

-- the columns of a schema, of which the public ones have these lists in order
abbrev pub numbered : List Column → List (List ℤ) → List Cells
numbered [] lists = []
numbered (c ∷ schema) lists = cond (is_secret c.role) (hidden ∷ numbered schema lists) (numbers (first_list lists) ∷ numbered schema (drop 1 lists))
