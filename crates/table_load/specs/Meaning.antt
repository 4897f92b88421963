-- The table that bytes mean, in the words of the promise: no fault of other bytes is among them.
use Rattle.std.specs.Prelude.{◌≡◌, ◌≢◌, ◌<◌, ◌≤◌, ℕ, ◌+◌, ℤ, true, Some, None, List, [], ◌∷◌, length, map, zip}
use Rattle.std.specs.List.{AllByRecursion, list_all}
use Rattle.std.specs.Str.{is_utf8}
use Rattle.audit_types.specs.Limits.{most_rows}
use Rattle.schema_json.specs.Columns.{Column}
use Rattle.schema_json.specs.SecretShape.{shape_of}
use Rattle.schema_json.specs.declared.roles.Role.TheVariants.{Text}
use Rattle.table_load.specs.Cells.{Cells, PublicView, SecretView}
use Rattle.table_load.specs.Numerals.{number_in}
use Rattle.table_load.specs.Reading.{Fields, fits_role, records_of, most_table}
use Rattle.table_load.specs.Tables.{cells_of, secrets_from}

-- a record with a field for each column, all of them text; where a column isn't one of texts, a number in range
pub record IsRecordOf (columns : List Column) (fields : Fields) : Type 0 where
  pub one_each : length fields ≡ length columns
  pub texts : list_all is_utf8 fields ≡ true
  pub numbers : AllByRecursion (λ cell. cell.0.role ≢ Text → (z : ℤ) × (number_in cell.1 ≡ Some z) × (fits_role cell.0.role z ≡ true)) (zip columns fields)

-- what everybody may see of the columns, where all of them stand in the file from column k on
abbrev pub publics_from : ℕ → List Column → List Fields → List Cells
publics_from k [] rows = []
publics_from k (c ∷ columns) rows = cells_of c.role k rows ∷ publics_from (k + 1) columns rows

-- bytes within the limit: a record of the columns' names, and after it 1 to most_rows records, which are the rows of the table
pub record MeansTable (columns : List Column) (bytes : List ℕ) (public : PublicView) (secret : SecretView) : Type 0 where
  pub short : length bytes ≤ most_table
  pub rows : List Fields
  pub records_are : records_of bytes ≡ map (λ c. c.name) columns ∷ rows
  pub some : 0 < length rows
  pub at_most : length rows ≤ most_rows
  pub each : AllByRecursion (IsRecordOf columns) rows
  pub public_is : public ≡ record { rows = length rows; columns = publics_from 0 columns rows; only = None }
  pub secret_is : secret ≡ record { shape = shape_of columns (length rows); lists = secrets_from 0 columns rows }
