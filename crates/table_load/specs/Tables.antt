-- The cells of a file's records, and the table that bytes mean.
use Rattle.std.specs.Prelude.{◌≡◌, ◌<◌, ℕ, ◌+◌, ℤ, pos, neg_ℤ, Bool, true, false, cond, Option, Some, None, List, [], ◌∷◌, length, map, drop, slice_index_or, unwrap_or, Result}
use Rattle.audit_types.specs.History.{Secrets}
use Rattle.schema_json.specs.Columns.{Column, is_secret}
use Rattle.schema_json.specs.SecretShape.{shape_of}
use Rattle.schema_json.specs.declared.roles.Role.{Role}
use Rattle.schema_json.specs.declared.roles.Role.TheVariants.{Text, Number, Count, Min}
use Rattle.table_load.specs.Cells.{Cells, hidden, numbers, texts, PublicView, SecretView, TableView}
use Rattle.table_load.specs.Faults.{unless_fault}
use Rattle.table_load.specs.Numerals.{number_in, in_range}
use Rattle.table_load.specs.Reading.{Fields, records_of, is_in_file, has_numbers, fits_role, file_columns, file_fault}
use Rattle.table_load.specs.declared.faults.TableFault.{TableFault}
use Rattle.table_load.specs.declared.layout.FileColumns.{FileColumns}
use Rattle.table_load.specs.declared.layout.FileColumns.TheVariants.{All, Public}

-- a field of a record
abbrev pub field_of : ℕ → Fields → List ℕ
field_of k fields = slice_index_or fields k []

-- the number that a field spells, 0 if it spells none
abbrev pub number_of_field : List ℕ → ℤ
number_of_field field = unwrap_or (number_in field) (pos 0)

-- a number in range
abbrev pub is_number : Option ℤ → Bool
is_number None = false
is_number (Some z) = in_range z

-- a record with a field at a place, which spells a number that the role may have if it wants one
pub record HasCell (role : Role) (k : ℕ) (fields : Fields) : Type 0 where
  pub within : k < length fields
  pub number : has_numbers role ≡ true → is_number (number_in (field_of k fields)) ≡ true
  pub fits : has_numbers role ≡ true → fits_role role (number_of_field (field_of k fields)) ≡ true

-- the numbers of a column of the file
abbrev pub number_column : ℕ → List Fields → List ℤ
number_column k rows = map (λ r. number_of_field (field_of k r)) rows

-- a number as it is kept in a column of this role
abbrev pub kept_number : Role → ℤ → ℤ
kept_number Min z = neg_ℤ z
kept_number role z = z

-- the texts of a column of the file
abbrev pub text_column : ℕ → List Fields → List (List ℕ)
text_column k rows = map (field_of k) rows

-- what everybody may see of a column of the file
abbrev pub cells_of : Role → ℕ → List Fields → Cells
cells_of Text k rows = texts (text_column k rows)
cells_of Number k rows = numbers (number_column k rows)
cells_of Count k rows = numbers (number_column k rows)
cells_of role k rows = hidden

-- the place in the file of the next column
abbrev pub place_after : FileColumns → Role → ℕ → ℕ
place_after which role k = cond (is_in_file which role) (k + 1) k

-- what everybody may see of the schema's columns, of which those that are in the file stand there from column k on
abbrev pub cells_from : FileColumns → ℕ → List Column → List Fields → List Cells
cells_from which k [] rows = []
cells_from which k (c ∷ columns) rows = cells_of c.role k rows ∷ cells_from which (place_after which c.role k) columns rows

-- the numbers of a column as they are kept: those of a column of minima negated
abbrev pub kept_as : Role → List ℤ → List ℤ
kept_as Min w = map neg_ℤ w
kept_as role w = w

-- the numbers of the secret columns as they are kept, if all columns stand in the file from column k on
abbrev pub secrets_from : ℕ → List Column → List Fields → Secrets
secrets_from k [] rows = []
secrets_from k (c ∷ columns) rows = cond (is_secret c.role) (kept_as c.role (number_column k rows) ∷ secrets_from (k + 1) columns rows) (secrets_from (k + 1) columns rows)

-- the records after the header
abbrev pub data_of : List ℕ → List Fields
data_of bytes = drop 1 (records_of bytes)

-- the public part of a table with these records
abbrev pub public_in : FileColumns → List Column → List Fields → PublicView
public_in which columns rows = record { rows = length rows; columns = cells_from which 0 columns rows; only = None }

-- the secret part of a table with these records
abbrev pub secret_in : List Column → List Fields → SecretView
secret_in columns rows = record { shape = shape_of columns (length rows); lists = secrets_from 0 columns rows }

-- the table that bytes mean, or their first fault
abbrev pub table_of : List Column → List ℕ → Result TableView TableFault
table_of columns bytes = unless_fault (file_fault (file_columns All columns) bytes) (record { public = public_in All columns (data_of bytes); secret = secret_in columns (data_of bytes) })

-- the public part that bytes mean whose file has the public columns alone, or their first fault
abbrev pub public_of : List Column → List ℕ → Result PublicView TableFault
public_of columns bytes = unless_fault (file_fault (file_columns Public columns) bytes) (public_in Public columns (data_of bytes))
