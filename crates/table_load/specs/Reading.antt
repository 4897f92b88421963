-- The table that bytes mean, over the columns of a schema, and the first fault of bytes that mean none.
use Rattle.std.specs.Prelude.{ℕ, ◌+◌, ℤ, pos, Bool, true, false, ◌&&◌, not, cond, if◌then◌else◌, List, [], ◌∷◌, length, map, filter, take, Option, Some, None, nat_lt, int_lt, ◌==◌}
use Rattle.std.specs.List.{list_all}
use Rattle.std.specs.Option.{option_or}
use Rattle.std.specs.Str.{bytes_eq, is_utf8}
use Rattle.audit_types.specs.Limits.{most_rows}
use Rattle.csv.specs.Reading.{default_config, strip_bom, records}
use Rattle.schema_json.specs.Columns.{Column, is_public}
use Rattle.schema_json.specs.declared.roles.Role.{Role}
use Rattle.schema_json.specs.declared.roles.Role.TheVariants.{Text, Count}
use Rattle.table_load.specs.Numerals.{number_in, in_range}
use Rattle.table_load.specs.declared.faults.TableFault.{TableFault}
use Rattle.table_load.specs.declared.faults.TableFault.TheVariants.{TooLong, Header, Length, NotText, NotNumber, OutOfRange, TooManyRows, NoRows}
use Rattle.table_load.specs.declared.layout.FileColumns.{FileColumns}
use Rattle.table_load.specs.declared.layout.FileColumns.TheVariants.{All, Public}

-- a record of a file: its fields
abbrev pub Fields : Type 0
Fields = List (List ℕ)

-- the records of a file, as `csv` reads them: it passes over a byte order mark at the front
abbrev pub records_of : List ℕ → List Fields
records_of bytes = records default_config (strip_bom bytes)

-- whether a file with these columns has one of this role
abbrev pub is_in_file : FileColumns → Role → Bool
is_in_file All role = true
is_in_file Public role = is_public role

-- the columns of a schema that a file has, in order
abbrev pub file_columns : FileColumns → List Column → List Column
file_columns which columns = filter (λ c. is_in_file which c.role) columns

-- the roles of columns, in order
abbrev pub roles_of : List Column → List Role
roles_of columns = map (λ c. c.role) columns

-- whether a column's fields are numbers
abbrev pub has_numbers : Role → Bool
has_numbers Text = false
has_numbers role = true

-- whether a number is one that a column may have: in range, and at least 1 if it is a count
abbrev pub fits_role : Role → ℤ → Bool
fits_role Count z = in_range z && int_lt (pos 0) z
fits_role role z = in_range z

-- the fault of a field that should be a number, and spells this one or none
abbrev pub number_fault : Role → ℕ → ℕ → Option ℤ → Option TableFault
number_fault role line column None = Some (NotNumber line column)
number_fault role line column (Some z) = cond (fits_role role z) None (Some (OutOfRange line column))

-- the fault of a field
abbrev pub cell_fault : Role → ℕ → ℕ → List ℕ → Option TableFault
cell_fault role line column field = cond (has_numbers role) (number_fault role line column (number_in field)) None

-- the first fault of the fields of a record, column by column, from this column on
abbrev pub cells_fault : ℕ → ℕ → List Role → Fields → Option TableFault
cells_fault line column (role ∷ roles) (field ∷ fields) = option_or (cell_fault role line column field) (cells_fault line (column + 1) roles fields)
cells_fault line column roles fields = None

-- the first fault of the record that is numbered so
abbrev pub record_fault : List Role → ℕ → Fields → Option TableFault
record_fault roles line fields =
    if not (length fields == length roles) then Some (Length line)
    else (if not (list_all is_utf8 fields) then Some (NotText line) else cells_fault line 0 roles fields)

-- the first fault of records, from this number on
abbrev pub records_fault : List Role → ℕ → List Fields → Option TableFault
records_fault roles line [] = None
records_fault roles line (r ∷ rs) = option_or (record_fault roles line r) (records_fault roles (line + 1) rs)

-- whether the fields are these columns' names
abbrev pub names_are : Fields → List Column → Bool
names_are [] [] = true
names_are (f ∷ fields) (c ∷ columns) = bytes_eq f c.name && names_are fields columns
names_are fields columns = false

-- the fault of having no row, or too many
abbrev pub count_fault : List Fields → Option TableFault
count_fault [] = Some NoRows
count_fault (r ∷ rs) = cond (nat_lt most_rows (length (r ∷ rs))) (Some TooManyRows) None

-- the first fault of the data records: that of the first most_rows of them, and else that of their number
abbrev pub data_fault : List Role → List Fields → Option TableFault
data_fault roles rs = option_or (records_fault roles 2 (take most_rows rs)) (count_fault rs)

-- the first fault of the records, the header among them
abbrev pub header_fault : List Column → List Fields → Option TableFault
header_fault columns [] = Some Header
header_fault columns (h ∷ rs) = if not (names_are h columns) then Some Header else data_fault (roles_of columns) rs

-- the most bytes of a table
abbrev pub most_table : ℕ
most_table = 16777216

-- the first fault of a file with these columns
unfoldable pub file_fault : List Column → List ℕ → Option TableFault
file_fault columns bytes = if nat_lt most_table (length bytes) then Some TooLong else header_fault columns (records_of bytes)
