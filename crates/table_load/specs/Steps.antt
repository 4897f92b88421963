-- What the reader of records has read of a file, and what it answers.
use Rattle.std.specs.Prelude.{◌≡◌, ◌<◌, ◌≤◌, ◌+◌, ◌==◌, if◌then◌else◌, ℕ, true, false, List, [], ◌∷◌, ◌++◌, length, map, Option, Some, None, Vec, Result, Ok, Err}
use Rattle.std.specs.declared.alloc.Global.{Global}
use Rattle.std.specs.Borrow.{Bor}
use Rattle.audit_types.specs.Limits.{most_rows}
use Rattle.csv.specs.Reading.{Reached, Ready, default_config, is_flexible, source_of, strip_bom}
use Rattle.csv.specs.Records.{Row, fields_of}
use Rattle.csv.specs.declared.error.Error.{Error}
use Rattle.csv.specs.declared.error.ErrorKind.{ErrorKind}
use Rattle.csv.specs.declared.error.ErrorKind.TheVariants as kind
use Rattle.csv.specs.declared.iter.ByteRecordsIntoIter.{ByteRecordsIntoIter}
use Rattle.csv.specs.declared.parser.State.TheVariants as state
use Rattle.csv.specs.declared.reader.Trim.TheVariants as trim
use Rattle.schema_json.specs.Columns.{Column}
use Rattle.schema_json.specs.declared.roles.Role.{Role}
use Rattle.table_load.specs.Faults.{UnlessMemory}
use Rattle.table_load.specs.Reading.{Fields, names_are, record_fault, records_fault, roles_of, file_fault, most_table}
use Rattle.table_load.specs.Tables.{data_of}
use Rattle.table_load.specs.declared.faults.TableFault.{TableFault}
use Rattle.table_load.specs.declared.faults.TableFault.TheVariants.{Header, TooManyRows, NoRows, NoMemory}

-- these are the first records of the bytes, and the reader stands after them
pub record HasRead (bytes : List ℕ) (rows : List Fields) (reader : ByteRecordsIntoIter (Bor (List ℕ))) : Type 0 where
  pub plain : reader.rdr.trim ≡ trim.None
  pub ready : Ready reader.rdr
  pub flexible : is_flexible reader.rdr ≡ true
  pub turns : 0 < reader.left
  pub as_usual : reader.rdr.config ≡ default_config
  pub left : List ℕ
  pub source : source_of (λ s. Some s.now) reader.rdr ≡ Some left
  pub reached : Reached default_config state.StartRecord (strip_bom bytes) rows reader.rdr.state left

-- why a read of bytes in memory by a reader of records of any length may fail. Such bytes can always be read, but no
-- clause of theirs says so.
abbrev pub IsOfMemory : ErrorKind → Type 0
IsOfMemory (kind.Io why) = Unit {0}
IsOfMemory kind.OutOfMemory = Unit {0}
IsOfMemory (kind.Utf8 at why) = ⊥
IsOfMemory (kind.UnequalLengths at expected length) = ⊥
IsOfMemory (kind.Serialize why) = ⊥
IsOfMemory (kind.Deserialize at why) = ⊥

-- the bytes are few enough, have a header with these columns' names, and after it first these records; the reader
-- stands after them
pub record HasOpened (columns : List Column) (bytes : List ℕ) (rows : List Fields) (reader : ByteRecordsIntoIter (Bor (List ℕ))) : Type 0 where
  pub short : length bytes ≤ most_table
  pub header : Fields
  pub named : names_are header columns ≡ true
  pub read : HasRead bytes (header ∷ rows) reader

-- the first record has these columns' names, or the fault of the file's front is answered
abbrev pub ChecksHeader : Result Unit TableFault → List Column → Option (Result Row Error) → Type 0
ChecksHeader (Ok u) columns (Some (Ok row)) = names_are (fields_of row) columns ≡ true
ChecksHeader (Ok u) columns (Some (Err error)) = ⊥
ChecksHeader (Ok u) columns None = ⊥
ChecksHeader (Err fault) columns (Some (Ok row)) = (names_are (fields_of row) columns ≡ false) × (fault ≡ Header)
ChecksHeader (Err fault) columns (Some (Err error)) = fault ≡ NoMemory
ChecksHeader (Err fault) columns None = fault ≡ Header

-- the fault that a record has after so many
abbrev pub next_fault : List Role → ℕ → Fields → Option TableFault
next_fault roles count fields = if count == most_rows then Some TooManyRows else record_fault roles (count + 2) fields

-- a record that was read stands after those before it, or its fault is answered
abbrev pub AddsRow : Result Unit TableFault → List Role → List Row → Result Row Error → List Row → Type 0
AddsRow (Ok u) roles rows (Ok row) more = (more ≡ rows ++ row ∷ []) × (next_fault roles (length rows) (fields_of row) ≡ None)
AddsRow (Ok u) roles rows (Err error) more = ⊥
AddsRow (Err fault) roles rows (Ok row) more = UnlessMemory fault (next_fault roles (length rows) (fields_of row) ≡ Some fault)
AddsRow (Err fault) roles rows (Err error) more = fault ≡ NoMemory

-- the reader stands after the header, or the file's first fault is answered
abbrev pub Opens : Result Unit TableFault → List Column → List ℕ → ByteRecordsIntoIter (Bor (List ℕ)) → Type 0
Opens (Ok u) columns bytes reader = HasOpened columns bytes [] reader
Opens (Err fault) columns bytes reader = UnlessMemory fault (file_fault columns bytes ≡ Some fault)

-- 1 to most_rows records after the header, in a file with these columns and no fault
pub record AreData (columns : List Column) (bytes : List ℕ) (rows : List Fields) : Type 0 where
  pub no_fault : file_fault columns bytes ≡ None
  pub data_are : data_of bytes ≡ rows
  pub good : records_fault (roles_of columns) 2 rows ≡ None
  pub some : 0 < length rows
  pub at_most : length rows ≤ most_rows

-- these rows, of which there are some, or the fault of a file without any
abbrev pub SomeRows : Result (Vec Row Global) TableFault → Vec Row Global → Type 0
SomeRows (Ok v) rows = (v ≡ rows) × (0 < length rows.items)
SomeRows (Err fault) rows = (fault ≡ NoRows) × (length rows.items ≡ 0)

-- the data records of the file, or its first fault
abbrev pub ReadsData : Result (Vec Row Global) TableFault → List Column → List ℕ → Type 0
ReadsData (Ok v) columns bytes = AreData columns bytes (map fields_of v.items)
ReadsData (Err fault) columns bytes = UnlessMemory fault (file_fault columns bytes ≡ Some fault)
