-- What the first record makes of a file.
use Rattle.std.proofs.Common.{Bor, List, ℕ, ◌≡◌, ◌∙◌, ◌≤◌, ◌∷◌, [], true, Some, None, Option, length}
use Rattle.std.specs.Prelude.{Result, Ok, Err, IfErr, IfSome}
use Rattle.csv.specs.Reading.{FlexibleStep, RowStep, error_kind, is_flexible}
use Rattle.csv.specs.Records.{Row, fields_of}
use Rattle.csv.specs.declared.error.Error.{Error}
use Rattle.csv.specs.declared.iter.ByteRecordsIntoIter.{ByteRecordsIntoIter}
use Rattle.schema_json.specs.Columns.{Column}
use Rattle.table_load.specs.Faults.{UnlessMemory}
use Rattle.table_load.specs.Reading.{file_fault}
use Rattle.table_load.specs.Steps.{ChecksHeader, HasRead, HasOpened, IsOfMemory, Opens}
use Rattle.table_load.specs.declared.faults.TableFault.{TableFault}
use Rattle.table_load.proofs.AddedRows.{of_memory}
use Rattle.table_load.specs.MeaningLaws.{short_file}
use Rattle.table_load.proofs.FirstFaults.{bad_header}
use Rattle.table_load.proofs.HasReadMore.{read_all, read_front, read_more}

-- a reader of bytes, and what it knows of them
abbrev Reads : Type 0
Reads = ByteRecordsIntoIter (Bor (List ℕ))

-- the first read from memory fails only if memory runs out
pub first_of_memory : (a b : Reads) (first : Option (Result Row Error)) → is_flexible a.rdr ≡ true →
    RowStep (λ (s : Bor (List ℕ)). Some s.now) a.rdr b.rdr b.left first → IfSome first (λ read. IfErr read (λ error. IsOfMemory (error_kind error)))
first_of_memory a b None flexible step = tt
first_of_memory a b (Some read) flexible step = of_memory a b read flexible step

-- after a header the file is opened
opened_first : (columns : List Column) (bytes : List ℕ) (a b : Reads) (first : Option (Result Row Error))
    → length bytes ≤ 16777216 → HasRead bytes [] a → RowStep (λ (s : Bor (List ℕ)). Some s.now) a.rdr b.rdr b.left first → FlexibleStep a.rdr b.rdr first →
    ChecksHeader (Ok tt) columns first → HasOpened columns bytes [] b
opened_first columns bytes a b None short has step still checks = absurd checks
opened_first columns bytes a b (Some (Err error)) short has step still checks = absurd checks
opened_first columns bytes a b (Some (Ok row)) short has step still checks =
    record { short = short; header = fields_of row; named = checks; read = read_more bytes [] a b row has step still }

-- a fault of the front is the file's
fault_first : (columns : List Column) (bytes : List ℕ) (a b : Reads) (first : Option (Result Row Error)) (fault : TableFault)
    → length bytes ≤ 16777216 → HasRead bytes [] a → RowStep (λ (s : Bor (List ℕ)). Some s.now) a.rdr b.rdr b.left first → FlexibleStep a.rdr b.rdr first →
    ChecksHeader (Err fault) columns first
    → UnlessMemory fault (file_fault columns bytes ≡ Some fault)
fault_first columns bytes a b None fault short has step still checks = rw checks (short_file columns bytes [] short (read_all bytes [] a b has step))
fault_first columns bytes a b (Some (Err error)) fault short has step still checks = rw checks tt
fault_first columns bytes a b (Some (Ok row)) fault short has step still checks =
    let front = read_front bytes (fields_of row ∷ []) b (read_more bytes [] a b row has step still) in
    rw checks.1 (short_file columns bytes (fields_of row ∷ front.0) short front.1 ∙ bad_header columns (fields_of row) front.0 checks.0)

-- the first record opens the file, or makes its first fault
pub header_read : (columns : List Column) (bytes : List ℕ) (a b : Reads) (first : Option (Result Row Error)) (result : Result Unit TableFault)
    → length bytes ≤ 16777216 → HasRead bytes [] a → RowStep (λ (s : Bor (List ℕ)). Some s.now) a.rdr b.rdr b.left first → FlexibleStep a.rdr b.rdr first →
    ChecksHeader result columns first
    → Opens result columns bytes b
header_read columns bytes a b first (Ok tt) short has step still checks = opened_first columns bytes a b first short has step still checks
header_read columns bytes a b first (Err fault) short has step still checks = fault_first columns bytes a b first fault short has step still checks
