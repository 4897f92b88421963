-- What one read more of a file gives.
use Rattle.std.proofs.Common.{Bor, Vec, Global, List, ℕ, ◌≡◌, ◌<◌, ◌≤◌, ◌∙◌, ◌++◌, ◌∷◌, [], inl, Some, None, true, false, sym, ap, arith, map, drop, length, append_assoc, Option}
use Rattle.std.proofs.lemmas.List.{length-map}
use Rattle.std.proofs.lemmas.Bool.{false≢true}
use Rattle.std.specs.Prelude.{Result, Ok, Err}
use Rattle.audit_types.specs.Limits.{most_rows}
use Rattle.csv.specs.Reading.{ExplainsRead, RowStep, default_config, is_flexible, strip_bom}
use Rattle.csv.specs.declared.error.ErrorKind.{ErrorKind}
use Rattle.csv.specs.declared.error.ErrorKind.TheVariants as kind
use Rattle.csv.specs.declared.reader.Reader.{Reader}
use Rattle.csv.specs.Records.{Row, fields_of}
use Rattle.csv.specs.declared.iter.ByteRecordsIntoIter.{ByteRecordsIntoIter}
use Rattle.csv.specs.declared.parser.State.TheVariants as state
use Rattle.csv.proofs.ReadFacts.{rows-end, rows-more}
use Rattle.schema_json.specs.Columns.{Column}
use Rattle.table_load.specs.Reading.{Fields, records_of, records_fault, roles_of, data_fault, file_fault}
use Rattle.table_load.specs.Steps.{HasRead, HasOpened, IsOfMemory, ReadsData, SomeRows}
use Rattle.table_load.specs.declared.faults.TableFault.{TableFault}
use Rattle.table_load.specs.MeaningLaws.{short_file, good_header, good_rows}
use Rattle.table_load.proofs.FirstFaults.{no_rows}
use Rattle.table_load.proofs.RecordsOfBytes.{all_of_records, front_of_records}

-- a reader of bytes, and what it knows of them
abbrev Reads : Type 0
Reads = ByteRecordsIntoIter (Bor (List ℕ))

-- a read that gives a record leaves the reader after it
pub read_more : (bytes : List ℕ) (rows : List Fields) (a b : Reads) (row : Row) → HasRead bytes rows a →
    RowStep (λ (s : Bor (List ℕ)). Some s.now) a.rdr b.rdr b.left (Some (Ok row)) → is_flexible b.rdr ≡ is_flexible a.rdr →
    HasRead bytes (rows ++ fields_of row ∷ []) b
read_more bytes rows a b row has step still =
    let more = rows-more (λ (s : Bor (List ℕ)). Some s.now) a.rdr b.rdr (fields_of row) default_config state.StartRecord
    (strip_bom bytes) has.left rows has.as_usual has.source has.reached step.0 in
    record {
      plain = step.0.3 ∙ has.plain;
      flexible = still ∙ has.flexible;
      ready = inl step.1;
      turns = step.2;
      as_usual = step.0.2 ∙ has.as_usual;
      left = more.0;
      source = more.1;
      reached = more.2;
    }

-- a read that gives none has read them all
pub read_all : (bytes : List ℕ) (rows : List Fields) (a b : Reads) → HasRead bytes rows a → RowStep (λ (s : Bor (List ℕ)). Some s.now) a.rdr b.rdr b.left None →
    records_of bytes ≡ rows
read_all bytes rows a b has step =
    all_of_records bytes rows a.rdr.state has.left has.reached
    (rows-end (λ (s : Bor (List ℕ)). Some s.now) a.rdr b.rdr [] default_config has.left has.as_usual has.source step)

-- a reader of records of any length that reads no text fails only if memory runs out
pub only_memory : {R : Type 0} (remaining : R → Option (List ℕ)) (a b : Reader R) (why : ErrorKind) → is_flexible a ≡ true →
    ExplainsRead remaining a b false why → IsOfMemory why
only_memory remaining a b (kind.Io e) flexible explains = tt
only_memory remaining a b kind.OutOfMemory flexible explains = tt
only_memory remaining a b (kind.Utf8 at e) flexible explains = false≢true explains.0
only_memory remaining a b (kind.UnequalLengths at expected length) flexible explains = false≢true (sym explains.0 ∙ flexible)
only_memory remaining a b (kind.Serialize e) flexible explains = explains
only_memory remaining a b (kind.Deserialize at e) flexible explains = explains

-- what was read stands at the front of all records
pub read_front : (bytes : List ℕ) (rows : List Fields) (a : Reads) → HasRead bytes rows a → (rest : List Fields) × (records_of bytes ≡ rows ++ rest)
read_front bytes rows a has = front_of_records bytes rows a.rdr.state has.left has.reached

-- what an opened file with a record more is judged by: the records so far, that one, and some others
pub judged : (columns : List Column) (bytes : List ℕ) (rows : List Fields) (a b : Reads) (row : Row) → HasOpened columns bytes rows a
    → RowStep (λ (s : Bor (List ℕ)). Some s.now) a.rdr b.rdr b.left (Some (Ok row)) → is_flexible b.rdr ≡ is_flexible a.rdr
    → (rest : List Fields) × (file_fault columns bytes ≡ data_fault (roles_of columns) (rows ++ fields_of row ∷ rest))
judged columns bytes rows a b row opened step still =
    let front = read_front bytes (opened.header ∷ (rows ++ fields_of row ∷ [])) b (read_more bytes (opened.header ∷ rows) a b row opened.read step still) in (
      front.0,
      short_file columns bytes _ opened.short (front.1 ∙ ap (λ rs. opened.header ∷ rs) (append_assoc rows (fields_of row ∷ []) front.0))
          ∙ good_header columns opened.header (rows ++ fields_of row ∷ front.0) opened.named,
    )

-- a record more of an opened file
pub opened_more : (columns : List Column) (bytes : List ℕ) (rows : List Fields) (a b : Reads) (row : Row) → HasOpened columns bytes rows a
    → RowStep (λ (s : Bor (List ℕ)). Some s.now) a.rdr b.rdr b.left (Some (Ok row)) → is_flexible b.rdr ≡ is_flexible a.rdr
    → HasOpened columns bytes (rows ++ fields_of row ∷ []) b
opened_more columns bytes rows a b row opened step still =
    record { short = opened.short; header = opened.header; named = opened.named; read = read_more bytes (opened.header ∷ rows) a b row opened.read step still }

-- an opened file of which no record is left has the records so far
pub all_read : (columns : List Column) (bytes : List ℕ) (rows : List Fields) (a b : Reads) (opened : HasOpened columns bytes rows a)
    → RowStep (λ (s : Bor (List ℕ)). Some s.now) a.rdr b.rdr b.left None
    → records_of bytes ≡ opened.header ∷ rows
all_read columns bytes rows a b opened step = read_all bytes (opened.header ∷ rows) a b opened.read step

-- it is judged by them
pub judged_all : (columns : List Column) (bytes : List ℕ) (rows : List Fields) (a b : Reads) → HasOpened columns bytes rows a
    → RowStep (λ (s : Bor (List ℕ)). Some s.now) a.rdr b.rdr b.left None
    → file_fault columns bytes ≡ data_fault (roles_of columns) rows
judged_all columns bytes rows a b opened step =
    short_file columns bytes (opened.header ∷ rows) opened.short (all_read columns bytes rows a b opened step)
    ∙ good_header columns opened.header rows opened.named

-- the rows of an opened file of which no record is left are its data, unless there are none
pub rows_read : (columns : List Column) (bytes : List ℕ) (rows : Vec Row Global) (a b : Reads) (result : Result (Vec Row Global) TableFault)
    → HasOpened columns bytes (map fields_of rows.items) a → RowStep (λ (s : Bor (List ℕ)). Some s.now) a.rdr b.rdr b.left None
    → records_fault (roles_of columns) 2 (map fields_of rows.items) ≡ None → length rows.items ≤ most_rows → SomeRows result rows →
    ReadsData result columns bytes
rows_read columns bytes rows a b (Ok v) opened step good few answered =
    let read = map fields_of rows.items in
    let same = length-map rows.items fields_of in
    let some : 0 < length read = omega (arith, same, answered.1) in
    let at_most : length read ≤ most_rows = omega (arith, same, few) in
    rw answered.0 (record {
      no_fault = judged_all columns bytes read a b opened step ∙ good_rows (roles_of columns) read some at_most good;
      data_are = ap (drop 1) (all_read columns bytes read a b opened step);
      good = good;
      some = some;
      at_most = at_most;
    })
rows_read columns bytes rows a b (Err fault) opened step good few answered =
    let none : length (map fields_of rows.items) ≡ 0 = length-map rows.items fields_of ∙ answered.1 in
    rw answered.0 (judged_all columns bytes (map fields_of rows.items) a b opened step ∙ no_rows (roles_of columns) (map fields_of rows.items) none)
