-- What one record more makes of those before it.
use Rattle.std.proofs.Common.{Bor, List, ℕ, ◌≡◌, ◌∙◌, ◌+◌, ◌<◌, ◌≤◌, ◌++◌, ◌∷◌, [], true, inl, inr, Some, None, sym, ap, arith, map, length, length-append}
use Rattle.std.specs.Prelude.{Result, Ok, Err, IfErr, if◌then◌else◌}
use Rattle.std.proofs.lemmas.Bool.{cases_eq, eq-eqb, ne_eqb}
use Rattle.std.proofs.lemmas.List.{length-map, map-append}
use Rattle.audit_types.specs.Limits.{most_rows}
use Rattle.csv.specs.Reading.{FlexibleStep, RowStep, error_kind, is_flexible}
use Rattle.csv.specs.Records.{Row, fields_of}
use Rattle.csv.specs.declared.error.Error.{Error}
use Rattle.csv.specs.declared.iter.ByteRecordsIntoIter.{ByteRecordsIntoIter}
use Rattle.schema_json.specs.Columns.{Column}
use Rattle.schema_json.specs.declared.roles.Role.{Role}
use Rattle.table_load.specs.Faults.{UnlessMemory}
use Rattle.table_load.specs.Reading.{Fields, record_fault, records_fault, roles_of, data_fault, file_fault}
use Rattle.table_load.specs.Steps.{AddsRow, HasOpened, IsOfMemory, next_fault}
use Rattle.table_load.specs.declared.faults.TableFault.{TableFault}
use Rattle.table_load.specs.declared.faults.TableFault.TheVariants.{TooLong, Header, Length, NotText, NotNumber, OutOfRange, TooManyRows, NoRows, NoMemory}
use Rattle.table_load.proofs.FirstFaults.{bad_row, many_rows, good_more}
use Rattle.table_load.proofs.HasReadMore.{judged, opened_more, only_memory}

-- a reader of bytes, and what it knows of them
abbrev Reads : Type 0
Reads = ByteRecordsIntoIter (Bor (List ℕ))

-- a read from memory fails only if memory runs out
pub of_memory : (a b : Reads) (read : Result Row Error) → is_flexible a.rdr ≡ true → RowStep (λ (s : Bor (List ℕ)). Some s.now) a.rdr b.rdr b.left (Some read) →
    IfErr read (λ error. IsOfMemory (error_kind error))
of_memory a b (Ok row) flexible step = tt
of_memory a b (Err error) flexible step = only_memory {R = Bor (List ℕ)} (λ s. Some s.now) a.rdr b.rdr error.kind flexible step

-- what a fault tells leads to another fact
unless_memory : (fault : TableFault) (P Q : Type 0) → (P → Q) → UnlessMemory fault P → UnlessMemory fault Q
unless_memory TooLong P Q f h = f h
unless_memory Header P Q f h = f h
unless_memory (Length line) P Q f h = f h
unless_memory (NotText line) P Q f h = f h
unless_memory (NotNumber line column) P Q f h = f h
unless_memory (OutOfRange line column) P Q f h = f h
unless_memory TooManyRows P Q f h = f h
unless_memory NoRows P Q f h = f h
unless_memory NoMemory P Q f h = tt

-- the fault of a record is the first one of the data
next_bad : (roles : List Role) (rows : List Fields) (n : ℕ) (r : Fields) (rest : List Fields) (fault : TableFault) → n ≡ length rows → n ≤ most_rows
    → records_fault roles 2 rows ≡ None → next_fault roles n r ≡ Some fault
    → data_fault roles (rows ++ r ∷ rest) ≡ Some fault
next_bad roles rows n r rest fault same few good bad =
    elim (cases_eq n most_rows) [
      | inl full ↦
          many_rows roles rows r rest (omega (arith, full, same)) good
          ∙ sym (ap (λ b. if b then Some TooManyRows else record_fault roles (n + 2) r) (eq-eqb n most_rows full)) ∙ bad
      | inr less ↦
          let fault_is : record_fault roles (n + 2) r ≡ Some fault =
          sym (ap (λ b. if b then Some TooManyRows else record_fault roles (n + 2) r) (ne_eqb n most_rows less)) ∙ bad in
          bad_row roles rows r rest fault (omega (arith, less, same, few)) good (ap (λ k. record_fault roles (k + 2) r) (sym same) ∙ fault_is)
    ]

-- a record with no fault
next_good : (roles : List Role) (n : ℕ) (r : Fields) → n ≤ most_rows → next_fault roles n r ≡ None → (n < most_rows) × (record_fault roles (n + 2) r ≡ None)
next_good roles n r few good =
    elim (cases_eq n most_rows) [
      | inl full ↦ let none : Some TooManyRows ≡ None = sym (ap (λ b. if b then Some TooManyRows else record_fault roles (n + 2) r) (eq-eqb n most_rows full))
          ∙ good in absurd cc
      | inr less ↦ (omega (arith, less, few), sym (ap (λ b. if b then Some TooManyRows else record_fault roles (n + 2) r) (ne_eqb n most_rows less)) ∙ good)
    ]

-- a fault that is answered is the file's
pub fault_of_row : (columns : List Column) (bytes : List ℕ) (roles : List Role) (rows : List Row) (a b : Reads) (read : Result Row Error) (fault : TableFault)
    (more : List Row)
    → HasOpened columns bytes (map fields_of rows) a → RowStep (λ (s : Bor (List ℕ)). Some s.now) a.rdr b.rdr b.left (Some read) →
    FlexibleStep a.rdr b.rdr (Some read) → roles ≡ roles_of columns → records_fault roles 2 (map fields_of rows) ≡ None → length rows ≤ most_rows
    → AddsRow (Err fault) roles rows read more → UnlessMemory fault (file_fault columns bytes ≡ Some fault)
fault_of_row columns bytes roles rows a b (Err error) fault more opened step still is good few adds = rw adds tt
fault_of_row columns bytes roles rows a b (Ok row) fault more opened step still is good few adds =
    let by = judged columns bytes (map fields_of rows) a b row opened step still in
    unless_memory fault (next_fault roles (length rows) (fields_of row) ≡ Some fault) (file_fault columns bytes ≡ Some fault)
    (λ bad. by.1 ∙ ap (λ rs. data_fault rs (map fields_of rows ++ fields_of row ∷ by.0)) (sym is)
    ∙ next_bad roles (map fields_of rows) (length rows) (fields_of row) by.0 fault (sym (length-map rows fields_of)) few good bad)
    adds

-- what holds of the records before it holds with one more
pub record Added (columns : List Column) (bytes : List ℕ) (roles : List Role) (rows : List Row) (reader : Reads) : Type 0 where
  pub opened : HasOpened columns bytes (map fields_of rows) reader
  pub good : records_fault roles 2 (map fields_of rows) ≡ None
  pub at_most : length rows ≤ most_rows

pub added_row : (columns : List Column) (bytes : List ℕ) (roles : List Role) (rows : List Row) (a b : Reads) (read : Result Row Error) (more : List Row)
    → HasOpened columns bytes (map fields_of rows) a → RowStep (λ (s : Bor (List ℕ)). Some s.now) a.rdr b.rdr b.left (Some read) →
    FlexibleStep a.rdr b.rdr (Some read) → records_fault roles 2 (map fields_of rows) ≡ None → length rows ≤ most_rows
    → AddsRow (Ok tt) roles rows read more → Added columns bytes roles more b
added_row columns bytes roles rows a b (Err error) more opened step still good few adds = absurd adds
added_row columns bytes roles rows a b (Ok row) more opened step still good few adds =
    let next = next_good roles (length rows) (fields_of row) few adds.1 in
    let longer : map fields_of more ≡ map fields_of rows ++ fields_of row ∷ [] = ap (map fields_of) adds.0 ∙ map-append fields_of rows (row ∷ []) in
    record {
      opened = rw longer (opened_more columns bytes (map fields_of rows) a b row opened step still);
      good =
          rw longer (good_more roles (map fields_of rows) (fields_of row) good
          (ap (λ k. record_fault roles (k + 2) (fields_of row)) (length-map rows fields_of) ∙ next.1));
      at_most = omega (arith, ap length adds.0, length-append rows (row ∷ []), next.0);
    }
