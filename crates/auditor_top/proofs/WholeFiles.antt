-- A file that is read past its limit has the fault of the whole file, and one that is read to its end is what was read.
use Rattle.std.proofs.Common.{◌≡◌, ℕ, ◌<◌, ◌≤◌, ◌+◌, List, [], ◌++◌, length, Option, Some, Result, Ok, Err, ◌≢◌, refl, inl, inr, ◌⊎◌, sym, ◌∙◌, ap, arith, length-append}
use Rattle.std.proofs.lemmas.List.{append-nil}
use Rattle.std.proofs.lemmas.Bool.{cond-true, lt-ltb}
use Rattle.bench_core.specs.declared.source.Source as source
use Rattle.schema_json.specs.Columns.{Column}
use Rattle.schema_json.specs.Reading.{schema_of}
use Rattle.schema_json.specs.declared.faults.SchemaFault.TheVariants as schema_fault
use Rattle.table_load.specs.Faults.{UnlessMemory, unless_fault}
use Rattle.table_load.specs.Reading.{file_fault}
use Rattle.table_load.specs.Tables.{table_of, public_of}
use Rattle.table_load.specs.declared.faults.TableFault.{TableFault}
use Rattle.table_load.specs.declared.faults.TableFault.TheVariants as table_fault
use Rattle.auditor_top.specs.declared.files.FileFault.{FileFault}
use Rattle.auditor_top.specs.declared.files.FileFault.TheVariants as file
use Rattle.auditor_top.specs.declared.reading.ReadFault.{ReadFault}
use Rattle.auditor_top.specs.declared.reading.ReadFault.TheVariants as read
use Rattle.auditor_top.specs.Reading.{ReadsAll, TellsRead}

-- what judges all files above the limit alike judges what was read as it judges the whole file
same_meaning : {Y : Type 0} (meaning : List ℕ → Y) (most : ℕ) (refused : Y) → ((bytes : List ℕ) → most < length bytes → meaning bytes ≡ refused) →
    (before after bytes : List ℕ) → ReadsAll most before after bytes → meaning bytes ≡ meaning before
same_meaning meaning most refused refuses before after bytes read = by_end read.split read.end
  where
    by_end : before ≡ bytes ++ after → (after ≡ []) ⊎ (most < length bytes) → meaning bytes ≡ meaning before
    by_end is (inl none) = ap meaning (sym (is ∙ ap (λ (l : List ℕ). bytes ++ l) none ∙ append-nil bytes))
    by_end is (inr long) = refuses bytes long ∙ sym (refuses before (omega (arith, long, ap (λ (l : List ℕ). length l) is, length-append bytes after)))

-- a schema of more bytes than it may have has that fault
long_schema : (bytes : List ℕ) → 65536 < length bytes → schema_of bytes ≡ Err schema_fault.TooLong
long_schema bytes long = cond-true _ _ _ (lt-ltb 65536 (length bytes) long)

-- what was read of a schema's file means what the whole file means
pub same_schema : (before after bytes : List ℕ) → ReadsAll 65536 before after bytes → schema_of bytes ≡ schema_of before
same_schema before after bytes read = same_meaning schema_of 65536 (Err schema_fault.TooLong) long_schema before after bytes read

-- more bytes than a table may have
long_file : (columns : List Column) (bytes : List ℕ) → 16777216 < length bytes → file_fault columns bytes ≡ Some table_fault.TooLong
unfolding file_fault
long_file columns bytes long = cond-true _ _ _ (lt-ltb 16777216 (length bytes) long)

-- a fault is reported
told : {X : Type 0} (x : X) (found fault : Option TableFault) → found ≡ fault → unless_fault found x ≡ unless_fault fault x
told x found fault is = ap (λ f. unless_fault f x) is

-- a table of more bytes has that fault
long_table : (columns : List Column) (bytes : List ℕ) → 16777216 < length bytes → table_of columns bytes ≡ Err table_fault.TooLong
long_table columns bytes long = told _ _ _ (long_file _ bytes long)

-- what was read of a table's file means what the whole file means
pub same_table : (columns : List Column) (before after bytes : List ℕ) → ReadsAll 16777216 before after bytes → table_of columns bytes ≡ table_of columns before
same_table columns before after bytes read = same_meaning (table_of columns) 16777216 (Err table_fault.TooLong) (long_table columns) before after bytes read

-- the same of a file that has the public columns alone
long_public : (columns : List Column) (bytes : List ℕ) → 16777216 < length bytes → public_of columns bytes ≡ Err table_fault.TooLong
long_public columns bytes long = told _ _ _ (long_file _ bytes long)

pub same_public : (columns : List Column) (before after bytes : List ℕ) → ReadsAll 16777216 before after bytes →
    public_of columns bytes ≡ public_of columns before
same_public columns before after bytes read = same_meaning (public_of columns) 16777216 (Err table_fault.TooLong) (long_public columns) before after bytes read

-- a fault that isn't running out of memory is the table's own
pub own_table_fault : {X : Type 0} (fault : TableFault) (meant : Result X TableFault) → (fault ≡ table_fault.NoMemory → ⊥) →
    UnlessMemory fault (meant ≡ Err fault) → meant ≡ Err fault
own_table_fault table_fault.NoMemory meant other is = absurd (other refl)
own_table_fault fault meant other is = is

-- ---- the faults of a read and of a file are told apart

pub was_read : {X : Type 0} (x : X) → ◌≢◌ {A = Result X ReadFault} (Ok x) (Err read.Failed)
was_read x is = cc

pub read_failed : {X : Type 0} (fault : ReadFault) → fault ≡ read.Failed → ◌≡◌ {A = Result X ReadFault} (Err fault) (Err read.Failed)
read_failed fault is = cc

pub read_wanted : {X : Type 0} (fault : ReadFault) → fault ≡ read.NoMemory → ◌≢◌ {A = Result X ReadFault} (Err fault) (Err read.Failed)
read_wanted fault is failed = cc

pub failed_not_bad : {X F : Type 0} (f : F) → ◌≢◌ {A = Result X (FileFault F)} (Err file.Failed) (Err (file.Bad f))
failed_not_bad f is = cc

pub wants_not_bad : {X F : Type 0} (f : F) → ◌≢◌ {A = Result X (FileFault F)} (Err file.NoMemory) (Err (file.Bad f))
wants_not_bad f is = cc

pub wants_not_failed : {X F : Type 0} → ◌≢◌ {A = Result X (FileFault F)} (Err file.NoMemory) (Err file.Failed)
wants_not_failed is = cc

-- ---- what is told of a read

module _ {P : Type 0} (files : source.Ghosts P) (most : ℕ) (old new : P) where
  -- none failed
  pub unfailed : (failed : Type 0) → (failed → ⊥) → files.faults old ≤ files.faults new → files.faults new ≡ files.faults old →
      TellsRead files most old new failed
  unfailed failed none later steady = record {
    within = λ told is. absurd (none is);
    later = later;
    failed = λ is. absurd (none is);
    last_call = λ is. absurd (none is);
    steady = λ other. steady;
  }

  -- the same failure in other words
  pub tells_so : {A B : Type 0} → (A → B) → (B → A) → TellsRead files most old new A → TellsRead files most old new B
  tells_so there back tells = record {
    within = λ told is. tells.within told (back is);
    later = tells.later;
    failed = λ is. tells.failed (back is);
    last_call = λ is. tells.last_call (back is);
    steady = λ other. tells.steady (λ is. other (there is));
  }

-- what was read before a read that failed isn't more than may be
pub read_within : (most : ℕ) (before bytes now after : List ℕ) → before ≡ bytes ++ now → after ≡ now → length bytes ≤ most → length before ≤ most + length after
read_within most before bytes now after is same few = omega (
  arith,
  few,
  ap (λ (l : List ℕ). length l) is,
  ap (λ (l : List ℕ). length l) same,
  length-append bytes now,
)
