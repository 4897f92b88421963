-- What the fault of a file comes to, by cases on that fault.
use Rattle.std.proofs.Common.{◌≡◌, ◌≢◌, ℕ, ◌≤◌, ◌+◌, Result, Ok, Err, refl, sym, ap, subst, arith, List}
use Rattle.bench_core.specs.declared.source.Source as source
use Rattle.schema_json.specs.Columns.{Column, SchemaView}
use Rattle.schema_json.specs.Reading.{schema_of, most_schema}
use Rattle.schema_json.specs.declared.faults.SchemaFault.TheVariants as schema_fault
use Rattle.table_load.specs.Reading.{most_table}
use Rattle.table_load.specs.declared.faults.TableFault.TheVariants as table_fault
use Rattle.schema_json.specs.declared.faults.SchemaFault.{SchemaFault}
use Rattle.table_load.specs.declared.faults.TableFault.{TableFault}
use Rattle.auditor_top.specs.declared.files.FileFault.{FileFault}
use Rattle.auditor_top.specs.declared.files.FileFault.TheVariants as file
use Rattle.auditor_top.specs.declared.opening.OpenFault.TheVariants as opening
use Rattle.auditor_top.specs.Faults.{open_status}
use Rattle.auditor_top.specs.Files.{IsFaultOf}
use Rattle.auditor_top.specs.declared.status.Object.TheVariants.{Schema, Table as TableFile}
use Rattle.auditor_top.specs.declared.status.Status.TheVariants.{Failed}
use Rattle.auditor_top.specs.Causes.{SchemaCause, TableCause}
use Rattle.auditor_top.specs.Openings.{LeavesUnopened}
use Rattle.auditor_top.specs.Reading.{TellsRead}
use Rattle.auditor_top.specs.Stages.{Before, reading_table}
use Rattle.auditor_top.proofs.Failures.{read_as, unfailed_read}
use Rattle.auditor_top.proofs.OneTable.{same_ok}
use Rattle.auditor_top.proofs.StepStatuses.{always_before}

-- a count is no more than one more
pub one_more : (n : ℕ) → n ≤ n + 1
one_more n = omega arith

-- ---- the schema's file

pub schema_says : (fault : FileFault SchemaFault) (meant : Result SchemaView SchemaFault) → IsFaultOf fault meant →
    SchemaCause (open_status (opening.Schema fault)) meant
schema_says (file.Bad f) meant is = is
schema_says fault meant is = tt

-- nothing is said of the table
pub schema_only : {X : Type 0} (fault : FileFault SchemaFault) (meant : Result X TableFault) → TableCause (open_status (opening.Schema fault)) meant
schema_only file.Failed meant = tt
schema_only fault meant = tt

-- if it is a failed call, that is told
schema_failed : (fault : FileFault SchemaFault) → open_status (opening.Schema fault) ≡ Failed Schema → fault ≡ file.Failed
schema_failed file.Failed is = refl
schema_failed fault is = cc

not_of_table : (fault : FileFault SchemaFault) → open_status (opening.Schema fault) ≢ Failed TableFile
not_of_table file.Failed is = cc
not_of_table fault is = cc

-- ---- the table's file

pub table_says : {X : Type 0} (fault : FileFault TableFault) (meant : Result X TableFault) → IsFaultOf fault meant →
    TableCause (open_status (opening.Table fault)) meant
table_says (file.Bad f) meant is = is
table_says fault meant is = tt

-- the schema was read
pub past_schema : (fault : FileFault TableFault) (meant : Result SchemaView SchemaFault) (schema : SchemaView) → meant ≡ Ok schema
    → SchemaCause (open_status (opening.Table fault)) meant
past_schema fault meant schema is = subst (SchemaCause (open_status (opening.Table fault))) (sym is) (of_schema fault)
  where
    of_schema : (fault : FileFault TableFault) → SchemaCause (open_status (opening.Table fault)) (Ok schema)
    of_schema file.Failed = refl
    of_schema file.NoMemory = tt
    of_schema (file.Bad f) = refl

-- if it is a failed call, that is told
table_failed : (fault : FileFault TableFault) → open_status (opening.Table fault) ≡ Failed TableFile → fault ≡ file.Failed
table_failed file.Failed is = refl
table_failed fault is = cc

not_of_schema : (fault : FileFault TableFault) → open_status (opening.Table fault) ≢ Failed Schema
not_of_schema file.Failed is = cc
not_of_schema fault is = cc

-- it was called
pub at_table : (P : Type 0) (fault : FileFault TableFault) → Before reading_table (open_status (opening.Table fault)) P
at_table P file.Failed = tt
at_table P file.NoMemory = tt
at_table P (file.Bad f) = tt

-- ---- so the files weren't opened

-- a call that failed is told as that
abbrev DidFail : (Y : Type 0) {F : Type 0} → FileFault F → Type 0
DidFail Y {F} fault = ◌≡◌ {A = Result Y (FileFault F)} (Err fault) (Err file.Failed)

of_failed : {Y F : Type 0} {fault : FileFault F} → DidFail Y fault → fault ≡ file.Failed
of_failed is = cc

module _ {P X : Type 0} (files : source.Ghosts P) (meaning : List Column → List ℕ → Result X TableFault) where
  pub schema_unopened : {Y : Type 0} (fault : FileFault SchemaFault) (schema later table : P) → (files.told → IsFaultOf fault (schema_of (files.left schema))) →
      ◌≢◌ {A = Result Y (FileFault SchemaFault)} (Err fault) (Err (file.Bad schema_fault.NoMemory)) →
      TellsRead files most_schema schema later (DidFail Y fault) → LeavesUnopened files meaning (opening.Schema fault) schema later table table
  schema_unopened {Y} fault schema later table means own tells = record {
    schema = λ told. schema_says fault _ (means told);
    table = λ told meant is. schema_only fault _;
    own_schema_fault = λ is. own cc;
    own_table_fault = λ is. cc;
    schema_read = read_as files most_schema schema later (DidFail Y fault) _ (λ is. ap (λ f. open_status (opening.Schema f)) (of_failed is))
        (λ is. ap (λ f. Err f) (schema_failed fault is)) tells;
    table_read = unfailed_read files most_table table table _ refl (not_of_table fault);
    untouched = always_before reading_table (open_status (opening.Schema fault)) refl;
  }

  pub table_unopened : {Y : Type 0} (fault : FileFault TableFault) (schema later table left : P) (read : SchemaView) →
      (files.told → schema_of (files.left schema) ≡ Ok read) → files.faults later ≡ files.faults schema →
      (files.told → IsFaultOf fault (meaning read.columns (files.left table))) →
      ◌≢◌ {A = Result Y (FileFault TableFault)} (Err fault) (Err (file.Bad table_fault.NoMemory)) →
      TellsRead files most_table table left (DidFail Y fault) → LeavesUnopened files meaning (opening.Table fault) schema later table left
  table_unopened {Y} fault schema later table left read schema_is same means own tells = record {
    schema = λ told. past_schema fault _ read (schema_is told);
    table = λ told meant is. table_says fault _
        (subst (λ (s : SchemaView). IsFaultOf fault (meaning s.columns (files.left table))) (same_ok _ read meant (schema_is told) is) (means told));
    own_schema_fault = λ is. cc;
    own_table_fault = λ is. own cc;
    schema_read = unfailed_read files most_schema schema later _ same (not_of_schema fault);
    table_read = read_as files most_table table left (DidFail Y fault) _ (λ is. ap (λ f. open_status (opening.Table f)) (of_failed is))
        (λ is. ap (λ f. Err f) (table_failed fault is)) tells;
    untouched = at_table _ fault;
  }
