-- What follows from the status of each step of a run by itself.
use Rattle.std.proofs.Common.{◌≡◌, ◌≢◌, List, ℕ, true, false, Bool, Result, IsOk, refl, rules}
use Rattle.std.specs.Bool.{OnTrue}
use Rattle.schema_json.specs.Columns.{Column, Guards, SchemaView}
use Rattle.schema_json.specs.declared.faults.SchemaFault.{SchemaFault}
use Rattle.schema_json.specs.declared.faults.SchemaFault.TheVariants as schema_fault
use Rattle.table_load.specs.declared.faults.TableFault.{TableFault}
use Rattle.table_load.specs.declared.faults.TableFault.TheVariants as table_fault
use Rattle.set_index.specs.Groups.{AreSound}
use Rattle.audit_types.specs.History.{Table as Guarded}
use Rattle.auditor_top.specs.declared.words.Command.{Command}
use Rattle.auditor_top.specs.declared.status.Object.{Object}
use Rattle.auditor_top.specs.declared.status.Object.TheVariants.{Schema, Table, Input, Bench, Spare}
use Rattle.auditor_top.specs.declared.status.Refusal.TheVariants.{BadSchema, BadTable, BadOnly, BadGroup, Disagrees}
use Rattle.auditor_top.specs.declared.status.Status.{Status}
use Rattle.auditor_top.specs.declared.status.Status.TheVariants.{Done, BadWords, Failed, InputLimit, NoMemory, Refused}
use Rattle.auditor_top.specs.Causes.{FileCause, GroupCause, InputCause, SchemaCause, SpareCause, TableCause}
use Rattle.auditor_top.specs.Ready.{EndsEarly, GivesUp}
use Rattle.auditor_top.specs.Stages.{Stage, reading_schema, reading_table, reading_groups, opening_journal, reading_lines, is_short_of, has_passed, reached, Before, Passed}

-- what holds anyway holds before each stage
on_any : {P : Type 0} (b : Bool) → P → OnTrue b P
on_any true holds = holds
on_any false holds = tt

pub always_before : {P : Type 0} (stage : Stage) (status : Status) → P → Before stage status P
always_before stage status holds = on_any (is_short_of stage (reached status)) holds

pub always_passed : {P : Type 0} (stage : Stage) (status : Status) → P → Passed stage status P
always_passed stage status holds = on_any (has_passed stage (reached status)) holds

-- and what follows from it
so_then : {P Q : Type 0} (b : Bool) → (P → Q) → OnTrue b P → OnTrue b Q
so_then true follows holds = follows holds
so_then false follows holds = tt

pub before_so : {P Q : Type 0} (stage : Stage) (status : Status) → (P → Q) → Before stage status P → Before stage status Q
before_so stage status follows holds = so_then (is_short_of stage (reached status)) follows holds

-- ---- no command was taken

-- a status that isn't a fault of a step
pub record IsNoStep (status : Status) : Type 1 where
  pub own_schema : status ≢ Refused (BadSchema schema_fault.NoMemory)
  pub own_table : status ≢ Refused (BadTable table_fault.NoMemory)
  pub unfailed : (object : Object) → status ≢ Failed object
  pub undone : status ≢ Done
  -- it says nothing of the files, the spare or the input
  pub schema : (meant : Result SchemaView SchemaFault) → SchemaCause status meant
  pub table : {X : Type 0} (meant : Result X TableFault) → TableCause status meant
  pub groups : (columns : List Column) (guards : Guards) → GroupCause status columns guards
  pub file : (command : Command) (file : List ℕ) (table : Guarded) → FileCause status command file table
  pub spare_file : (command : Command) (file : List ℕ) → SpareCause status command file
  pub input : (bytes : List ℕ) → InputCause status bytes bytes

pub bad_words_say : IsNoStep BadWords
bad_words_say = search rules

pub no_memory_says : IsNoStep NoMemory
no_memory_says = search rules

-- ---- the command didn't go on

-- what holds at each status with which opening gives up
pub by_giving_up : (P : Status → Type 0) (status : Status) → GivesUp status → P (Failed Schema) → P (Failed Table) → P (Failed Bench) → P NoMemory →
    P status
by_giving_up P (Failed Schema) gave_up schema table bench memory = schema
by_giving_up P (Failed Table) gave_up schema table bench memory = table
by_giving_up P (Failed Bench) gave_up schema table bench memory = bench
by_giving_up P NoMemory gave_up schema table bench memory = memory
by_giving_up P status gave_up schema table bench memory = absurd gave_up

-- a run that ends early read nothing of the input, and isn't done
pub reads_nothing : (status : Status) (bytes : List ℕ) → EndsEarly status → InputCause status bytes bytes
reads_nothing Done bytes early = absurd early
reads_nothing (Failed Input) bytes early = absurd early
reads_nothing InputLimit bytes early = absurd early
reads_nothing (Refused (Disagrees line due)) bytes early = absurd early
reads_nothing status bytes early = always_before {P = bytes ≡ bytes} reading_lines status refl

-- ---- the last step of a command

-- a run may end so once its command goes on
abbrev pub EndsLastStep : Status → Type 0
EndsLastStep BadWords = ⊥
EndsLastStep (Failed Schema) = ⊥
EndsLastStep (Failed Table) = ⊥
EndsLastStep (Refused (BadSchema fault)) = ⊥
EndsLastStep (Refused (BadTable fault)) = ⊥
EndsLastStep (Refused BadOnly) = ⊥
EndsLastStep (Refused (BadGroup place)) = ⊥
EndsLastStep status = Unit {0}

-- the files were read before, the groups were made ready, and the journal was opened
pub groups_read : (status : Status) (columns : List Column) (guards : Guards) → EndsLastStep status → AreSound columns guards → GroupCause status columns guards
groups_read (Refused BadOnly) columns guards last are = absurd last
groups_read (Refused (BadGroup place)) columns guards last are = absurd last
groups_read status columns guards last are = always_passed reading_groups status are

pub schema_read : (status : Status) (meant : Result SchemaView SchemaFault) → EndsLastStep status → IsOk meant → SchemaCause status meant
schema_read (Refused (BadSchema fault)) meant last is = absurd last
schema_read status meant last is = always_passed reading_schema status is

pub table_read : {X : Type 0} (status : Status) (meant : Result X TableFault) → EndsLastStep status → IsOk meant → TableCause status meant
table_read (Refused (BadTable fault)) meant last is = absurd last
table_read status meant last is = always_passed reading_table status is

pub past_table : (P : Type 0) (status : Status) → EndsLastStep status → Before reading_table status P
past_table P BadWords last = absurd last
past_table P (Refused (BadSchema fault)) last = absurd last
past_table P (Failed Schema) last = absurd last
past_table P status last = tt

pub past_journal : (P : Type 0) (status : Status) → EndsLastStep status → Before opening_journal status P
past_journal P BadWords last = absurd last
past_journal P (Refused (BadSchema fault)) last = absurd last
past_journal P (Refused (BadTable fault)) last = absurd last
past_journal P (Refused BadOnly) last = absurd last
past_journal P (Refused (BadGroup place)) last = absurd last
past_journal P (Failed Schema) last = absurd last
past_journal P (Failed Table) last = absurd last
past_journal P status last = tt

-- ---- a last step that is done, or was ended by a call that failed, or by memory that ran out

-- it wasn't refused
abbrev pub IsUnrefused : Status → Type 0
IsUnrefused Done = Unit {0}
IsUnrefused (Failed Input) = Unit {0}
IsUnrefused (Failed Bench) = Unit {0}
IsUnrefused (Failed Spare) = Unit {0}
IsUnrefused NoMemory = Unit {0}
IsUnrefused status = ⊥
