-- The status that a fault of a step comes to, and the one that a last step comes to by how it ended.
use Rattle.std.specs.Prelude.{Result, Ok, Err}
use Rattle.answer_journal.specs.declared.refusals.AlreadyThere.{AlreadyThere as There}
use Rattle.answer_journal.specs.declared.refusals.JournalRefusal.{JournalRefusal}
use Rattle.answer_journal.specs.declared.refusals.JournalRefusal.TheVariants as journal
use Rattle.bench_core.specs.declared.stops.End.{End}
use Rattle.bench_core.specs.declared.stops.End.TheVariants as ended
use Rattle.bench_core.specs.declared.stops.Stop.{Stop}
use Rattle.bench_core.specs.declared.stops.Stop.TheVariants as stop
use Rattle.twin_journal.specs.declared.starting.TwinRefusal.{TwinRefusal}
use Rattle.twin_journal.specs.declared.starting.TwinRefusal.TheVariants as twin
use Rattle.twin_journal.specs.declared.restoring.RestoreRefusal.{RestoreRefusal}
use Rattle.twin_journal.specs.declared.restoring.RestoreRefusal.TheVariants as restore
use Rattle.audit_store.specs.declared.growing.GrowRefusal.{GrowRefusal}
use Rattle.audit_store.specs.declared.growing.GrowRefusal.TheVariants as grow
use Rattle.set_index.specs.declared.index.IndexFault.{IndexFault}
use Rattle.set_index.specs.declared.index.IndexFault.TheVariants as index
use Rattle.set_index.specs.declared.index.GuardPart.TheVariants as part
use Rattle.transcript_sim.specs.declared.simulating.SimulationRefusal.{SimulationRefusal}
use Rattle.transcript_sim.specs.declared.simulating.SimulationRefusal.TheVariants as verdict
use Rattle.auditor_top.specs.declared.files.FileFault.TheVariants as file
use Rattle.auditor_top.specs.declared.opening.OpenFault.{OpenFault}
use Rattle.auditor_top.specs.declared.opening.OpenFault.TheVariants as opening
use Rattle.auditor_top.specs.declared.starting.NotStarted.{NotStarted}
use Rattle.auditor_top.specs.declared.starting.NotStarted.TheVariants as starting
use Rattle.auditor_top.specs.declared.status.Object.TheVariants.{Schema, Table, Input, Bench, Spare}
use Rattle.auditor_top.specs.declared.status.Refusal.{Refusal}
use Rattle.auditor_top.specs.declared.status.Refusal.TheVariants.{BadSchema, BadTable, BadOnly, BadGroup, BadJournal, AlreadyThere, NothingNew, BadSpare, TwinsDiffer, NothingLost, SpareThere, Disagrees}
use Rattle.auditor_top.specs.declared.status.Status.{Status}
use Rattle.auditor_top.specs.declared.status.Status.TheVariants.{Done, Failed, InputLimit, NoMemory, Refused}

-- ---- what is refused

-- of growing a journal
abbrev pub grow_refusal : GrowRefusal → Refusal
grow_refusal (grow.Journal refusal) = BadJournal refusal
grow_refusal (grow.NothingNew rows) = NothingNew rows

-- of opening two journals
abbrev pub twin_refusal : TwinRefusal → Refusal
twin_refusal (twin.Main refusal) = BadJournal refusal
twin_refusal (twin.Spare refusal) = BadSpare refusal
twin_refusal (twin.Differ place) = TwinsDiffer place

-- of restoring one
abbrev pub restore_refusal : RestoreRefusal → Refusal
restore_refusal restore.NothingLost = NothingLost
restore_refusal restore.BothLost = BadJournal journal.NotMade
restore_refusal (restore.Main refusal) = BadJournal refusal
restore_refusal (restore.Spare refusal) = BadSpare refusal

-- of a journal that no history is begun with, and of a transcript
abbrev pub simulation_refusal : SimulationRefusal → Refusal
simulation_refusal (verdict.Journal refusal) = BadJournal refusal
simulation_refusal (verdict.Disagrees line due) = Disagrees line due

-- ---- the statuses

-- of a call of the outside that ended a step
abbrev pub stop_status : Stop → Status
stop_status stop.Input = Failed Input
stop_status stop.Limit = InputLimit
stop_status stop.Bench = Failed Bench
stop_status stop.Spare = Failed Spare
stop_status stop.NoMemory = NoMemory

-- of opening the files
abbrev pub open_status : OpenFault → Status
open_status (opening.Schema file.Failed) = Failed Schema
open_status (opening.Schema file.NoMemory) = NoMemory
open_status (opening.Schema (file.Bad fault)) = Refused (BadSchema fault)
open_status (opening.Table file.Failed) = Failed Table
open_status (opening.Table file.NoMemory) = NoMemory
open_status (opening.Table (file.Bad fault)) = Refused (BadTable fault)

-- of making the groups ready
abbrev pub index_status : IndexFault → Status
index_status (index.Bad part.Only) = Refused BadOnly
index_status (index.Bad (part.Group place)) = Refused (BadGroup place)
index_status index.NoMemory = NoMemory

-- of a step that wasn't done, by what its refusals are
abbrev pub end_status : {R : Type 0} → (R → Refusal) → End R → Status
end_status name (ended.Stopped why) = stop_status why
end_status name (ended.Refused refusal) = Refused (name refusal)

-- of starting a store
abbrev pub start_status : End JournalRefusal → Status
start_status end = end_status (λ refusal. BadJournal refusal) end

-- of making the groups ready and starting the store
abbrev pub started_status : NotStarted → Status
started_status (starting.Groups fault) = index_status fault
started_status (starting.Journal end) = start_status end

-- of a step by how it ended, and by what its refusals are
abbrev pub step_status : {X R : Type 0} → (R → Refusal) → Result X (End R) → Status
step_status name (Ok done) = Done
step_status name (Err end) = end_status name end

-- making a journal, compacting one to the spare, growing one, restoring one of two, and simulating
abbrev pub making_status : {X : Type 0} → Result X (End There) → Status
making_status making = step_status (λ there. AlreadyThere) making

abbrev pub compacting_status : {X : Type 0} → Result X (End There) → Status
compacting_status compaction = step_status (λ there. SpareThere) compaction

abbrev pub growing_status : {X : Type 0} → Result X (End GrowRefusal) → Status
growing_status growth = step_status grow_refusal growth

abbrev pub restoring_status : {X : Type 0} → Result X (End RestoreRefusal) → Status
restoring_status restoring = step_status restore_refusal restoring

abbrev pub simulation_status : {X : Type 0} → Result X (End SimulationRefusal) → Status
simulation_status simulation = step_status simulation_refusal simulation

-- a step that only a call of the outside ends early: answering lines over one journal or two, explaining them, a report, a drill
abbrev pub ended_status : {X : Type 0} → Result X Stop → Status
ended_status (Ok done) = Done
ended_status (Err why) = stop_status why
