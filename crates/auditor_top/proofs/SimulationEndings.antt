-- What a simulation comes to, by cases on how it ended.
use Rattle.std.proofs.Common.{rules, ◌≡◌, ◌≢◌, ℕ, ◌^◌, ◌≤◌, List, length, Result, Ok, Err, ◌∙◌, ap, subst, arith, Some}
use Rattle.audit_types.specs.declared.records.Answered.{Answered}
use Rattle.audit_types.specs.History.{Protection, Setting, Table as Guarded}
use Rattle.bench_core.specs.declared.stops.End.{End}
use Rattle.bench_core.specs.declared.stops.End.TheVariants.{Stopped, Refused}
use Rattle.bench_core.specs.declared.stops.Stop.TheVariants as stop
use Rattle.schema_json.specs.Columns.{Column, SchemaView}
use Rattle.schema_json.specs.Reading.{schema_of}
use Rattle.set_index.specs.Groups.{Protects}
use Rattle.set_index.specs.Indexed.{IndexView, OneListOfEntries}
use Rattle.table_load.specs.Cells.{PublicView, whole}
use Rattle.table_load.specs.Tables.{public_of}
use Rattle.line_wire.specs.Lines.{counted_lines}
use Rattle.line_wire.specs.Talks.{EndDue, EndReads, EndSends}
use Rattle.question_plan.specs.Session.{Replied}
use Rattle.transcript_sim.specs.declared.simulating.SimulationRefusal.{SimulationRefusal}
use Rattle.transcript_sim.specs.declared.simulating.SimulationRefusal.TheVariants as verdict
use Rattle.transcript_sim.specs.Beginning.{EndBegins, OnUnbegun}
use Rattle.transcript_sim.specs.Verdicts.{AreVerdicts}
use Rattle.transcript_sim.specs.Laws.{FirstLinesHaveVerdicts}
use Rattle.transcript_sim.specs.Ends.{RefusesWithin, simulation}
use Rattle.auditor_top.specs.declared.words.Command.TheVariants as command
use Rattle.auditor_top.specs.Faults.{simulation_status}
use Rattle.auditor_top.specs.Ends.{SendsTexts, SimulateEnds}
use Rattle.auditor_top.specs.Commands.{ArePublicFilesOf}
use Rattle.auditor_top.specs.Causes.{BeginningCause, InputCause, WordCause, FileCause}
use Rattle.auditor_top.proofs.OneTable.{same_ok}
use Rattle.auditor_top.specs.Stages.{Before, reading_lines}
use Rattle.auditor_top.proofs.StepStatuses.{EndsLastStep, IsUnrefused}

abbrev index_of : List Column → PublicView → Protection → IndexView
index_of columns public protected = record { columns = columns; public = public; protected = protected }

-- the files mean one schema and one public part, and the entries of its groups are one list
pub same_index : OneListOfEntries → (schema table : List ℕ) (shown index : IndexView) → ArePublicFilesOf schema table shown →
    ArePublicFilesOf schema table index → shown ≡ index
same_index law schema table shown index read files =
    let columns = index.columns in
    let same : ◌≡◌ {A = SchemaView} (record { columns = shown.columns; guards = read.guards }) (record { columns = columns; guards = files.guards }) =
    same_ok (schema_of schema) _ _ read.schema_is files.schema_is in
    let all : whole shown.public ≡ whole index.public = same_ok (public_of columns table) (whole shown.public) (whole index.public)
    (subst (λ (v : SchemaView). public_of v.columns table ≡ Ok (whole shown.public)) same read.public_is) files.public_is in
    let own : Protects columns shown.public files.guards shown.protected =
    subst (λ (v : SchemaView). Protects v.columns shown.public v.guards shown.protected) same read.entries in
    let part : shown.public ≡ index.public = law.part columns shown.public index.public files.guards shown.protected index.protected all own files.entries in
    let kept : shown.protected ≡ index.protected = law.one columns index.public files.guards shown.protected index.protected
    (subst (λ (p : PublicView). Protects columns p files.guards shown.protected) part own) files.entries in
    ap (λ (v : SchemaView). index_of v.columns shown.public shown.protected) same
    ∙ ap (λ (p : PublicView). index_of columns p shown.protected) part ∙ ap (λ (l : Protection). index_of columns index.public l) kept

-- so what is said of what was read is said of what the files mean
pub carried_public : OneListOfEntries → (P : IndexView → Type 0) (schema table : List ℕ) (shown index : IndexView) → ArePublicFilesOf schema table shown →
    ArePublicFilesOf schema table index → P shown → P index
carried_public law P schema table shown index read files holds = subst P (same_index law schema table shown index read files) holds

-- ---- beginning with a journal

-- what holds anyway, and what follows
pub unbegun_too : {P : Type 0} (ended : Result (Unit {0}) (End SimulationRefusal)) → P → OnUnbegun ended P
unbegun_too (Err (Refused (verdict.Journal why))) holds = holds
unbegun_too ended holds = tt

pub unbegun_so : {P Q : Type 0} (ended : Result (Unit {0}) (End SimulationRefusal)) → (P → Q) → OnUnbegun ended P → OnUnbegun ended Q
unbegun_so (Err (Refused (verdict.Journal why))) follows holds = follows holds
unbegun_so ended follows holds = tt

-- the cause of a refusal is in the journal's file, and any other end has a history to begin with
pub simulation_cause : (ended : Result (Unit {0}) (End SimulationRefusal)) (file : List ℕ) (setting : Setting) → EndBegins ended file setting →
    BeginningCause (simulation_status ended) file setting
simulation_cause (Err (Stopped stop.Bench)) file setting cause = tt
simulation_cause (Err (Stopped stop.NoMemory)) file setting cause = tt
simulation_cause (Err (Refused (verdict.Journal why))) file setting cause = cause
simulation_cause ended file setting cause = cause

-- what its status says by itself
pub record SimulationSays (ended : Result (Unit {0}) (End SimulationRefusal)) : Type 1 where
  pub last : EndsLastStep (simulation_status ended)
  pub words : ended ≢ Err (Stopped stop.Spare) → WordCause (simulation_status ended) (Some command.Simulate)
  pub at_lines : (P : Type 0) → OnUnbegun ended P → Before reading_lines (simulation_status ended) P
  pub file : (file : List ℕ) (table : Guarded) → FileCause (simulation_status ended) command.Simulate file table

pub simulation_says : (ended : Result (Unit {0}) (End SimulationRefusal)) → SimulationSays ended
simulation_says (Err (Stopped stop.Input)) = search rules
simulation_says (Err (Refused (verdict.Journal refusal))) = search rules
simulation_says ended = search rules

-- ---- reading the transcript

-- the ends of a simulation are those of the run
pub simulation_ends : (ended : Result (Unit {0}) (End SimulationRefusal)) (index : IndexView) (history : List Answered) (input left : List ℕ)
    (verdicts : List (Replied Answered)) → EndDue (simulation index history) ended input left verdicts →
    SimulateEnds (simulation_status ended) index history input left verdicts
simulation_ends (Err (Stopped stop.Spare)) index history input left verdicts due = absurd due
simulation_ends (Err (Stopped stop.Input)) index history input left verdicts due = due
simulation_ends (Err (Refused (verdict.Journal why))) index history input left verdicts due = absurd due
simulation_ends ended index history input left verdicts due = due

pub simulation_sends : (ended : Result (Unit {0}) (End SimulationRefusal)) (index : IndexView) (history : List Answered) (verdicts : List (Replied Answered))
    (input left before after : List ℕ) → EndDue (simulation index history) ended input left verdicts →
    EndSends (simulation index history) ended verdicts before after →
    SendsTexts (simulation index history) (simulation_status ended) verdicts before after
simulation_sends (Err (Stopped stop.Input)) index history verdicts input left before after due sends = sends
simulation_sends (Err (Refused (verdict.Journal why))) index history verdicts input left before after due sends = absurd due
simulation_sends ended index history verdicts input left before after due sends = sends

-- how much of the input there was, by the end
pub simulation_reads : (ended : Result (Unit {0}) (End SimulationRefusal)) (before after : List ℕ) → EndReads RefusesWithin ended before after →
    OnUnbegun ended (after ≡ before) → InputCause (simulation_status ended) before after
simulation_reads (Err (Stopped stop.Bench)) before after reads unread = tt
simulation_reads (Err (Stopped stop.Spare)) before after reads unread = tt
simulation_reads (Err (Stopped stop.NoMemory)) before after reads unread = tt
simulation_reads (Err (Refused (verdict.Journal refusal))) before after reads unread =
    unread
simulation_reads ended before after reads unread = reads

-- if every reply agrees and the input is within its limit it isn't refused
pub simulation_unrefused : FirstLinesHaveVerdicts
    → (ended : Result (Unit {0}) (End SimulationRefusal)) (index : IndexView) (history : List Answered) (input left : List ℕ)
    (verdicts others : List (Replied Answered)) → EndDue (simulation index history) ended input left verdicts → EndReads RefusesWithin ended input left →
    AreVerdicts index history (counted_lines input) others → length input ≤ 2 ^ 30 → IsUnrefused (simulation_status ended)
simulation_unrefused first (Ok done) index history input left verdicts others due reads agree within = tt
simulation_unrefused first (Err (Stopped stop.Limit)) index history input left verdicts others due reads agree within =
    absurd (omega (arith, reads, within))
simulation_unrefused first (Err (Stopped stop.Input)) index history input left verdicts others due reads agree within = tt
simulation_unrefused first (Err (Stopped why)) index history input left verdicts others due reads agree within = tt
simulation_unrefused first (Err (Refused (verdict.Journal why))) index history input left verdicts others due reads agree within = absurd due
simulation_unrefused first (Err (Refused (verdict.Disagrees line called))) index history input left verdicts others due reads agree within =
    let begun = first index history (counted_lines input) others line agree in
    absurd (due.none_with begun.0 begun.1)
