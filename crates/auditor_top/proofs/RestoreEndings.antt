-- What the end of the last step of `restore` comes to, by cases on it.
use Rattle.std.proofs.Common.{rules, ◌≡◌, ℕ, List, Some, Result, Ok, Err, refl}
use Rattle.std.specs.Prelude.{⊤, IfErr}
use Rattle.audit_types.specs.History.{Table as Guarded}
use Rattle.bench_core.specs.Ends.{DoneUnlessStopped, EndsBy, IsRefused}
use Rattle.bench_core.specs.Stops.{IsOfBenches}
use Rattle.bench_core.specs.declared.stops.End.{End}
use Rattle.bench_core.specs.declared.stops.End.TheVariants.{Stopped, Refused}
use Rattle.bench_core.specs.declared.stops.Stop.TheVariants as stop
use Rattle.answer_journal.specs.declared.refusals.JournalRefusal.TheVariants as journal
use Rattle.twin_journal.specs.Restoring.{RestoreCause}
use Rattle.twin_journal.specs.declared.restoring.RestoreRefusal.{RestoreRefusal}
use Rattle.twin_journal.specs.declared.restoring.RestoreRefusal.TheVariants as restore
use Rattle.auditor_top.specs.declared.words.Command.TheVariants.{Restore}
use Rattle.auditor_top.specs.Causes.{BothCause, WordCause, FileCause, SpareCause}
use Rattle.auditor_top.specs.Stages.{Before, opening_journal, reading_lines}
use Rattle.auditor_top.specs.Faults.{restore_refusal, restoring_status}
use Rattle.auditor_top.proofs.StepFaults.{end_unrefused}
use Rattle.auditor_top.proofs.StepStatuses.{EndsLastStep, IsUnrefused}

-- a call of one of the benches ends it early, or that memory ran out
abbrev pub RestoreStops : {X : Type 0} → Result X (End RestoreRefusal) → Type 0
RestoreStops ended = IfErr ended (EndsBy IsOfBenches (λ _. ⊤))

-- what its status says by itself
pub record RestoreSays {X : Type 0} (ended : Result X (End RestoreRefusal)) : Type 1 where
  pub last : EndsLastStep (restoring_status ended)
  pub words : WordCause (restoring_status ended) (Some Restore)
  pub spare_file : (file : List ℕ) → SpareCause (restoring_status ended) Restore file
  pub at_journal : (P : Type 0) → Before opening_journal (restoring_status ended) P

pub restore_says : {X : Type 0} (ended : Result X (End RestoreRefusal)) → RestoreStops ended → RestoreSays ended
restore_says (Err (Stopped stop.Input)) stops = absurd stops
restore_says (Err (Stopped stop.Limit)) stops = absurd stops
restore_says (Err (Refused (restore.Main refusal))) stops = search rules
restore_says ended stops = search rules

-- each refusal has its cause in the journal's file, and in both
pub restore_file : {X : Type 0} (ended : Result X (End RestoreRefusal)) (file spare : List ℕ) (table : Guarded) → RestoreStops ended →
    ((refusal : RestoreRefusal) → ended ≡ Err (Refused refusal) → RestoreCause refusal file spare table) → FileCause (restoring_status ended) Restore file table
restore_file (Ok done) file spare table stops cause = tt
restore_file (Err (Stopped stop.Input)) file spare table stops cause = absurd stops
restore_file (Err (Stopped stop.Limit)) file spare table stops cause = absurd stops
restore_file (Err (Stopped why)) file spare table stops cause = tt
restore_file (Err (Refused restore.BothLost)) file spare table stops cause = (cause restore.BothLost refl).0
restore_file (Err (Refused (restore.Main refusal))) file spare table stops cause =
    (cause (restore.Main refusal) refl).2
restore_file (Err (Refused refusal)) file spare table stops cause = tt

pub restore_cause : {X : Type 0} (ended : Result X (End RestoreRefusal)) (file spare : List ℕ) (table : Guarded) → RestoreStops ended →
    ((refusal : RestoreRefusal) → ended ≡ Err (Refused refusal) → RestoreCause refusal file spare table) →
    BothCause (restoring_status ended) Restore file spare table
restore_cause (Ok done) file spare table stops cause = tt
restore_cause (Err (Stopped stop.Input)) file spare table stops cause = absurd stops
restore_cause (Err (Stopped stop.Limit)) file spare table stops cause = absurd stops
restore_cause (Err (Stopped why)) file spare table stops cause = tt
restore_cause (Err (Refused restore.NothingLost)) file spare table stops cause = cause restore.NothingLost refl
restore_cause (Err (Refused restore.BothLost)) file spare table stops cause = cause restore.BothLost refl
restore_cause (Err (Refused (restore.Main journal.NotMade))) file spare table stops cause =
    let main = cause (restore.Main journal.NotMade) refl in absurd (main.2 main.1)
restore_cause (Err (Refused (restore.Main refusal))) file spare table stops cause = cause (restore.Main refusal) refl
restore_cause (Err (Refused (restore.Spare refusal))) file spare table stops cause = cause (restore.Spare refusal) refl

-- if one can be restored it isn't refused
pub restore_unrefused : {X : Type 0} (ended : Result X (End RestoreRefusal)) → RestoreStops ended → DoneUnlessStopped ended →
    IsUnrefused (restoring_status ended)
restore_unrefused (Ok done) stops gave = tt
restore_unrefused (Err end) stops gave = end_unrefused restore_refusal end stops gave

-- before the lines what was only read is as it was
pub restore_at_lines : {X : Type 0} (P : Type 0) (ended : Result X (End RestoreRefusal)) → RestoreStops ended → (IsRefused ended → P) →
    Before reading_lines (restoring_status ended) P
restore_at_lines P (Ok done) stops holds = tt
restore_at_lines P (Err (Stopped stop.Input)) stops holds = absurd stops
restore_at_lines P (Err (Stopped stop.Limit)) stops holds = absurd stops
restore_at_lines P (Err (Stopped why)) stops holds = tt
restore_at_lines P (Err (Refused (restore.Main refusal))) stops holds = holds tt
restore_at_lines P (Err (Refused refusal)) stops holds = holds tt
