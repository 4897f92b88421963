-- What it comes to that two journals weren't opened, and how a session over them ended, by cases on each.
use Rattle.std.proofs.Common.{rules, ◌≡◌, ◌≢◌, ℕ, List, [], length, take, true, Some, Result, Ok, Err, OnOk, ap, refl, ◌∙◌, subst, inl, inr, arith}
use Rattle.std.specs.Prelude.{⊤}
use Rattle.std.proofs.lemmas.List.{take_all, take-append-le}
use Rattle.audit_types.specs.declared.records.Answered.{Answered}
use Rattle.audit_types.specs.History.{Table as Guarded, IsLegal}
use Rattle.bench_core.specs.declared.stops.Stop.{Stop}
use Rattle.bench_core.specs.declared.stops.Stop.TheVariants as stop
use Rattle.table_load.specs.Database.{Database}
use Rattle.audit_core.specs.LegalFronts.{legal_front}
use Rattle.bench_core.specs.Ends.{EndsBy, IsRefusal, IsStop}
use Rattle.bench_core.specs.Stops.{IsOfBenches}
use Rattle.bench_core.specs.declared.stops.End.{End}
use Rattle.bench_core.specs.declared.stops.End.TheVariants.{Stopped, Refused}
use Rattle.answer_journal.specs.declared.refusals.JournalRefusal.{JournalRefusal}
use Rattle.answer_journal.specs.declared.refusals.JournalRefusal.TheVariants as journal
use Rattle.line_wire.specs.Lines.{counted_lines}
use Rattle.audit_session.specs.Ends.{Serves, ServesWhole, ServesSome, limited}
use Rattle.audit_session.specs.Stops.{stands_over}
use Rattle.twin_journal.specs.Twins.{KeepWhole, TwinCause}
use Rattle.twin_journal.specs.declared.starting.TwinRefusal.{TwinRefusal}
use Rattle.twin_journal.specs.declared.starting.TwinRefusal.TheVariants as twin
use Rattle.auditor_top.specs.declared.words.Command.TheVariants.{Serve}
use Rattle.auditor_top.specs.declared.status.Object.TheVariants.{Input}
use Rattle.auditor_top.specs.declared.status.Status.TheVariants.{Done, Failed}
use Rattle.auditor_top.specs.Causes.{BothCause, WordCause, FileCause, HoldsLegal, InputCause, SpareCause}
use Rattle.auditor_top.specs.Ends.{Outside}
use Rattle.auditor_top.specs.Stages.{Before, opening_spare, reading_lines}
use Rattle.auditor_top.specs.Faults.{end_status, ended_status, twin_refusal}
use Rattle.auditor_top.specs.Twins.{BothCatchUp, TwinEnds}
use Rattle.auditor_top.proofs.StepFaults.{not_both}
use Rattle.auditor_top.proofs.StepStatuses.{EndsLastStep}

-- ---- they weren't opened

abbrev pub refusal : {X : Type 0} → End TwinRefusal → Result X (End TwinRefusal)
refusal end = Err end

-- a call of one of the benches ends the opening early, or that memory ran out
abbrev pub TwinStops : End TwinRefusal → Type 0
TwinStops end = EndsBy IsOfBenches (λ _. ⊤) end

-- what its status says by itself
pub record TwinSays (end : End TwinRefusal) : Type 1 where
  pub last : EndsLastStep (end_status twin_refusal end)
  pub spare_file : (batch : ℕ) (file : List ℕ) → SpareCause (end_status twin_refusal end) (Serve batch true) file
  pub input : (bytes : List ℕ) → InputCause (end_status twin_refusal end) bytes bytes
  pub no_input : end_status twin_refusal end ≢ Failed Input
  pub undone : end_status twin_refusal end ≢ Done
  -- before the lines what was only read is as it was, and the spare isn't called before the journal was found sound
  pub at_lines : (P : Type 0) → (IsRefusal end → P) → Before reading_lines (end_status twin_refusal end) P
  pub at_spare : (P : Type 0) → ((kept : JournalRefusal) → end ≡ Refused (twin.Main kept) → P) → Before opening_spare (end_status twin_refusal end) P

pub twin_says : (end : End TwinRefusal) → TwinStops end → TwinSays end
twin_says (Stopped stop.Input) stops = absurd stops
twin_says (Stopped stop.Limit) stops = absurd stops
twin_says (Refused (twin.Main kept)) stops = record {
  last = tt;
  spare_file = λ batch file. tt;
  input = λ bytes. refl;
  no_input = λ is. cc;
  undone = λ is. cc;
  at_lines = λ P holds. holds tt;
  at_spare = λ P first. first kept refl;
}
twin_says end stops = search rules

pub twin_words : (end : End TwinRefusal) (batch : ℕ) → TwinStops end → WordCause (end_status twin_refusal end) (Some (Serve batch true))
twin_words (Stopped stop.Input) batch stops = absurd stops
twin_words (Stopped stop.Limit) batch stops = absurd stops
twin_words (Refused (twin.Differ place)) batch stops = (batch, refl)
twin_words end batch stops = search rules

-- the cause of each stands in the journal's file, and in both
pub twin_file : (end : End TwinRefusal) (batch : ℕ) (file spare : List ℕ) (table : Guarded) →
    EndsBy IsOfBenches (λ refused. TwinCause refused file spare table) end → (end ≡ Stopped stop.Spare → HoldsLegal file table) →
    FileCause (end_status twin_refusal end) (Serve batch true) file table
twin_file (Stopped stop.Input) batch file spare table cause second = absurd cause
twin_file (Stopped stop.Limit) batch file spare table cause second = absurd cause
twin_file (Stopped stop.Bench) batch file spare table cause second = tt
twin_file (Stopped stop.Spare) batch file spare table cause second = second refl
twin_file (Stopped stop.NoMemory) batch file spare table cause second = tt
twin_file (Refused (twin.Main kept)) batch file spare table cause second = cause
twin_file (Refused (twin.Spare kept)) batch file spare table cause second = cause.0
twin_file (Refused (twin.Differ place)) batch file spare table cause second = (cause.0, cause.1, cause.2.0)

pub twin_cause : (end : End TwinRefusal) (batch : ℕ) (file spare : List ℕ) (table : Guarded) →
    EndsBy IsOfBenches (λ refused. TwinCause refused file spare table) end → BothCause (end_status twin_refusal end) (Serve batch true) file spare table
twin_cause (Stopped stop.Input) batch file spare table cause = absurd cause
twin_cause (Stopped stop.Limit) batch file spare table cause = absurd cause
twin_cause (Stopped why) batch file spare table cause = tt
twin_cause (Refused (twin.Main journal.NotMade)) batch file spare table cause = tt
twin_cause (Refused (twin.Main kept)) batch file spare table cause = tt
twin_cause (Refused (twin.Spare kept)) batch file spare table cause = cause
twin_cause (Refused (twin.Differ place)) batch file spare table cause = cause

-- if the files keep together, a call failed or memory ran out, no line was read and nothing was sent
pub twin_gave_up : (end : End TwinRefusal) (batch : ℕ) (base : Database) (main other whole : List Answered) (before after : Outside) (spare : List ℕ) →
    TwinStops end → IsStop end → (end ≡ Stopped stop.NoMemory → BothCatchUp base main other whole before after after.file spare) →
    (end ≡ Stopped stop.Spare → after ≡ before) → TwinEnds batch (end_status twin_refusal end) base main other whole before after spare
twin_gave_up (Stopped stop.Input) batch base main other whole before after spare stops gave catch same = absurd stops
twin_gave_up (Stopped stop.Limit) batch base main other whole before after spare stops gave catch same = absurd stops
twin_gave_up (Stopped stop.Bench) batch base main other whole before after spare stops gave catch same = tt
twin_gave_up (Stopped stop.Spare) batch base main other whole before after spare stops gave catch same = inl (same refl)
twin_gave_up (Stopped stop.NoMemory) batch base main other whole before after spare stops gave catch same = inl (catch refl)
twin_gave_up (Refused refused) batch base main other whole before after spare stops gave catch same = absurd gave

-- ---- the lines were answered

-- the journal stands for a legal history, since it begins one
pub front_is_legal : (table : Guarded) (file spare : List ℕ) (whole : List Answered) → KeepWhole table file spare whole → HoldsLegal file table
front_is_legal table file spare whole keeps =
    let main = keeps.0 in
    let all = keeps.2 in (
      main,
      all.main_stands,
      subst (λ (h : List Answered). IsLegal table h)
          (ap (λ (h : List Answered). take (length main) h) all.main_front.is ∙ take-append-le (length main) main all.main_front.rest (omega arith)
          ∙ take_all (length main) main (omega arith))
          (legal_front table whole (length main) all.legal),
    )

-- and both keep together, if it came past them
pub twins_cause : {X : Type 0} (ended : Result X Stop) (batch : ℕ) (file spare : List ℕ) (table : Guarded) (whole : List Answered) →
    KeepWhole table file spare whole → BothCause (ended_status ended) (Serve batch true) file spare table
twins_cause (Err stop.Bench) batch file spare table whole keeps = tt
twins_cause (Err stop.Spare) batch file spare table whole keeps = tt
twins_cause (Err stop.NoMemory) batch file spare table whole keeps = tt
twins_cause ended batch file spare table whole keeps = (whole, keeps)

-- which lines were answered, and that both files stand for their records, or that of the bench if the spare failed
pub twins_end : {X : Type 0} (ended : Result X Stop) (base : Database) (batch : ℕ) (main other whole now : List Answered) (before after : Outside)
    (spare : List ℕ) →
    OnOk ended (Serves base whole (counted_lines before.input) now before.sent after.sent) →
    (ended ≡ Err stop.Input → ServesWhole base whole batch before.input after.input now before.sent after.sent) →
    (ended ≡ Err stop.Limit → ServesWhole base whole batch (limited before.input) [] now before.sent after.sent) →
    (ended ≡ Err stop.NoMemory → ServesSome base whole batch (counted_lines before.input) now before.sent after.sent) →
    (ended ≡ Err stop.Spare → ServesSome base whole batch (counted_lines before.input) now before.sent after.sent) →
    (ended ≢ Err stop.Bench → stands_over base after.file now) → (ended ≢ Err stop.Bench → ended ≢ Err stop.Spare → stands_over base spare now) →
    TwinEnds batch (ended_status ended) base main other whole before after spare
twins_end (Ok done) base batch main other whole now before after spare all read below some part stands also =
    (now, all, stands (not_both done stop.Bench), also (not_both done stop.Bench) (not_both done stop.Spare))
twins_end (Err stop.Input) base batch main other whole now before after spare all read below some part stands also =
    (now, read refl, stands (λ is. cc), also (λ is. cc) (λ is. cc))
twins_end (Err stop.Limit) base batch main other whole now before after spare all read below some part stands also =
    (now, below refl, stands (λ is. cc), also (λ is. cc) (λ is. cc))
twins_end (Err stop.NoMemory) base batch main other whole now before after spare all read below some part stands also =
    inr (now, some refl, stands (λ is. cc), also (λ is. cc) (λ is. cc))
twins_end (Err stop.Spare) base batch main other whole now before after spare all read below some part stands also =
    inr (now, part refl, stands (λ is. cc))
twins_end ended base batch main other whole now before after spare all read below some part stands also = tt
