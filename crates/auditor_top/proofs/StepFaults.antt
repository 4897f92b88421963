-- What the end of the last step of `init` and of `serve` comes to, by cases on it.
use Rattle.std.proofs.Common.{rules, ◌≡◌, ◌≢◌, ℕ, ◌+◌, ◌<◌, ◌≤◌, List, true, [], Result, Ok, Err, IfErr, IsErr, OnOk, length, refl, sym, ap, arith, subst, Some}
use Rattle.std.specs.Prelude.{⊤}
use Rattle.std.proofs.lemmas.Bool.{false≢true}
use Rattle.audit_types.specs.declared.records.Answered.{Answered}
use Rattle.bench_core.specs.Ends.{EndsBy, IsRefused, IsStop}
use Rattle.bench_core.specs.Stops.{IsOfBench, IsOfBenches}
use Rattle.bench_core.specs.declared.stops.End.{End}
use Rattle.bench_core.specs.declared.stops.End.TheVariants.{Stopped, Refused}
use Rattle.bench_core.specs.declared.stops.Stop.{Stop}
use Rattle.bench_core.specs.declared.stops.Stop.TheVariants as stop
use Rattle.audit_types.specs.History.{Table as Guarded}
use Rattle.table_load.specs.Database.{Database}
use Rattle.journal_form.specs.Journal.{StandsFor}
use Rattle.answer_journal.specs.Moments.{IsAlready, IsMade}
use Rattle.answer_journal.specs.declared.refusals.AlreadyThere.{AlreadyThere as There}
use Rattle.line_wire.specs.Lines.{counted_lines, most_input}
use Rattle.audit_session.specs.Ends.{Serves, ServesWhole, ServesSome, limited}
use Rattle.auditor_top.specs.declared.words.Command.{Command}
use Rattle.auditor_top.specs.declared.words.Command.TheVariants.{Init}
use Rattle.auditor_top.specs.declared.status.Object.TheVariants.{Bench}
use Rattle.auditor_top.specs.declared.status.Refusal.{Refusal}
use Rattle.auditor_top.specs.declared.status.Status.TheVariants.{Done, Failed, NoMemory}
use Rattle.auditor_top.specs.Faults.{end_status, ended_status, making_status, stop_status}
use Rattle.auditor_top.specs.Ends.{Outside, ServeEnds}
use Rattle.auditor_top.specs.Causes.{FileCause, IsReadyFor, IsSpareFor, InputCause, SpareCause, WordCause}
use Rattle.auditor_top.specs.Stages.{Before, opening_spare, reading_lines}
use Rattle.auditor_top.proofs.StepStatuses.{EndsLastStep, IsUnrefused}
use Rattle.auditor_top.specs.Commands.{calls_spare, reads_lines}

-- an answer isn't good and bad
pub not_both : {X E : Type 0} (x : X) (e : E) → Ok x ≡ Err e → ⊥
not_both x e is = search rules

-- a file that isn't there already isn't a made journal
pub not_made : (file : List ℕ) → (IsAlready file → ⊥) → IsMade file → ⊥
not_made file absent made = grind arith

-- ---- what a status says by itself

-- of making a journal, which only a call of the bench ends early
abbrev pub MakingStops : {X : Type 0} → Result X (End There) → Type 0
MakingStops ended = IfErr ended (EndsBy (λ why. why ≡ stop.Bench) (λ _. ⊤))

pub record MakingSays {X : Type 0} (ended : Result X (End There)) : Type 1 where
  pub last : EndsLastStep (making_status ended)
  pub words : WordCause (making_status ended) (Some Init)
  pub no_memory : making_status ended ≢ NoMemory
  -- before the lines it ends only if a journal or another file was there
  pub at_lines : (P : Type 0) → (IsRefused ended → P) → Before reading_lines (making_status ended) P

pub making_says : {X : Type 0} (ended : Result X (End There)) → MakingStops ended → MakingSays ended
making_says (Ok done) stops = search rules
making_says (Err (Stopped stop.Input)) stops = let none : ⊥ = cc in absurd none
making_says (Err (Stopped stop.Limit)) stops = let none : ⊥ = cc in absurd none
making_says (Err (Stopped stop.Bench)) stops = search rules
making_says (Err (Stopped stop.Spare)) stops = let none : ⊥ = cc in absurd none
making_says (Err (Stopped stop.NoMemory)) stops = let none : ⊥ = cc in absurd none
making_says (Err (Refused there)) stops = search rules

-- and of a step that only a call of the outside ends early
pub record StopSays {X : Type 0} (ended : Result X Stop) : Type 1 where
  pub last : EndsLastStep (ended_status ended)
  pub words : (one : Command) → (ended ≡ Err stop.Input → reads_lines one ≡ true) → (ended ≡ Err stop.Limit → reads_lines one ≡ true)
      → (ended ≡ Err stop.Spare → calls_spare one ≡ true) → WordCause (ended_status ended) (Some one)
  pub done : (P : Type 0) → ended_status ended ≡ Done → OnOk ended P → P
  pub at_lines : (P : Type 0) → Before reading_lines (ended_status ended) P
  pub at_spare : (P : Type 0) → Before opening_spare (ended_status ended) P
  pub file : (one : Command) (file : List ℕ) (table : Guarded) → IsReadyFor one file table → FileCause (ended_status ended) one file table
  pub spare_file : (one : Command) (file : List ℕ) → IsSpareFor one file → SpareCause (ended_status ended) one file

pub stop_says : {X : Type 0} (ended : Result X Stop) → StopSays ended
stop_says (Err stop.Input) = search rules
stop_says ended = search rules

-- ---- the end of a step that may be refused

-- if something of the outside brought it about, other than the limit of the input, it isn't refused
pub end_unrefused : {R : Type 0} (name : R → Refusal) (end : End R) → EndsBy IsOfBenches (λ _. ⊤) end → IsStop end → IsUnrefused (end_status name end)
end_unrefused name (Stopped stop.Limit) by stopped = absurd by
end_unrefused name (Stopped why) by stopped = tt
end_unrefused name (Refused refusal) by stopped = absurd stopped

-- ---- making a journal

-- a journal was made where none was there
pub making_cause : (making : Result (Unit {0}) (End There)) (file : List ℕ) (table : Guarded) → MakingStops making → (IsAlready file → IsErr making)
    → (IsRefused making → IsAlready file) → FileCause (making_status making) Init file table
making_cause (Ok done) file table stops refused already = λ there. absurd (false≢true (refused there))
making_cause (Err (Stopped why)) file table stops refused already =
    subst (λ (s : Stop). FileCause (stop_status s) Init file table) (sym stops) tt
making_cause (Err (Refused there)) file table stops refused already = already tt

-- if nothing was there it wasn't refused
pub making_unrefused : (making : Result (Unit {0}) (End There)) → MakingStops making → (IsRefused making → ⊥) → IsUnrefused (making_status making)
making_unrefused (Ok done) stops absent = tt
making_unrefused (Err (Stopped why)) stops absent = subst (λ (s : Stop). IsUnrefused (stop_status s)) (sym stops) tt
making_unrefused (Err (Refused there)) stops absent = absurd (absent tt)

-- if the bench didn't fail, a journal was made, or one or another file was there
pub made_or_there : {P : Type 0} (making : Result (Unit {0}) (End There)) → MakingStops making → making_status making ≢ Failed Bench → OnOk making P →
    (IsRefused making → P) → P
made_or_there (Ok done) stops fine made there = made
made_or_there (Err (Stopped why)) stops fine made there = absurd (fine (ap stop_status stops))
made_or_there (Err (Refused is)) stops fine made there = there tt

-- if the bench didn't fail and it isn't done, one or another file was there
pub there_is : (making : Result (Unit {0}) (End There)) → MakingStops making → making_status making ≢ Done → making_status making ≢ Failed Bench →
    IsRefused making
there_is (Ok done) stops undone fine = absurd (undone refl)
there_is (Err (Stopped why)) stops undone fine = absurd (fine (ap stop_status stops))
there_is (Err (Refused is)) stops undone fine = tt

-- ---- a step that only a call of the outside ends early

-- one that calls one bench, and reads no input
pub of_bench : {X : Type 0} (ended : Result X Stop) (why : Stop) → IfErr ended IsOfBench → ended ≡ Err why → IsOfBench why
of_bench ended why ends is = subst (λ r. IfErr r IsOfBench) is ends

-- how much of the input there was, by the end
pub stop_reads : {X : Type 0} (ended : Result X Stop) (before after : List ℕ) → OnOk ended (after ≡ []) → OnOk ended (length before ≤ most_input)
    → (ended ≡ Err stop.Input → length before ≤ most_input + length after)
    → (ended ≡ Err stop.Limit → most_input + length after < length before) → InputCause (ended_status ended) before after
stop_reads (Ok done) before after read within failed limit = (read, within)
stop_reads (Err stop.Input) before after read within failed limit = failed refl
stop_reads (Err stop.Limit) before after read within failed limit = limit refl
stop_reads ended before after read within failed limit = tt

-- the ends of a session over one journal are those of the run
pub session_ends : {X : Type 0} (ended : Result X Stop) (base : Database) (batch : ℕ) (history now : List Answered) (before after : Outside)
    → OnOk ended (Serves base history (counted_lines before.input) now before.sent after.sent)
    → (ended ≡ Err stop.Input → ServesWhole base history batch before.input after.input now before.sent after.sent) →
    (ended ≡ Err stop.Limit → ServesWhole base history batch (limited before.input) [] now before.sent after.sent)
    → (ended ≡ Err stop.NoMemory → ServesSome base history batch (counted_lines before.input) now before.sent after.sent) →
    (ended ≢ Err stop.Bench → StandsFor after.file base.secret.shape now) → ended ≢ Err stop.Spare →
    ServeEnds batch (ended_status ended) base history before after
session_ends (Ok done) base batch history now before after all whole below some stands alone = (now, all, stands (not_both done stop.Bench))
session_ends (Err stop.Input) base batch history now before after all whole below some stands alone = (now, whole refl, stands (search rules))
session_ends (Err stop.Limit) base batch history now before after all whole below some stands alone = (now, below refl, stands (search rules))
session_ends (Err stop.Bench) base batch history now before after all whole below some stands alone = tt
session_ends (Err stop.Spare) base batch history now before after all whole below some stands alone = absurd (alone refl)
session_ends (Err stop.NoMemory) base batch history now before after all whole below some stands alone = (now, some refl, stands (search rules))
