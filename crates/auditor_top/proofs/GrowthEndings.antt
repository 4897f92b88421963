-- What the end of the last step of `grow` comes to, by cases on it.
use Rattle.std.proofs.Common.{rules, ◌≡◌, ◌≢◌, ℕ, List, Some, Result, Ok, Err, OnOk, OnErr, ap, refl}
use Rattle.std.specs.Prelude.{⊤, IfErr}
use Rattle.audit_types.specs.declared.records.Answered.{Answered}
use Rattle.audit_types.specs.History.{Table as Guarded}
use Rattle.audit_types.specs.Widening.{widened}
use Rattle.table_load.specs.Database.{Database}
use Rattle.journal_form.specs.Journal.{StandsFor}
use Rattle.bench_core.specs.Ends.{DoneUnlessStopped, EndsBy}
use Rattle.bench_core.specs.EndLaws.{EndsBy-weaker}
use Rattle.bench_core.specs.Stops.{IsOfBench, IsOfBenches, of_benches}
use Rattle.bench_core.specs.declared.stops.End.{End}
use Rattle.bench_core.specs.declared.stops.End.TheVariants.{Stopped, Refused}
use Rattle.bench_core.specs.declared.stops.Stop.TheVariants as stop
use Rattle.audit_store.specs.Growing.{CanGrow, GrowCause}
use Rattle.audit_store.specs.declared.growing.GrowRefusal.{GrowRefusal}
use Rattle.audit_store.specs.declared.growing.GrowRefusal.TheVariants as grow
use Rattle.auditor_top.specs.declared.words.Command.TheVariants.{Grow}
use Rattle.auditor_top.specs.declared.status.Object.TheVariants.{Bench}
use Rattle.auditor_top.specs.declared.status.Status.TheVariants.{Done, Failed}
use Rattle.auditor_top.specs.Causes.{WordCause, FileCause}
use Rattle.auditor_top.specs.Ends.{GrowEnds}
use Rattle.auditor_top.specs.Stages.{Before, reading_lines}
use Rattle.auditor_top.specs.Faults.{grow_refusal, growing_status}
use Rattle.auditor_top.proofs.StepFaults.{end_unrefused}
use Rattle.auditor_top.proofs.StepStatuses.{EndsLastStep, IsUnrefused}

-- a call of the bench ends it early, or that memory ran out
abbrev pub GrowthStops : {X : Type 0} → Result X (End GrowRefusal) → Type 0
GrowthStops ended = IfErr ended (EndsBy IsOfBench (λ _. ⊤))

-- what its status says by itself
pub record GrowthSays {X : Type 0} (ended : Result X (End GrowRefusal)) : Type 1 where
  pub last : EndsLastStep (growing_status ended)
  pub words : WordCause (growing_status ended) (Some Grow)
  pub at_lines : (P Q : Type 0) → (Q → P) → OnErr ended (ended ≢ Err (Stopped stop.Bench) → Q) → Before reading_lines (growing_status ended) P

pub growth_says : {X : Type 0} (ended : Result X (End GrowRefusal)) → GrowthStops ended → GrowthSays ended
growth_says (Err (Stopped stop.Input)) stops = absurd stops
growth_says (Err (Stopped stop.Limit)) stops = absurd stops
growth_says (Err (Stopped stop.Spare)) stops = absurd stops
growth_says (Err (Refused (grow.Journal refusal))) stops = search rules
growth_says ended stops = search rules

-- the file is the cause of a refusal, and can grow if it is done
pub growth_file : {X : Type 0} (ended : Result X (End GrowRefusal)) (file : List ℕ) (table : Guarded) → GrowthStops ended → OnOk ended (CanGrow file table) →
    ((refusal : GrowRefusal) → ended ≡ Err (Refused refusal) → GrowCause refusal file table) → FileCause (growing_status ended) Grow file table
growth_file (Ok done) file table stops can cause = can
growth_file (Err (Stopped stop.Input)) file table stops can cause = absurd stops
growth_file (Err (Stopped stop.Limit)) file table stops can cause = absurd stops
growth_file (Err (Stopped stop.Bench)) file table stops can cause = tt
growth_file (Err (Stopped stop.Spare)) file table stops can cause = absurd stops
growth_file (Err (Stopped stop.NoMemory)) file table stops can cause = tt
growth_file (Err (Refused (grow.Journal refusal))) file table stops can cause = cause (grow.Journal refusal) refl
growth_file (Err (Refused (grow.NothingNew rows))) file table stops can cause = cause (grow.NothingNew rows) refl

-- over a journal that can grow: what the file stands for
pub growth_ends : (ended : Result (Unit {0}) (End GrowRefusal)) (base : Database) (history : List Answered) (before after : List ℕ) → GrowthStops ended →
    OnOk ended (StandsFor after base.secret.shape (widened base.secret.shape.rows history)) → DoneUnlessStopped ended →
    OnErr ended (ended ≢ Err (Stopped stop.Bench) → after ≡ before) → GrowEnds (growing_status ended) base history before after
growth_ends (Ok done) base history before after stops stands gave_up kept = stands
growth_ends (Err (Stopped stop.Input)) base history before after stops stands gave_up kept = absurd stops
growth_ends (Err (Stopped stop.Limit)) base history before after stops stands gave_up kept = absurd stops
growth_ends (Err (Stopped stop.Bench)) base history before after stops stands gave_up kept = tt
growth_ends (Err (Stopped stop.Spare)) base history before after stops stands gave_up kept = absurd stops
growth_ends (Err (Stopped stop.NoMemory)) base history before after stops stands gave_up kept = kept (λ is. cc)
growth_ends (Err (Refused refusal)) base history before after stops stands gave_up kept = absurd gave_up

-- and it isn't refused
pub growth_unrefused : (ended : Result (Unit {0}) (End GrowRefusal)) → GrowthStops ended → DoneUnlessStopped ended → IsUnrefused (growing_status ended)
growth_unrefused (Ok done) stops gave_up = tt
growth_unrefused (Err end) stops gave_up =
    end_unrefused grow_refusal end (EndsBy-weaker end IsOfBench IsOfBenches _ _ of_benches (λ refusal is. is) stops) gave_up

-- what holds unless the bench failed holds of each refusal
pub growth_kept : {X P : Type 0} (ended : Result X (End GrowRefusal)) → growing_status ended ≢ Done → growing_status ended ≢ Failed Bench →
    OnErr ended (ended ≢ Err (Stopped stop.Bench) → P) → P
growth_kept (Ok done) undone fine kept = absurd (undone refl)
growth_kept (Err end) undone fine kept = kept (λ is. fine (ap growing_status is))

pub done_so : {X P Q : Type 0} (ended : Result X (End GrowRefusal)) → (P → Q) → OnOk ended P → OnOk ended Q
done_so (Ok done) follows holds = follows holds
done_so (Err end) follows holds = tt
