-- What the end of the opening of a journal comes to, by cases on it.
use Rattle.std.proofs.Common.{rules, ◌≡◌, ℕ, List, Some, true}
use Rattle.std.specs.Prelude.{⊤}
use Rattle.audit_types.specs.History.{Table as Guarded}
use Rattle.bench_core.specs.Ends.{EndsBy, IsStop}
use Rattle.bench_core.specs.Stops.{IsOfBench}
use Rattle.bench_core.specs.declared.stops.End.{End}
use Rattle.bench_core.specs.declared.stops.End.TheVariants.{Stopped}
use Rattle.bench_core.specs.declared.stops.Stop.TheVariants as stop
use Rattle.answer_journal.specs.declared.refusals.JournalRefusal.{JournalRefusal}
use Rattle.auditor_top.specs.declared.words.Command.{Command}
use Rattle.auditor_top.specs.Causes.{FileCause, OpeningCause, WordCause}
use Rattle.auditor_top.specs.Commands.{comes_to_journal}
use Rattle.auditor_top.specs.Ready.{EndsEarly}
use Rattle.auditor_top.specs.Ready as ready
use Rattle.auditor_top.specs.Faults.{start_status}
use Rattle.auditor_top.proofs.StepStatuses.{EndsLastStep}

-- what its status says by itself
pub record StartSays (end : End JournalRefusal) : Type 0 where
  pub early : EndsEarly (start_status end)
  pub last : EndsLastStep (start_status end)
  pub words : (asked : Command) → comes_to_journal asked ≡ true → WordCause (start_status end) (Some asked)
  pub file : (asked : Command) (file : List ℕ) (table : Guarded) → EndsBy IsOfBench (λ refusal. OpeningCause refusal asked file table) end →
      FileCause (start_status end) asked file table
  pub gives_up : IsStop end → ready.GivesUp (start_status end)

pub start_says : (end : End JournalRefusal) → EndsBy IsOfBench (λ _. ⊤) end → StartSays end
start_says (Stopped stop.Input) by = absurd by
start_says (Stopped stop.Limit) by = absurd by
start_says (Stopped stop.Spare) by = absurd by
start_says end by = search rules
