-- What a last step comes to that only a call of the outside ends early: answering lines over one journal or two, explaining them, a report, a
-- drill.
use Rattle.std.proofs.Common.{◌≡◌, ◌≢◌, true, false, Result, Err, refl, sym, ◌∙◌, ap}
use Rattle.std.proofs.lemmas.Bool.{true≢false}
use Rattle.audit_types.specs.History.{Table}
use Rattle.bench_core.specs.Calls.{IsQuiet}
use Rattle.bench_core.specs.declared.bench.Bench.{Ghosts}
use Rattle.bench_core.specs.declared.source.Source as source
use Rattle.bench_core.specs.declared.stops.Stop.{Stop}
use Rattle.bench_core.specs.declared.stops.Stop.TheVariants as stop
use Rattle.auditor_top.specs.declared.ready.Ready.{Ready}
use Rattle.auditor_top.specs.Causes.{InputCause, IsReadyFor, IsSpareFor}
use Rattle.auditor_top.specs.Commands.{calls_spare, opens_store, reads_lines, writes}
use Rattle.auditor_top.specs.Faults.{ended_status}
use Rattle.auditor_top.specs.Ready.{command_for}
use Rattle.auditor_top.specs.Runs.{Objects}
use Rattle.auditor_top.proofs.Failures.{TellsStop, ended_tells}
use Rattle.auditor_top.proofs.LastSteps.{StepEnds, table_for}
use Rattle.auditor_top.proofs.StepFaults.{stop_says}
use Rattle.auditor_top.proofs.StepStatuses.{IsUnrefused}

-- what such a step says by how it ended
pub record StopEnds {P I B X : Type 0} (lines : source.Ghosts I) (bench : Ghosts B) (ready : Ready) (ended : Result X Stop) (mid new : Objects P I B) :
    Type 0 where
  -- which calls may end it
  pub input : ended ≡ Err stop.Input → reads_lines (command_for ready) ≡ true
  pub limit : ended ≡ Err stop.Limit → reads_lines (command_for ready) ≡ true
  pub other : ended ≡ Err stop.Spare → calls_spare (command_for ready) ≡ true
  pub tells : TellsStop lines bench (λ why. ended ≡ Err why) mid.input new.input mid.bench new.bench mid.spare new.spare
  -- the files were taken, and how much of the input there was
  pub file : bench.told → (table : Table) →
      (opens_store (command_for ready) ≡ true → IsReadyFor (command_for ready) (bench.file mid.bench) (table_for ready table)) →
      IsReadyFor (command_for ready) (bench.file mid.bench) (table_for ready table)
  pub spare_file : bench.told → IsSpareFor (command_for ready) (bench.file mid.spare)
  pub reads : lines.told → reads_lines (command_for ready) ≡ true → InputCause (ended_status ended) (lines.left mid.input) (lines.left new.input)
  -- what it leaves alone
  pub quiet : bench.told → IsQuiet bench mid.bench → ended ≢ Err stop.Bench → IsQuiet bench new.bench
  pub never_written : bench.told → writes (command_for ready) ≡ false → bench.file new.bench ≡ bench.file mid.bench
  pub no_lines : reads_lines (command_for ready) ≡ false → new.input ≡ mid.input
  pub spare : calls_spare (command_for ready) ≡ false → new.spare ≡ mid.spare

pub stop_ends : {P I B X : Type 0} (lines : source.Ghosts I) (bench : Ghosts B) (ready : Ready) (ended : Result X Stop) (mid new : Objects P I B) →
    StopEnds lines bench ready ended mid new → StepEnds lines bench ready (ended_status ended) mid new
stop_ends lines bench ready ended mid new ends =
    let says = stop_says ended in
    record {
      last = says.last;
      words = says.words (command_for ready) ends.input ends.limit ends.other;
      file = λ told table for. says.file (command_for ready) (bench.file mid.bench) (table_for ready table) (ends.file told table for);
      spare_file = λ told calls. says.spare_file (command_for ready) (bench.file mid.spare) (ends.spare_file told);
      input = ends.reads;
      tells = ended_tells lines bench ended ends.tells;
      quiet = λ told quiet fine. ends.quiet told quiet (λ is. fine (ap ended_status is));
      nothing_began = λ told opens closed quiet table unready.
          absurd (unready (ends.file told table (λ store. absurd (true≢false (sym store ∙ closed)))));
      before_lines = says.at_lines _;
      unwritten = λ told. says.at_lines _;
      before_spare = λ calls other. says.at_spare _;
      never_written = ends.never_written;
      no_lines = ends.no_lines;
      spare = ends.spare;
    }

-- if the limit wasn't passed it wasn't refused
pub stop_unrefused : {X : Type 0} (ended : Result X Stop) → ended ≢ Err stop.Limit → IsUnrefused (ended_status ended)
stop_unrefused (Err stop.Limit) within = absurd (within refl)
stop_unrefused (Err stop.Input) within = tt
stop_unrefused ended within = tt
