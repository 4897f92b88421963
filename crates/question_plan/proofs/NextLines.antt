-- What a call of the cutter gave, by its answer.
use Rattle.std.proofs.Common.{rules, ◌≡◌, ◌≢◌, ◌++◌, true, Result, Ok, Err, IfOk, IfErr, refl}
use Rattle.bench_core.specs.declared.source.Source.{Ghosts}
use Rattle.bench_core.specs.Causes.{Rose}
use Rattle.line_wire.specs.Lines.{text, long, counted_lines}
use Rattle.line_wire.specs.Cutter.{Cutter}
use Rattle.line_wire.specs.Calls.{GivesNext, IsStopped}
use Rattle.line_wire.specs.ReadLines.{OneLineIsRead}
use Rattle.line_wire.specs.Steps.{Advances, Answers, Counts, ShowsText, Stops, StopsWithin}
use Rattle.line_wire.specs.declared.lines.Next.{Next}
use Rattle.line_wire.specs.declared.lines.Next.TheVariants as next
use Rattle.bench_core.specs.declared.stops.Stop.{Stop}
use Rattle.bench_core.specs.declared.stops.Stop.TheVariants as stop

-- the answer of a call that was refused
abbrev pub refused_by : Stop → Result Next Stop
refused_by why = Err why

module _ {P : Type 0} (source : Ghosts P) (old new : Cutter) (before after : P) where
  -- a line, or none
  gave : OneLineIsRead → (given : Next)
      → (source.told → Answers given (old.pending ++ source.left before) new (source.left after))
      → (source.told → Counts given (counted_lines (old.pending ++ source.left before)) new.text (counted_lines (new.pending ++ source.left after)))
      → Advances old new given → ShowsText (Ok given) new.text → source.faults after ≡ source.faults before
      → GivesNext source old new before after given
  gave one next.Line answer counted advances shows steady = (
    record {
      reads =
          λ told. one (old.pending ++ source.left before) (new.pending ++ source.left after) new.ended (text new.text) (answer told) (counted told);
      takes = advances;
      steady = steady;
    },
    shows,
  )
  gave one next.Long answer counted advances shows steady = record {
    reads = λ told. one (old.pending ++ source.left before) (new.pending ++ source.left after) new.ended long (answer told) (counted told);
    takes = advances;
    steady = steady;
  }
  gave one next.End answer counted advances shows steady = record {
    nothing = λ told. (answer told).0;
    none = λ told. counted told;
    steady = steady;
  }

  pub gives_next : OneLineIsRead → (answered : Result Next Stop)
      → (source.told → IfOk answered (λ given. Answers given (old.pending ++ source.left before) new (source.left after)))
      → (source.told → IfOk answered (λ given. Counts given (counted_lines (old.pending ++ source.left before)) new.text
      (counted_lines (new.pending ++ source.left after))))
      → IfOk answered (Advances old new) → ShowsText answered new.text → (answered ≢ refused_by stop.Input → source.faults after ≡ source.faults before)
      → IfOk answered (GivesNext source old new before after)
  gives_next one (Ok given) answer counted advances shows steady = gave one given answer counted advances shows (steady (search rules))
  gives_next one (Err why) answer counted advances shows steady = tt

  -- no answer
  stopped : (why : Stop) → (source.told → Stops why (old.pending ++ source.left before) new (source.left after)) → StopsWithin why new
      → (refused_by why ≢ refused_by stop.Input → source.faults after ≡ source.faults before)
      → (refused_by why ≡ refused_by stop.Input → Rose (source.faults before) (source.faults after))
      → (refused_by why ≡ refused_by stop.Input → source.last_failed after ≡ true)
      → (old.ended ≡ true → (after ≡ before) × (new.ended ≡ true) × (refused_by why ≡ refused_by stop.Input → ⊥))
      → IsStopped source old new before after why
  stopped stop.Input stops within steady input last once = record {
    going = λ ended. (once ended).2 refl;
    stops = stops;
    within = within;
    rose = input refl;
    last = last refl;
  }
  stopped stop.Limit stops within steady input last once = record { stops = stops; over = within.0; some = within.1; steady = steady (search rules) }
  stopped other stops within steady input last once = within

  pub is_stopped : (answered : Result Next Stop)
      → (source.told → IfErr answered (λ why. Stops why (old.pending ++ source.left before) new (source.left after)))
      → IfErr answered (λ why. StopsWithin why new)
      → (answered ≢ refused_by stop.Input → source.faults after ≡ source.faults before)
      → (answered ≡ refused_by stop.Input → Rose (source.faults before) (source.faults after))
      → (answered ≡ refused_by stop.Input → source.last_failed after ≡ true)
      → (old.ended ≡ true → (after ≡ before) × (new.ended ≡ true) × (answered ≡ refused_by stop.Input → ⊥))
      → IfErr answered (IsStopped source old new before after)
  is_stopped (Ok given) stops within steady input last once = tt
  is_stopped (Err why) stops within steady input last once = stopped why stops within steady input last once
