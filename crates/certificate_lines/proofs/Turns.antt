-- The turns of explaining: a line of the input is planned, and what is due to it is written and sent.
use Rattle.std.proofs.Common.{◌∷◌, ◌++◌, List, ℕ, [], Err}
use Rattle.audit_types.specs.declared.records.Answered.{Answered}
use Rattle.bench_core.specs.declared.bench.Bench.{Ghosts}
use Rattle.bench_core.specs.declared.source.Source.{Ghosts as SourceGhosts}
use Rattle.bench_core.specs.declared.stops.Stop.{Stop}
use Rattle.bench_core.specs.declared.stops.Stop.TheVariants as stop
use Rattle.bench_core.specs.declared.stops.End.TheVariants.{Stopped}
use Rattle.set_index.specs.Indexed.{IndexView, public_setting}
use Rattle.line_wire.specs.Lines.{CountedLine}
use Rattle.line_wire.specs.Calls.{Cuts}
use Rattle.line_wire.specs.Cutter.{Cutter}
use Rattle.line_wire.specs.Talks.{Talks}
use Rattle.line_wire.specs.TalkSoFar.{SoFar, limit_passed, read_failed, wants_memory}
use Rattle.question_plan.specs.declared.planning.Plan.{Plan}
use Rattle.question_plan.specs.Planned.{GivesPlan, IsUnplanned}
use Rattle.certificate_lines.specs.Explained.{IsExplained, IsLineOf, AreExplained, explanations}

module _ (index : IndexView) (history : List Answered) where
  -- what is due to one line more
  explained-push : (asked : List CountedLine) (lines : List (List ℕ)) (next : CountedLine) (line : List ℕ) → AreExplained index history asked lines →
      IsExplained index history next line → AreExplained index history (asked ++ next ∷ []) (lines ++ line ∷ [])
  explained-push [] [] next line are is = (is, tt)
  explained-push [] (l ∷ lines) next line are is = absurd are
  explained-push (a ∷ asked) [] next line are is = absurd are
  explained-push (a ∷ asked) (l ∷ lines) next line are is = (are.0, explained-push asked lines next line are.1 is)

  module _ {P B : Type 0} {source : SourceGhosts P} {bench : Ghosts B} {first_source from : P} {first at : B} {cutter : Cutter}
      {asked : List CountedLine} {lines : List (List ℕ)}
      (so_far : SoFar source bench (explanations index history) first_source from first at cutter asked lines) {new : Cutter} {after : P} where
    -- the line of a plan is due to the line that was planned
    pub line_due : {plan : Plan} (gives : GivesPlan source cutter new from after index plan) (line : List ℕ) →
        IsLineOf (public_setting index) history plan line →
        AreExplained index history (asked ++ gives.line ∷ []) (lines ++ line ∷ [])
    line_due {plan} gives line line_of =
        explained-push asked lines gives.line line so_far.due (record { plan = plan; planned = gives.planned; line_of = line_of })

    -- none was planned
    pub unplanned : Cuts source cutter new from after → (why : Stop) → IsUnplanned source cutter new from after why →
        Talks source bench (explanations index history) first_source after first at (Err (Stopped why))
    unplanned cuts stop.Input short = read_failed so_far cuts short
    unplanned cuts stop.Limit short = limit_passed so_far cuts short
    unplanned cuts stop.NoMemory short = wants_memory so_far short
    unplanned cuts other short = absurd short
