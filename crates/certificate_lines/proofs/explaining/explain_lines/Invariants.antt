use Rattle.std.proofs.Common.{◌+◌, ◌-◌, ◌^◌, length, List, ℕ}
use Rattle.line_wire.specs.Lines.{CountedLine}
use Rattle.line_wire.specs.TalkSoFar.{SoFar}
use Rattle.certificate_lines.specs.Explained.{explanations}
use Rattle.certificate_lines.specs.Provers.{AreProversOf}
use Rattle.certificate_lines.proofs.explaining.explain_lines.Given as goal

abbrev pub invariant-loop-line : goal.invariant-loop-line
invariant-loop-line g l = record {
  talk : (asked : List CountedLine) × (lines : List (List ℕ)) ×
      SoFar g.P.Source g.B.Bench (explanations l.index l.core.history) l.fn.source l.source l.fn.bench l.bench l.planner asked lines;
  provers : AreProversOf l.core.setting l.core.history l.provers;
}

abbrev pub decreases-loop-line : goal.decreases-loop-line
decreases-loop-line g l = 2 ^ 30 + length l.planner.pending - l.planner.taken
