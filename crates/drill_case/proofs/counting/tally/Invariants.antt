use Rattle.std.proofs.Common.{List, length, take}
use Rattle.drill_case.specs.declared.kinds.ReplyKind.{ReplyKind}
use Rattle.std.specs.List.{slice_split}
use Rattle.line_wire.specs.Lines.{is_feed}
use Rattle.drill_case.specs.Tallies.{Counts, HaveKinds}
use Rattle.drill_case.proofs.KindsInOrder.{lines_of}
use Rattle.drill_case.proofs.counting.tally.Given as goal

abbrev pub invariant-loop-line : goal.invariant-loop-line
invariant-loop-line l = record {
  kinds : List ReplyKind;
  are : HaveKinds (lines_of (take (length l.yielded) (slice_split is_feed l.sent))) kinds;
  counts : Counts kinds l.tally;
}
