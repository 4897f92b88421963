use Rattle.max_bounds.proofs.Lowering.{IsLowering}
use Rattle.max_bounds.proofs.upper_bounds.lower.Given as goal

abbrev pub invariant-loop-row : goal.invariant-loop-row
invariant-loop-row l = IsLowering l.fn.answer l.fn.rows.list l.fn.bounds l.row-iterator l.bounds
