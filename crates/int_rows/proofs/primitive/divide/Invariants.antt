use Rattle.int_rows.specs.Exact.{IsPartlyDivided}
use Rattle.int_rows.proofs.primitive.divide.Given as goal

abbrev pub invariant-loop-x : goal.invariant-loop-x
invariant-loop-x l = IsPartlyDivided l.initial.row l.row l.by l.x-index
