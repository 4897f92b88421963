use Rattle.std.proofs.Common.{◌≡◌}
use Rattle.sum_basis.specs.Keys.{AreForeseen}
use Rattle.sum_basis.proofs.column_keys.forget_touched.Given as goal

abbrev pub invariant-loop-k : goal.invariant-loop-k
invariant-loop-k l = record {
  weights : l.kept.weights ≡ l.initial.kept.weights;
  foreseen : AreForeseen l.form l.list l.k l.kept;
}
