use Rattle.std.proofs.Common.{◌≡◌, ◌+ℤ◌, ◌++◌, ◌*◌, ◌^◌, ◌≤◌, length}
use Rattle.std.specs.Prelude.{unsigned_abs}
use Rattle.audit_types.specs.Truth.{sum_over}
use Rattle.oracles.proofs.truths.sum_over.Given as goal

abbrev pub invariant-loop-row : goal.invariant-loop-row
invariant-loop-row l = record {
  together : l.yielded ++ l.row-iterator ≡ l.rows.list;
  sum : l.sum +ℤ sum_over l.numbers l.row-iterator ≡ sum_over l.numbers l.rows.list;
  small : unsigned_abs l.sum ≤ 10 ^ 12 * length l.yielded;
}
