use Rattle.std.proofs.Common.{◌≡◌, ◌*◌, ◌≤◌, length}
use Rattle.audit_types.specs.Rows.{rows_that}
use Rattle.audit_types.specs.Words.{has_bit}
use Rattle.audit_types.proofs.words.count_bits.Given as goal

abbrev pub invariant-loop-k : goal.invariant-loop-k
invariant-loop-k l = record {
  counted : l.count ≡ length (rows_that (has_bit l.words) (64 * l.k));
  few : l.count ≤ 64 * l.k;
}
