use Rattle.std.proofs.Common.{◌≢◌, ℕ, ◌<◌, ◌≤◌, [], length, get_or}
use Rattle.audit_types.specs.Form.{pivot}
use Rattle.sum_basis.specs.Keys.{AreColumnKeys, IsColumnPoint, point_at}
use Rattle.sum_basis.proofs.column_keys.renew_points.Given as goal

-- each column that isn't the pivot of a row that is left has its point
abbrev pub invariant-loop-k : goal.invariant-loop-k
invariant-loop-k l = record {
  kept : AreColumnKeys l.form l.kept;
  points : (q : ℕ) → q < l.form.n → ((j : ℕ) → l.k ≤ j → j < length l.form.rows → pivot (get_or l.form.rows j []) ≢ q) →
      IsColumnPoint l.form l.kept.weights.items q (point_at l.kept.points.items q);
}
