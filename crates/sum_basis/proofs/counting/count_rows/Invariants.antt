use Rattle.std.proofs.Common.{◌≡◌, ℕ, ◌≤◌, [], length, get_or}
use Rattle.sum_basis.proofs.Reaching.{AreFirstCounts}
use Rattle.sum_basis.proofs.counting.count_rows.Given as goal

abbrev pub invariant-loop-k : goal.invariant-loop-k
invariant-loop-k l = record {
  long : length l.counts ≡ l.form.n;
  few : (j : ℕ) → get_or l.counts j 0 ≤ l.k;
  counted : AreFirstCounts l.form.n l.form.rows [] l.form.rows l.k l.counts;
}
