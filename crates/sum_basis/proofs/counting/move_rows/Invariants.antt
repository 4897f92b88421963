use Rattle.std.proofs.Common.{◌≡◌, ℕ, ◌+◌, ◌≤◌, ℤ, List, length, get_or}
use Rattle.sum_basis.specs.Reach.{IsGrownBy}
use Rattle.sum_basis.proofs.Moving.{AreMoved}
use Rattle.sum_basis.proofs.counting.move_rows.Given as goal

abbrev pub invariant-loop-k : goal.invariant-loop-k
invariant-loop-k l = record {
  long : length l.counts ≡ l.form.n;
  few : (j : ℕ) → get_or l.counts j 0 ≤ length l.form.rows + l.k + 1;
  moved : (grown : List (List ℤ)) → IsGrownBy l.form l.new grown → AreMoved l.form.n l.form.rows l.new grown l.k l.counts;
}
