use Rattle.std.proofs.Common.{◌≡◌, ◌≢◌, ℕ, ◌<◌, ◌≤◌, true, false, pos, get_or}
use Rattle.audit_types.specs.Truth.{number_at}
use Rattle.sum_basis.specs.Reach.{without_new}
use Rattle.sum_basis.proofs.reach.is_near_whole.Given as goal

-- no column so far is near, and whether the row is 0 at all of them
abbrev pub invariant-loop-j : goal.invariant-loop-j
invariant-loop-j l = record {
  none : l.met ≡ false → (i : ℕ) → i < l.j → without_new l.new (number_at l.row) i ≡ pos 0;
  some : l.met ≡ true → (i : ℕ) × (without_new l.new (number_at l.row) i ≢ pos 0);
  far : (i : ℕ) → i < l.j → without_new l.new (number_at l.row) i ≢ pos 0 → l.reach ≤ get_or l.counts i 0;
}
