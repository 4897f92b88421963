use Rattle.std.proofs.Common.{◌≡◌, ℕ, ◌<◌, length, get_or}
use Rattle.std.specs.Prelude.{Contains}
use Rattle.sum_basis.specs.Keys.{IsKeyAmong}
use Rattle.sum_basis.proofs.column_keys.write_keys_of.Given as goal

abbrev pub invariant-loop-k : goal.invariant-loop-k
invariant-loop-k l = record {
  long : length l.keys ≡ length l.initial.keys;
  written : (i : ℕ) → i < l.k → IsKeyAmong l.some (get_or l.some.columns.items i 0) (get_or l.keys (get_or l.some.columns.items i 0) 0);
  others : (q : ℕ) → ¬ (Contains l.some.columns.items q) → get_or l.keys q 0 ≡ get_or l.initial.keys q 0;
}
