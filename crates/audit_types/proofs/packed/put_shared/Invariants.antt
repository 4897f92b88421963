use Rattle.std.proofs.Common.{◌≡◌, ℕ, ◌<◌, ◌≤◌, get_or, length, bit_and}
use Rattle.audit_types.specs.Limits.{most_words}
use Rattle.audit_types.proofs.packed.put_shared.Given as goal

abbrev pub invariant-loop-k : goal.invariant-loop-k
invariant-loop-k l = record {
  words_are : length l.shared ≡ most_words;
  done : (j : ℕ) → j < l.k → get_or l.shared j 0 ≡ bit_and (get_or l.words j 0) (get_or l.others j 0);
  left : (j : ℕ) → l.k ≤ j → get_or l.shared j 0 ≡ get_or l.initial.shared j 0;
}
