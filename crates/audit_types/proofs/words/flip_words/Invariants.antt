use Rattle.std.proofs.Common.{◌≡◌, ℕ, ◌<◌, ◌≤◌, get_or, length, bit_and}
use Rattle.std.specs.Int.{bit_not, w64}
use Rattle.audit_types.specs.Limits.{most_words}
use Rattle.audit_types.specs.Words.{row_mask}
use Rattle.audit_types.proofs.words.flip_words.Given as goal

abbrev pub invariant-loop-k : goal.invariant-loop-k
invariant-loop-k l = record {
  words_are : length l.words ≡ most_words;
  done : (j : ℕ) → j < l.k → get_or l.words j 0 ≡ bit_and (bit_not w64 (get_or l.initial.words j 0)) (row_mask l.n j);
  left : (j : ℕ) → l.k ≤ j → get_or l.words j 0 ≡ get_or l.initial.words j 0;
}
