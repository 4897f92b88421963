use Rattle.std.proofs.Common.{◌≡◌, ℕ, ◌+◌, ◌<◌, ◌≤◌, length, get_or, bit_and}
use Rattle.audit_types.proofs.packed.and_packed.Given as goal

abbrev pub invariant-loop-j : goal.invariant-loop-j
invariant-loop-j l = record {
  words_are : length l.words ≡ length l.initial.words;
  done : (j : ℕ) → j < l.j → get_or l.words (l.start + j) 0 ≡ bit_and (get_or l.initial.words (l.start + j) 0) (get_or l.others j 0);
  before : (i : ℕ) → i < l.start → get_or l.words i 0 ≡ get_or l.initial.words i 0;
  left : (i : ℕ) → l.start + l.j ≤ i → get_or l.words i 0 ≡ get_or l.initial.words i 0;
}
