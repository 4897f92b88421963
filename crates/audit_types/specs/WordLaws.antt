-- The words of a set of rows are fixed by its rows.
use Rattle.std.proofs.Common.{◌≡◌, ℕ, zero, suc, ◌+◌, ◌-◌, ◌*◌, ◌/◌, ◌%◌, ◌^◌, ◌<◌, ◌≤◌, Bool, true, false, cond, List, [], ◌==◌, refl, sym, ap, ◌∙◌, arith, length, get_or, set, take, inl, inr, one-add, pow_mono, replicate, ◌||◌, get_or-set_same, get_or-set_other, length-set, ◌&&◌, min, max, not}
use Rattle.std.proofs.Math.Bool.{or-false}
use Rattle.std.proofs.lemmas.List.{get_or_past, get_or-take, length-take, length-take-le}
use Rattle.std.specs.Int.Bits.{or_zero_l}
use Rattle.std.specs.Prelude.{bit_or, bit_and, nat_lt}
use Rattle.std.specs.Int.{bit_at, bit_not, w64}
use Rattle.std.proofs.lemmas.Bool.{cases_lt, cases_eq, eq-eqb, ne_eqb, lt-ltb, le-ltb, true≢false, or_right}
use Rattle.std.proofs.lemmas.Bool.Decides.{nat_tests}
use Rattle.std.proofs.lemmas.Nat.{mod-pow-add, pow-add, pow_pos, or_lt, and_le_l, and_le_r}
use Rattle.std.proofs.lemmas.Nat.Bits.{bit_at-lt, bit_at_and, bit_at_or, bit_at_set_same, bit_at_set_other, bit_at-zero, bit_at_ones, bit_at_ones_above, bit_at_not, bit_at_above, same_from_bits, shr_and_one}
use Rattle.std.proofs.Math.Nat.{div-div-eq-div-mul}
use Rattle.std.proofs.lemmas.List.FromFn.{fill_by_all}
use Rattle.audit_types.specs.Limits.{most_rows, most_words}
use Rattle.audit_types.specs.Rows.{Rows, has_row, rows_that, intersection, union, complement}
use Rattle.audit_types.specs.RowLaws.{has-rows_that, has-rows_that_above, rows_that_agree, rows_that_none, rows_that_longer}
use Rattle.audit_types.specs.Words.{has_bit, rows_of_words, row_mask, rows_of_set, set_of_rows, words_of, word_of, bits_that, AreWords, IsSetOfWords, words_over}
use Rattle.audit_types.specs.declared.rows.RowSet.TheInside.{Inside}

-- a bit is worth its power or nothing
one_bit : (x k : ℕ) → cond (bit_at x k == 1) (2 ^ k) 0 ≡ bit_at x k * 2 ^ k
one_bit x k =
    elim (cases_eq (bit_at x k) 1) [
      | inl e ↦ rw e (omega arith)
      | inr e ↦ let z : bit_at x k ≡ 0 = omega (arith, bit_at-lt x k) in rw z (omega arith)
    ]

-- the bits of a number make its rest
bits-number : (x k : ℕ) → bits_that (λ i. bit_at x i == 1) k ≡ x % 2 ^ k
unfolding bits_that
bits-number x zero = omega arith
bits-number x (suc k) =
    let front : bits_that (λ i. bit_at x i == 1) k ≡ x % 2 ^ k = bits-number x k in
    let last : cond (bit_at x k == 1) (2 ^ k) 0 ≡ bit_at x k * 2 ^ k = one_bit x k in
    let both : x % 2 ^ (suc k) ≡ (x / 2 ^ k % 2 ^ 1) * 2 ^ k + x % 2 ^ k = ap (λ m. x % 2 ^ m) (sym (one-add k)) ∙ mod-pow-add x 1 k in
    rw (front, last, both) (omega arith)

-- tests that agree below k make one number
bits_that_agree : (p q : ℕ → Bool) (k : ℕ) → ((i : ℕ) → i < k → p i ≡ q i) → bits_that p k ≡ bits_that q k
unfolding bits_that
bits_that_agree p q zero h = refl
bits_that_agree p q (suc k) h =
    let front : bits_that p k ≡ bits_that q k = bits_that_agree p q k (λ i l. h i (omega arith)) in
    let last : p k ≡ q k = h k (omega arith) in
    cc

-- the rows of a set of words are those with a bit
pub has-view : (n : ℕ) (words : List ℕ) → AreWords n words → (r : ℕ) → has_row (rows_that (has_bit words) n) r ≡ has_bit words r
has-view n words h r =
    elim (cases_lt r n) [
      | inl l ↦ has-rows_that (has_bit words) n r l
      | inr l ↦ has-rows_that_above (has_bit words) n r l ∙ sym (h.none_above r l)
    ]

-- a bit of a word, as a row
pub same_place : (words : List ℕ) (k i : ℕ) → i < 64 → has_bit words (64 * k + i) ≡ (bit_at (get_or words k 0) i == 1)
same_place words k i l =
    let row : (64 * k + i) / 64 ≡ k = omega arith in
    let bit : (64 * k + i) % 64 ≡ i = omega arith in
    ap (λ m. bit_at (get_or words m 0) ((64 * k + i) % 64) == 1) row ∙ ap (λ m. bit_at (get_or words k 0) m == 1) bit

-- the word at a place is that of the rows
word-at : (n : ℕ) (words : List ℕ) → AreWords n words → (k : ℕ) → word_of (rows_that (has_bit words) n) k ≡ get_or words k 0
word-at n words h k =
    let range : get_or words k 0 < 2 ^ 64 = h.ranges k in
    bits_that_agree _ (λ i. bit_at (get_or words k 0) i == 1) 64 (λ i l. has-view n words h (64 * k + i) ∙ same_place words k i l) ∙ bits-number (get_or words k 0) 64 ∙ omega arith

-- the words are those of their rows
pub words-words_of : (n : ℕ) (words : List ℕ) → AreWords n words → words_of (rows_that (has_bit words) n) ≡ words
words-words_of n words h = sym (fill_by_all (word_of (rows_that (has_bit words) n)) words most_words 0 h.words_are (λ k l. sym (word-at n words h k)))

-- a set is that of its rows
pub words-rows : (a : Inside) → IsSetOfWords a → set_of_rows (rows_of_set a) ≡ a
words-rows a h = ap (λ w. record { words = w; n = a.n }) (words-words_of a.n a.words h)

-- the code's test of a bit
pub tested : (words : List ℕ) (r : ℕ) → (bit_and (get_or words (r / 64) 0 / 2 ^ (r % 64)) 1 == 1) ≡ has_bit words r
tested words r = ap (λ b. b == 1) (shr_and_one (get_or words (r / 64) 0) (r % 64))

-- a bit of a shifted number
bit_at-shr : (x s i : ℕ) → bit_at (x / 2 ^ s) i ≡ bit_at x (s + i)
bit_at-shr x s i = ap (λ q. q % 2) (div-div-eq-div-mul x (2 ^ s) (2 ^ i) ∙ ap (λ p. x / p) (sym (pow-add 2 s i)))

-- a bit of a number's last eight
bit_of_byte : (x i : ℕ) → i < 8 → bit_at (bit_and x 255) i ≡ bit_at x i
bit_of_byte x i l = bit_at_and x 255 i ∙ ap (min (bit_at x i)) (bit_at_ones 8 i l) ∙ omega (arith, bit_at-lt x i)

-- the code's byte has the bits of eight rows
pub byte_bits : (words : List ℕ) (at i : ℕ) → i < 8 → (bit_at (bit_and (get_or words (at / 8) 0 / 2 ^ (8 * (at % 8))) 255) i == 1) ≡ has_bit words (8 * at + i)
byte_bits words at i l =
    let bit : 8 * (at % 8) + i < 64 = omega arith in
    let place : 64 * (at / 8) + (8 * (at % 8) + i) ≡ 8 * at + i = omega arith in
    ap (λ b. b == 1) (bit_of_byte (get_or words (at / 8) 0 / 2 ^ (8 * (at % 8))) i l ∙ bit_at-shr (get_or words (at / 8) 0) (8 * (at % 8)) i)
    ∙ sym (same_place words (at / 8) (8 * (at % 8) + i) bit)
    ∙ ap (has_bit words) place

-- a number with no bit from k on is below that power
pub below_by_bits : (b k : ℕ) → ((i : ℕ) → k ≤ i → bit_at b i ≡ 0) → b < 2 ^ k
below_by_bits b k none =
    let same : b ≡ bit_and b (2 ^ k - 1) = same_from_bits b (bit_and b (2 ^ k - 1)) (λ i. elim (cases_lt i k) [
      | inl l ↦ sym (bit_at_and b (2 ^ k - 1) i ∙ ap (min (bit_at b i)) (bit_at_ones k i l) ∙ omega (arith, bit_at-lt b i))
      | inr l ↦ none i l ∙ sym (bit_at_and b (2 ^ k - 1) i ∙ ap (min (bit_at b i)) (bit_at_ones_above k i l) ∙ omega arith)
    ]) in
    omega (arith, same, and_le_r b (2 ^ k - 1), pow_pos k)

-- a bit that is not 1 is 0
pub no_one : (x i : ℕ) → (bit_at x i == 1) ≡ false → bit_at x i ≡ 0
no_one x i e = elim (cases_eq (bit_at x i) 1) [
  | inl one ↦ absurd (true≢false (sym (eq-eqb _ _ one) ∙ e))
  | inr other ↦ omega (arith, bit_at-lt x i)
]

-- and no bit past the last row
pub byte_below : (n : ℕ) (words : List ℕ) (at : ℕ) → AreWords n words → bit_and (get_or words (at / 8) 0 / 2 ^ (8 * (at % 8))) 255 < 2 ^ (n - 8 * at)
byte_below n words at h =
    let byte : ℕ = bit_and (get_or words (at / 8) 0 / 2 ^ (8 * (at % 8))) 255 in
    below_by_bits byte (n - 8 * at) (λ i above. elim (cases_lt i 8) [
      | inl l ↦ no_one byte i (byte_bits words at i l ∙ h.none_above (8 * at + i) (omega arith))
      | inr l ↦ bit_at_above byte 8 i (omega (arith, and_le_r (get_or words (at / 8) 0 / 2 ^ (8 * (at % 8))) 255)) l
    ])

-- a word of rows past the last has no bit
pub no_bits_past : (n : ℕ) (words : List ℕ) → AreWords n words → (k : ℕ) → n ≤ 64 * k → get_or words k 0 ≡ 0
no_bits_past n words h k past =
    let range : get_or words k 0 < 2 ^ 64 = h.ranges k in
    let none : get_or words k 0 < 2 ^ 0 = below_by_bits (get_or words k 0) 0 (λ i l. elim (cases_lt i 64) [
      | inl m ↦ no_one (get_or words k 0) i (sym (same_place words k i m) ∙ h.none_above (64 * k + i) (omega arith))
      | inr m ↦ bit_at_above (get_or words k 0) 64 i range m
    ]) in
    omega arith

-- the words that n rows take hold what all do
pub word_used : (n : ℕ) (words : List ℕ) → AreWords n words → (k : ℕ) → get_or (take (words_over n) words) k 0 ≡ get_or words k 0
word_used n words h k = elim (cases_lt k (words_over n)) [
  | inl l ↦ get_or-take (words_over n) words k 0 l
  | inr l ↦ get_or_past (take (words_over n) words) k 0 (omega (arith, length-take (words_over n) words)) ∙ sym (no_bits_past n words h k (omega arith))
]

-- and they are at least one, and at most all of them
pub words_used : (n : ℕ) (words : List ℕ) → AreWords n words → (length (take (words_over n) words) ≡ words_over n) × (0 < words_over n) × (words_over n ≤ most_words)
words_used n words h =
    let within : words_over n ≤ length words = omega (arith, h.words_are, h.at_most) in
    (length-take-le (words_over n) words within, omega (arith, h.some), omega (arith, h.at_most))

-- so they have the same rows
pub rows_used : (n : ℕ) (words : List ℕ) → AreWords n words → (m : ℕ) → rows_that (has_bit (take (words_over n) words)) m ≡ rows_that (has_bit words) m
rows_used n words h m = rows_that_agree _ _ m (λ r l. ap (λ x. bit_at x (r % 64) == 1) (word_used n words h (r / 64)))

-- a list of zeros is 0 everywhere
pub zero_at : (k i : ℕ) → ◌≡◌ {A = ℕ} (get_or (replicate k 0) i 0) 0
zero_at zero i = refl
zero_at (suc k) zero = refl
zero_at (suc k) (suc i) = zero_at k i

-- no bit of no words
pub no_bit : (k r : ℕ) → has_bit (replicate k 0) r ≡ false
no_bit k r = rw (zero_at k (r / 64), bit_at-zero (r % 64)) refl

-- words without a bit are words of an empty set
pub AreWords-none : (n : ℕ) → 0 < n → n ≤ most_rows → AreWords n (replicate most_words 0)
AreWords-none n s h = record { some = s; at_most = h; words_are = refl; ranges = λ k. omega (arith, zero_at most_words k); none_above = λ r l. no_bit most_words r }

-- a bit is set
pub has_bit-set : (words : List ℕ) (row r : ℕ) → row / 64 < length words →
    has_bit (set words (row / 64) (bit_or (get_or words (row / 64) 0) (1 * 2 ^ (row % 64) % 2 ^ 64))) r ≡ (has_bit words r || (r == row))
has_bit-set words row r l =
    elim (cases_eq (r / 64) (row / 64)) [
      | inl word ↦
          let read : get_or (set words (row / 64) (bit_or (get_or words (row / 64) 0) (1 * 2 ^ (row % 64) % 2 ^ 64))) (r / 64) 0 ≡ bit_or (get_or words (row / 64) 0) (1 * 2 ^ (row % 64) % 2 ^ 64) =
          ap (λ m. get_or (set words (row / 64) (bit_or (get_or words (row / 64) 0) (1 * 2 ^ (row % 64) % 2 ^ 64))) m 0) word ∙ get_or-set_same words (row / 64) _ 0 l in
          elim (cases_eq (r % 64) (row % 64)) [
            | inl bit ↦
                let one : bit_at (bit_or (get_or words (row / 64) 0) (1 * 2 ^ (row % 64) % 2 ^ 64)) (r % 64) ≡ 1 =
                ap (bit_at (bit_or (get_or words (row / 64) 0) (1 * 2 ^ (row % 64) % 2 ^ 64))) bit ∙ bit_at_set_same w64 (get_or words (row / 64) 0) (row % 64) (omega arith) in
                let same : (r == row) ≡ true = eq-eqb r row (omega arith) in
                ap (λ x. bit_at x (r % 64) == 1) read ∙ ap (λ x. x == 1) one ∙ sym (ap (λ b. has_bit words r || b) same ∙ or_right (has_bit words r) true refl)
            | inr bit ↦
                let kept : bit_at (bit_or (get_or words (row / 64) 0) (1 * 2 ^ (row % 64) % 2 ^ 64)) (r % 64) ≡ bit_at (get_or words (row / 64) 0) (r % 64) =
                bit_at_set_other w64 (get_or words (row / 64) 0) (row % 64) (omega arith) (r % 64) bit in
                let other : (r == row) ≡ false = ne_eqb r row (λ e. bit (ap (λ m. m % 64) e)) in
                ap (λ x. bit_at x (r % 64) == 1) read ∙ ap (λ x. x == 1) kept ∙ ap (λ m. bit_at (get_or words m 0) (r % 64) == 1) (sym word) ∙ sym (ap (λ b. has_bit words r || b) other ∙ or-false (has_bit words r))
          ]
      | inr word ↦
          let other : (r == row) ≡ false = ne_eqb r row (λ e. word (ap (λ m. m / 64) e)) in
          ap (λ x. bit_at x (r % 64) == 1) (get_or-set_other words (row / 64) (r / 64) _ 0 word) ∙ sym (ap (λ b. has_bit words r || b) other ∙ or-false (has_bit words r))
    ]

-- the words of a set with one row more, by the code's facts on them
pub AreWords-set : (n : ℕ) (words : List ℕ) (row : ℕ) → row < n → AreWords n words →
    AreWords n (set words (row / 64) (bit_or (get_or words (row / 64) 0) (1 * 2 ^ (row % 64) % 2 ^ 64)))
AreWords-set n words row l h =
    let below : row / 64 < length words = omega (arith, h.words_are, h.at_most) in
    record {
      some = h.some;
      at_most = h.at_most;
      words_are = length-set words (row / 64) _ ∙ h.words_are;
      ranges = λ k. elim (cases_eq k (row / 64)) [
        | inl e ↦ let same = get_or-set_same words (row / 64) (bit_or (get_or words (row / 64) 0) (1 * 2 ^ (row % 64) % 2 ^ 64)) 0 below in
            let wide : bit_or (get_or words (row / 64) 0) (1 * 2 ^ (row % 64) % 2 ^ 64) < 2 ^ 64 = or_lt 64 _ _ (h.ranges (row / 64)) (omega arith) in
            rw (e, same) wide
        | inr e ↦ rw (get_or-set_other words (row / 64) k _ 0 e) (h.ranges k)
      ];
      none_above = λ r m. let other : (r == row) ≡ false = ne_eqb r row (λ e. omega arith) in
          has_bit-set words row r below ∙ rw (h.none_above r m, other) refl;
    }

-- both bits are set
pub min_test : (a b : ℕ) → a < 2 → b < 2 → (min a b == 1) ≡ ((a == 1) && (b == 1))
min_test a b p q = grind (arith, nat_tests)

-- one of two bits is set
pub max_test : (a b : ℕ) → a < 2 → b < 2 → (max a b == 1) ≡ ((a == 1) || (b == 1))
max_test a b p q = grind (arith, nat_tests)

module _ (a b words : List ℕ) (n : ℕ) (p : AreWords n a) (q : AreWords n b) (l : length words ≡ most_words) where
  -- no word is past the last
  zero_past : (xs : List ℕ) → length xs ≡ most_words → (k : ℕ) → most_words ≤ k → get_or xs k 0 ≡ 0
  zero_past xs e k m = get_or_past xs k 0 (omega arith)

  -- every place has the `&` of the two
  all_and : ((k : ℕ) → k < most_words → get_or words k 0 ≡ bit_and (get_or a k 0) (get_or b k 0)) → (k : ℕ) → get_or words k 0 ≡ bit_and (get_or a k 0) (get_or b k 0)
  all_and h k = elim (cases_lt k most_words) [
    | inl m ↦ h k m
    | inr m ↦ zero_past words l k m ∙ sym (ap (λ x. bit_and x (get_or b k 0)) (zero_past a p.words_are k m))
  ]

  -- every place has the `|` of the two
  all_or : ((k : ℕ) → k < most_words → get_or words k 0 ≡ bit_or (get_or a k 0) (get_or b k 0)) → (k : ℕ) → get_or words k 0 ≡ bit_or (get_or a k 0) (get_or b k 0)
  all_or h k = elim (cases_lt k most_words) [
    | inl m ↦ h k m
    | inr m ↦ zero_past words l k m ∙ sym (ap (λ x. bit_or x (get_or b k 0)) (zero_past a p.words_are k m) ∙ or_zero_l (get_or b k 0) ∙ zero_past b q.words_are k m)
  ]

  -- a row is in both
  bit-and : ((k : ℕ) → get_or words k 0 ≡ bit_and (get_or a k 0) (get_or b k 0)) → (r : ℕ) → has_bit words r ≡ (has_bit a r && has_bit b r)
  bit-and h r =
      ap (λ x. bit_at x (r % 64) == 1) (h (r / 64)) ∙ ap (λ x. x == 1) (bit_at_and (get_or a (r / 64) 0) (get_or b (r / 64) 0) (r % 64))
      ∙ min_test _ _ (bit_at-lt (get_or a (r / 64) 0) (r % 64)) (bit_at-lt (get_or b (r / 64) 0) (r % 64))

  -- a row is in one
  bit-or : ((k : ℕ) → get_or words k 0 ≡ bit_or (get_or a k 0) (get_or b k 0)) → (r : ℕ) → has_bit words r ≡ (has_bit a r || has_bit b r)
  bit-or h r =
      ap (λ x. bit_at x (r % 64) == 1) (h (r / 64)) ∙ ap (λ x. x == 1) (bit_at_or (get_or a (r / 64) 0) (get_or b (r / 64) 0) (r % 64))
      ∙ max_test _ _ (bit_at-lt (get_or a (r / 64) 0) (r % 64)) (bit_at-lt (get_or b (r / 64) 0) (r % 64))

  -- every word is the `&` of the two
  pub AreWords-and : ((k : ℕ) → k < most_words → get_or words k 0 ≡ bit_and (get_or a k 0) (get_or b k 0)) → AreWords n words
  AreWords-and h = record {
    some = p.some;
    at_most = p.at_most;
    words_are = l;
    ranges = λ k. omega (arith, all_and h k, and_le_l (get_or a k 0) (get_or b k 0), p.ranges k);
    none_above = λ r m. bit-and (all_and h) r ∙ rw (p.none_above r m) refl;
  }

  -- every word is the `|` of the two
  pub AreWords-or : ((k : ℕ) → k < most_words → get_or words k 0 ≡ bit_or (get_or a k 0) (get_or b k 0)) → AreWords n words
  AreWords-or h = record {
    some = p.some;
    at_most = p.at_most;
    words_are = l;
    ranges = λ k. omega (arith, all_or h k, or_lt 64 (get_or a k 0) (get_or b k 0) (p.ranges k) (q.ranges k));
    none_above = λ r m. bit-or (all_or h) r ∙ rw (p.none_above r m, q.none_above r m) refl;
  }

  pub rows-and : ((k : ℕ) → k < most_words → get_or words k 0 ≡ bit_and (get_or a k 0) (get_or b k 0)) →
      rows_that (has_bit words) n ≡ intersection n (rows_that (has_bit a) n) (rows_that (has_bit b) n)
  rows-and h =
      rows_that_agree _ _ n (λ r m. bit-and (all_and h) r ∙ sym (ap (λ x. x && has_row (rows_that (has_bit b) n) r) (has-view n a p r) ∙ ap (λ x. has_bit a r && x) (has-view n b q r)))

  pub rows-or : ((k : ℕ) → k < most_words → get_or words k 0 ≡ bit_or (get_or a k 0) (get_or b k 0)) →
      rows_that (has_bit words) n ≡ union n (rows_that (has_bit a) n) (rows_that (has_bit b) n)
  rows-or h =
      rows_that_agree _ _ n (λ r m. bit-or (all_or h) r ∙ sym (ap (λ x. x || has_row (rows_that (has_bit b) n) r) (has-view n a p r) ∙ ap (λ x. has_bit a r || x) (has-view n b q r)))

-- a set is its words and its number
pub same_inside : (a b : Inside) → a.words ≡ b.words → a.n ≡ b.n → a ≡ b
same_inside a b p q = ap (λ w. record { words = w; n = a.n }) p ∙ ap (λ m. record { words = b.words; n = m }) q

-- the rows of the words, over any table that holds them all
pub rows-words : (n : ℕ) (words : List ℕ) → AreWords n words → rows_of_words words ≡ rows_that (has_bit words) n
rows-words n words h = rows_that_longer (has_bit words) n most_rows h.at_most h.none_above

-- words without a bit have no row
pub no_rows : (n : ℕ) (words : List ℕ) → words ≡ replicate most_words 0 → rows_that (has_bit words) n ≡ []
no_rows n words e = ap (λ w. rows_that (has_bit w) n) e ∙ rows_that_none (has_bit (replicate most_words 0)) n (λ r l. no_bit most_words r)

-- no row, no bit
pub words-none : (n : ℕ) → 0 < n → n ≤ most_rows → words_of [] ≡ replicate most_words 0
words-none n s h = ap words_of (sym (no_rows n (replicate most_words 0) refl)) ∙ words-words_of n (replicate most_words 0) (AreWords-none n s h)

-- a bit of the mask is that of a row below n
bit_of_mask : (n k i : ℕ) → i < 64 → (bit_at (row_mask n k) i == 1) ≡ nat_lt (64 * k + i) n
bit_of_mask n k i l =
    elim (cases_lt (64 * k + i) n) [
      | inl h ↦ ap (λ b. b == 1) (bit_at_ones (min 64 (n - 64 * k)) i (omega arith)) ∙ sym (lt-ltb (64 * k + i) n h)
      | inr h ↦ ap (λ b. b == 1) (bit_at_ones_above (min 64 (n - 64 * k)) i (omega arith)) ∙ sym (le-ltb (64 * k + i) n h)
    ]

-- a mask of at most 64 bits fits a word
ones_fit : (j : ℕ) → j ≤ 64 → 2 ^ j - 1 < 2 ^ 64
ones_fit j h = let big : 2 ^ j ≤ 2 ^ 64 = pow_mono h in omega (arith, pow_pos j)

-- the mask is a word
mask_small : (n k : ℕ) → row_mask n k < 2 ^ 64
mask_small n k = ones_fit (min 64 (n - 64 * k)) (omega arith)

-- and no row is in that of a word past the last
pub mask_past : (n k : ℕ) → n ≤ 64 * k → row_mask n k ≡ 0
mask_past n k past = let none : n - 64 * k ≡ 0 = omega arith in ap (λ d. 2 ^ (min 64 d) - 1) none

-- a bit that is not set, under the mask
turned : (a b : ℕ) → a < 2 → b < 2 → (min (1 - a) b == 1) ≡ ((b == 1) && not (a == 1))
turned a b p q = grind (arith, nat_tests)

module _ (a words : List ℕ) (n : ℕ) (p : AreWords n a) (l : length words ≡ most_words)
    (flipped : (k : ℕ) → k < most_words → get_or words k 0 ≡ bit_and (bit_not w64 (get_or a k 0)) (row_mask n k)) where
  -- a row is there if it is below n and wasn't
  bit-flip : (r : ℕ) → r < most_rows → has_bit words r ≡ (nat_lt r n && not (has_bit a r))
  bit-flip r small =
      let bit : r % 64 < 64 = omega arith in
      let place : 64 * (r / 64) + r % 64 ≡ r = omega arith in
      let not_bit : bit_at (bit_not w64 (get_or a (r / 64) 0)) (r % 64) ≡ 1 - bit_at (get_or a (r / 64) 0) (r % 64) = bit_at_not w64 (get_or a (r / 64) 0) (r % 64) (p.ranges (r / 64)) bit in
      ap (λ x. bit_at x (r % 64) == 1) (flipped (r / 64) (omega arith))
      ∙ ap (λ x. x == 1) (bit_at_and (bit_not w64 (get_or a (r / 64) 0)) (row_mask n (r / 64)) (r % 64))
      ∙ ap (λ x. min x (bit_at (row_mask n (r / 64)) (r % 64)) == 1) not_bit
      ∙ turned _ _ (bit_at-lt (get_or a (r / 64) 0) (r % 64)) (bit_at-lt (row_mask n (r / 64)) (r % 64))
      ∙ ap (λ b. b && not (has_bit a r)) (bit_of_mask n (r / 64) (r % 64) bit ∙ ap (λ x. nat_lt x n) place)

  -- no word is past the last
  past : (k : ℕ) → most_words ≤ k → get_or words k 0 ≡ 0
  past k m = get_or_past words k 0 (omega arith)

  -- each bit of a row below n is turned, and no other is left
  pub AreWords-flip : AreWords n words
  AreWords-flip = record {
    some = p.some;
    at_most = p.at_most;
    words_are = l;
    ranges = λ k. elim (cases_lt k most_words) [
      | inl m ↦ let mask : row_mask n k < 2 ^ 64 = mask_small n k in omega (arith, flipped k m, and_le_r (bit_not w64 (get_or a k 0)) (row_mask n k))
      | inr m ↦ omega (arith, past k m)
    ];
    none_above = λ r m. elim (cases_lt r most_rows) [
      | inl small ↦ bit-flip r small ∙ rw (le-ltb r n m) refl
      | inr large ↦ ap (λ x. bit_at x (r % 64) == 1) (past (r / 64) (omega arith)) ∙ ap (λ x. x == 1) (bit_at-zero (r % 64))
    ];
  }

  -- the rows are those that were not there
  pub rows-flip : rows_that (has_bit words) n ≡ complement n (rows_that (has_bit a) n)
  rows-flip = rows_that_agree _ _ n (λ r m.
      bit-flip r (omega (arith, p.at_most)) ∙ rw (lt-ltb r n m) refl ∙ ap not (sym (has-view n a p r)))

-- no row, if the words that n rows take are 0
pub no_rows_used : (n : ℕ) (words used : List ℕ) → AreWords n words → used ≡ take (words_over n) words → ((k : ℕ) → k < length used → get_or used k 0 ≡ 0) →
    rows_that (has_bit words) n ≡ []
no_rows_used n words used h first none =
    sym (ap (λ u. rows_that (has_bit u) n) first ∙ rows_used n words h n) ∙ rows_that_none (has_bit used) n (λ r l.
    let word : get_or used (r / 64) 0 ≡ 0 = elim (cases_lt (r / 64) (length used)) [
      | inl m ↦ none (r / 64) m
      | inr m ↦ get_or_past used (r / 64) 0 m
    ] in
    ap (λ x. bit_at x (r % 64) == 1) word ∙ ap (λ x. x == 1) (bit_at-zero (r % 64)))

-- and those of no row are 0
pub zeros_used : (n : ℕ) (words used : List ℕ) → AreWords n words → used ≡ take (words_over n) words → rows_that (has_bit words) n ≡ [] → (k : ℕ) →
    get_or used k 0 ≡ 0
zeros_used n words used h first empty k =
    let none : words ≡ replicate most_words 0 = sym (words-words_of n words h) ∙ ap words_of empty ∙ words-none n h.some h.at_most in
    ap (λ u. get_or u k 0) first ∙ word_used n words h k ∙ ap (λ u. get_or u k 0) none ∙ zero_at most_words k

-- two sets over n rows are the same if the words are that n rows take
pub same_by_used : (a b : Inside) → IsSetOfWords a → IsSetOfWords b → a.n ≡ b.n → take (words_over a.n) a.words ≡ take (words_over b.n) b.words →
    rows_of_set a ≡ rows_of_set b
same_by_used a b p q same words =
    let over : ℕ → List ℕ → Rows = λ n rows. record { n = n; list = rows } in
    ap (over a.n) (sym (rows_used a.n a.words p a.n) ∙ ap (λ u. rows_that (has_bit u) a.n) words ∙ rows_used b.n b.words q a.n)
    ∙ ap (λ n. over n (rows_that (has_bit b.words) n)) same
