-- Eight rows added at once, and a block of 64 rows taken out.
use Rattle.std.proofs.Common.{◌≡◌, ◌≢◌, ℕ, ◌+◌, ◌-◌, ◌*◌, ◌/◌, ◌%◌, ◌^◌, ◌<◌, ◌≤◌, Bool, true, false, ◌&&◌, ◌||◌, not, List, ◌==◌, refl, sym, ap, ◌∙◌, arith, length, get_or, set, inl, inr, pow_mono, get_or-set_same, get_or-set_other, length-set}
use Rattle.std.specs.Prelude.{bit_or}
use Rattle.std.specs.Int.{bit_at}
use Rattle.std.proofs.Math.Bool.{or-false}
use Rattle.std.proofs.lemmas.Bool.{cases_lt, cases_eq, eq-eqb, ne_eqb, eqb-true}
use Rattle.std.proofs.lemmas.Nat.{or_lt, mul-le, pow_pos}
use Rattle.std.proofs.lemmas.Nat.Bits.{bit_at-lt, bit_at_or, bit_at-zero, bit_at_above, bit_at_cat_low, bit_at_cat_high, bit_at_ones, same_from_bits_below}
use Rattle.audit_types.specs.Limits.{most_words}
use Rattle.audit_types.specs.Words.{has_bit, rows_of_set, AreWords, IsSetOfWords}
use Rattle.audit_types.specs.WordLaws.{same_place, has-view, max_test}
use Rattle.audit_types.specs.Rows.{Rows, has_row}
use Rattle.audit_types.specs.declared.rows.RowSet.TheInside.{Inside}

-- a byte, moved up to its place in its word
abbrev pub moved : ℕ → ℕ → ℕ
moved at byte = byte * 2 ^ (8 * (at % 8)) % 2 ^ 64

-- the words with the bits of a byte
abbrev pub with_byte : List ℕ → ℕ → ℕ → List ℕ
with_byte words at byte = set words (at / 8) (bit_or (get_or words (at / 8) 0) (moved at byte))

-- a moved byte keeps all its bits
unmoved : (at byte : ℕ) → byte < 256 → moved at byte ≡ byte * 2 ^ (8 * (at % 8)) + 0
unmoved at byte small =
    let low : 8 * (at % 8) ≤ 56 = omega arith in
    let room : 2 ^ (8 * (at % 8)) ≤ 2 ^ 56 = pow_mono low in
    let fits : byte * 2 ^ (8 * (at % 8)) ≤ 255 * 2 ^ 56 = mul-le byte (2 ^ (8 * (at % 8))) 255 (2 ^ 56) (omega arith) room in
    below (byte * 2 ^ (8 * (at % 8))) fits
  where
    below : (x : ℕ) → x ≤ 255 * 2 ^ 56 → x % 2 ^ 64 ≡ x + 0
    below x h = omega arith

-- the bit of a row in a moved byte
bit_of_moved : (at byte r : ℕ) → byte < 256 → r / 64 ≡ at / 8 → (bit_at (moved at byte) (r % 64) == 1) ≡ ((r / 8 == at) && (bit_at byte (r % 8) == 1))
bit_of_moved at byte r small word = ap (λ x. bit_at x (r % 64) == 1) (unmoved at byte small) ∙ elim (cases_lt (r % 64) (8 * (at % 8))) [
  | inl before ↦
      let apart : (r / 8 == at) ≡ false = ne_eqb (r / 8) at (λ e. omega arith) in
      ap (λ x. x == 1) (bit_at_cat_low byte (8 * (at % 8)) 0 (r % 64) before ∙ bit_at-zero (r % 64)) ∙ rw apart refl
  | inr from ↦ ap (λ x. x == 1) (bit_at_cat_high byte (8 * (at % 8)) 0 (r % 64) (pow_pos (8 * (at % 8))) from) ∙ elim (cases_eq (r / 8) at) [
    | inl here ↦
        let bit : r % 64 - 8 * (at % 8) ≡ r % 8 = omega arith in
        ap (λ i. bit_at byte i == 1) bit ∙ rw (eq-eqb (r / 8) at here) refl
    | inr elsewhere ↦
        ap (λ x. x == 1) (bit_at_above byte 8 (r % 64 - 8 * (at % 8)) small (omega arith)) ∙ rw (ne_eqb (r / 8) at elsewhere) refl
  ]
]

-- no row past the word is in the byte
not_in_byte : (at byte r : ℕ) → r / 64 ≢ at / 8 → ((r / 8 == at) && (bit_at byte (r % 8) == 1)) ≡ false
not_in_byte at byte r apart = rw (ne_eqb (r / 8) at (λ e. apart (omega arith))) refl

-- the rows of the words with a byte are those before and the byte's
pub has_bit-byte : (words : List ℕ) (at byte r : ℕ) → at / 8 < length words → byte < 256 →
    has_bit (with_byte words at byte) r ≡ (has_bit words r || ((r / 8 == at) && (bit_at byte (r % 8) == 1)))
has_bit-byte words at byte r l small = elim (cases_eq (r / 64) (at / 8)) [
  | inl word ↦
      let old : ℕ = get_or words (at / 8) 0 in
      let read : get_or (with_byte words at byte) (r / 64) 0 ≡ bit_or (get_or words (at / 8) 0) (moved at byte) =
      ap (λ k. get_or (with_byte words at byte) k 0) word ∙ get_or-set_same words (at / 8) _ 0 l in
      ap (λ x. bit_at x (r % 64) == 1) read
      ∙ ap (λ x. x == 1) (bit_at_or (get_or words (at / 8) 0) (moved at byte) (r % 64))
      ∙ max_test _ _ (bit_at-lt (get_or words (at / 8) 0) (r % 64)) (bit_at-lt (moved at byte) (r % 64))
      ∙ ap (λ b. (bit_at (get_or words (at / 8) 0) (r % 64) == 1) || b) (bit_of_moved at byte r small word)
      ∙ ap (λ k. (bit_at (get_or words k 0) (r % 64) == 1) || ((r / 8 == at) && (bit_at byte (r % 8) == 1))) (sym word)
  | inr word ↦
      ap (λ x. bit_at x (r % 64) == 1) (get_or-set_other words (at / 8) (r / 64) _ 0 word)
      ∙ sym (ap (λ b. has_bit words r || b) (not_in_byte at byte r word) ∙ or-false (has_bit words r))
]

-- a byte without bits of rows past the last leaves a set of rows
pub AreWords-byte : (n : ℕ) (words : List ℕ) (at byte : ℕ) → 8 * at < n → byte < 256 → byte < 2 ^ (n - 8 * at) → AreWords n words →
    AreWords n (with_byte words at byte)
AreWords-byte n words at byte l small below h =
    let within : at / 8 < length words = omega (arith, h.words_are, h.at_most) in
    record {
      some = h.some;
      at_most = h.at_most;
      words_are = length-set words (at / 8) _ ∙ h.words_are;
      ranges = λ k. elim (cases_eq k (at / 8)) [
        | inl e ↦ let same = get_or-set_same words (at / 8) (bit_or (get_or words (at / 8) 0) (moved at byte)) 0 within in
            let wide : bit_or (get_or words (at / 8) 0) (moved at byte) < 2 ^ 64 = or_lt 64 _ _ (h.ranges (at / 8)) (omega arith) in
            rw (e, same) wide
        | inr e ↦ rw (get_or-set_other words (at / 8) k _ 0 e) (h.ranges k)
      ];
      none_above = λ r m. has_bit-byte words at byte r within small ∙ rw (h.none_above r m) (elim (cases_eq (r / 8) at) [
        | inl here ↦ rw (bit_at_above byte (n - 8 * at) (r % 8) below (omega arith)) (rw (eq-eqb (r / 8) at here) refl)
        | inr apart ↦ rw (ne_eqb (r / 8) at apart) refl
      ]);
    }

-- a set has the rows of its words
pub shown : (a : Inside) (rows : Rows) → IsSetOfWords a → rows_of_set a ≡ rows → (r : ℕ) → has_row rows.list r ≡ has_bit a.words r
shown a rows is view r = sym (ap (λ (s : Rows). has_row s.list r) view) ∙ has-view a.n a.words is r

-- a full word has each of its rows
pub full_has : (words : List ℕ) (block r : ℕ) → get_or words block 0 ≡ 2 ^ 64 - 1 → r / 64 ≡ block → has_bit words r ≡ true
full_has words block r full word =
    ap (λ k. bit_at (get_or words k 0) (r % 64) == 1) word ∙ ap (λ x. bit_at x (r % 64) == 1) full ∙ ap (λ x. x == 1) (bit_at_ones 64 (r % 64) (omega arith))

-- a word with each of its rows is full
pub has_full : (words : List ℕ) (block : ℕ) → get_or words block 0 < 2 ^ 64 → ((r : ℕ) → r / 64 ≡ block → has_bit words r ≡ true) →
    get_or words block 0 ≡ 2 ^ 64 - 1
has_full words block range all = same_from_bits_below 64 (get_or words block 0) (2 ^ 64 - 1) range (omega arith) (λ i l.
    eqb-true (bit_at (get_or words block 0) i) 1 (sym (same_place words block i l) ∙ all (64 * block + i) (omega arith)) ∙ sym (bit_at_ones 64 i l))

-- the words without a block
pub has_bit-cleared : (words : List ℕ) (block r : ℕ) → block < length words → has_bit (set words block 0) r ≡ (has_bit words r && not (r / 64 == block))
has_bit-cleared words block r l = elim (cases_eq (r / 64) block) [
  | inl here ↦
      ap (λ k. bit_at (get_or (set words block 0) k 0) (r % 64) == 1) here ∙ ap (λ x. bit_at x (r % 64) == 1) (get_or-set_same words block 0 0 l)
      ∙ ap (λ x. x == 1) (bit_at-zero (r % 64)) ∙ sym (ap (λ b. has_bit words r && not b) (eq-eqb (r / 64) block here) ∙ none (has_bit words r))
  | inr elsewhere ↦
      ap (λ x. bit_at x (r % 64) == 1) (get_or-set_other words block (r / 64) 0 0 elsewhere)
      ∙ sym (ap (λ b. has_bit words r && not b) (ne_eqb (r / 64) block elsewhere) ∙ all (has_bit words r))
]
  where
    none : (b : Bool) → (b && not true) ≡ false
    none true = refl
    none false = refl

    all : (b : Bool) → (b && not false) ≡ b
    all true = refl
    all false = refl

-- and they are words of a set
pub AreWords-cleared : (n : ℕ) (words : List ℕ) (block : ℕ) → block < most_words → AreWords n words → AreWords n (set words block 0)
AreWords-cleared n words block l h =
    let within : block < length words = omega (arith, h.words_are) in
    record {
      some = h.some;
      at_most = h.at_most;
      words_are = length-set words block 0 ∙ h.words_are;
      ranges = λ k. elim (cases_eq k block) [
        | inl e ↦ rw (e, get_or-set_same words block 0 0 within) (omega arith)
        | inr e ↦ rw (get_or-set_other words block k 0 0 e) (h.ranges k)
      ];
      none_above = λ r m. has_bit-cleared words block r within ∙ rw (h.none_above r m) refl;
    }
