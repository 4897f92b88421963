-- A walk takes the lowest bit that is left of the first word that has one: the first row that is left.
use Rattle.std.proofs.Common.{◌≡◌, ◌≢◌, ℕ, ◌+◌, ◌*◌, ◌/◌, ◌%◌, ◌^◌, ◌<◌, ◌≤◌, true, false, cond, ◌&&◌, List, [], ◌∷◌, ◌==◌, refl, sym, ap, ◌∙◌, arith, length, get_or, inl, inr, bit_and, w64}
use Rattle.std.specs.Prelude.{Some, nat_lt}
use Rattle.std.specs.Iterator.{MakesProgress, item_count}
use Rattle.std.specs.Int.{bit_at, bit_not, trailing_zeros}
use Rattle.std.proofs.lemmas.Bool.{cases_lt, cases_eq, eq-eqb, ne_eqb, lt-ltb, le-ltb}
use Rattle.std.proofs.lemmas.List.{get_or_past}
use Rattle.std.proofs.lemmas.Nat.Bits.{bit_at-zero, bit_at-trailing_zeros, bit_at_clear_same, bit_at_clear_other}
use Rattle.audit_types.specs.Limits.{most_rows, most_words}
use Rattle.audit_types.specs.RowLaws.{rows_that_first, rows_that_none, rows_that_agree}
use Rattle.audit_types.specs.Words.{has_bit, rows_of_words}
use Rattle.audit_types.specs.RowsLeft.{is_left, rows_from}
use Rattle.audit_types.specs.declared.row_iter.Spot.{Spot}

-- no bit in a word that is 0
pub no_bit_in : (words : List ℕ) (r : ℕ) → get_or words (r / 64) 0 ≡ 0 → has_bit words r ≡ false
no_bit_in words r e = ap (λ x. bit_at x (r % 64) == 1) e ∙ ap (λ x. x == 1) (bit_at-zero (r % 64))

-- a row of the word at the spot
at_spot : (words : List ℕ) (spot : Spot) (r : ℕ) → r / 64 ≡ spot.place → is_left words spot r ≡ (bit_at spot.word (r % 64) == 1)
at_spot words spot r here = rw (eq-eqb (r / 64) spot.place here) refl

-- a row of a word before it
before_spot : (words : List ℕ) (spot : Spot) (r : ℕ) → r / 64 < spot.place → is_left words spot r ≡ false
before_spot words spot r before = rw (ne_eqb (r / 64) spot.place (λ e. omega arith), le-ltb spot.place (r / 64) (omega arith)) refl

-- a row of a word after it
behind_spot : (words : List ℕ) (spot : Spot) (r : ℕ) → spot.place < r / 64 → is_left words spot r ≡ has_bit words r
behind_spot words spot r behind = rw (ne_eqb (r / 64) spot.place (λ e. omega arith), lt-ltb spot.place (r / 64) behind) refl

-- at the beginning all rows are still to come
pub all_left : (words : List ℕ) (spot : Spot) → spot.place ≡ 0 → spot.word ≡ get_or words 0 0 → rows_from words spot ≡ rows_of_words words
all_left words spot first word = rows_that_agree (is_left words spot) (has_bit words) most_rows (λ r l. elim (cases_eq (r / 64) 0) [
  | inl here ↦ at_spot words spot r (here ∙ sym first) ∙ ap (λ x. bit_at x (r % 64) == 1) (word ∙ ap (λ k. get_or words k 0) (sym here))
  | inr later ↦ behind_spot words spot r (omega arith)
])

module _ (words : List ℕ) (spot : Spot) (place : ℕ) (done : spot.word ≡ 0) (zeros : (k : ℕ) → spot.place + 1 ≤ k → k < place → get_or words k 0 ≡ 0) where
  -- no row is left before the first word that has one
  none_before : (r : ℕ) → r / 64 < place → is_left words spot r ≡ false
  none_before r l = elim (cases_lt (r / 64) spot.place) [
    | inl before ↦ before_spot words spot r before
    | inr from ↦ elim (cases_eq (r / 64) spot.place) [
      | inl here ↦ at_spot words spot r here ∙ ap (λ x. bit_at x (r % 64) == 1) done ∙ ap (λ x. x == 1) (bit_at-zero (r % 64))
      | inr other ↦ behind_spot words spot r (omega arith) ∙ no_bit_in words r (zeros (r / 64) (omega arith) l)
    ]
  ]

  -- none is left at all if no word has one
  pub nothing_left : spot.place < place → length words ≤ place → rows_from words spot ≡ []
  nothing_left behind end = rows_that_none (is_left words spot) most_rows (λ r l. elim (cases_lt (r / 64) place) [
    | inl before ↦ none_before r before
    | inr past ↦ behind_spot words spot r (omega arith) ∙ no_bit_in words r (get_or_past words (r / 64) 0 (omega arith))
  ])

  -- and if one has, the same rows are left from there on
  pub same_left : (next : Spot) → next.place ≡ place → spot.place < place → next.word ≡ get_or words place 0 → rows_from words next ≡ rows_from words spot
  same_left next is behind word = rows_that_agree (is_left words next) (is_left words spot) most_rows (λ r l. elim (cases_lt (r / 64) place) [
    | inl before ↦ before_spot words next r (omega arith) ∙ sym (none_before r before)
    | inr from ↦ elim (cases_eq (r / 64) place) [
      | inl here ↦ at_spot words next r (here ∙ sym is) ∙ ap (λ x. bit_at x (r % 64) == 1) (word ∙ ap (λ k. get_or words k 0) (sym here))
          ∙ sym (behind_spot words spot r (omega arith))
      | inr later ↦ behind_spot words next r (omega arith) ∙ sym (behind_spot words spot r (omega arith))
    ]
  ])

module _ (words : List ℕ) (spot next : Spot) (within : spot.place < most_words) (fits : spot.word < 2 ^ 64)
    (some : spot.word ≢ 0) (same : next.place ≡ spot.place)
    (cleared : next.word ≡ bit_and spot.word (bit_not w64 (1 * 2 ^ (trailing_zeros w64 spot.word) % 2 ^ 64))) where
  -- the place of the lowest bit
  abbrev bit : ℕ
  bit = trailing_zeros w64 spot.word

  -- it is set, and no bit below it is
  lowest : (bit < 64) × (bit_at spot.word bit ≡ 1) × ((i : ℕ) → i < bit → bit_at spot.word i ≡ 0)
  lowest = bit_at-trailing_zeros w64 spot.word (omega arith) fits

  -- a row's bit in the word without it
  other_bit : (r : ℕ) → r % 64 ≢ bit → bit_at next.word (r % 64) ≡ bit_at spot.word (r % 64)
  other_bit r apart = let low = lowest.0 in ap (λ x. bit_at x (r % 64)) cleared ∙ bit_at_clear_other w64 spot.word bit low (r % 64) (omega arith) apart

  -- the row of the bit is left
  here : is_left words spot (64 * spot.place + bit) ≡ true
  here =
      let low = lowest.0 in
      let place : (64 * spot.place + bit) / 64 ≡ spot.place = omega arith in
      let row : (64 * spot.place + bit) % 64 ≡ bit = omega arith in
      at_spot words spot (64 * spot.place + bit) place ∙ ap (λ i. bit_at spot.word i == 1) row ∙ ap (λ x. x == 1) lowest.1

  -- no row before it is
  none_below : (r : ℕ) → r < 64 * spot.place + bit → is_left words spot r ≡ false
  none_below r l = elim (cases_lt (r / 64) spot.place) [
    | inl before ↦ before_spot words spot r before
    | inr from ↦
        let low = lowest.0 in
        at_spot words spot r (omega arith) ∙ ap (λ x. x == 1) (lowest.2 (r % 64) (omega arith))
  ]

  -- and none up to it, once the bit is gone
  gone : (r : ℕ) → r ≤ 64 * spot.place + bit → is_left words next r ≡ false
  gone r l = elim (cases_lt (r / 64) spot.place) [
    | inl before ↦ before_spot words next r (omega arith)
    | inr from ↦
        let low = lowest.0 in
        at_spot words next r (omega arith) ∙ elim (cases_eq (r % 64) bit) [
          | inl same_bit ↦ ap (λ i. bit_at next.word i == 1) same_bit ∙ ap (λ x. bit_at x bit == 1) cleared
              ∙ ap (λ x. x == 1) (bit_at_clear_same w64 spot.word bit low)
          | inr apart ↦ ap (λ x. x == 1) (other_bit r apart ∙ lowest.2 (r % 64) (omega arith))
        ]
  ]

  -- all others stay
  kept : (r : ℕ) → r ≢ 64 * spot.place + bit → is_left words next r ≡ is_left words spot r
  kept r other = elim (cases_eq (r / 64) spot.place) [
    | inl at ↦ at_spot words next r (at ∙ sym same) ∙ ap (λ x. x == 1) (other_bit r (λ e. other (omega arith))) ∙ sym (at_spot words spot r at)
    | inr elsewhere ↦ ap (λ p. cond (r / 64 == p) (bit_at next.word (r % 64) == 1) (nat_lt p (r / 64) && has_bit words r)) same
        ∙ rw (ne_eqb (r / 64) spot.place elsewhere) refl
  ]

  -- the first row that is left, and the rows after it
  pub first_row : rows_from words spot ≡ (64 * spot.place + bit) ∷ rows_from words next
  first_row =
      let low = lowest.0 in
      rows_that_first (is_left words spot) (is_left words next) most_rows (64 * spot.place + bit) (omega arith) here none_below gone kept

-- a row that was taken leaves one less
pub fewer_left : {r : ℕ} {before after : List ℕ} → before ≡ r ∷ after →
    MakesProgress {S = List ℕ} {A = ℕ} (λ _. Unit {0}) (item_count {S = List ℕ} {A = ℕ} (λ s. s)) before (Some r) after
fewer_left e = record {
  on = λ f. (tt, tt, omega (arith, ap length e));
  keeps = tt;
  rests = λ f. tt;
}
