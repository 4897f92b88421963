-- The total over a group changes if the number of one of its rows does.
use Rattle.std.proofs.Common.{◌≡◌, ℕ, ◌+◌, ◌<◌, true, false, ◌==◌, ◌||◌, ℤ, pos, List, [], ◌∷◌, length, refl, sym, ap, ◌∙◌, arith, inl, inr}
use Rattle.std.specs.Prelude.{◌+ℤ◌, slice_set}
use Rattle.std.proofs.lemmas.Int.{ints}
use Rattle.std.proofs.lemmas.Bool.{cases_eq, eq-eqb, or_cases, or_parts, eqb-true, true≢false}
use Rattle.std.proofs.lemmas.List.{get_or-set_same, get_or-set_other}
use Rattle.audit_types.specs.Rows.{AscendsFrom, has_row}
use Rattle.audit_types.specs.RowLaws.{ascends_more}
use Rattle.audit_types.specs.Truth.{number_at, sum_over}

-- a list with one number greater by 1 has the same sum over rows without it
sum_without : (w : List ℤ) (i low n : ℕ) (rows : List ℕ) → AscendsFrom low n rows → has_row rows i ≡ false →
    sum_over (slice_set w i (number_at w i +ℤ pos 1)) rows ≡ sum_over w rows
sum_without w i low n [] are none = refl
sum_without w i low n (r ∷ rows) are none = elim (cases_eq r i) [
  | inl same ↦ absurd (true≢false (sym (ap (λ b. b || has_row rows i) (eq-eqb r i same)) ∙ none))
  | inr apart ↦
      let here = get_or-set_other w i r (number_at w i +ℤ pos 1) (pos 0) apart in
      let rest = sum_without w i (r + 1) n rows are.2 (or_parts (r == i) (has_row rows i) none).1 in
      ap (λ z. z +ℤ sum_over (slice_set w i (number_at w i +ℤ pos 1)) rows) here ∙ ap (λ z. number_at w r +ℤ z) rest
]

-- and over rows with it a sum greater by 1
pub sum_with : (w : List ℤ) (i low n : ℕ) (rows : List ℕ) → i < length w → AscendsFrom low n rows → has_row rows i ≡ true →
    sum_over (slice_set w i (number_at w i +ℤ pos 1)) rows ≡ sum_over w rows +ℤ pos 1
sum_with w i low n [] inside are there = absurd (true≢false (sym there))
sum_with w i low n (r ∷ rows) inside are there = elim (cases_eq r i) [
  | inl same ↦
      let here = ap (number_at (slice_set w i (number_at w i +ℤ pos 1))) same ∙ get_or-set_same w i (number_at w i +ℤ pos 1) (pos 0) inside in
      let was = ap (number_at w) same in
      let rest = sum_without w i (r + 1) n rows are.2 (ascends_more (r + 1) n rows are.2 i (omega (arith, same))) in
      omega (arith, ints, here, was, rest)
  | inr apart ↦
      let here = get_or-set_other w i r (number_at w i +ℤ pos 1) (pos 0) apart in
      let rest = sum_with w i (r + 1) n rows inside are.2 (elim (or_cases (r == i) (has_row rows i) there) [
        | inl e ↦ absurd (apart (eqb-true r i e))
        | inr later ↦ later
      ]) in
      omega (arith, ints, here, rest)
]
