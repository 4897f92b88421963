-- Facts on the rows of a reduced form: their lengths, and what they are at each other's pivots.
use Rattle.std.proofs.Common.{◌≡◌, ◌≢◌, ℕ, ◌<◌, true, not, ◌==◌, ℤ, pos, List, [], ◌∷◌, length, sym, ap, ◌∙◌, subst, arith, inl, inr}
use Rattle.std.specs.List.{AllByRecursion}
use Rattle.std.proofs.lemmas.Bool.{or_cases, eqb-true, cases_lt, not-false, true≢false}
use Rattle.std.proofs.lemmas.List.{get_or_past}
use Rattle.std.proofs.lemmas.List.Sums.{fails_before_first}
use Rattle.audit_types.specs.Truth.{number_at, is_zero}
use Rattle.audit_types.specs.Form.{pivot, pivot_entry, IsPrimitive, IsEchelon, StandsBefore}
use Rattle.audit_types.specs.Direction.{is_pivot}
use Rattle.audit_types.specs.Numbers.{positive_not_zero, zero_from_test}

-- primitive rows have one length
pub lengths_of_form : (n : ℕ) (form : List (List ℤ)) → AllByRecursion (IsPrimitive n) form → AllByRecursion (λ r. length r ≡ n) form
lengths_of_form n [] h = tt
lengths_of_form n (row ∷ form) h = (h.0.one_each, lengths_of_form n form h.1)

-- the pivot of a primitive row is one of its columns
pub pivot_below : (n : ℕ) (row : List ℤ) → IsPrimitive n row → pivot row < n
pivot_below n row primitive = elim (cases_lt (pivot row) n) [
  | inl inside ↦ inside
  | inr outside ↦ let all = primitive.one_each in absurd (positive_not_zero (pivot_entry row) primitive.leading (get_or_past row (pivot row) (pos 0) (omega arith)))
]

-- a row is 0 before its pivot
pub zero_before : (row : List ℤ) (j : ℕ) → j < pivot row → number_at row j ≡ pos 0
zero_before row j h = zero_from_test (number_at row j) (not-false (is_zero (number_at row j)) (fails_before_first (λ x. not (is_zero x)) row j (pos 0) h))

-- what is said of each pivot holds at each column that is one
pub at_pivot : (P : ℕ → Type 0) (rows : List (List ℤ)) (j : ℕ) → AllByRecursion (λ row. P (pivot row)) rows → is_pivot rows j ≡ true → P j
at_pivot P [] j h e = absurd (true≢false (sym e))
at_pivot P (row ∷ rows) j h e = elim (or_cases (pivot row == j) (is_pivot rows j) e) [
  | inl here ↦ subst P (eqb-true (pivot row) j here) h.0
  | inr later ↦ at_pivot P rows j h.1 later
]

-- the rows after a row are 0 at its pivot
pub later_zero : (row : List ℤ) (rows : List (List ℤ)) → AllByRecursion (StandsBefore row) rows → AllByRecursion (λ later. number_at later (pivot row) ≡ pos 0) rows
later_zero row [] h = tt
later_zero row (later ∷ rows) h = (h.0.2, later_zero row rows h.1)

-- and the row is 0 at their pivots
pub zero_later : (row : List ℤ) (rows : List (List ℤ)) → AllByRecursion (StandsBefore row) rows → AllByRecursion (λ later. number_at row (pivot later) ≡ pos 0) rows
zero_later row [] h = tt
zero_later row (later ∷ rows) h = (h.0.1, zero_later row rows h.1)

-- the row is 0 at each pivot but its own
abbrev pub IsZeroAtOthers : List (List ℤ) → List ℤ → Type 0
IsZeroAtOthers form row = (j : ℕ) → is_pivot form j ≡ true → j ≢ pivot row → number_at row j ≡ pos 0

-- rows that are 0 at the pivots of others are 0 at that of the row before them too
with_first : (row : List ℤ) (rows some : List (List ℤ)) → AllByRecursion (StandsBefore row) some → AllByRecursion (IsZeroAtOthers rows) some → AllByRecursion (IsZeroAtOthers (row ∷ rows)) some
with_first row rows [] before zeros = tt
with_first row rows (r ∷ some) before zeros = (
  λ j e other. elim (or_cases (pivot row == j) (is_pivot rows j) e) [
    | inl here ↦ ap (number_at r) (sym (eqb-true (pivot row) j here)) ∙ before.0.2
    | inr later ↦ zeros.0 j later other
  ],
  with_first row rows some before.1 zeros.1,
)

-- each row of a reduced form is 0 at the pivots of the others
pub zero_at_others : (form : List (List ℤ)) → IsEchelon form → AllByRecursion (IsZeroAtOthers form) form
zero_at_others [] h = tt
zero_at_others (row ∷ rows) h = (
  λ j e other. elim (or_cases (pivot row == j) (is_pivot rows j) e) [
    | inl here ↦ absurd (other (sym (eqb-true (pivot row) j here)))
    | inr later ↦ at_pivot (λ k. number_at row k ≡ pos 0) rows j (zero_later row rows h.0) later
  ],
  with_first row rows rows h.0 (zero_at_others rows h.1),
)
