-- Sums over the rows at which the numbers aren't 0.
use Rattle.std.proofs.Common.{◌≡◌, ◌≢◌, ℕ, ◌+◌, ◌<◌, ◌*ℤ◌, Bool, true, false, cond, ◌&&◌, ◌||◌, ◌==◌, ℤ, pos, List, refl, sym, ap, ◌∙◌, inl, inr, arith}
use Rattle.std.proofs.lemmas.Bool.{cases_lt, eq-eqb, or_left, or_right}
use Rattle.std.proofs.Math.IntN.{*ℤ-zero}
use Rattle.audit_types.specs.Rows.{has_row, AreRows, intersection, with_row}
use Rattle.audit_types.specs.RowLaws.{has-rows_that, AreRows-rows_that}
use Rattle.audit_types.specs.RowNumbers.{number_at-set_row}
use Rattle.audit_types.specs.Form.{set_row}
use Rattle.audit_types.specs.Truth.{number_at, sum_over}
use Rattle.audit_types.specs.Totals.{total-agree, product-set_row}
use Rattle.audit_types.specs.Numbers.{zero_or_not}

-- a row of both lists counts as it does in the first, if its number is 0 outside the second
counts_once : (a b : Bool) (x : ℤ) → (x ≢ pos 0 → b ≡ true) → cond (a && b) (pos 1) (pos 0) *ℤ x ≡ cond a (pos 1) (pos 0) *ℤ x
counts_once a b x h = elim (zero_or_not x) [
  | inl none ↦ ap (λ z. cond (a && b) (pos 1) (pos 0) *ℤ z) none ∙ *ℤ-zero (cond (a && b) (pos 1) (pos 0))
      ∙ sym (ap (λ z. cond a (pos 1) (pos 0) *ℤ z) none ∙ *ℤ-zero (cond a (pos 1) (pos 0)))
  | inr some ↦ ap (λ t. cond (a && t) (pos 1) (pos 0) *ℤ x) (h some) ∙ elim a as
      (λ t. cond (t && true) (pos 1) (pos 0) *ℤ x ≡ cond t (pos 1) (pos 0) *ℤ x) [ true ↦ refl | false ↦ refl ]
]

-- the sum over a list is that over its rows in the other, if no other row has a number but 0
pub sum_over_both : (d : List ℤ) (n : ℕ) (rows moved : List ℕ) → AreRows n rows → ((r : ℕ) → r < n → number_at d r ≢ pos 0 → has_row moved r ≡ true) →
    sum_over d (intersection n rows moved) ≡ sum_over d rows
sum_over_both d n rows moved are h =
    let both : ℕ → Bool = λ r. has_row rows r && has_row moved r in
    sym (product-set_row d n (intersection n rows moved) (AreRows-rows_that both n))
    ∙ total-agree (λ j. number_at (set_row n (intersection n rows moved)) j *ℤ number_at d j) (λ j. number_at (set_row n rows) j *ℤ number_at d j) n
    (λ j l. ap (λ z. z *ℤ number_at d j) (number_at-set_row n (intersection n rows moved) j l ∙ ap (λ b. cond b (pos 1) (pos 0)) (has-rows_that both n j l))
    ∙ counts_once (has_row rows j) (has_row moved j) (number_at d j) (h j l)
    ∙ sym (ap (λ z. z *ℤ number_at d j) (number_at-set_row n rows j l)))
    ∙ product-set_row d n rows are

-- a list with one row more has it, and those that it had
pub marks_more : (d : List ℤ) (n row : ℕ) (list after : List ℕ) → row < n → after ≡ with_row n list row →
    ((r : ℕ) → r < row → number_at d r ≢ pos 0 → has_row list r ≡ true) → (r : ℕ) → r < row + 1 → number_at d r ≢ pos 0 → has_row after r ≡ true
marks_more d n row list after below is h r l some =
    ap (λ rows. has_row rows r) is ∙ has-rows_that (λ q. has_row list q || (q == row)) n r (omega arith)
    ∙ elim (cases_lt r row) [
      | inl earlier ↦ or_left (has_row list r) (r == row) (h r earlier some)
      | inr here ↦ or_right (has_row list r) (r == row) (eq-eqb r row (omega arith))
    ]

-- a row with the number 0 needn't be there
pub marks_same : (d : List ℤ) (row : ℕ) (list : List ℕ) → number_at d row ≡ pos 0 →
    ((r : ℕ) → r < row → number_at d r ≢ pos 0 → has_row list r ≡ true) → (r : ℕ) → r < row + 1 → number_at d r ≢ pos 0 → has_row list r ≡ true
marks_same d row list none h r l some = elim (cases_lt r row) [
  | inl earlier ↦ h r earlier some
  | inr here ↦ absurd (some (ap (number_at d) (omega arith) ∙ none))
]
