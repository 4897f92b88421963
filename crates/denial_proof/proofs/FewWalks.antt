-- Sets with one row more, and the people behind rows as they are counted.
use Rattle.std.proofs.Common.{◌≡◌, ◌≢◌, ℕ, ◌<◌, Bool, true, false, ◌||◌, ◌==◌, List, [], ◌∷◌, ◌++◌, refl, sym, ◌∙◌, subst, arith, inl, inr, ◌⊎◌}
use Rattle.std.proofs.lemmas.Bool.{or_cases, or_left, or_right, eqb-true, eq-eqb, cases_lt, true≢false}
use Rattle.audit_types.specs.Rows.{has_row, with_row, AreRows}
use Rattle.audit_types.specs.RowLaws.{has-rows_that, has-rows_that_above, AreRows-rows_that, ascending_same}
use Rattle.audit_types.specs.WalkLaws.{has-push, has-front, has-last, first_or_later, row_within}
use Rattle.denial_proof.specs.FewRows.{in_order}
use Rattle.denial_proof.proofs.Tests.{same_test}
use Rattle.denial_proof.proofs.FewNames.{ascending_two, descending_two}

-- rows that are those of a list and one more are the set with that row
pub with_is : (n : ℕ) (rows : List ℕ) (r : ℕ) (list : List ℕ) → AreRows n list → has_row list r ≡ true →
    ((q : ℕ) → has_row rows q ≡ true → has_row list q ≡ true) →
    ((q : ℕ) → has_row list q ≡ true → (has_row rows q ≡ true) ⊎ (r ≡ q)) → with_row n rows r ≡ list
with_is n rows r list are last front others =
    ascending_same 0 n n (with_row n rows r) list (AreRows-rows_that test n) are
    (λ q. same_test (has_row (with_row n rows r) q) (has_row list q) (there q, here q))
  where
    test : ℕ → Bool
    test q = has_row rows q || (q == r)

    there : (q : ℕ) → has_row (with_row n rows r) q ≡ true → has_row list q ≡ true
    there q has = elim (cases_lt q n) [
      | inl below ↦ elim (or_cases (has_row rows q) (q == r) (sym (has-rows_that test n q below) ∙ has)) [
        | inl old ↦ front q old
        | inr new ↦ subst (λ k. has_row list k ≡ true) (sym (eqb-true q r new)) last
      ]
      | inr above ↦ absurd (true≢false (sym has ∙ has-rows_that_above test n q above))
    ]

    here : (q : ℕ) → has_row list q ≡ true → has_row (with_row n rows r) q ≡ true
    here q has = has-rows_that test n q (row_within n list q are has) ∙ elim (others q has) [
      | inl old ↦ or_left (has_row rows q) (q == r) old
      | inr same ↦ or_right (has_row rows q) (q == r) (eq-eqb q r (sym same))
    ]

-- a row after all others comes last
pub with_next : (n : ℕ) (rows : List ℕ) (r : ℕ) → AreRows n (rows ++ r ∷ []) → with_row n rows r ≡ rows ++ r ∷ []
with_next n rows r are = with_is n rows r (rows ++ r ∷ []) are (has-last rows r) (λ q old. has-front rows r q old) (λ q has. has-push rows r q has)

pub with_one : (n row : ℕ) → row < n → with_row n [] row ≡ row ∷ []
with_one n row below = with_next n [] row (omega arith, below, tt)

pub with_two : (n row own : ℕ) → row < n → own < n → row ≢ own → with_row n (row ∷ []) own ≡ in_order row own
with_two n row own row_below own_below apart = elim (cases_lt row own) [
  | inl less ↦ with_next n (row ∷ []) own (omega arith, row_below, (omega (arith, less), own_below, tt)) ∙ sym (ascending_two row own less)
  | inr rest ↦
      let less : own < row = elim (cases_lt own row) [ inl more ↦ more | inr most ↦ absurd (apart (omega (arith, rest, most))) ] in
      with_is n (row ∷ []) own (own ∷ row ∷ []) (omega arith, own_below, (omega (arith, less), row_below, tt))
      (or_left (own == own) ((row == own) || false) (eq-eqb own own refl))
      (λ q old. or_right (own == q) (has_row (row ∷ []) q) old)
      (λ q has. elim (first_or_later own q (row ∷ []) has) [ inl same ↦ inr same | inr later ↦ inl later ])
      ∙ sym (descending_two row own less)
]
