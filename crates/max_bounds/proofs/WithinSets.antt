-- Sets of one answer among sets with descending answers, as one of them is looked for that lies within a question's set.
use Rattle.std.proofs.Common.{ℕ, ◌≤◌, zero, suc, ℤ, List, [], ◌∷◌, ◌++◌, take, drop, sym, subst, inl, inr, ◌⊎◌, arith}
use Rattle.std.specs.Prelude.{◌<ℤ◌}
use Rattle.std.specs.List.{AllByRecursion}
use Rattle.std.proofs.lemmas.Int.{ints}
use Rattle.audit_types.specs.Column.{Answer, IsOneOf}
use Rattle.max_bounds.specs.Outside.{IsWithin, HasWithin}
use Rattle.max_bounds.specs.Maxima.{answers_of}
use Rattle.max_bounds.specs.AnswerLaws.{all_at, front_or_last}
use Rattle.max_bounds.specs.declared.answered.AnsweredMax.{AnsweredMax}

-- no set lies within if neither one before nor the last does
pub within-push : (seen : List Answer) (x : Answer) (rows : List ℕ) (value : ℤ) → (HasWithin seen rows value → ⊥) → (IsWithin rows value x → ⊥) →
    HasWithin (seen ++ x ∷ []) rows value → ⊥
within-push seen x rows value before last (a, one, is) = elim (front_or_last seen x a one) [
  | inl front ↦ before (a, front, is)
  | inr same ↦ last (subst (IsWithin rows value) (sym same) is)
]

-- what holds of the sets from a place on holds of those from a later one on
low_later : (P : Answer → Type 0) (least : List AnsweredMax) (e k : ℕ) → e ≤ k → AllByRecursion P (answers_of (drop e least)) →
    AllByRecursion P (answers_of (drop k least))
low_later P least zero zero order h = h
low_later P [] zero (suc k) order h = tt
low_later P (x ∷ least) zero (suc k) order h = low_later P least zero k (omega arith) h.1
low_later P [] (suc e) zero order h = tt
low_later P [] (suc e) (suc k) order h = tt
low_later P (x ∷ least) (suc e) zero order h = absurd (omega (arith, order))
low_later P (x ∷ least) (suc e) (suc k) order h = low_later P least e k (omega (arith, order)) h

-- a set is one of the first ones, or of the others
first_or_other : (k : ℕ) (least : List AnsweredMax) (a : Answer) → IsOneOf a (answers_of least) → IsOneOf a (answers_of (take k least)) ⊎
    IsOneOf a (answers_of (drop k least))
first_or_other zero least a one = inr one
first_or_other (suc k) [] a one = absurd one
first_or_other (suc k) (x ∷ least) a (inl same) = inl (inl same)
first_or_other (suc k) (x ∷ least) a (inr later) = elim (first_or_other k least a later) [ inl first ↦ inl (inr first) | inr other ↦ inr other ]

module _ (rows : List ℕ) (value : ℤ) (least : List AnsweredMax) where
  -- none of those above an answer has it
  pub none_above : (k : ℕ) → AllByRecursion (λ b. value <ℤ b.value) (answers_of (take k least)) → HasWithin (answers_of (take k least)) rows value → ⊥
  none_above k above (a, one, is) =
      let up = all_at (λ b. value <ℤ b.value) (answers_of (take k least)) a above one in let same = is.same in absurd (omega (arith, ints))

  -- nor of those below it
  pub none_of_all : (k e : ℕ) → e ≤ k → AllByRecursion (λ b. b.value <ℤ value) (answers_of (drop e least)) →
      (HasWithin (answers_of (take k least)) rows value → ⊥) → HasWithin (answers_of least) rows value → ⊥
  none_of_all k e order below none (a, one, is) = elim (first_or_other k least a one) [
    | inl first ↦ none (a, first, is)
    | inr other ↦
        let low = all_at (λ b. b.value <ℤ value) (answers_of (drop k least)) a (low_later (λ b. b.value <ℤ value) least e k order below) other in
        let same = is.same in absurd (omega (arith, ints))
  ]
