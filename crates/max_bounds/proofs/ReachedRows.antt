-- Bounds of rows that get a new one, or have it already.
use Rattle.std.proofs.Common.{◌≡◌, ℕ, ◌<◌, ℤ, true, false, not, cond, arith, List, [], ◌∷◌, ◌++◌, length, refl, sym, ap, ◌∙◌, inl, inr, Option, Some, None, set, get_or-set_same, get_or-set_other}
use Rattle.std.specs.Prelude.{int_lt}
use Rattle.std.proofs.lemmas.Int.{ints}
use Rattle.std.proofs.lemmas.Bool.{cases_eq}
use Rattle.audit_types.specs.Rows.{has_row}
use Rattle.max_bounds.specs.Reaching.{bound_at}
use Rattle.max_bounds.specs.Kept.{is_at_least, is_above, rows_at_least, rows_above, AreSettled}
use Rattle.audit_types.specs.WalkLaws.{has-push, has-front, has-last}
use Rattle.max_bounds.proofs.Walks.{filter-all, filter-none}

-- one row more has its new bound
pub settled_step : (x : ℤ) (yielded : List ℕ) (before bounds : List (Option ℤ)) (q : ℕ) → q < length bounds →
    ((r : ℕ) → bound_at bounds r ≡ cond (has_row yielded r) (Some x) (bound_at before r)) →
    (r : ℕ) → bound_at (set bounds q (Some x)) r ≡ cond (has_row (yielded ++ q ∷ []) r) (Some x) (bound_at before r)
settled_step x yielded before bounds q below so_far r = elim (cases_eq q r) [
  | inl same ↦
      let at : bound_at (set bounds q (Some x)) r ≡ Some x = ap (bound_at (set bounds q (Some x))) (sym same) ∙ get_or-set_same bounds q (Some x) None below in
      let there : has_row (yielded ++ q ∷ []) r ≡ true = ap (has_row (yielded ++ q ∷ [])) (sym same) ∙ has-last yielded q in
      at ∙ ap (λ b. cond b (Some x) (bound_at before r)) (sym there)
  | inr apart ↦
      let at : bound_at (set bounds q (Some x)) r ≡ bound_at bounds r = get_or-set_other bounds q r (Some x) None (λ e. apart (sym e)) in
      let still : has_row (yielded ++ q ∷ []) r ≡ has_row yielded r = has_other yielded q r apart in
      at ∙ so_far r ∙ ap (λ b. cond b (Some x) (bound_at before r)) (sym still)
]
  where
    has_other : (rows : List ℕ) (s t : ℕ) → (s ≡ t → ⊥) → has_row (rows ++ s ∷ []) t ≡ has_row rows t
    has_other rows s t differ = elim (has_row (rows ++ s ∷ []) t) as (λ b. has_row (rows ++ s ∷ []) t ≡ b → b ≡ has_row rows t) [
      | true ↦ λ e. elim (has-push rows s t e) [ inl front ↦ sym front | inr same ↦ absurd (differ same) ]
      | false ↦ λ e. elim (has_row rows t) as (λ b. has_row rows t ≡ b → false ≡ b) [
        | true ↦ λ f. absurd (let clash : true ≡ false = sym (has-front rows s t f) ∙ e in cc)
        | false ↦ λ f. refl
      ] refl
    ] refl

-- no number is below itself
not_less : (x : ℤ) → int_lt x x ≡ false
not_less x = elim (int_lt x x) as (λ t. int_lt x x ≡ t → t ≡ false) [ true ↦ λ less. absurd (omega (arith, ints)) | false ↦ λ no. refl ] refl

module _ (bound : ℕ → Option ℤ) (x : ℤ) (rows : List ℕ) (settled : AreSettled bound x rows) where
  -- rows that have the answer for their bound are its extreme rows
  pub all_reach : rows ≡ rows_at_least bound x rows
  all_reach = sym (filter-all (λ r. is_at_least x (bound r)) rows (λ r there. ap (is_at_least x) (settled r there) ∙ ap not (not_less x)))

  -- and none of them falls
  pub none_above : [] ≡ rows_above bound x rows
  none_above = sym (filter-none (λ r. is_above x (bound r)) rows (λ r there. ap (is_above x) (settled r there) ∙ not_less x))
