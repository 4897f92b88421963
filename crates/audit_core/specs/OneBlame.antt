-- What keeps a question from passing is one.
use Rattle.std.proofs.Common.{◌≡◌, ◌<◌, ℕ, List, Option, Some, None, refl, sym, ap, ◌∙◌, inl, inr, arith}
use Rattle.std.specs.Prelude.{slice_get}
use Rattle.std.proofs.lemmas.Bool.{cases_lt}
use Rattle.std.proofs.lemmas.Option.{same_Some}
use Rattle.audit_types.specs.declared.records.Protected.{Protected}
use Rattle.audit_core.specs.Blame.{BlamesOf, IsFirstToDeny}

module _ (groups : List Protected) (passes : List Protected → Type 0) where
  first_not_before : (p q : ℕ) (a : IsFirstToDeny groups passes p) (b : IsFirstToDeny groups passes q) → a.at < b.at → ⊥
  first_not_before p q a b lt = a.denies (b.before a.at a.group lt a.stands)

  one_first : (p q : ℕ) → IsFirstToDeny groups passes p → IsFirstToDeny groups passes q → p ≡ q
  one_first p q a b = elim (cases_lt a.at b.at) [
    | inl lt ↦ absurd (first_not_before p q a b lt)
    | inr le ↦ elim (cases_lt b.at a.at) [
      | inl lt ↦ absurd (first_not_before q p b a lt)
      | inr from ↦ let at : a.at ≡ b.at = omega arith in
          a.named ∙ ap (λ (g : Protected). g.place) (same_Some a.group b.group (sym a.stands ∙ ap (slice_get groups) at ∙ b.stands)) ∙ sym b.named
    ]
  ]

  pub one_blame : (a b : Option ℕ) → BlamesOf groups passes a → BlamesOf groups passes b → a ≡ b
  one_blame None None first second = refl
  one_blame None (Some q) first second = absurd (first second.0)
  one_blame (Some p) None first second = absurd (second first.0)
  one_blame (Some p) (Some q) first second = ap (λ (k : ℕ). Some k) (one_first p q first.1 second.1)
