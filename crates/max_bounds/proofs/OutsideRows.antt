-- Rows of a list that are outside a set.
use Rattle.std.proofs.Common.{◌≡◌, ℕ, true, false, not, List, [], ◌∷◌, refl, sym, ap, ◌∙◌}
use Rattle.std.proofs.lemmas.Bool.{true≢false}
use Rattle.audit_types.specs.Rows.{has_row}
use Rattle.audit_types.specs.RowLaws.{has_first}
use Rattle.max_bounds.specs.Outside.{outside}
use Rattle.max_bounds.specs.RowListLaws.{filter-has, has-filter}

-- a list without a row is empty
no_row : (rows : List ℕ) → ((r : ℕ) → has_row rows r ≡ true → ⊥) → rows ≡ []
no_row [] none = refl
no_row (r ∷ rows) none = absurd (none r (has_first r rows))

-- a list of which nothing is outside a set is in it
pub in_set : (rows l : List ℕ) (r : ℕ) → outside rows l ≡ [] → has_row l r ≡ true → has_row rows r ≡ true
in_set rows l r none there = elim (has_row rows r) as (λ b. has_row rows r ≡ b → b ≡ true) [
  | true ↦ λ e. refl
  | false ↦ λ e. absurd (true≢false (sym (has-filter (λ q. not (has_row rows q)) l r there (ap not e)) ∙ ap (λ k. has_row k r) none))
] refl

-- and nothing is outside a set of a list in it
pub none_outside : (rows l : List ℕ) → ((r : ℕ) → has_row l r ≡ true → has_row rows r ≡ true) → outside rows l ≡ []
none_outside rows l all = no_row (outside rows l) (λ r there.
    let found = filter-has (λ q. not (has_row rows q)) l r there in
    true≢false (sym found.1 ∙ ap not (all r found.0)))
