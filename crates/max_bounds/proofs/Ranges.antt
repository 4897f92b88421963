-- Numbers that the bounds of some rows are within.
use Rattle.std.proofs.Common.{◌≡◌, ℕ, ℤ, true, false, ◌&&◌, List, [], ◌∷◌, ◌++◌, refl, ap, ◌∙◌, arith, inl, inr, ◌⊎◌, Option}
use Rattle.std.specs.Prelude.{◌<ℤ◌}
use Rattle.std.proofs.lemmas.Int.{ints}
use Rattle.std.proofs.lemmas.Bool.{and_right}
use Rattle.audit_types.specs.Rows.{has_row}
use Rattle.audit_types.specs.Column.{Answer}
use Rattle.audit_types.specs.Extremes.{is_bound}
use Rattle.max_bounds.specs.declared.counts.Range.{Range}
use Rattle.max_bounds.specs.Kept.{falls_of, IsRange, Widens}
use Rattle.max_bounds.specs.BoundLaws.{exact_bound}
use Rattle.audit_types.specs.WalkLaws.{has-push}
use Rattle.max_bounds.proofs.Walks.{filter-none}

-- one row more
pub range_more : (bound : ℕ → Option ℤ) (yielded : List ℕ) (r : ℕ) (range wider : Range) → IsRange bound yielded range → Widens range (bound r) wider →
    IsRange bound (yielded ++ r ∷ []) wider
range_more bound yielded r range wider holds widens q b there is = elim (has-push yielded r q there) [
  | inl front ↦
      let within = holds q b front is in
      let least = within.0 in
      let most = within.1 in
      let low = widens.low in
      let high = widens.high in
      (omega (arith, ints), omega (arith, ints))
  | inr last ↦ widens.holds b (ap bound last ∙ is)
]

-- an answer outside them isn't a bound of the rows
pub falls-outside : (bound : ℕ → Option ℤ) (falling : List ℕ) (range : Range) (a : Answer) → IsRange bound falling range →
    (a.value <ℤ range.low) ⊎ (range.high <ℤ a.value) → falls_of bound falling a ≡ []
falls-outside bound falling range a holds beyond = filter-none (λ r. has_row a.rows r && is_bound (bound r) a.value) falling (λ r there.
    and_right (has_row a.rows r) (is_bound (bound r) a.value) (no_bound r there))
  where
    no_bound : (r : ℕ) → has_row falling r ≡ true → is_bound (bound r) a.value ≡ false
    no_bound r there = elim (is_bound (bound r) a.value) as (λ b. is_bound (bound r) a.value ≡ b → b ≡ false) [
      | true ↦ λ e.
          let within = holds r a.value there (exact_bound (bound r) a.value e) in
          let least = within.0 in
          let most = within.1 in
          absurd (elim beyond [ inl below ↦ omega (arith, ints) | inr above ↦ omega (arith, ints) ])
      | false ↦ λ e. refl
    ] refl
