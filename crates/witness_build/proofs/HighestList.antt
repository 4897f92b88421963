-- The highest list, row by row, and with one row lowered.
use Rattle.std.proofs.Common.{◌≡◌, ℕ, ◌+◌, ◌<◌, ℤ, List, [], ◌∷◌, ◌++◌, refl, sym, arith, subst, inl, inr}
use Rattle.std.specs.List.{All, AllByRecursion}
use Rattle.std.proofs.lemmas.List.Elements.{All-push}
use Rattle.std.proofs.lemmas.List.FromFn.{map-range_with_len_more}
use Rattle.audit_types.specs.declared.shapes.Kind.TheVariants.{Max}
use Rattle.audit_types.specs.Truth.{truth}
use Rattle.audit_types.specs.Column.{Answer, Known, Agrees, IsWellFormed, known_max}
use Rattle.audit_types.specs.Extremes.{upper_bound, IsConsistent, IsLone}
use Rattle.max_audit.specs.Laws.{HighestAgrees, LoneOrLowered}
use Rattle.max_audit.specs.Candidates.{IsNearRange}
use Rattle.max_audit.specs.Witnesses.{bound_or_zero, highest, lowered_at}

-- one row more
highest-more : (k : ℕ) (answers : List Answer) → highest (k + 1) answers ≡ highest k answers ++ bound_or_zero (upper_bound answers k) ∷ []
unfolding highest
highest-more k answers = map-range_with_len_more (λ r. bound_or_zero (upper_bound answers r)) 0 k k (omega arith)

-- the numbers of the rows so far
pub record IsHighestSoFar (answers : List Answer) (k : ℕ) (list : List ℤ) : Type 0 where
  pub same : list ≡ highest k answers
  pub near : All IsNearRange list

pub highest_begins : (answers : List Answer) → IsHighestSoFar answers 0 []
unfolding highest
highest_begins answers = record { same = refl; near = λ k d within. absurd (omega arith) }

pub highest_step : (answers : List Answer) (k : ℕ) (list after : List ℤ) (number : ℤ) → IsHighestSoFar answers k list → after ≡ list ++ number ∷ [] →
    number ≡ bound_or_zero (upper_bound answers k) → IsNearRange number → IsHighestSoFar answers (k + 1) after
highest_step answers k list after number h pushed is near = record {
  same = rw (pushed, h.same, is, highest-more) refl;
  near = rw pushed (All-push IsNearRange list number h.near near);
}

-- what agrees with the answers of a column of maxima agrees with all that is known of it
agrees_with : (known : Known) (w : List ℤ) → known.kind ≡ Max → Agrees (known_max known.n known.answers) w → Agrees known w
agrees_with known w kind agrees = record {
  one_each = agrees.one_each;
  same = subst (λ k. AllByRecursion (λ a. truth k w a.rows ≡ a.value) known.answers) (sym kind) agrees.same;
}

-- if no row is lone, both lists agree, by the laws of maxima
pub both_agree : HighestAgrees → LoneOrLowered → (known : Known) (row : ℕ) → known.kind ≡ Max → IsWellFormed known → IsConsistent known.answers →
    ¬ (IsLone known.answers row) →
    row < known.n → Agrees known (lowered_at (highest known.n known.answers) row) × Agrees known (highest known.n known.answers)
both_agree highest_law lowered_law known row kind well consistent free below =
    let same_well : IsWellFormed (known_max known.n known.answers) = record { are_rows = well.are_rows; some = well.some } in (
      elim (lowered_law known.n known.answers row same_well consistent below) [
        | inl lone ↦ absurd (free lone)
        | inr agrees ↦ agrees_with known (lowered_at (highest known.n known.answers) row) kind agrees
      ],
      agrees_with known (highest known.n known.answers) kind (highest_law known.n known.answers same_well consistent),
    )
