-- Sets of rows that are walked row by row.
use Rattle.std.proofs.Common.{ℕ, ℤ, List, [], ◌∷◌, ◌++◌, subst, inl, inr}
use Rattle.audit_types.specs.WalkLaws.{has-push}
use Rattle.audit_types.specs.Column.{Answer}
use Rattle.audit_types.specs.Extremes.{upper_bound}
use Rattle.implied_records.specs.Kept.{IsAtMost, IsBounded}

-- what holds of the rows so far and of the next holds of all
pub bounded_more : (answers : List Answer) (rows : List ℕ) (answer : ℤ) (r : ℕ) → IsBounded answers rows answer → IsAtMost (upper_bound answers r) answer →
    IsBounded answers (rows ++ r ∷ []) answer
bounded_more answers rows answer r all here q there = elim (has-push rows r q there) [
  | inl front ↦ all q front
  | inr same ↦ subst (λ x. IsAtMost (upper_bound answers x) answer) same here
]
