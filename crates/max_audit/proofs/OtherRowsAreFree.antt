-- Consistent maxima are possible, and a row that isn't lone has two numbers.
--
-- The list with each row at its bound gives all answers: no row of a set is above its answer, and an extreme row has it. With row i less by
-- one it still does, as long as each answer keeps an extreme row that isn't i.
use Rattle.std.proofs.Common.{◌≡◌, ◌≢◌, ℕ, ◌<◌, ℤ, pos, true, List, [], ◌∷◌, length, ap, ◌∙◌, arith, inl, inr, ◌⊎◌}
use Rattle.std.specs.Prelude.{◌≤ℤ◌, ◌-ℤ◌}
use Rattle.std.proofs.lemmas.Int.{ints}
use Rattle.std.proofs.lemmas.List.{get_or-set_same, get_or-set_other, length-set}
use Rattle.std.proofs.lemmas.Bool.{cases_eq}
use Rattle.audit_types.specs.Rows.{has_row}
use Rattle.audit_types.specs.Truth.{number_at, greatest_over}
use Rattle.audit_types.specs.Column.{Answer, Agrees, IsOneOf, IsWellFormed, known_max}
use Rattle.audit_types.specs.Extremes.{upper_bound, is_bound, extremes, IsLone, IsConsistent}
use Rattle.max_audit.specs.Witnesses.{bound_or_zero, highest, lowered_at}
use Rattle.max_audit.specs.HighestLaws.{length-highest, number_at-highest}
use Rattle.max_audit.specs.Laws.{PossibleByExtremes, FixedByLoneRows, HighestAgrees, LoneOrLowered, LoneOrFree}
use Rattle.max_bounds.specs.AnswerLaws.{all_at, all_from, one_or_none, rows_of, extreme_rows, some_extreme}
use Rattle.max_bounds.specs.RowListLaws.{filter-has, only_or_not, other_row, some_row, not_empty}
use Rattle.audit_types.specs.GreatestLaws.{greatest_is}
use Rattle.audit_types.specs.WalkLaws.{row_within}
use Rattle.max_bounds.specs.BoundLaws.{bound_below}
use Rattle.max_audit.proofs.UpperBounds.{bound_from, some_is}
use Rattle.max_audit.proofs.LoneRowsAreFixed.{extreme_row, lone_rows_are_fixed}

-- equal numbers are in order
same_is_below : (z y : ℤ) → z ≡ y → z ≤ℤ y
same_is_below z y e = omega (arith, ints)

module _ (n : ℕ) (answers : List Answer) (well : IsWellFormed (known_max n answers)) where
  -- an extreme row is a row of the set, and has its bound there
  extreme_at : (a : Answer) (e : ℕ) → has_row (extremes answers a) e ≡ true → (has_row a.rows e ≡ true) × (is_bound (upper_bound answers e) a.value ≡ true)
  extreme_at a e there = filter-has (λ r. is_bound (upper_bound answers r) a.value) a.rows e there

  -- a list below the bounds, with an extreme row of the answer at its bound, gives the answer
  gives_one : (w : List ℤ) → ((r : ℕ) → r < n → number_at w r ≤ℤ bound_or_zero (upper_bound answers r)) → (a : Answer) → IsOneOf a answers → (e : ℕ) →
      has_row (extremes answers a) e ≡ true → number_at w e ≡ bound_or_zero (upper_bound answers e) → greatest_over w a.rows ≡ a.value
  gives_one w below a one e there at =
      let found = extreme_at a e there in
      greatest_is w a.rows a.value e (all_at (λ b. b.rows ≢ []) answers a well.some one)
      (λ r h. let under = below r (row_within n a.rows r (rows_of n answers well.are_rows a one) h) in
      let bound = bound_below answers a r one h in let least = bound.2 in
      let same = some_is (upper_bound answers r) bound.0 bound.1 in omega (arith, ints))
      found.0 (at ∙ bound_from (upper_bound answers e) a.value found.1)

  -- an extreme row of the table
  pub extreme_below : (a : Answer) → IsOneOf a answers → (e : ℕ) → has_row (extremes answers a) e ≡ true → e < n
  extreme_below a one e there = row_within n a.rows e (rows_of n answers well.are_rows a one) (extreme_at a e there).0

  module _ (consistent : IsConsistent answers) where
    highest_agrees : Agrees (known_max n answers) (highest n answers)
    highest_agrees = record {
      one_each = length-highest n answers;
      same = all_from (λ a. greatest_over (highest n answers) a.rows ≡ a.value) answers (λ a one.
          let hit = some_row (extremes answers a) (some_extreme answers consistent a one) in
          gives_one (highest n answers) (λ r h. same_is_below _ _ (number_at-highest n answers r h)) a one hit.0 hit.1
          (number_at-highest n answers hit.0 (extreme_below a one hit.0 hit.1)));
    }

    module _ (i : ℕ) (i_below : i < n) where
      lowered_same : number_at (lowered_at (highest n answers) i) i ≡ number_at (highest n answers) i -ℤ pos 1
      lowered_same = get_or-set_same (highest n answers) i (number_at (highest n answers) i -ℤ pos 1) (pos 0) (omega (arith, length-highest n answers))

      lowered_other : (r : ℕ) → r ≢ i → number_at (lowered_at (highest n answers) i) r ≡ number_at (highest n answers) r
      lowered_other r apart = get_or-set_other (highest n answers) i r (number_at (highest n answers) i -ℤ pos 1) (pos 0) apart

      lowered_below : (r : ℕ) → r < n → number_at (lowered_at (highest n answers) i) r ≤ℤ bound_or_zero (upper_bound answers r)
      lowered_below r h = elim (cases_eq r i) [
        | inl e ↦ let at = ap (number_at (lowered_at (highest n answers) i)) e
            ∙ lowered_same in let top = number_at-highest n answers i i_below in let same = ap (λ q. bound_or_zero (upper_bound answers q)) e in
            omega (arith, ints)
        | inr apart ↦ same_is_below _ _ (lowered_other r apart ∙ number_at-highest n answers r h)
      ]

      lowered_agrees : ((a : Answer) → IsOneOf a answers → extremes answers a ≢ i ∷ []) → Agrees (known_max n answers) (lowered_at (highest n answers) i)
      lowered_agrees not = record {
        one_each = length-set (highest n answers) i (number_at (highest n answers) i -ℤ pos 1) ∙ length-highest n answers;
        same = all_from (λ a. greatest_over (lowered_at (highest n answers) i) a.rows ≡ a.value) answers (λ a one.
            let hit = other_row n (extremes answers a) i (extreme_rows n answers well.are_rows a one)
            (some_extreme answers consistent a one) (not a one) in
            gives_one (lowered_at (highest n answers) i) lowered_below a one hit.0 hit.1
            (lowered_other hit.0 hit.2 ∙ number_at-highest n answers hit.0 (extreme_below a one hit.0 hit.1)));
      }

      lowered_or_lone : IsLone answers i ⊎ Agrees (known_max n answers) (lowered_at (highest n answers) i)
      lowered_or_lone = elim (one_or_none (λ a. extremes answers a ≡ i ∷ []) (λ a. extremes answers a ≢ i ∷ [])
          (λ a. only_or_not i (extremes answers a)) answers) [
            | inl lone ↦ inl lone
            | inr not ↦ inr (lowered_agrees not)
          ]

-- the highest list agrees
pub highest_agrees_law : HighestAgrees
highest_agrees_law n answers well consistent = highest_agrees n answers well consistent

-- with a row lowered it agrees too, unless the row is lone
pub lone_or_lowered : LoneOrLowered
lone_or_lowered n answers i well consistent below = lowered_or_lone n answers well consistent i below

-- so a row is lone or free
pub lone_or_free : LoneOrFree
lone_or_free n answers i well consistent below = elim (lone_or_lowered n answers i well consistent below) [
  | inl lone ↦ inl lone
  | inr lowered ↦ inr (
    highest n answers,
    lowered_at (highest n answers) i,
    highest_agrees_law n answers well consistent,
    lowered,
    λ e.
        let at = lowered_same n answers well consistent i below in absurd (omega (arith, ints)),
  )
]

-- possible exactly if each answer has an extreme row
pub possible_by_extremes : PossibleByExtremes
possible_by_extremes n answers well = (
  (λ possible. all_from (λ a. 0 < length (extremes answers a)) answers (λ a one.
      let hit = extreme_row possible.0 answers a possible.1.same one (all_at (λ b. b.rows ≢ []) answers a well.some one) in
      not_empty (extremes answers a) hit.0 hit.1)),
  (λ consistent. (highest n answers, highest_agrees_law n answers well consistent)),
)

-- fixed exactly if lone
pub fixed_by_lone_rows : FixedByLoneRows
fixed_by_lone_rows n answers i well possible below = (
  (λ fixed. elim (lone_or_free n answers i well ((possible_by_extremes n answers well).0 possible) below) [
    | inl lone ↦ lone
    | inr (w, v, first, second, differ) ↦ absurd (differ (fixed w v first second))
  ]),
  (λ lone. lone_rows_are_fixed n answers i well.some lone),
)
