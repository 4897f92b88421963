-- The highest bound of a set's rows.
use Rattle.std.proofs.Common.{◌≡◌, ℕ, true, ◌==◌, ℤ, List, [], ◌∷◌, ◌++◌, Option, Some, None, MatchOption, refl, sym, ap, ◌∙◌, subst, arith}
use Rattle.std.specs.Prelude.{◌≤ℤ◌}
use Rattle.std.specs.Int.{int_max}
use Rattle.std.proofs.lemmas.Bool.{or_left, true≢false}
use Rattle.std.proofs.lemmas.Int.{ints, clamps, by_lt_z}
use Rattle.std.proofs.lemmas.List.Folds.{list_any-append}
use Rattle.audit_types.specs.Rows.{has_row}
use Rattle.audit_types.specs.Column.{Answer}
use Rattle.audit_types.specs.Extremes.{upper_bound}
use Rattle.implied_records.specs.Kept.{IsBounded}
use Rattle.implied_records.specs.Follows.{IsHighestBound, higher_of}
use Rattle.audit_types.specs.WalkLaws.{next_of_walk}
use Rattle.implied_records.proofs.RowByRow.{bounded_more}

module _ (answers : List Answer) where
  -- the highest bound of the rows so far, if there are any
  abbrev pub IsHighestSoFar : List ℕ → Option ℤ → Type 0
  IsHighestSoFar rows highest = MatchOption highest (rows ≡ []) (IsHighestBound answers rows)

  -- what is bounded by a number is bounded by a greater one
  higher_bound : (rows : List ℕ) (low high : ℤ) → low ≤ℤ high → IsBounded answers rows low → IsBounded answers rows high
  higher_bound rows low high more bounded r there =
      let b = bounded r there in
      let under = b.2 in
      (b.0, b.1, omega (arith, ints))

  -- no row is bounded by every number
  none_above : (rows : List ℕ) (value : ℤ) → rows ≡ [] → IsBounded answers rows value
  none_above rows value none r there = absurd (true≢false (sym (subst (λ l. has_row l r ≡ true) none there)))

  -- a row that has the highest bound of some rows and one more
  HasHighest : List ℕ → ℕ → ℤ → Type 0
  HasHighest rows r value = (q : ℕ) × (has_row (rows ++ r ∷ []) q ≡ true) × (upper_bound answers q ≡ Some value)

  the_last : (rows : List ℕ) (r : ℕ) (bound value : ℤ) → upper_bound answers r ≡ Some bound → bound ≡ value → HasHighest rows r value
  unfolding HasHighest
  the_last rows r bound value is same = (r, next_of_walk rows (r ∷ []) [] (rows ++ r ∷ []) r refl refl, is ∙ ap Some same)

  an_earlier : (rows : List ℕ) (r : ℕ) (highest value : ℤ) → IsHighestBound answers rows highest → highest ≡ value → HasHighest rows r value
  unfolding HasHighest
  an_earlier rows r highest value so_far same = (
    so_far.row,
    list_any-append (λ x. x == so_far.row) rows (r ∷ []) ∙ or_left (has_row rows so_far.row) (has_row (r ∷ []) so_far.row) so_far.inside,
    so_far.has_it ∙ ap Some same,
  )

  of_both : (rows : List ℕ) (r : ℕ) (highest bound : ℤ) → IsHighestBound answers rows highest → upper_bound answers r ≡ Some bound →
      HasHighest rows r (int_max highest bound)
  of_both rows r highest bound so_far is =
      by_lt_z bound highest (λ less. an_earlier rows r highest (int_max highest bound) so_far (omega (arith, ints, clamps)))
      (λ not. the_last rows r bound (int_max highest bound) is (omega (arith, ints, clamps)))

  with_row : (rows : List ℕ) (r : ℕ) (value : ℤ) → IsBounded answers (rows ++ r ∷ []) value → HasHighest rows r value →
      IsHighestBound answers (rows ++ r ∷ []) value
  unfolding HasHighest
  with_row rows r value bounded has = record { bounded = bounded; row = has.0; inside = has.1; has_it = has.2 }

  -- a row more
  pub highest_more : (rows : List ℕ) (highest : Option ℤ) (r : ℕ) (bound : ℤ) → IsHighestSoFar rows highest → upper_bound answers r ≡ Some bound →
      IsHighestBound answers (rows ++ r ∷ []) (higher_of highest bound)
  highest_more rows None r bound so_far is =
      with_row rows r bound (bounded_more answers rows bound r (none_above rows bound so_far) (bound, is, omega (arith, ints)))
      (the_last rows r bound bound is refl)
  highest_more rows (Some highest) r bound so_far is =
      with_row rows r (int_max highest bound)
      (bounded_more answers rows (int_max highest bound) r (higher_bound rows highest (int_max highest bound) (omega (arith, ints, clamps)) so_far.bounded)
      (bound, is, omega (arith, ints, clamps)))
      (of_both rows r highest bound so_far is)

  -- if a row has no bound, no number is the highest
  pub none_highest : (rows : List ℕ) (r : ℕ) (value : ℤ) → has_row rows r ≡ true → upper_bound answers r ≡ None → IsHighestBound answers rows value → ⊥
  none_highest rows r value there none highest = let b = highest.bounded r there in let both : None ≡ Some b.0 = sym none ∙ b.1 in absurd cc

  -- nor is one of no rows
  pub none_of_none : (rows : List ℕ) (value : ℤ) → rows ≡ [] → IsHighestBound answers rows value → ⊥
  none_of_none rows value none highest = absurd (true≢false (sym (subst (λ l. has_row l highest.row ≡ true) none highest.inside)))

  -- one number is the highest bound
  pub one_highest : (rows : List ℕ) (a b : ℤ) → IsHighestBound answers rows a → IsHighestBound answers rows b → a ≡ b
  one_highest rows a b first second =
      let over = first.bounded second.row second.inside in
      let under = second.bounded first.row first.inside in
      let first_is : Some over.0 ≡ Some b = sym over.1 ∙ second.has_it in
      let second_is : Some under.0 ≡ Some a = sym under.1 ∙ first.has_it in
      let same : over.0 ≡ b = cc in
      let also : under.0 ≡ a = cc in
      let low = over.2 in
      let high = under.2 in
      omega (arith, ints)
