-- The extreme rows of each answer once the asked set has another: those of its rows that can reach it, but for the asked ones if the new answer is
-- lower.
use Rattle.std.proofs.Common.{◌≡◌, ℕ, Bool, true, false, not, cond, ℤ, List, [], ◌∷◌, refl, sym, ap, ◌∙◌, arith, Option, Some, None}
use Rattle.std.specs.Prelude.{◌<ℤ◌, ◌≤ℤ◌, int_lt}
use Rattle.std.specs.List.{filter}
use Rattle.std.proofs.lemmas.Int.{ints}
use Rattle.std.proofs.lemmas.Bool.{true≢false}
use Rattle.audit_types.specs.Rows.{has_row, AreRows, intersection, complement}
use Rattle.audit_types.specs.Column.{Answer, IsOneOf}
use Rattle.audit_types.specs.Extremes.{upper_bound, is_bound, extremes}
use Rattle.max_bounds.specs.BoundLaws.{bound_below, bound_is, exact_bound}
use Rattle.max_bounds.specs.Kept.{is_at_least, rows_at_least}
use Rattle.max_bounds.specs.Maxima.{and_answer}
use Rattle.max_bounds.specs.OneMoreLaws.{IsAtLeast, lower_keeps, higher_loses, asked_has, has_asked, filters_agree_on}
use Rattle.max_bounds.specs.Outside.{outside}
use Rattle.max_bounds.specs.RowListLaws.{filter-has, has-filter, outside_is}
use Rattle.denial_proof.proofs.Tests.{same_test}

-- a bound that is at least a number
pub at_least : (x : ℤ) (bound : Option ℤ) → is_at_least x bound ≡ true → IsAtLeast x bound
at_least x None test = tt
at_least x (Some b) test = elim (int_lt b x) as (λ t. int_lt b x ≡ t → not t ≡ true → x ≤ℤ b) [
  | true ↦ λ less none. absurd (true≢false (sym none))
  | false ↦ λ more none. omega (arith, ints)
] refl test

pub is_least : (x : ℤ) (bound : Option ℤ) → IsAtLeast x bound → is_at_least x bound ≡ true
is_least x None reaches = refl
is_least x (Some b) reaches = elim (int_lt b x) as (λ t. int_lt b x ≡ t → not t ≡ true) [
  | true ↦ λ less. absurd (omega (arith, ints))
  | false ↦ λ more. refl
] refl

-- what two tests leave, in either order
filter_swap : (p q : ℕ → Bool) (rows : List ℕ) → filter p (filter q rows) ≡ filter q (filter p rows)
filter_swap p q [] = refl
filter_swap p q (r ∷ rows) = step (p r) (q r) refl refl (filter_swap p q rows)
  where
    step : (b d : Bool) → p r ≡ b → q r ≡ d → filter p (filter q rows) ≡ filter q (filter p rows) →
        filter p (cond d (r ∷ filter q rows) (filter q rows)) ≡ filter q (cond b (r ∷ filter p rows) (filter p rows))
    step true true e f rest = rw (e, f, rest) refl
    step true false e f rest = rw (f, rest) refl
    step false true e f rest = rw (e, rest) refl
    step false false e f rest = rest

module _ (n : ℕ) (answers : List Answer) where
  -- the extreme rows of an answer are those of its set that can reach it
  pub extremes_reach : (a : Answer) → IsOneOf a answers → extremes answers a ≡ rows_at_least (upper_bound answers) a.value a.rows
  extremes_reach a one =
      filters_agree_on (λ r. is_bound (upper_bound answers r) a.value) (λ r. is_at_least a.value (upper_bound answers r)) a.rows (λ r there.
      let bound = bound_below answers a r one there in
      same_test (is_bound (upper_bound answers r) a.value) (is_at_least a.value (upper_bound answers r)) (
        λ extreme. is_least a.value (upper_bound answers r) (rw (exact_bound (upper_bound answers r) a.value extreme) (omega (arith, ints))),
        λ reaches.
            let most = bound.2 in
            let least : a.value ≤ℤ bound.0 = at_least a.value (Some bound.0) (ap (is_at_least a.value) (sym bound.1) ∙ reaches) in
            bound_is (upper_bound answers r) bound.0 a.value bound.1 (omega (arith, ints)),
      ))

  -- those outside the asked set
  pub outside_reach : (asked : List ℕ) (a : Answer) → IsOneOf a answers → AreRows n a.rows →
      outside asked (extremes answers a) ≡ rows_at_least (upper_bound answers) a.value (intersection n a.rows (complement n asked))
  outside_reach asked a one are =
      ap (outside asked) (extremes_reach a one)
      ∙ filter_swap (λ r. not (has_row asked r)) (λ r. is_at_least a.value (upper_bound answers r)) a.rows
      ∙ ap (rows_at_least (upper_bound answers) a.value) (sym (outside_is n asked a.rows are))

  module _ (asked : List ℕ) (x : ℤ) where
    -- a higher answer loses the asked rows
    pub higher_left : (a : Answer) → IsOneOf a answers → AreRows n a.rows → x <ℤ a.value →
        extremes (and_answer answers asked x) a ≡ rows_at_least (upper_bound answers) a.value (intersection n a.rows (complement n asked))
    higher_left a one are less = higher_loses answers asked x a one less ∙ outside_reach asked a one are

    -- another one keeps all
    pub lower_left : (a : Answer) → IsOneOf a answers → a.value ≤ℤ x →
        extremes (and_answer answers asked x) a ≡ rows_at_least (upper_bound answers) a.value a.rows
    lower_left a one most = lower_keeps answers asked x a one most ∙ extremes_reach a one

    -- the new one has the asked rows that can reach it
    pub asked_left : extremes (and_answer answers asked x) (record { rows = asked; value = x }) ≡ rows_at_least (upper_bound answers) x asked
    asked_left =
        filters_agree_on (λ r. is_bound (upper_bound (and_answer answers asked x) r) x) (λ r. is_at_least x (upper_bound answers r)) asked (λ r there.
        same_test (is_bound (upper_bound (and_answer answers asked x) r) x) (is_at_least x (upper_bound answers r)) (
          λ extreme.
              let here = has-filter (λ q. is_bound (upper_bound (and_answer answers asked x) q) x) asked r there extreme in
              is_least x (upper_bound answers r) (has_asked answers asked x r here).1,
          λ reaches.
              (filter-has (λ q. is_bound (upper_bound (and_answer answers asked x) q) x) asked r
              (asked_has answers asked x r there (at_least x (upper_bound answers r) reaches))).1,
        ))
