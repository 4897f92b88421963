-- The greatest number over a set is a bound, and one of the numbers; and which numbers the truth over a set reads.
use Rattle.std.proofs.Common.{◌≡◌, ◌≢◌, ℕ, ◌+◌, ◌<◌, ℤ, true, ◌==◌, List, [], ◌∷◌, map, refl, sym, ap, ◌∙◌, arith, inl, inr, ◌⊎◌, ◌≤ℤ◌, subst}
use Rattle.std.specs.List.{AllByRecursion, fold}
use Rattle.std.specs.Prelude.{◌+ℤ◌, int_lt}
use Rattle.std.specs.Int.{int_max}
use Rattle.std.proofs.lemmas.Bool.{cases_cond, or_left, or_right, or_cases, eq-eqb, eqb-true, true≢false}
use Rattle.std.proofs.lemmas.Int.{ints, int_max_is}
use Rattle.audit_types.specs.declared.shapes.Kind.{Kind}
use Rattle.audit_types.specs.declared.shapes.Kind.TheVariants.{Sum, Max}
use Rattle.audit_types.specs.Rows.{has_row, AscendsFrom, AreRows}
use Rattle.audit_types.specs.Truth.{number_at, sum_over, greatest_over, truth}
use Rattle.audit_types.specs.Column.{Answer}

-- the greatest of a number and those over some rows
abbrev greatest_from : List ℤ → ℤ → List ℕ → ℤ
greatest_from w a rows = fold int_max a (map (number_at w) rows)

-- the number to begin with is not above the greatest
pub start_below : (w : List ℤ) (rows : List ℕ) (a : ℤ) → a ≤ℤ greatest_from w a rows
start_below w [] a = omega (arith, ints)
start_below w (r ∷ rows) a =
    let rest = start_below w rows (int_max a (number_at w r)) in
    omega (arith, ints, int_max_is a (number_at w r))

-- nor is a number over the rows
pub each_below : (w : List ℤ) (rows : List ℕ) (a : ℤ) (r : ℕ) → has_row rows r ≡ true → number_at w r ≤ℤ greatest_from w a rows
each_below w [] a r h = absurd (true≢false (sym h))
each_below w (x ∷ rows) a r h =
    elim (or_cases (x == r) (has_row rows r) h) [
      | inl here ↦
          let rest = start_below w rows (int_max a (number_at w x)) in
          let same : number_at w x ≡ number_at w r = ap (number_at w) (eqb-true x r here) in
          subst (λ n. n ≤ℤ greatest_from w (int_max a (number_at w x)) rows) same (omega (arith, ints, int_max_is a (number_at w x)))
      | inr later ↦ each_below w rows (int_max a (number_at w x)) r later
    ]

-- the greatest is the number to begin with, or that of a row
pub reached : (w : List ℤ) (rows : List ℕ) (a : ℤ) →
    (greatest_from w a rows ≡ a) ⊎ ((r : ℕ) × (has_row rows r ≡ true) × (number_at w r ≡ greatest_from w a rows))
reached w [] a = inl refl
reached w (x ∷ rows) a = elim (reached w rows (int_max a (number_at w x))) [
  | inl start ↦ elim (cases_cond (int_lt (number_at w x) a) a (number_at w x) (int_max a (number_at w x)) refl) [
    | inl first ↦ inl (start ∙ first)
    | inr second ↦ inr (x, or_left (x == x) (has_row rows x) (eq-eqb x x refl), sym (start ∙ second))
  ]
  | inr later ↦ inr (later.0, or_right (x == later.0) (has_row rows later.0) later.1, later.2)
]

-- the greatest over a set is a bound, and the number of a row
pub bound_and_reached : (w : List ℤ) (rows : List ℕ) → rows ≢ [] →
    ((r : ℕ) → has_row rows r ≡ true → number_at w r ≤ℤ greatest_over w rows)
    × ((r : ℕ) × (has_row rows r ≡ true) × (number_at w r ≡ greatest_over w rows))
bound_and_reached w [] some = absurd (some refl)
bound_and_reached w (x ∷ rows) some = (
  λ r h. elim (or_cases (x == r) (has_row rows r) h) [
    | inl here ↦ subst (λ n. n ≤ℤ greatest_from w (number_at w x) rows) (ap (number_at w) (eqb-true x r here)) (start_below w rows (number_at w x))
    | inr later ↦ each_below w rows (number_at w x) r later
  ],
  elim (reached w rows (number_at w x)) [
    | inl start ↦ (x, or_left (x == x) (has_row rows x) (eq-eqb x x refl), sym start)
    | inr later ↦ (later.0, or_right (x == later.0) (has_row rows later.0) later.1, later.2)
  ],
)

-- a number that is reached, and that none is above, is the greatest
pub greatest_is : (w : List ℤ) (rows : List ℕ) (m : ℤ) (q : ℕ) → rows ≢ [] → ((r : ℕ) → has_row rows r ≡ true → number_at w r ≤ℤ m) →
    has_row rows q ≡ true → number_at w q ≡ m → greatest_over w rows ≡ m
greatest_is w rows m q some all there is =
    let law = bound_and_reached w rows some in
    let reached = law.1 in
    let low = all reached.0 reached.1 in
    let equal = reached.2 in
    let high = law.0 q there in
    omega (arith, ints)

-- ---- the truth over a set reads no number but those of its rows

module _ (w v : List ℤ) (m : ℕ) (same : (r : ℕ) → r < m → number_at w r ≡ number_at v r) where
  pub same_sum : (low : ℕ) (rows : List ℕ) → AscendsFrom low m rows → sum_over w rows ≡ sum_over v rows
  same_sum low [] are = refl
  same_sum low (r ∷ rows) are = ap (λ z. z +ℤ sum_over w rows) (same r are.1) ∙ ap (λ z. number_at v r +ℤ z) (same_sum (r + 1) rows are.2)

  same_numbers : (low : ℕ) (rows : List ℕ) → AscendsFrom low m rows → map (number_at w) rows ≡ map (number_at v) rows
  same_numbers low [] are = refl
  same_numbers low (r ∷ rows) are =
      ap (λ z. z ∷ map (number_at w) rows) (same r are.1) ∙ ap (λ zs. number_at v r ∷ zs) (same_numbers (r + 1) rows are.2)

  pub same_truth : (kind : Kind) (rows : List ℕ) → AreRows m rows → truth kind w rows ≡ truth kind v rows
  same_truth Sum rows are = same_sum 0 rows are
  same_truth Max [] are = refl
  same_truth Max (r ∷ rows) are =
      ap (λ z. fold int_max z (map (number_at w) rows)) (same r are.1) ∙ ap (λ zs. fold int_max (number_at v r) zs) (same_numbers (r + 1) rows are.2)

  -- so lists that are the same below m give the same answers
  pub same_answers : (kind : Kind) (answers : List Answer) → AllByRecursion (λ a. AreRows m a.rows) answers →
      AllByRecursion (λ a. truth kind w a.rows ≡ a.value) answers → AllByRecursion (λ a. truth kind v a.rows ≡ a.value) answers
  same_answers kind [] are all = tt
  same_answers kind (a ∷ answers) are all = (sym (same_truth kind a.rows are.0) ∙ all.0, same_answers kind answers are.1 all.1)
