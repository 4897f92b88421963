-- What was solved and divided is the canonical direction of the row.
use Rattle.std.proofs.Common.{◌≡◌, ◌≢◌, ℕ, ◌<◌, Bool, true, false, ℤ, pos, List, [], ◌∷◌, length, map, refl, sym, ap, ◌∙◌, subst, arith, inl, inr}
use Rattle.std.specs.Prelude.{◌+ℤ◌, ◌*ℤ◌, neg_ℤ, ◌<ℤ◌}
use Rattle.std.specs.List.{AllByRecursion}
use Rattle.std.proofs.Math.IntN.{*ℤ_comm, zero-*ℤ, *ℤ-zero, +ℤ_invr}
use Rattle.std.proofs.lemmas.Int.{ints}
use Rattle.std.proofs.lemmas.List.{length-map}
use Rattle.audit_types.specs.Rows.{AreRows}
use Rattle.audit_types.specs.Truth.{number_at, sum_over}
use Rattle.audit_types.specs.Form.{pivot, pivot_entry, IsPrimitive, Reduced}
use Rattle.audit_types.specs.Direction.{IsDirection, IsPinned, IsCanonicalDirection, is_pivot, free_column_of, IsSmall}
use Rattle.audit_types.specs.Products.{zero_product}
use Rattle.sum_basis.specs.Laws.{FormsAreUnique}
use Rattle.sum_audit.specs.Dot.{dot}
use Rattle.sum_audit.specs.DotLaws.{dot_two}
use Rattle.sum_audit.specs.Pivots.{no_pivot}
use Rattle.sum_audit.specs.Shifts.{sum_over-times}
use Rattle.sum_audit.specs.Laws.{DirectionsByForm}
use Rattle.witness_build.specs.Directions.{IsForm, IsSolved, IsSolvedWith, Solves, IsDivided}
use Rattle.witness_build.proofs.FreeColumns.{Reaches, IsFreeColumn, free_column_found}
use Rattle.witness_build.proofs.Dividing.{small_divided}
use Rattle.audit_types.specs.PrimitiveLines.{number_at-times}
use Rattle.audit_types.specs.FormRows.{IsZeroAtOthers, zero_at_others, pivot_below}
use Rattle.audit_types.specs.Numbers.{positive_not_zero}

module _ (n : ℕ) (form : List (List ℤ)) (free : ℕ) (d : List ℤ) (common : ℤ) (below : free < n) (solved : IsSolvedWith n common form free d) where
  by_pivot : (row : List ℤ) → IsZeroAtOthers form row → (j : ℕ) → j ≢ free → j ≢ pivot row → (b : Bool) → is_pivot form j ≡ b →
      number_at row j *ℤ number_at d j ≡ pos 0
  by_pivot row zeros j other apart true there = ap (λ z. z *ℤ number_at d j) (zeros j there apart) ∙ zero-*ℤ (number_at d j)
  by_pivot row zeros j other apart false none = ap (λ z. number_at row j *ℤ z) (solved.elsewhere j none other) ∙ *ℤ-zero (number_at row j)

  one_orthogonal : (row : List ℤ) → IsPrimitive n row → IsZeroAtOthers form row → Solves d common free row → free ≢ pivot row → dot n (number_at row) d ≡ pos 0
  one_orthogonal row primitive zeros solves apart =
      let two = dot_two n (number_at row) d free (pivot row) below (pivot_below n row primitive) apart
      (λ j other own. by_pivot row zeros j other own (is_pivot form j) refl) in
      let first = ap (λ z. number_at row free *ℤ z) solved.at_free in
      let second = *ℤ_comm (pivot_entry row) (number_at d (pivot row)) ∙ solves in
      two ∙ ap (λ z. z +ℤ pivot_entry row *ℤ number_at d (pivot row)) first ∙ ap (λ z. number_at row free *ℤ common +ℤ z) second
      ∙ +ℤ_invr (number_at row free *ℤ common)

  -- the solved numbers are orthogonal to each row of the form
  all_orthogonal : (rows : List (List ℤ)) → AllByRecursion (IsPrimitive n) rows → AllByRecursion (IsZeroAtOthers form) rows →
      AllByRecursion (Solves d common free) rows → AllByRecursion (λ r. free ≢ pivot r) rows → AllByRecursion (λ row. dot n (number_at row) d ≡ pos 0) rows
  all_orthogonal [] p z s a = tt
  all_orthogonal (r ∷ rows) p z s a = (one_orthogonal r p.0 z.0 s.0 a.0, all_orthogonal rows p.1 z.1 s.1 a.1)

  -- and not 0 at a row that reaches the free column
  module _ (positive : pos 0 <ℤ common) where
    reached : (rows : List (List ℤ)) (i : ℕ) → AllByRecursion (Solves d common free) rows → Reaches rows i free → number_at d i ≢ pos 0
    reached [] i s r e = r
    reached (row ∷ rows) i s (inl here) e =
        let none : number_at row free *ℤ common ≡ pos 0 = none_left (number_at d (pivot row)) (pivot_entry row) (number_at row free *ℤ common)
        (ap (number_at d) here.0 ∙ e) s.0 in
        here.1 (zero_product common (number_at row free) (*ℤ_comm common (number_at row free) ∙ none) (positive_not_zero common positive))
      where
        none_left : (x p z : ℤ) → x ≡ pos 0 → x *ℤ p ≡ neg_ℤ z → z ≡ pos 0
        none_left x p z none solves = let product = ap (λ y. y *ℤ p) none ∙ zero-*ℤ p in omega (arith, ints)
    reached (row ∷ rows) i s (inr later) e = reached rows i s.1 later e

    pub moves_row : (i : ℕ) → IsFreeColumn form form n i free → number_at d i ≢ pos 0
    moves_row i column e = elim column.reaches [
      | inl same ↦ positive_not_zero common positive (sym solved.at_free ∙ ap (number_at d) same ∙ e)
      | inr r ↦ reached form i solved.solves r e
    ]

zero_sums_divided : (k : ℤ) (d : List ℤ) (sets : List (List ℕ)) → k ≢ pos 0 → AllByRecursion (λ s. sum_over (map (λ x. k *ℤ x) d) s ≡ pos 0) sets →
    AllByRecursion (λ s. sum_over d s ≡ pos 0) sets
zero_sums_divided k d [] h z = tt
zero_sums_divided k d (s ∷ sets) h z = (zero_product k (sum_over d s) (sym (sum_over-times k d s) ∙ z.0) h, zero_sums_divided k d sets h z.1)

module _ (directions : DirectionsByForm) (unique : FormsAreUnique) (n : ℕ) (sets : List (List ℕ)) (form : List (List ℤ)) (i free : ℕ)
    (are : AllByRecursion (AreRows n) sets) (reduced : Reduced n sets form) (below : i < n) (open_row : ¬ (IsPinned n sets i))
    (is_column : free ≡ free_column_of form form i) where
  pub column : IsFreeColumn form form n i free
  column = subst (IsFreeColumn form form n i) (sym is_column) (free_column_found directions n sets form i are reduced below open_row)

  pub is_form : IsForm n form
  is_form = record { primitive = reduced.primitive; echelon = reduced.echelon }

  module _ (solved : List ℤ) (is_solved : IsSolved n form free solved) where
    pub moves : number_at solved i ≢ pos 0
    moves = moves_row n form free solved is_solved.0 column.below is_solved.2 is_solved.1 i column

    solved_direction : IsDirection n sets solved
    solved_direction = (directions n sets form solved are reduced).1 (record {
      one_each = is_solved.2.one_each;
      zeros =
          all_orthogonal n form free solved is_solved.0 column.below is_solved.2 form reduced.primitive (zero_at_others form reduced.echelon) is_solved.2.solves
          (no_pivot form free column.free);
    })

    module _ (d : List ℤ) (divided : IsDivided solved i d) where
      factor_not_zero : divided.factor ≢ pos 0
      factor_not_zero e =
          moves (ap (λ l. number_at l i) divided.is_multiple ∙ number_at-times divided.factor d i ∙ ap (λ z. z *ℤ number_at d i) e ∙ zero-*ℤ (number_at d i))

      pub divided_length : length d ≡ n
      divided_length = sym (length-map d (λ x. divided.factor *ℤ x)) ∙ ap length (sym divided.is_multiple) ∙ is_solved.2.one_each

      pub divided_small : IsSmall d
      divided_small = small_divided divided.factor d factor_not_zero (subst IsSmall divided.is_multiple is_solved.2.small)

      canonical_here : IsCanonicalDirection n sets form i d
      canonical_here = record {
        direction = record {
          one_each = divided_length;
          zero_sums =
              zero_sums_divided divided.factor d sets factor_not_zero
              (subst (λ l. AllByRecursion (λ s. sum_over l s ≡ pos 0) sets) divided.is_multiple solved_direction.zero_sums);
        };
        free = λ j none other. zero_product divided.factor (number_at d j)
            (sym (number_at-times divided.factor d j) ∙ ap (λ l. number_at l j) (sym divided.is_multiple)
            ∙ is_solved.2.elsewhere j none (λ e. other (e ∙ is_column))) factor_not_zero;
        content = divided.content;
        positive = divided.positive;
      }

      -- whatever list is the reduced form
      pub canonical : (other : List (List ℤ)) → Reduced n sets other → IsCanonicalDirection n sets other i d
      canonical other h = subst (λ f. IsCanonicalDirection n sets f i d) (unique n _ form other reduced h) canonical_here
