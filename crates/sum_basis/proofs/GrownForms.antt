-- The reduced form of a form's rows with a new row: each row, cleared, isn't 0 where its cross product with the new row isn't.
use Rattle.std.proofs.Common.{◌≡◌, ◌≢◌, ℕ, zero, suc, ◌+◌, ◌<◌, Bool, true, false, cond, ◌||◌, ◌==◌, ℤ, pos, List, [], ◌∷◌, ◌++◌, length, get_or, refl, sym, ap, ◌∙◌, subst, arith, inl, inr}
use Rattle.std.specs.Prelude.{◌*ℤ◌, ◌-ℤ◌, nat_lt}
use Rattle.std.specs.List.{AllByRecursion}
use Rattle.std.proofs.lemmas.Int.{ints}
use Rattle.std.proofs.lemmas.Bool.{eq-eqb, true≢false}
use Rattle.std.proofs.Math.IntN.{zero-*ℤ, *ℤ-zero}
use Rattle.audit_types.specs.Truth.{number_at}
use Rattle.audit_types.specs.Form.{pivot, pivot_entry, IsPrimitive, IsEchelon, IsReducedForm}
use Rattle.audit_types.specs.Direction.{is_pivot}
use Rattle.audit_types.specs.RowNumbers.{some_entry}
use Rattle.audit_types.specs.Numbers.{zero_or_not, positive_not_zero}
use Rattle.audit_types.specs.Products.{neg-times, zero_product}
use Rattle.audit_types.specs.PrimitiveLines.{number_at-times}
use Rattle.sum_basis.specs.Combination.{combine}
use Rattle.sum_basis.specs.CombinedRows.{number_at-combine, length-combine}
use Rattle.sum_basis.specs.Elimination.{IsZeroAtPivots, IsCleared, AreCleared}
use Rattle.sum_basis.specs.Reach.{one_if, met}
use Rattle.sum_basis.specs.Ties.{IsRowOf}
use Rattle.sum_basis.proofs.Along.{one_alike}
use Rattle.sum_basis.proofs.Clearing.{cleared_already, cleared_from, comes_first, leads_combination, line_zero}
use Rattle.sum_basis.proofs.FormsAreUnique.{forms_are_unique}
use Rattle.sum_basis.proofs.Growing.{placed_is_reduced}
use Rattle.sum_basis.proofs.Placing.{placed, parts_placed}
use Rattle.sum_basis.proofs.Reduction.{primitive_exists}

-- ---- rows of a list

all_own_from : (rows some : List (List ℤ)) → ((r : List ℤ) → IsRowOf r some → IsRowOf r rows) → AllByRecursion (λ r. IsRowOf r rows) some
all_own_from rows [] among = tt
all_own_from rows (r ∷ some) among = (among r (inl refl), all_own_from rows some (λ g h. among g (inr h)))

-- each row is one of them
pub all_own : (rows : List (List ℤ)) → AllByRecursion (λ r. IsRowOf r rows) rows
all_own rows = all_own_from rows rows (λ r h. h)

-- what holds of all rows holds of one of them
pub of_own : (P : List ℤ → Type 0) (rows : List (List ℤ)) (r : List ℤ) → AllByRecursion P rows → IsRowOf r rows → P r
of_own P [] r h among = absurd among
of_own P (first ∷ rows) r h among = elim among [ inl e ↦ subst P e h.0 | inr later ↦ of_own P rows r h.1 later ]

-- a column that is no pivot by the test is the pivot of no row
pub not_pivots : (rows : List (List ℤ)) (j : ℕ) → is_pivot rows j ≡ false → AllByRecursion (λ other. pivot other ≢ j) rows
not_pivots [] j e = tt
not_pivots (row ∷ rows) j e = (
  λ same. true≢false (sym (ap (λ b. b || is_pivot rows j) (eq-eqb (pivot row) j same)) ∙ e),
  not_pivots rows j (later (pivot row == j) (is_pivot rows j) e),
)
  where
    later : (a b : Bool) → (a || b) ≡ false → b ≡ false
    later true b not_one = absurd cc
    later false b not_one = not_one

-- ---- one row cleared

module _ (n : ℕ) (new : List ℤ) (p : IsPrimitive n new) where
  -- the cross product of a row with the new row, at a column
  abbrev pub crossed : List ℤ → ℕ → ℤ
  crossed row j = pivot_entry new *ℤ number_at row j -ℤ number_at row (pivot new) *ℤ number_at new j

  -- the row cleared, of which the cross product is a multiple; it stays as it is if it is 0 at the new row's pivot
  pub record IsLined (row made : List ℤ) : Type 0 where
    pub cleared : IsCleared n new row made
    pub stays : number_at row (pivot new) ≡ pos 0 → made ≡ row
    pub by : ℤ
    pub crossed_is : (j : ℕ) → crossed row j ≡ by *ℤ number_at made j
    pub there : (j : ℕ) → number_at made j ≡ pos 0 → crossed row j ≡ pos 0
    pub back : (j : ℕ) → crossed row j ≡ pos 0 → number_at made j ≡ pos 0

  -- the combination that clears is the cross product
  pub combine_is : (row : List ℤ) (j : ℕ) → number_at (combine (pivot_entry new) row (number_at row (pivot new)) new) j ≡ crossed row j
  combine_is row j =
      let sum = number_at-combine (pivot_entry new) row (number_at row (pivot new)) new j in
      let minus = neg-times (number_at row (pivot new)) (number_at new j) in
      omega (arith, ints)

  -- each row can be cleared so
  lined : (row : List ℤ) → IsPrimitive n row → number_at new (pivot row) ≡ pos 0 → (made : List ℤ) × IsLined row made
  lined row q e = elim (zero_or_not (number_at row (pivot new))) [
    | inl z ↦ (
      row,
      record {
        cleared = cleared_already n new row q z;
        stays = λ e. refl;
        by = pivot_entry new;
        crossed_is = λ j. let second = ap (λ x. x *ℤ number_at new j) z ∙ zero-*ℤ (number_at new j) in omega (arith, ints);
        there = λ j h.
            let first = ap (λ x. pivot_entry new *ℤ x) h ∙ *ℤ-zero (pivot_entry new) in
            let second = ap (λ x. x *ℤ number_at new j) z ∙ zero-*ℤ (number_at new j) in
            omega (arith, ints);
        back = λ j h.
            let second = ap (λ x. x *ℤ number_at new j) z ∙ zero-*ℤ (number_at new j) in
            zero_product (pivot_entry new) (number_at row j) (omega (arith, ints)) (positive_not_zero (pivot_entry new) p.leading);
      },
    )
    | inr some ↦
        let c = combine (pivot_entry new) row (number_at row (pivot new)) new in
        let made = primitive_exists n c (length-combine n (pivot_entry new) row (number_at row (pivot new)) new q.one_each p.one_each)
        (some_entry c (pivot row) (leads_combination n new row p q e)) in (
          made.0,
          record {
            cleared = cleared_from n new row made.0 made.1 p q e (comes_first n new row p e some) made.2 made.3 made.4;
            stays = λ z. absurd (some z);
            by = made.1;
            crossed_is = λ j. sym (combine_is row j) ∙ ap (λ l. number_at l j) made.3 ∙ number_at-times made.1 made.0 j;
            there = λ j h.
                sym (combine_is row j) ∙ ap (λ l. number_at l j) made.3 ∙ number_at-times made.1 made.0 j ∙ ap (λ x. made.1 *ℤ x) h ∙ *ℤ-zero made.1;
            back = λ j h. line_zero c made.1 made.0 j made.2 made.3 (combine_is row j ∙ h);
          },
        )
  ]

  -- all rows, each cleared in its place
  abbrev pub AreLined : List (List ℤ) → List (List ℤ) → Type 0
  AreLined [] [] = Unit {0}
  AreLined [] (made ∷ more) = ⊥
  AreLined (row ∷ rows) [] = ⊥
  AreLined (row ∷ rows) (made ∷ more) = IsLined row made × AreLined rows more

  all_lined : (rows : List (List ℤ)) → AllByRecursion (IsPrimitive n) rows → IsZeroAtPivots rows new → (made : List (List ℤ)) × AreLined rows made
  all_lined [] q z = ([], tt)
  all_lined (row ∷ rows) q z =
      let first = lined row q.0 z.0 in
      let rest = all_lined rows q.1 z.1 in
      (first.0 ∷ rest.0, (first.1, rest.1))

  are_cleared : (rows made : List (List ℤ)) → AreLined rows made → AreCleared n new rows made
  are_cleared [] [] all = tt
  are_cleared [] (r ∷ made) all = absurd all
  are_cleared (row ∷ rows) [] all = absurd all
  are_cleared (row ∷ rows) (r ∷ made) all = (all.0.cleared, are_cleared rows made all.1)

  -- how many cross products of the rows aren't 0
  abbrev pub count_crossed : List (List ℤ) → ℕ → ℕ
  count_crossed [] j = 0
  count_crossed (row ∷ rows) j = one_if (crossed row j) + count_crossed rows j

  met_lined : (rows made : List (List ℤ)) (j : ℕ) → AreLined rows made → met made j ≡ count_crossed rows j
  met_lined [] [] j all = refl
  met_lined [] (r ∷ made) j all = absurd all
  met_lined (row ∷ rows) [] j all = absurd all
  met_lined (row ∷ rows) (r ∷ made) j all =
      let first = one_alike (number_at r j) (crossed row j) (all.0.there j) (all.0.back j) in
      let rest = met_lined rows made j all.1 in
      omega arith

  pivots_lined : (rows made : List (List ℤ)) (i : ℕ) → AreLined rows made → is_pivot made i ≡ is_pivot rows i
  pivots_lined [] [] i all = refl
  pivots_lined [] (r ∷ made) i all = absurd all
  pivots_lined (row ∷ rows) [] i all = absurd all
  pivots_lined (row ∷ rows) (r ∷ made) i all =
      ap (λ (q : ℕ). (q == i) || is_pivot made i) all.0.cleared.same_pivot ∙ ap (λ b. (pivot row == i) || b) (pivots_lined rows made i all.1)

  -- row k is cleared to one of the made rows
  lined_at : (P : List ℤ → Type 0) (rows made : List (List ℤ)) (k : ℕ) → AreLined rows made → k < length rows → AllByRecursion P made →
      (r : List ℤ) × P r × IsLined (get_or rows k []) r
  lined_at P [] made k all l h = absurd (omega arith)
  lined_at P (row ∷ rows) [] k all l h = absurd all
  lined_at P (row ∷ rows) (r ∷ made) zero all l h = (r, h.0, all.0)
  lined_at P (row ∷ rows) (r ∷ made) (suc k) all l h = lined_at P rows made k all.1 (omega arith) h.1

  -- ---- the rows with the new one

  met_placed : (made : List (List ℤ)) (j : ℕ) → met (placed new made) j ≡ one_if (number_at new j) + met made j
  met_placed [] j = refl
  met_placed (r ∷ made) j = go (nat_lt (pivot new) (pivot r)) (met_placed made j)
    where
      go : (b : Bool) → met (placed new made) j ≡ one_if (number_at new j) + met made j →
          met (cond b (new ∷ r ∷ made) (r ∷ placed new made)) j ≡ one_if (number_at new j) + met (r ∷ made) j
      go true rest = refl
      go false rest = omega arith

  swap : (a b c : Bool) → (a || (b || c)) ≡ (b || (a || c))
  swap true true c = refl
  swap true false c = refl
  swap false true c = refl
  swap false false c = refl

  pivots_placed : (made : List (List ℤ)) (i : ℕ) → is_pivot (placed new made) i ≡ ((pivot new == i) || is_pivot made i)
  pivots_placed [] i = refl
  pivots_placed (r ∷ made) i = go (nat_lt (pivot new) (pivot r)) (pivots_placed made i)
    where
      go : (b : Bool) → is_pivot (placed new made) i ≡ ((pivot new == i) || is_pivot made i) →
          is_pivot (cond b (new ∷ r ∷ made) (r ∷ placed new made)) i ≡ ((pivot new == i) || is_pivot (r ∷ made) i)
      go true rest = refl
      go false rest = ap (λ b. (pivot r == i) || b) rest ∙ swap (pivot r == i) (pivot new == i) (is_pivot made i)

  -- what the reduced form with the new row is
  pub record IsGrown (old grown : List (List ℤ)) : Type 0 where
    pub new_row : IsRowOf new grown
    pub pivots : (i : ℕ) → is_pivot grown i ≡ ((pivot new == i) || is_pivot old i)
    pub count : (j : ℕ) → met grown j ≡ one_if (number_at new j) + count_crossed old j
    pub row : (k : ℕ) → k < length old → (made : List ℤ) × IsRowOf made grown × IsLined (get_or old k []) made

  pub grown_is : (old grown : List (List ℤ)) → AllByRecursion (IsPrimitive n) old → IsEchelon old → IsZeroAtPivots old new →
      IsReducedForm n (old ++ new ∷ []) grown → IsGrown old grown
  grown_is old grown q h z reduced =
      let made = all_lined old q z in
      let same = forms_are_unique n (old ++ new ∷ []) (placed new made.0) grown
      (placed_is_reduced n old made.0 new q h p z (are_cleared old made.0 made.1)) reduced in
      let parts = parts_placed (λ r. IsRowOf r (placed new made.0)) new made.0 (all_own (placed new made.0)) in
      subst (IsGrown old) same (record {
        new_row = parts.0;
        pivots = λ i. pivots_placed made.0 i ∙ ap (λ b. (pivot new == i) || b) (pivots_lined old made.0 i made.1);
        count = λ j. met_placed made.0 j ∙ ap (λ (m : ℕ). one_if (number_at new j) + m) (met_lined old made.0 j made.1);
        row = λ k l. lined_at (λ r. IsRowOf r (placed new made.0)) old made.0 k made.1 l parts.1;
      })
