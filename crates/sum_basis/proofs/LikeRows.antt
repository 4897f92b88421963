-- A row that lies in the span of a form with a new list and with the unit row of a column has that row's key.
--
-- What the form leaves of a row, of the unit row and of the new row are all 0 at its pivots. So where a multiple of the row is a combination of the
-- form's rows, the new row and the unit row, a multiple of what is left of it is one of the new list and of what is left of the unit row: the form's
-- part is 0 at all pivots, and hence 0.
use Rattle.std.proofs.Common.{◌≡◌, ◌≢◌, ℕ, ◌<◌, ℤ, pos, List, [], ◌∷◌, ◌++◌, length, refl, sym, ap, ◌∙◌, subst, arith, inl, inr}
use Rattle.std.specs.Prelude.{◌+ℤ◌, ◌*ℤ◌, neg_ℤ}
use Rattle.std.proofs.lemmas.Int.{ints}
use Rattle.std.proofs.Math.IntN.{*ℤ-zero, zero-*ℤ}
use Rattle.audit_types.specs.Truth.{number_at}
use Rattle.audit_types.specs.Form.{combined, InSpan, pivot}
use Rattle.audit_types.specs.Numbers.{positive_not_zero}
use Rattle.audit_types.specs.Products.{neg-times, one-times, times-add, times_assoc, product_not_zero, zero_product, swapped}
use Rattle.audit_types.specs.Totals.{combined-push}
use Rattle.sum_basis.specs.Basis.{Echelon, unit_row}
use Rattle.sum_basis.specs.Elimination.{IsSmallForm, IsZeroAtPivots}
use Rattle.sum_basis.specs.Points.{weighted, weighted_after, first_weight, second_weight, IsResidue, IsPointAfter, IsKey, HasKey, LikeRowsHaveOneKey, with_new}
use Rattle.sum_basis.specs.Reach.{IsLeftOverOrNone}
use Rattle.sum_basis.specs.Spans.{Spans, ZeroAtPivots, spans_times, spans_add, spans_combined, span_zero, own}
use Rattle.sum_basis.specs.Sparse.{entry_at, row_of, IsListed}
use Rattle.sum_basis.specs.declared.points.Point.{Point}
use Rattle.sum_basis.specs.declared.sparse.FreeEntry.{FreeEntry}
use Rattle.sum_basis.proofs.FormsAreUnique.{leads_from}
use Rattle.sum_basis.proofs.OneKey.{one_key, no_key, crossed}
use Rattle.sum_basis.proofs.SparseRows.{number_at-row_of}
use Rattle.sum_basis.proofs.Weighted.{weighted_after_line}

-- a multiple of the row is a combination of the form's rows, the new row and another one
pub record IsCombined (form : Echelon) (new : List FreeEntry) (other row : List ℤ) : Type 0 where
  pub multiple : ℕ
  pub positive : 0 < multiple
  pub coefficients : List ℤ
  pub by : ℤ
  pub times : ℤ
  pub is : (j : ℕ) → pos multiple *ℤ number_at row j
      ≡ (combined coefficients form.rows j +ℤ by *ℤ number_at (row_of form.n new) j) +ℤ times *ℤ number_at other j

-- so it is if the row lies in the span
combined_from : (form : Echelon) (new : List FreeEntry) (other row : List ℤ) → InSpan (with_new form new ++ other ∷ []) row →
    IsCombined form new other row
combined_from form [] other row span = record {
  multiple = span.multiple;
  positive = span.positive;
  coefficients = span.coefficients;
  by = pos 0;
  times = number_at span.coefficients (length form.rows);
  is = λ j.
      let whole = span.is j ∙ combined-push span.coefficients form.rows other j in
      let none = zero-*ℤ (number_at (row_of form.n []) j) in
      omega (arith, ints);
}
combined_from form (e ∷ new) other row span = record {
  multiple = span.multiple;
  positive = span.positive;
  coefficients = span.coefficients;
  by = number_at span.coefficients (length form.rows);
  times = number_at span.coefficients (length (form.rows ++ row_of form.n (e ∷ new) ∷ []));
  is = λ j. span.is j ∙ combined-push span.coefficients (form.rows ++ row_of form.n (e ∷ new) ∷ []) other j
      ∙ ap (λ z. z +ℤ number_at span.coefficients (length (form.rows ++ row_of form.n (e ∷ new) ∷ [])) *ℤ number_at other j)
      (combined-push span.coefficients form.rows (row_of form.n (e ∷ new)) j);
}

-- without another row too
combined_alone : (form : Echelon) (new : List FreeEntry) (row : List ℤ) → InSpan (with_new form new) row → IsCombined form new [] row
combined_alone form [] row span = record {
  multiple = span.multiple;
  positive = span.positive;
  coefficients = span.coefficients;
  by = pos 0;
  times = pos 0;
  is = λ j.
      let whole = span.is j in
      let none = zero-*ℤ (number_at (row_of form.n []) j) in
      let nothing = zero-*ℤ (number_at [] j) in
      omega (arith, ints);
}
combined_alone form (e ∷ new) row span = record {
  multiple = span.multiple;
  positive = span.positive;
  coefficients = span.coefficients;
  by = number_at span.coefficients (length form.rows);
  times = pos 0;
  is = λ j.
      let whole = span.is j ∙ combined-push span.coefficients form.rows (row_of form.n (e ∷ new)) j in
      let nothing = zero-*ℤ (number_at [] j) in
      omega (arith, ints);
}

-- what is left of the two rows, by the numbers at one column
rest_is : (m s u t v g b r e x l q rows own other : ℤ) → m *ℤ r ≡ (rows +ℤ b *ℤ l) +ℤ g *ℤ e → s *ℤ r ≡ u *ℤ x +ℤ own → t *ℤ e ≡ v *ℤ q +ℤ other →
    t *ℤ (m *ℤ (u *ℤ x)) +ℤ t *ℤ (m *ℤ own)
    ≡ ((t *ℤ (s *ℤ rows) +ℤ t *ℤ (s *ℤ (b *ℤ l))) +ℤ s *ℤ (g *ℤ (v *ℤ q))) +ℤ s *ℤ (g *ℤ other)
rest_is m s u t v g b r e x l q rows own other row left unit =
    sym (times-add t (m *ℤ (u *ℤ x)) (m *ℤ own)) ∙ ap (λ z. t *ℤ z) (sym (times-add m (u *ℤ x) own) ∙ ap (λ z. m *ℤ z) (sym left) ∙ swapped m s r
    ∙ ap (λ z. s *ℤ z) row ∙ times-add s (rows +ℤ b *ℤ l) (g *ℤ e) ∙ ap (λ z. z +ℤ s *ℤ (g *ℤ e)) (times-add s rows (b *ℤ l)))
    ∙ times-add t (s *ℤ rows +ℤ s *ℤ (b *ℤ l)) (s *ℤ (g *ℤ e)) ∙ ap (λ z. z +ℤ t *ℤ (s *ℤ (g *ℤ e))) (times-add t (s *ℤ rows) (s *ℤ (b *ℤ l)))
    ∙ ap (λ z. (t *ℤ (s *ℤ rows) +ℤ t *ℤ (s *ℤ (b *ℤ l))) +ℤ z) last ∙ turned (t *ℤ (s *ℤ rows) +ℤ t *ℤ (s *ℤ (b *ℤ l))) _ _
  where
    last : t *ℤ (s *ℤ (g *ℤ e)) ≡ s *ℤ (g *ℤ (v *ℤ q)) +ℤ s *ℤ (g *ℤ other)
    last =
        swapped t s (g *ℤ e) ∙ ap (λ z. s *ℤ z) (swapped t g e ∙ ap (λ z. g *ℤ z) unit ∙ times-add g (v *ℤ q) other)
        ∙ times-add s (g *ℤ (v *ℤ q)) (g *ℤ other)

    turned : (a b c : ℤ) → a +ℤ (b +ℤ c) ≡ (a +ℤ b) +ℤ c
    turned a b c = omega (arith, ints)

module _ (form : Echelon) (f : IsSmallForm form.n form.rows) (new : List FreeEntry) (listed : IsListed 0 form.n new)
    (new_zeros : IsZeroAtPivots form.rows (row_of form.n new)) (other row : List ℤ) (entries others : List FreeEntry) (r : IsResidue form row entries)
    (s : IsResidue form other others) (c : IsCombined form new other row) where
  -- how often each of the three is taken
  abbrev a : ℤ
  a = s.times *ℤ (pos c.multiple *ℤ r.by)

  abbrev b : ℤ
  b = s.times *ℤ (r.times *ℤ c.by)

  abbrev k : ℤ
  k = r.times *ℤ (c.times *ℤ s.by)

  abbrev at : List FreeEntry → ℕ → ℤ
  at list j = number_at (row_of form.n list) j

  -- the form's part
  abbrev part : ℕ → ℤ
  part j =
      (s.times *ℤ (r.times *ℤ combined c.coefficients form.rows j) +ℤ r.times *ℤ (c.times *ℤ combined s.coefficients form.rows j))
      +ℤ neg_ℤ s.times *ℤ (pos c.multiple *ℤ combined r.coefficients form.rows j)

  part_spanned : Spans form.rows part
  part_spanned =
      spans_add form.rows
      (λ j. s.times *ℤ (r.times *ℤ combined c.coefficients form.rows j) +ℤ r.times *ℤ (c.times *ℤ combined s.coefficients form.rows j))
      (λ j. neg_ℤ s.times *ℤ (pos c.multiple *ℤ combined r.coefficients form.rows j))
      (spans_add form.rows (λ j. s.times *ℤ (r.times *ℤ combined c.coefficients form.rows j))
      (λ j. r.times *ℤ (c.times *ℤ combined s.coefficients form.rows j))
      (twice s.times r.times c.coefficients) (twice r.times c.times s.coefficients))
      (twice (neg_ℤ s.times) (pos c.multiple) r.coefficients)
    where
      twice : (x y : ℤ) (cs : List ℤ) → Spans form.rows (λ j. x *ℤ (y *ℤ combined cs form.rows j))
      twice x y cs =
          spans_times form.rows x (λ j. y *ℤ combined cs form.rows j)
          (spans_times form.rows y (combined cs form.rows) (spans_combined form.rows cs form.rows (own form.rows)))

  part_is : (j : ℕ) → a *ℤ at entries j ≡ (b *ℤ at new j +ℤ k *ℤ at others j) +ℤ part j
  part_is j =
      let whole = rest_is (pos c.multiple) r.times r.by s.times s.by c.times c.by (number_at row j) (number_at other j) (at entries j) (at new j)
      (at others j) (combined c.coefficients form.rows j) (combined r.coefficients form.rows j) (combined s.coefficients form.rows j) (c.is j) (r.is j)
      (s.is j) in
      let minus = neg-times s.times (pos c.multiple *ℤ combined r.coefficients form.rows j) in
      let first = times_assoc s.times (pos c.multiple *ℤ r.by) (at entries j)
      ∙ ap (λ z. s.times *ℤ z) (times_assoc (pos c.multiple) r.by (at entries j)) in
      let second = times_assoc s.times (r.times *ℤ c.by) (at new j) ∙ ap (λ z. s.times *ℤ z) (times_assoc r.times c.by (at new j)) in
      let third = times_assoc r.times (c.times *ℤ s.by) (at others j) ∙ ap (λ z. r.times *ℤ z) (times_assoc c.times s.by (at others j)) in
      omega (arith, ints)

  part_zeros : (some : List (List ℤ)) → IsZeroAtPivots some (row_of form.n entries) → IsZeroAtPivots some (row_of form.n new) →
      IsZeroAtPivots some (row_of form.n others) → ZeroAtPivots part some
  part_zeros [] x y z = tt
  part_zeros (head ∷ some) x y z = (
    (let whole = part_is (pivot head) in
        let first = ap (λ v. a *ℤ v) x.0 ∙ *ℤ-zero a in
        let second = ap (λ v. b *ℤ v) y.0 ∙ *ℤ-zero b in
        let third = ap (λ v. k *ℤ v) z.0 ∙ *ℤ-zero k in
        omega (arith, ints)),
    part_zeros some x.1 y.1 z.1,
  )

  -- so a multiple of what is left of the row is a combination of the new list and of what is left of the other
  left_is : (j : ℕ) → a *ℤ entry_at entries j ≡ b *ℤ entry_at new j +ℤ k *ℤ entry_at others j
  left_is j =
      let none = span_zero form.rows part f.echelon (leads_from form.n form.rows f.primitive) part_spanned
      (part_zeros form.rows r.zeros new_zeros s.zeros) j in
      let whole = part_is j in
      let first = ap (λ z. a *ℤ z) (number_at-row_of 0 form.n entries r.listed j) in
      let second = ap (λ z. b *ℤ z) (number_at-row_of 0 form.n new listed j) in
      let third = ap (λ z. k *ℤ z) (number_at-row_of 0 form.n others s.listed j) in
      omega (arith, ints)

  a_some : a ≢ pos 0
  a_some =
      product_not_zero s.times (pos c.multiple *ℤ r.by) s.times_some
      (product_not_zero (pos c.multiple) r.by (positive_not_zero (pos c.multiple) (let above = c.positive in omega (arith, ints))) r.by_some)

  -- and so are the sums over the two
  sums_are : (weight : ℕ → ℤ) → a *ℤ weighted_after weight new entries ≡ k *ℤ weighted_after weight new others
  sums_are weight = weighted_after_line weight form.n a b k entries new others r.listed listed s.listed left_is

  -- so the one is 0 if the other is
  sum_none : (weight : ℕ → ℤ) → weighted_after weight new others ≡ pos 0 → weighted_after weight new entries ≡ pos 0
  sum_none weight none =
      zero_product a (weighted_after weight new entries) (sums_are weight ∙ ap (λ z. k *ℤ z) none ∙ *ℤ-zero k) a_some

  same_key : (weights : List Point) (point second : Point) (key another : ℕ) → IsPointAfter weights new entries point →
      IsPointAfter weights new others second → IsKey point key → IsKey second another → key ≡ another
  same_key weights point second key another p q =
      one_key (weighted_after (first_weight weights) new entries) (weighted_after (second_weight weights) new entries)
      (weighted_after (first_weight weights) new others) (weighted_after (second_weight weights) new others) point second key another
      (crossed a k (weighted_after (first_weight weights) new entries) (weighted_after (second_weight weights) new entries)
      (weighted_after (first_weight weights) new others) (weighted_after (second_weight weights) new others) a_some
      (sums_are (first_weight weights)) (sums_are (second_weight weights)))
      p.first p.second q.first q.second

-- an empty list is 0 at all pivots
empty_zeros : (n : ℕ) (rows : List (List ℤ)) → IsZeroAtPivots rows (row_of n [])
empty_zeros n [] = tt
empty_zeros n (row ∷ rows) = (number_at-row_of 0 n [] tt (pivot row), empty_zeros n rows)

-- a new list that is left, or none
pub new_listed : (form : Echelon) (new : List FreeEntry) → IsLeftOverOrNone form new → IsListed 0 form.n new
new_listed form new (inl none) = subst (IsListed 0 form.n) (sym none) tt
new_listed form new (inr left) = left.0.listed

new_zeros : (form : Echelon) (new : List FreeEntry) → IsLeftOverOrNone form new → IsZeroAtPivots form.rows (row_of form.n new)
new_zeros form new (inl none) = subst (λ l. IsZeroAtPivots form.rows (row_of form.n l)) (sym none) (empty_zeros form.n form.rows)
new_zeros form new (inr left) = left.1

pub like_rows_have_one_key : LikeRowsHaveOneKey
like_rows_have_one_key form new weights q row entries others point other key another f left r s span p o k l =
    same_key form f new (new_listed form new left) (new_zeros form new left) (unit_row form.n q) row entries others r s
    (combined_from form new (unit_row form.n q) row span) weights point other key another p o k l

-- of a row of zeros nothing is left
nothing_left : (form : Echelon) → IsResidue form [] []
nothing_left form = record {
  listed = tt;
  zeros = empty_zeros form.n form.rows;
  times = pos 1;
  times_some = λ e. omega (arith, ints);
  by = pos 1;
  by_some = λ e. omega (arith, ints);
  coefficients = [];
  is = λ j.
      let none = number_at-row_of 0 form.n [] tt j in
      let once = one-times (number_at [] j) in
      let other = one-times (number_at (row_of form.n []) j) in
      omega (arith, ints);
}

-- the sums over nothing are 0
nothing_after : (weight : ℕ → ℤ) (new : List FreeEntry) → weighted_after weight new [] ≡ pos 0
nothing_after weight [] = refl
nothing_after weight (e ∷ new) =
    let first = *ℤ-zero e.value in
    let second = zero-*ℤ (weighted weight (e ∷ new)) in
    omega (arith, ints)

-- so a row that lies in the span has no key
pub spanned_has_none : (form : Echelon) (new : List FreeEntry) (weights : List Point) (row : List ℤ) (key : ℕ) → IsSmallForm form.n form.rows →
    IsLeftOverOrNone form new → InSpan (with_new form new) row → HasKey form weights new row key → ⊥
spanned_has_none form new weights row key f left span h =
    no_key (weighted_after (second_weight weights) new h.entries) h.point key
    (sum_none form f new (new_listed form new left) (new_zeros form new left) [] row h.entries [] h.residue (nothing_left form)
    (combined_alone form new row span) (second_weight weights) (nothing_after (second_weight weights) new))
    h.point_is.second h.key_is
