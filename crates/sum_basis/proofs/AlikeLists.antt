-- What a form with a new list leaves of a row, and of the unit row of a column, may be multiples of one another: then the row lies in its span with
-- that unit row. So the form ties two such columns, and a set's row lies in its span with such a column.
use Rattle.std.proofs.Common.{◌≡◌, ◌≢◌, ℕ, ◌<◌, false, true, ℤ, pos, List, [], ◌∷◌, ◌++◌, sym, ap, ◌∙◌, subst, arith, inl, inr, ◌⊎◌}
use Rattle.std.specs.Prelude.{◌+ℤ◌, ◌-ℤ◌, ◌*ℤ◌, neg_ℤ, Option, None, Some, Vec}
use Rattle.std.specs.declared.alloc.Global.{Global}
use Rattle.std.specs.List.{AllByRecursion}
use Rattle.std.proofs.lemmas.Int.{ints}
use Rattle.std.proofs.Math.IntN.{*ℤ-zero}
use Rattle.audit_types.specs.Form.{set_row, combined, InSpan}
use Rattle.audit_types.specs.ListLaws.{all-front, all-push}
use Rattle.audit_types.specs.PrimitiveLines.{number_at-times, times}
use Rattle.audit_types.specs.Products.{add-times, neg-times, times-add, times_assoc, product_not_zero, swapped}
use Rattle.audit_types.specs.Rows.{has_row}
use Rattle.audit_types.specs.Truth.{number_at}
use Rattle.sum_basis.specs.Alike.{TiesSurely, SpansSurely}
use Rattle.sum_basis.specs.Asking.{SpansBeside, TellsAsker}
use Rattle.sum_basis.specs.Basis.{Echelon, unit_row}
use Rattle.sum_basis.specs.Combination.{combine}
use Rattle.sum_basis.specs.CombinedRows.{number_at-combine}
use Rattle.sum_basis.specs.Growth.{GrowsTo}
use Rattle.sum_basis.specs.Holding.{LeavesList}
use Rattle.sum_basis.specs.Points.{items_of, with_new, IsResidue}
use Rattle.sum_basis.specs.Reach.{without_new}
use Rattle.sum_basis.specs.Spans.{Spans, in_span_from, own, span_trans, spans_add, spans_combined, spans_from, spans_same, spans_times, spans_zero}
use Rattle.sum_basis.specs.Sparse.{entry_at, row_of, IsListed}
use Rattle.sum_basis.specs.Ties.{TieSomeBut, MayTell}
use Rattle.sum_basis.specs.declared.sparse.FreeEntry.{FreeEntry}
use Rattle.sum_basis.proofs.LikeRows.{new_listed}
use Rattle.sum_basis.proofs.Reduction.{span_line}
use Rattle.sum_basis.proofs.SparseRows.{number_at-row_of}
use Rattle.sum_basis.proofs.UnitRowsInSpan.{unit_here, unit_elsewhere}
use Rattle.sum_basis.proofs.Untold.{left_over, with_some}
use Rattle.sum_basis.proofs.Weighted.{times-less}

-- a list is a multiple of another, and of the new list
pub record IsAlike (new xs ys : List FreeEntry) : Type 0 where
  pub a : ℤ
  pub b : ℤ
  pub k : ℤ
  pub some : a ≢ pos 0
  pub is : (j : ℕ) → a *ℤ entry_at xs j ≡ b *ℤ entry_at ys j +ℤ k *ℤ entry_at new j

-- so it is if what the new list leaves of the two are multiples of one another
alike_by : (a b value x y x_there y_there l : ℤ) → a *ℤ (value *ℤ x -ℤ x_there *ℤ l) ≡ b *ℤ (value *ℤ y -ℤ y_there *ℤ l) →
    (a *ℤ value) *ℤ x ≡ (b *ℤ value) *ℤ y +ℤ (a *ℤ x_there +ℤ neg_ℤ b *ℤ y_there) *ℤ l
alike_by a b value x y x_there y_there l is =
    let left = times-less a (value *ℤ x) (x_there *ℤ l) in
    let right = times-less b (value *ℤ y) (y_there *ℤ l) in
    let first = times_assoc a value x in
    let second = times_assoc b value y in
    let whole = add-times (a *ℤ x_there) (neg_ℤ b *ℤ y_there) l in
    let third = times_assoc a x_there l in
    let fourth = ap (λ z. z *ℤ l) (neg-times b y_there) ∙ neg-times (b *ℤ y_there) l ∙ ap neg_ℤ (times_assoc b y_there l) in
    omega (arith, ints)

alike_from : (n : ℕ) (new xs ys : List FreeEntry) (a b : ℤ) → IsListed 0 n new → a ≢ pos 0 →
    ((j : ℕ) → a *ℤ without_new new (entry_at xs) j ≡ b *ℤ without_new new (entry_at ys) j) → IsAlike new xs ys
alike_from n [] xs ys a b listed some is =
    record { a = a; b = b; k = pos 0; some = some; is = λ j. let here = is j in omega (arith, ints) }
alike_from n (e ∷ new) xs ys a b listed some is = record {
  a = a *ℤ e.value;
  b = b *ℤ e.value;
  k = a *ℤ entry_at xs e.place +ℤ neg_ℤ b *ℤ entry_at ys e.place;
  some = product_not_zero a e.value some listed.2;
  is = λ j. alike_by a b e.value (entry_at xs j) (entry_at ys j) (entry_at xs e.place) (entry_at ys e.place) (entry_at (e ∷ new) j) (is j);
}

-- the numbers of the two rows at one column
difference_is : (s u t v a b k e f x y l d c : ℤ) → s *ℤ e ≡ u *ℤ x +ℤ d → t *ℤ f ≡ v *ℤ y +ℤ c → a *ℤ x ≡ b *ℤ y +ℤ k *ℤ l →
    v *ℤ (a *ℤ (s *ℤ e)) +ℤ u *ℤ (b *ℤ c) ≡ (u *ℤ (b *ℤ (t *ℤ f)) +ℤ v *ℤ (u *ℤ (k *ℤ l))) +ℤ v *ℤ (a *ℤ d)
difference_is s u t v a b k e f x y l d c left right alike =
    let first = ap (λ z. v *ℤ (a *ℤ z)) left ∙ ap (λ z. v *ℤ z) (times-add a (u *ℤ x) d) ∙ times-add v (a *ℤ (u *ℤ x)) (a *ℤ d) in
    let both = ap (λ z. v *ℤ z) (swapped a u x ∙ ap (λ z. u *ℤ z) alike ∙ times-add u (b *ℤ y) (k *ℤ l)) ∙ times-add v (u *ℤ (b *ℤ y)) (u *ℤ (k *ℤ l)) in
    let turned = swapped v u (b *ℤ y) ∙ ap (λ z. u *ℤ z) (swapped v b y) in
    let second = ap (λ z. u *ℤ (b *ℤ z)) right ∙ ap (λ z. u *ℤ z) (times-add b (v *ℤ y) c) ∙ times-add u (b *ℤ (v *ℤ y)) (b *ℤ c) in
    omega (arith, ints)

-- multiples of the two rows differ by a row of the span
pub record AreInSpanTogether (rows : List (List ℤ)) (row other : List ℤ) : Type 0 where
  pub times : ℤ
  pub by : ℤ
  pub some : times ≢ pos 0
  pub spanned : InSpan rows (combine times row by other)

module _ (form : Echelon) (new : List FreeEntry) (listed : IsListed 0 form.n new) (row other : List ℤ) (xs ys : List FreeEntry) (r : IsResidue form row xs)
    (s : IsResidue form other ys) (alike : IsAlike new xs ys) where
  abbrev rows : List (List ℤ)
  rows = with_new form new

  -- the form's rows and the new list
  form_spanned : AllByRecursion (InSpan rows) form.rows
  form_spanned = by new
    where
      by : (list : List FreeEntry) → AllByRecursion (InSpan (with_new form list)) form.rows
      by [] = own form.rows
      by (e ∷ list) =
          (all-front (InSpan (with_new form (e ∷ list))) form.rows (row_of form.n (e ∷ list)) (own (with_new form (e ∷ list)))).0

  new_spanned : Spans rows (entry_at new)
  new_spanned = by new listed
    where
      by : (list : List FreeEntry) → IsListed 0 form.n list → Spans (with_new form list) (entry_at list)
      by [] h = spans_zero form.rows
      by (e ∷ list) h =
          let all = with_new form (e ∷ list) in
          let row = row_of form.n (e ∷ list) in
          spans_same all (number_at row) (entry_at (e ∷ list)) (number_at-row_of 0 form.n (e ∷ list) h)
          (spans_from all row (all-front (InSpan all) form.rows row (own all)).1)

  -- what the two rows differ by
  abbrev part : ℕ → ℤ
  part j =
      (s.by *ℤ (alike.a *ℤ combined r.coefficients form.rows j) +ℤ neg_ℤ r.by *ℤ (alike.b *ℤ combined s.coefficients form.rows j))
      +ℤ s.by *ℤ (r.by *ℤ (alike.k *ℤ entry_at new j))

  part_spanned : Spans rows part
  part_spanned =
      spans_add rows
      (λ j. s.by *ℤ (alike.a *ℤ combined r.coefficients form.rows j) +ℤ neg_ℤ r.by *ℤ (alike.b *ℤ combined s.coefficients form.rows j))
      (λ j. s.by *ℤ (r.by *ℤ (alike.k *ℤ entry_at new j)))
      (spans_add rows (λ j. s.by *ℤ (alike.a *ℤ combined r.coefficients form.rows j))
      (λ j. neg_ℤ r.by *ℤ (alike.b *ℤ combined s.coefficients form.rows j))
      (twice s.by alike.a r.coefficients) (twice (neg_ℤ r.by) alike.b s.coefficients))
      (spans_times rows s.by (λ j. r.by *ℤ (alike.k *ℤ entry_at new j))
      (spans_times rows r.by (λ j. alike.k *ℤ entry_at new j) (spans_times rows alike.k (entry_at new) new_spanned)))
    where
      twice : (x y : ℤ) (cs : List ℤ) → Spans rows (λ j. x *ℤ (y *ℤ combined cs form.rows j))
      twice x y cs =
          spans_times rows x (λ j. y *ℤ combined cs form.rows j)
          (spans_times rows y (combined cs form.rows) (spans_combined rows cs form.rows form_spanned))

  abbrev first_times : ℤ
  first_times = s.by *ℤ (alike.a *ℤ r.times)

  abbrev second_times : ℤ
  second_times = r.by *ℤ (alike.b *ℤ s.times)

  combine_is : (j : ℕ) → part j ≡ number_at (combine first_times row second_times other) j
  combine_is j =
      let whole = difference_is r.times r.by s.times s.by alike.a alike.b alike.k (number_at row j) (number_at other j) (entry_at xs j) (entry_at ys j)
      (entry_at new j) (combined r.coefficients form.rows j) (combined s.coefficients form.rows j)
      (r.is j ∙ ap (λ z. r.by *ℤ z +ℤ combined r.coefficients form.rows j) (number_at-row_of 0 form.n xs r.listed j))
      (s.is j ∙ ap (λ z. s.by *ℤ z +ℤ combined s.coefficients form.rows j) (number_at-row_of 0 form.n ys s.listed j)) (alike.is j) in
      let made = number_at-combine first_times row second_times other j in
      let minus = neg-times second_times (number_at other j) in
      let first = times_assoc s.by (alike.a *ℤ r.times) (number_at row j) ∙ ap (λ z. s.by *ℤ z) (times_assoc alike.a r.times (number_at row j)) in
      let second = times_assoc r.by (alike.b *ℤ s.times) (number_at other j) ∙ ap (λ z. r.by *ℤ z) (times_assoc alike.b s.times (number_at other j)) in
      let taken = neg-times r.by (alike.b *ℤ combined s.coefficients form.rows j) in
      omega (arith, ints)

  in_span_together : AreInSpanTogether rows row other
  in_span_together = record {
    times = first_times;
    by = second_times;
    some = product_not_zero s.by (alike.a *ℤ r.times) s.by_some (product_not_zero alike.a r.times alike.some r.times_some);
    spanned = in_span_from rows (combine first_times row second_times other)
        (spans_same rows part (number_at (combine first_times row second_times other)) combine_is part_spanned);
  }

-- the form with the new list lies in the span of the grown one
module _ (form : Echelon) (asked : List ℤ) (grown : Echelon) (grows : GrowsTo form asked grown) where
  new_in_grown : (left : Option (Vec FreeEntry Global)) → LeavesList form asked left → AllByRecursion (InSpan grown.rows) (with_new form (items_of left))
  new_in_grown None leaves = (all-front (InSpan grown.rows) form.rows asked grows.reduced.spans).0
  new_in_grown (Some list) leaves =
      let r = row_of form.n list.items in
      subst (AllByRecursion (InSpan grown.rows)) (sym (with_some form list.items leaves.0.some))
      (all-push (InSpan grown.rows) form.rows r (all-front (InSpan grown.rows) form.rows asked grows.reduced.spans).0
      (span_trans grown.rows (form.rows ++ asked ∷ []) r grows.reduced.spans leaves.1.there))

  module _ (left : Option (Vec FreeEntry Global)) (leaves : LeavesList form asked left) (row other : List ℤ) (xs ys : List FreeEntry)
      (r : IsResidue form row xs) (s : IsResidue form other ys) (a b : ℤ) (some : a ≢ pos 0)
      (is : (j : ℕ) → a *ℤ without_new (items_of left) (entry_at xs) j ≡ b *ℤ without_new (items_of left) (entry_at ys) j) where
    together : AreInSpanTogether grown.rows row other
    together =
        let new = items_of left in
        let listed = new_listed form new (left_over form asked grown grows left leaves) in
        let found = in_span_together form new listed row other xs ys r s (alike_from form.n new xs ys a b listed some is) in
        record {
          times = found.times;
          by = found.by;
          some = found.some;
          spanned = span_trans grown.rows (with_new form new) (combine found.times row found.by other) (new_in_grown left leaves) found.spanned;
        }

-- two columns of which the form with the new list leaves multiples of one another are tied
pub tied_by_lists : (form : Echelon) (asked : List ℤ) (grown : Echelon) (left : Option (Vec FreeEntry Global)) (beside several : List ℕ) (p q : ℕ)
    (xs ys : List FreeEntry) (a b : ℤ) → GrowsTo form asked grown → LeavesList form asked left → p < form.n → q ≢ p → has_row beside p ≡ false →
    has_row several q ≡ false → IsResidue form (unit_row form.n p) xs → IsResidue form (unit_row form.n q) ys → a ≢ pos 0 →
    ((j : ℕ) → a *ℤ without_new (items_of left) (entry_at xs) j ≡ b *ℤ without_new (items_of left) (entry_at ys) j) → TieSomeBut beside several grown.rows
tied_by_lists form asked grown left beside several p q xs ys a b grows leaves below differ not_beside not_several r s some is = (
  p,
  q,
  differ,
  record {
    row = row;
    spanned = t.spanned;
    there = λ none. product_not_zero t.times (pos 1) t.some (λ e. omega (arith, ints))
        (let here = row_is p in
        let one = ap (λ z. t.times *ℤ z) (unit_here form.n p below) in
        let gone = ap (λ z. neg_ℤ t.by *ℤ z) (unit_elsewhere form.n q p (λ same. differ (sym same))) ∙ *ℤ-zero (neg_ℤ t.by) in
        omega (arith, ints));
    only = λ j not_p not_q.
        let here = row_is j in
        let first = ap (λ z. t.times *ℤ z) (unit_elsewhere form.n p j not_p) ∙ *ℤ-zero t.times in
        let second = ap (λ z. neg_ℤ t.by *ℤ z) (unit_elsewhere form.n q j not_q) ∙ *ℤ-zero (neg_ℤ t.by) in
        omega (arith, ints);
  },
  not_beside,
  not_several,
)
  where
    t : AreInSpanTogether grown.rows (unit_row form.n p) (unit_row form.n q)
    t = together form asked grown grows left leaves (unit_row form.n p) (unit_row form.n q) xs ys r s a b some is

    row : List ℤ
    row = combine t.times (unit_row form.n p) t.by (unit_row form.n q)

    row_is : (j : ℕ) → number_at row j ≡ t.times *ℤ number_at (unit_row form.n p) j +ℤ neg_ℤ t.by *ℤ number_at (unit_row form.n q) j
    row_is j = number_at-combine t.times (unit_row form.n p) t.by (unit_row form.n q) j

-- and a set of which it leaves a multiple of a column's lies in its span with that
pub beside_by_lists : (form : Echelon) (asked : List ℤ) (grown : Echelon) (left : Option (Vec FreeEntry Global)) (several set : List ℕ) (q i : ℕ)
    (xs ys : List FreeEntry) (a b : ℤ) → GrowsTo form asked grown → LeavesList form asked left → q < form.n → has_row several q ≡ false →
    has_row set i ≡ true → i ≢ q → IsResidue form (set_row form.n set) xs → IsResidue form (unit_row form.n q) ys → a ≢ pos 0 →
    ((j : ℕ) → a *ℤ without_new (items_of left) (entry_at xs) j ≡ b *ℤ without_new (items_of left) (entry_at ys) j) → SpansBeside grown several set
beside_by_lists form asked grown left several set q i xs ys a b grows leaves below single inside differ r s some is = record {
  own = q;
  below = subst (λ n. q < n) (sym grows.n) below;
  single = single;
  row = i;
  inside = inside;
  other = differ;
  spanned = subst (λ n. InSpan (grown.rows ++ unit_row n q ∷ []) (set_row n set)) (sym grows.n) spanned;
}
  where
    t : AreInSpanTogether grown.rows (set_row form.n set) (unit_row form.n q)
    t = together form asked grown grows left leaves (set_row form.n set) (unit_row form.n q) xs ys r s a b some is

    more : List (List ℤ)
    more = grown.rows ++ unit_row form.n q ∷ []

    parts : AllByRecursion (InSpan more) grown.rows × InSpan more (unit_row form.n q)
    parts = all-front (InSpan more) grown.rows (unit_row form.n q) (own more)

    spanned : InSpan more (set_row form.n set)
    spanned = span_line more t.times (set_row form.n set) t.some (in_span_from more (times t.times (set_row form.n set))
        (spans_same more
        (λ j. number_at (combine t.times (set_row form.n set) t.by (unit_row form.n q)) j +ℤ t.by *ℤ number_at (unit_row form.n q) j)
        (number_at (times t.times (set_row form.n set)))
        (λ j.
        let made = number_at-combine t.times (set_row form.n set) t.by (unit_row form.n q) j in
        let minus = neg-times t.by (number_at (unit_row form.n q) j) in
        let scaled = number_at-times t.times (set_row form.n set) j in
        omega (arith, ints))
        (spans_add more (number_at (combine t.times (set_row form.n set) t.by (unit_row form.n q))) (λ j. t.by *ℤ number_at (unit_row form.n q) j)
        (spans_from more (combine t.times (set_row form.n set) t.by (unit_row form.n q))
        (span_trans more grown.rows (combine t.times (set_row form.n set) t.by (unit_row form.n q)) parts.0 t.spanned))
        (spans_times more t.by (number_at (unit_row form.n q)) (spans_from more (unit_row form.n q) parts.1)))))

-- so the grown form tells somebody who asks if there are two such columns, or such a set and such a column
pub surely_told : (form : Echelon) (asked : List ℤ) (left : Option (Vec FreeEntry Global)) (beside several : List ℕ) (sets : List (List ℕ)) →
    LeavesList form asked left → TiesSurely form (items_of left) beside several ⊎ SpansSurely form (items_of left) several sets →
    (grown : Echelon) → GrowsTo form asked grown → TellsAsker grown beside several sets
surely_told form asked left beside several sets leaves (inl t) grown grows = inl (by t.tells)
  where
    by : MayTell beside several t.p t.q → TieSomeBut beside several grown.rows
    by (inl (not_beside, not_several)) =
        tied_by_lists form asked grown left beside several t.p t.q t.alike.entries t.alike.others t.alike.alike.a t.alike.alike.b grows leaves t.p_below
        t.apart not_beside not_several t.alike.first t.alike.second t.alike.alike.a_some t.alike.alike.is
    by (inr (not_several, not_beside)) =
        tied_by_lists form asked grown left beside several t.q t.p t.alike.others t.alike.entries t.alike.alike.b t.alike.alike.a grows leaves t.q_below
        (λ same. t.apart (sym same)) not_beside not_several t.alike.second t.alike.first t.alike.alike.b_some (λ j. sym (t.alike.alike.is j))
surely_told form asked left beside several sets leaves (inr (set, among, s)) grown grows = inr (
  set,
  among,
  beside_by_lists form asked grown left several set s.own s.row s.entries s.others s.alike.a s.alike.b grows leaves s.below s.single s.inside s.other s.first
      s.second s.alike.a_some s.alike.is,
)
