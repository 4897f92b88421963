-- What a form leaves of the unit rows, and of the rows of which lists are kept.
use Rattle.std.proofs.Common.{◌≡◌, ◌≢◌, ℕ, zero, suc, ◌<◌, ℤ, pos, List, [], ◌∷◌, length, get_or, refl, sym, ap, ◌∙◌, arith, inl, inr, Vec}
use Rattle.std.specs.Prelude.{◌+ℤ◌, ◌*ℤ◌, neg_ℤ}
use Rattle.std.specs.declared.alloc.Global.{Global}
use Rattle.std.specs.List.{AllByRecursion}
use Rattle.std.proofs.lemmas.Int.{ints}
use Rattle.std.proofs.lemmas.Bool.{cases_eq}
use Rattle.std.proofs.lemmas.List.Elements.{All-from_recursion}
use Rattle.std.proofs.Math.IntN.{+ℤ_idr, *ℤ_comm, *ℤ-zero, zero-*ℤ}
use Rattle.audit_types.specs.Truth.{number_at}
use Rattle.audit_types.specs.Form.{combined, IsPrimitive, pivot, pivot_entry}
use Rattle.audit_types.specs.FormRows.{pivot_below}
use Rattle.audit_types.specs.Numbers.{positive_not_zero}
use Rattle.audit_types.specs.PrimitiveLines.{times}
use Rattle.audit_types.specs.Products.{neg-times, one-times}
use Rattle.audit_types.specs.Totals.{combined-push}
use Rattle.sum_basis.specs.Basis.{Echelon, unit_row, IsFreeList}
use Rattle.sum_basis.specs.Elimination.{IsSmallForm, IsZeroAtPivots}
use Rattle.sum_basis.specs.Growth.{IsLeft, IsNewRow}
use Rattle.sum_basis.specs.Points.{IsResidue}
use Rattle.sum_basis.specs.Spans.{combined-times, span_zero, Spans}
use Rattle.sum_basis.specs.Sparse.{entry_at, row_of, IsListed, IsNew}
use Rattle.sum_basis.specs.Ties.{IsRowOf}
use Rattle.sum_basis.specs.declared.form.Left.TheVariants.{Entries}
use Rattle.sum_basis.specs.declared.sparse.FreeEntry.{FreeEntry}
use Rattle.sum_basis.proofs.FormsAreUnique.{leads_from, primitive_at, zero_at_others, zeros_walk}
use Rattle.sum_basis.proofs.GrownForms.{of_own}
use Rattle.sum_basis.proofs.KeptForms.{row_among}
use Rattle.sum_basis.proofs.OwnRows.{pivot_or_none}
use Rattle.sum_basis.proofs.SparseRows.{elsewhere, first_value, number_at-row_of}
use Rattle.sum_basis.proofs.UnitRowsInSpan.{unit_here, unit_elsewhere}

-- a row of the form as a combination of the form's rows
one_row : (rows : List (List ℤ)) (k : ℕ) → k < length rows → (cs : List ℤ) × ((j : ℕ) → combined cs rows j ≡ number_at (get_or rows k []) j)
one_row [] k within = absurd (omega arith)
one_row (row ∷ rows) zero within = (pos 1 ∷ [], λ j. +ℤ_idr (pos 1 *ℤ number_at row j) ∙ one-times (number_at row j))
one_row (row ∷ rows) (suc k) within =
    let rest = one_row rows k (omega arith) in
    (pos 0 ∷ rest.0, λ j. let here = rest.1 j in let none = zero-*ℤ (number_at row j) in omega (arith, ints))

-- a list has nothing where none of its entries stands
nothing_at : (es : List FreeEntry) (j : ℕ) → AllByRecursion (λ (e : FreeEntry). j ≢ e.place) es → entry_at es j ≡ pos 0
nothing_at [] j apart = refl
nothing_at (e ∷ es) j apart =
    let first = elsewhere e j (λ same. apart.0 (sym same)) in
    let rest = nothing_at es j apart.1 in
    omega (arith, ints)

-- entries at no pivot of the rows stand at none of one of them
no_place : (rows : List (List ℤ)) (row : List ℤ) → IsRowOf row rows → (es : List FreeEntry) →
    AllByRecursion (λ (e : FreeEntry). AllByRecursion (λ other. pivot other ≢ e.place) rows) es → AllByRecursion (λ (e : FreeEntry). pivot row ≢ e.place) es
no_place rows row among [] free = tt
no_place rows row among (e ∷ es) free = (of_own (λ other. pivot other ≢ e.place) rows row free.0 among, no_place rows row among es free.1)

-- a list of free entries is 0 at the pivots
pub free_zeros : (n : ℕ) (rows : List (List ℤ)) (es : List FreeEntry) → IsListed 0 n es →
    AllByRecursion (λ (e : FreeEntry). AllByRecursion (λ other. pivot other ≢ e.place) rows) es → IsZeroAtPivots rows (row_of n es)
free_zeros n rows es listed free = zeros_walk (number_at (row_of n es)) rows rows (λ g r. r)
    (λ row among. number_at-row_of 0 n es listed (pivot row) ∙ nothing_at es (pivot row) (no_place rows row among es free))

-- of the unit row of a pivot the list of that row is left
module _ (form : Echelon) (f : IsSmallForm form.n form.rows) (k : ℕ) (within : k < length form.rows) (list : List FreeEntry)
    (free : IsFreeList form.n form.rows (get_or form.rows k []) list) where
  abbrev row : List ℤ
  row = get_or form.rows k []

  abbrev unit : List ℤ
  unit = unit_row form.n (pivot row)

  primitive : IsPrimitive form.n row
  primitive = primitive_at form.n form.rows row f.primitive (row_among form.rows k within)

  row_is : (j : ℕ) → pivot_entry row *ℤ number_at unit j ≡ neg_ℤ (pos 1) *ℤ entry_at list j +ℤ number_at row j
  row_is j =
      let minus = neg-times (pos 1) (entry_at list j) in
      let once = one-times (entry_at list j) in
      elim (pivot_or_none form.rows j) [
        | inl found ↦
            let other = get_or form.rows found.0 [] in
            let none : entry_at list j ≡ pos 0 = ap (entry_at list) (sym found.2)
            ∙ nothing_at list (pivot other) (no_place form.rows other (row_among form.rows found.0 found.1) list free.free) in
            elim (cases_eq j (pivot row)) [
              | inl same ↦
                  let one = ap (number_at unit) same ∙ unit_here form.n (pivot row) (pivot_below form.n row primitive) in
                  let product = ap (λ z. pivot_entry row *ℤ z) one ∙ *ℤ_comm (pivot_entry row) (pos 1) ∙ one-times (pivot_entry row) in
                  let entry : number_at row j ≡ pivot_entry row = ap (number_at row) same in
                  omega (arith, ints)
              | inr apart ↦
                  let product = ap (λ z. pivot_entry row *ℤ z) (unit_elsewhere form.n (pivot row) j apart) ∙ *ℤ-zero (pivot_entry row) in
                  let gone : number_at row j ≡ pos 0 = ap (number_at row) (sym found.2)
                  ∙ zero_at_others form.rows row other f.echelon (row_among form.rows k within) (row_among form.rows found.0 found.1)
                  (λ same. apart (sym found.2 ∙ sym same)) in
                  omega (arith, ints)
            ]
        | inr none ↦
            let apart : pivot row ≢ j = All-from_recursion (λ other. pivot other ≢ j) form.rows none k [] within in
            let product = ap (λ z. pivot_entry row *ℤ z) (unit_elsewhere form.n (pivot row) j (λ same. apart (sym same))) ∙ *ℤ-zero (pivot_entry row) in
            let entry = free.is j none in
            omega (arith, ints)
      ]

  pub residue_of_pivot : IsResidue form (unit_row form.n (pivot (get_or form.rows k []))) list
  residue_of_pivot =
      let one = one_row form.rows k within in
      record {
        listed = free.listed;
        zeros = free_zeros form.n form.rows list free.listed free.free;
        times = pivot_entry row;
        times_some = positive_not_zero (pivot_entry row) primitive.leading;
        by = neg_ℤ (pos 1);
        by_some = λ e. omega (arith, ints);
        coefficients = one.0;
        is = λ j. row_is j ∙ ap (λ z. neg_ℤ (pos 1) *ℤ z +ℤ number_at row j) (sym (number_at-row_of 0 form.n list free.listed j))
            ∙ ap (λ z. neg_ℤ (pos 1) *ℤ number_at (row_of form.n list) j +ℤ z) (sym (one.1 j));
      }

-- of the unit row of a column that is no pivot that row is left
module _ (form : Echelon) (q : ℕ) (below : q < form.n) (free : AllByRecursion (λ other. pivot other ≢ q) form.rows) where
  abbrev alone : List FreeEntry
  alone = record { place = q; value = pos 1 } ∷ []

  alone_listed : IsListed 0 form.n alone
  alone_listed = (omega arith, below, (λ e. omega (arith, ints)), tt)

  alone_is : (j : ℕ) → number_at (unit_row form.n q) j ≡ entry_at alone j
  alone_is j = elim (cases_eq q j) [
    | inl same ↦
        ap (number_at (unit_row form.n q)) (sym same) ∙ unit_here form.n q below
        ∙ sym (first_value 0 form.n (record { place = q; value = pos 1 }) [] alone_listed) ∙ ap (entry_at alone) same
    | inr apart ↦ unit_elsewhere form.n q j (λ e. apart (sym e)) ∙ sym (nothing_at alone j ((λ e. apart (sym e)), tt))
  ]

  pub residue_of_free : IsResidue form (unit_row form.n q) (record { place = q; value = pos 1 } ∷ [])
  residue_of_free = record {
    listed = alone_listed;
    zeros = free_zeros form.n form.rows alone alone_listed (free, tt);
    times = pos 1;
    times_some = λ e. omega (arith, ints);
    by = pos 1;
    by_some = λ e. omega (arith, ints);
    coefficients = [];
    is = λ j.
        ap (λ z. pos 1 *ℤ z) (alone_is j ∙ sym (number_at-row_of 0 form.n alone alone_listed j)) ∙ sym (+ℤ_idr (pos 1 *ℤ number_at (row_of form.n alone) j));
  }

-- of a row of which a list is left that list is
module _ (form : Echelon) (f : IsSmallForm form.n form.rows) (v : List ℤ) (list : List FreeEntry) (new : IsNew form.n list)
    (is_new : IsNewRow form v (row_of form.n list)) where
  abbrev left : List ℤ
  left = row_of form.n list

  abbrev last : ℤ
  last = number_at is_new.there.coefficients (length form.rows)

  there : (j : ℕ) → pos is_new.there.multiple *ℤ number_at left j ≡ combined is_new.there.coefficients form.rows j +ℤ last *ℤ number_at v j
  there j = is_new.there.is j ∙ combined-push is_new.there.coefficients form.rows v j

  -- without the row, the form would span the list's row
  last_some : last ≢ pos 0
  last_some none = positive_not_zero (pivot_entry left) is_new.primitive.leading
      (span_zero form.rows (number_at left) f.echelon (leads_from form.n form.rows f.primitive) spanned is_new.zeros (pivot left))
    where
      spanned : Spans form.rows (number_at left)
      spanned = record {
        multiple = is_new.there.multiple;
        positive = is_new.there.positive;
        coefficients = is_new.there.coefficients;
        is = λ j.
            let whole = there j in
            let gone = ap (λ z. z *ℤ number_at v j) none ∙ zero-*ℤ (number_at v j) in
            omega (arith, ints);
      }

  residue_of_new : IsResidue form v list
  residue_of_new = record {
    listed = new.listed;
    zeros = is_new.zeros;
    times = last;
    times_some = last_some;
    by = pos is_new.there.multiple;
    by_some = positive_not_zero (pos is_new.there.multiple) (let above = is_new.there.positive in omega (arith, ints));
    coefficients = times (neg_ℤ (pos 1)) is_new.there.coefficients;
    is = λ j.
        let whole = there j in
        let taken = combined-times (neg_ℤ (pos 1)) is_new.there.coefficients form.rows j in
        let minus = neg-times (pos 1) (combined is_new.there.coefficients form.rows j) in
        let once = one-times (combined is_new.there.coefficients form.rows j) in
        omega (arith, ints);
  }

pub residue_of_left : (form : Echelon) (row : List ℤ) (list : Vec FreeEntry Global) → IsSmallForm form.n form.rows → IsLeft form row (Entries list) →
    IsResidue form row list.items
residue_of_left form row list f left = residue_of_new form f row list.items left.0 left.1
