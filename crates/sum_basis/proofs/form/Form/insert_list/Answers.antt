use Rattle.std.proofs.Common.{◌≡◌, ℕ, ℤ, pos, List, [], ◌∷◌, ◌++◌, sym, ap, ◌∙◌, subst, rules, arith}
use Rattle.std.specs.Prelude.{FitsSigned, unsigned_abs, ◌<ℤ◌, ◌≤◌, ◌^◌}
use Rattle.std.specs.Int.{w128}
use Rattle.std.specs.List.{AllByRecursion}
use Rattle.std.proofs.lemmas.Int.{to_z-of_z}
use Rattle.audit_types.specs.Form.{IsLeastCommonMultiple, IsReducedForm}
use Rattle.sum_basis.specs.declared.sparse.FreeEntry.{FreeEntry}
use Rattle.sum_basis.specs.declared.sparse.SparseRow.{SparseRow}
use Rattle.sum_basis.specs.Basis.{Echelon, IsForm}
use Rattle.sum_basis.proofs.LeastMultiples.{heads}
use Rattle.sum_basis.proofs.Joining.{after_growth, grown_rows, within_width, joined_form}
use Rattle.sum_basis.specs.Elimination.{IsSmallForm, IsZeroAtPivots}
use Rattle.sum_basis.specs.Growth.{GrowsWide}
use Rattle.sum_basis.proofs.StayingSmall.{small_if_not_wide}
use Rattle.sum_basis.proofs.Sizes.{small_form}
use Rattle.sum_basis.specs.Sparse.{row_of, rows_of, IsKept, IsNew}
use Rattle.sum_basis.proofs.form.Form.insert_list.Goals as goal

-- the form with the row of a copy is that with the row
grown_from : (n : ℕ) (old : List (List ℤ)) (list new : List FreeEntry) (rows : List (List ℤ)) → list ≡ new →
    IsReducedForm n (old ++ row_of n list ∷ []) rows → IsReducedForm n (old ++ row_of n new ∷ []) rows
grown_from n old list new rows same reduced = subst (λ (l : List FreeEntry). IsReducedForm n (old ++ row_of n l ∷ []) rows) same reduced

pub common_multiple-requires : goal.common_multiple-requires
common_multiple-requires c =
    let j = after_growth c.self.inside.width c.args.self.now c.self.inside.columns c.self.inside.rows.items c.reserve.new.self.items c.grow_rows.new.rows.items
    c.args.new.items
    c.self.view_is c.reserve.ensures.items c.self.invariant.width_fits c.requires.narrow
    (grown_from _ _ _ _ _ (c.in_ok-list.ensures.same ∙ c.deref.ensures.value) c.grow_rows.ensures.reduced) c.grow_rows.ensures.kept in
    subst (AllByRecursion (λ (r : SparseRow). (pos 0 <ℤ r.head) × (unsigned_abs r.head ≤ 2 ^ 56))) (sym c.deref-3.ensures.value) j.small

pub invariant_of-self-in-Some : goal.invariant_of-self-in-Some
invariant_of-self-in-Some c =
    let fits : FitsSigned w128 c.in-Some.common = search rules in
    let j = after_growth c.self.inside.width c.args.self.now c.self.inside.columns c.self.inside.rows.items c.reserve.new.self.items c.grow_rows.new.rows.items
    c.args.new.items
    c.self.view_is c.reserve.ensures.items c.self.invariant.width_fits c.requires.narrow
    (grown_from _ _ _ _ _ (c.in_ok-list.ensures.same ∙ c.deref.ensures.value) c.grow_rows.ensures.reduced) c.grow_rows.ensures.kept in
    let least = rw c.in-Some.is at c.common_multiple.ensures in
    joined_form c.self.inside.columns c.self.inside.width c.grow_rows.new.rows.items least.0 _ c.greatest_bound-self-inside.result c.self.invariant.some
    c.self.invariant.at_most
    c.self.invariant.width_fits c.grow_rows.ensures.kept j
    (subst (λ (l : List SparseRow). IsLeastCommonMultiple (heads l) least.0) c.deref-3.ensures.value least.1)
    (to_z-of_z w128 c.in-Some.common fits ∙ least.2.0) least.2.1
    (subst (AllByRecursion (λ r. r.most ≤ c.greatest_bound-self-inside.result)) c.deref-2.ensures.value c.greatest_bound-self-inside.ensures)

pub unreachable-requires : goal.unreachable-requires
unreachable-requires c =
    let j = after_growth c.self.inside.width c.args.self.now c.self.inside.columns c.self.inside.rows.items c.reserve.new.self.items c.grow_rows.new.rows.items
    c.args.new.items
    c.self.view_is c.reserve.ensures.items c.self.invariant.width_fits c.requires.narrow
    (grown_from _ _ _ _ _ (c.in_ok-list.ensures.same ∙ c.deref.ensures.value) c.grow_rows.ensures.reduced) c.grow_rows.ensures.kept in
    let least = rw c.in-None.is at c.common_multiple.ensures in
    let within = within_width c.self.inside.columns c.self.inside.width c.grow_rows.new.rows.items least.0 j
    (subst (λ (l : List SparseRow). IsLeastCommonMultiple (heads l) least.0) c.deref-3.ensures.value least.1) in
    let fits = c.self.invariant.width_fits.1 in
    let more = least.2 in
    omega arith

pub returns : goal.returns
returns c =
    let j = after_growth c.self.inside.width c.args.self.now c.self.inside.columns c.self.inside.rows.items c.reserve.new.self.items c.grow_rows.new.rows.items
    c.args.new.items
    c.self.view_is c.reserve.ensures.items c.self.invariant.width_fits c.requires.narrow
    (grown_from _ _ _ _ _ (c.in_ok-list.ensures.same ∙ c.deref.ensures.value) c.grow_rows.ensures.reduced) c.grow_rows.ensures.kept in
    record {
      reduced =
          grown_rows c.args.self.now c.self.inside.columns c.self.inside.rows.items c.reserve.new.self.items c.grow_rows.new.rows.items c.args.new.items
          c.self.view_is c.reserve.ensures.items (grown_from _ _ _ _ _ (c.in_ok-list.ensures.same ∙ c.deref.ensures.value) c.grow_rows.ensures.reduced);
      n = ap (λ (e : Echelon). e.n) c.self.view_is;
      width = ap (λ (e : Echelon). e.width) c.self.view_is;
      err = tt;
    }

pub invariant_of-self : goal.invariant_of-self
invariant_of-self c = subst (IsForm c.self.inside.columns c.self.inside.width c.self.inside.common c.self.inside.greatest_bound)
    (sym c.reserve.ensures.items) c.self.invariant

pub invariant_of-self-in_err-room : goal.invariant_of-self-in_err-room
invariant_of-self-in_err-room c = subst (IsForm c.self.inside.columns c.self.inside.width c.self.inside.common c.self.inside.greatest_bound)
    (sym c.reserve.ensures.items) c.self.invariant

pub grow_rows-requires-clause-space : goal.grow_rows-requires-clause-space
grow_rows-requires-clause-space c = omega (arith, c.in_ok-reserve.ensures)

pub grow_rows-requires-clause-room : goal.grow_rows-requires-clause-room
grow_rows-requires-clause-room c = omega (arith, c.in_ok-room.ensures.exact)

pub grow_rows-requires-clause-new_room : goal.grow_rows-requires-clause-new_room
grow_rows-requires-clause-new_room c = c.in_ok-list.ensures.room

pub grow_rows-requires-clause-kept : goal.grow_rows-requires-clause-kept
grow_rows-requires-clause-kept c = subst (AllByRecursion (IsKept c.self.inside.columns)) (sym c.reserve.ensures.items) c.self.invariant.kept

pub grow_rows-requires-clause-form : goal.grow_rows-requires-clause-form
grow_rows-requires-clause-form c =
    subst (λ (l : List SparseRow). IsSmallForm c.self.inside.columns (rows_of c.self.inside.columns l)) (sym c.reserve.ensures.items)
    (small_form c.self.inside.width c.self.inside.columns _ c.self.invariant.width_fits.1 c.self.invariant.form)

pub grow_rows-requires-clause-narrow : goal.grow_rows-requires-clause-narrow
grow_rows-requires-clause-narrow c =
    let new : IsNew c.self.inside.columns c.args.new.items =
    subst (λ n. IsNew n c.args.new.items) (sym (ap (λ (e : Echelon). e.n) c.self.view_is)) c.requires.new in
    let form = small_form c.self.inside.width c.self.inside.columns _ c.self.invariant.width_fits.1 c.self.invariant.form in
    rw (c.in_ok-list.ensures.same ∙ c.deref.ensures.value, c.reserve.ensures.items)
    (small_if_not_wide (record { n = c.self.inside.columns; width = c.self.inside.width; rows = rows_of c.self.inside.columns c.self.inside.rows.items })
    (row_of c.self.inside.columns c.args.new.items) form new.primitive
    (subst (λ (e : Echelon). IsZeroAtPivots e.rows (row_of e.n c.args.new.items)) (sym c.self.view_is) c.requires.zero)
    c.self.invariant.width_fits.1
    (subst (λ (e : Echelon). ¬ (GrowsWide e (row_of e.n c.args.new.items))) (sym c.self.view_is) c.requires.narrow))

pub grow_rows-requires-clause-combined_room : goal.grow_rows-requires-clause-combined_room
grow_rows-requires-clause-combined_room c = omega (arith, c.in_ok-combined.ensures.exact)

pub invariant_of-self-in_err-combined : goal.invariant_of-self-in_err-combined
invariant_of-self-in_err-combined c = subst (IsForm c.self.inside.columns c.self.inside.width c.self.inside.common c.self.inside.greatest_bound)
    (sym c.reserve.ensures.items) c.self.invariant

pub grow_rows-requires-clause-new : goal.grow_rows-requires-clause-new
grow_rows-requires-clause-new c =
    rw (c.in_ok-list.ensures.same ∙ c.deref.ensures.value)
    (subst (λ n. IsNew n c.args.new.items) (sym (ap (λ (e : Echelon). e.n) c.self.view_is)) c.requires.new)
