use Rattle.std.proofs.Common.{◌≡◌, ◌≢◌, ℕ, ◌<◌, ◌≤◌, ◌^◌, ℤ, pos, List, [], length, get_or, set, refl, sym, ap, ◌∙◌, subst, inl, inr, arith, rules, get_or-set_other, get_or-set_same}
use Rattle.std.specs.Prelude.{FitsSigned, unsigned_abs, ◌*ℤ◌}
use Rattle.std.specs.Vec.{with_item}
use Rattle.std.specs.Int.{w128}
use Rattle.std.proofs.lemmas.Bool.{true≢false}
use mir.Val.{to_z, of_z}
use Rattle.std.proofs.lemmas.Int.{to_z-of_z}
use Rattle.std.proofs.lemmas.List.{length-set, get_or_default}
use Rattle.audit_types.specs.Rows.{has_row}
use Rattle.audit_types.specs.Truth.{number_at}
use Rattle.audit_types.specs.Form.{pivot, pivot_entry}
use Rattle.sum_basis.specs.Keys.{IsListOfColumn, IsZeroAtFirst, leading_of, point_at}
use Rattle.sum_basis.specs.Points.{IsPointAfter}
use Rattle.sum_basis.specs.declared.sparse.FreeEntry.{FreeEntry}
use Rattle.sum_basis.proofs.MergedNumbers.{passed}
use Rattle.sum_basis.proofs.ColumnLists.{first_number, not_added}
use Rattle.sum_basis.proofs.ForeseenPoints.{foreseen_touched, foreseen_untouched, known_list, leading_is, leading_small}
use Rattle.sum_basis.proofs.KeyProducts.{no_point}
use Rattle.sum_basis.proofs.SmallEntries.{free_small, times_small}
use Rattle.sum_basis.proofs.SparseRows.{listed_to}
use Rattle.sum_basis.proofs.column_keys.foresee.Goals as goal

pub times_at-value-requires : goal.times_at-value-requires
times_at-value-requires c = listed_to 0 c.args.form.now.n 65536 c.free.result.now (omega (arith, c.columns.ensures.at_most)) c.free.ensures.listed

pub returns-then-is_zero-clause-kept : goal.returns-then-is_zero-clause-kept
returns-then-is_zero-clause-kept c =
    let form = c.args.form.now in
    let fits : FitsSigned w128 c.times_at-value.result = search rules in
    foreseen_untouched form c.columns.ensures.form c.args.list.now c.requires.list c.args.k c.requires.k c.args.kept.now c.requires.kept c.free.result.now
    c.free.ensures
    (sym (first_number form c.args.list.now c.requires.list (get_or form.rows c.args.k []) c.free.result.now c.free.ensures) ∙ sym c.times_at-value.ensures
    ∙ sym (to_z-of_z w128 c.times_at-value.result fits) ∙ c.if-is_zero.ensures.0 refl)

abbrev none : FreeEntry
none = record { place = 0; value = pos 0 }

pub returns-then-has-clause-kept : goal.returns-then-has-clause-kept
returns-then-has-clause-kept c =
    let form = c.args.form.now in
    let kept = c.args.kept.now in
    let list = c.args.list.now in
    let are = c.requires.kept in
    let row = get_or form.rows c.args.k [] in
    let place = c.pivot-pivot.result in
    let at : place ≡ pivot row = c.pivot-pivot.ensures.pivot in
    let fits : FitsSigned w128 c.times_at-value.result = search rules in
    let inside : place < length kept.heads.items = omega (arith, c.pivot-pivot.ensures.within, are.heads_each) in
    let here : get_or (set kept.heads.items place (pos 0)) (pivot row) (pos 0) ≡ pos 0 =
    subst (λ (q : ℕ). get_or (set kept.heads.items place (pos 0)) q (pos 0) ≡ pos 0) at (rw get_or-set_same refl) in
    let touched : ¬ (IsZeroAtFirst list row) = λ gone.
    true≢false (sym (c.if-is_zero.ensures.1 (to_z-of_z w128 c.times_at-value.result fits ∙ c.times_at-value.ensures
    ∙ first_number form list c.requires.list row c.free.result.now c.free.ensures ∙ gone))) in
    foreseen_touched form c.columns.ensures.form list c.requires.list c.args.k c.requires.k kept are kept.points (with_item kept.heads place (pos 0))
    kept.unknown are.points_each (length-set kept.heads.items place (pos 0) ∙ are.heads_each) are.columns (λ q apart. refl)
    (λ q apart. let other : q ≢ place = λ e. apart (e ∙ at) in rw get_or-set_other refl)
    (λ q below h. (h, λ same. true≢false (c.if-has.ensures ∙ ap (has_row kept.unknown.list) (at ∙ same) ∙ h)))
    (record {
      stays = λ gone. absurd (touched gone);
      cleared = λ some. inl here;
    })

pub point_after-requires : goal.point_after-requires
point_after-requires c =
    let fits : FitsSigned w128 c.times_at-value.result = search rules in
    rw (to_z-of_z w128 c.times_at-value.result fits) (subst (λ (z : ℤ). unsigned_abs z ≤ 2 ^ 56) (sym c.times_at-value.ensures)
    (times_small c.args.form.now.n c.args.list.now c.free.result.now
    (free_small c.args.form.now c.args.k c.free.result.now c.columns.ensures.form c.requires.k c.free.ensures)))

pub product-requires-clause-x : goal.product-requires-clause-x
product-requires-clause-x c =
    let fits : FitsSigned w128 c.number.result = search rules in
    rw (passed c.number.result (get_or c.args.list.now 0 none).value fits c.number.ensures) (leading_small c.args.form.now c.args.list.now none c.requires.list)

pub returns-clause-kept : goal.returns-clause-kept
returns-clause-kept c =
    let form = c.args.form.now in
    let kept = c.args.kept.now in
    let list = c.args.list.now in
    let are = c.requires.kept in
    let weights = kept.weights.items in
    let row = get_or form.rows c.args.k [] in
    let place = c.pivot-pivot.result in
    let at : place ≡ pivot row = c.pivot-pivot.ensures.pivot in
    let below : place < form.n = c.pivot-pivot.ensures.within in
    let fits : FitsSigned w128 c.times_at-value.result = search rules in
    let first_fits : FitsSigned w128 c.number.result = search rules in
    let entry_fits : FitsSigned w128 c.entry.result = search rules in
    let product_fits : FitsSigned w128 c.product.result = search rules in
    let inside : place < length kept.heads.items = omega (arith, below, are.heads_each) in
    let point_inside : place < length kept.points.items = omega (arith, below, are.points_each) in
    let number : c.product.result ≡ leading_of list *ℤ pivot_entry row =
    c.product.ensures.exact ∙ ap (λ z. z *ℤ to_z w128 (of_z w128 c.entry.result)) (passed c.number.result
    (get_or list 0 none).value first_fits c.number.ensures)
    ∙ ap (λ z. (get_or list 0 none).value *ℤ z) (to_z-of_z w128 c.entry.result entry_fits ∙ c.entry.ensures ∙ ap (number_at row) at)
    ∙ ap (λ z. z *ℤ pivot_entry row) (leading_is list none c.requires.list.0.some) in
    let head = to_z w128 (of_z w128 c.product.result) in
    let heads_here : get_or (set kept.heads.items place head) (pivot row) (pos 0) ≡ head =
    subst (λ (q : ℕ). get_or (set kept.heads.items place head) q (pos 0) ≡ head) at (rw get_or-set_same refl) in
    let point_here : c.point_after.result ≡ point_at (set kept.points.items place c.point_after.result) (pivot row) =
    subst (λ (q : ℕ). c.point_after.result ≡ point_at (set kept.points.items place c.point_after.result) q) at (rw get_or-set_same refl) in
    let touched : ¬ (IsZeroAtFirst list row) = λ gone.
    true≢false (sym (c.if-is_zero.ensures.1 (to_z-of_z w128 c.times_at-value.result fits ∙ c.times_at-value.ensures
    ∙ first_number form list c.requires.list row c.free.result.now c.free.ensures ∙ gone))) in
    let known = are.known place below (sym (c.if-has.ensures)) in
    let same = known_list form c.columns.ensures.form.echelon c.args.k c.free.result.now known.point.entries c.requires.k c.free.ensures
    (subst (λ (q : ℕ). IsListOfColumn form q known.point.entries) at known.point.left) in
    let before : IsPointAfter weights [] c.free.result.now c.index.result.now =
    subst (IsPointAfter weights [] c.free.result.now)
    (sym (c.index.ensures ∙ get_or_default kept.points.items place c.index.result.now no_point point_inside))
    (subst (λ (l : List FreeEntry). IsPointAfter weights [] l (point_at kept.points.items place)) same known.point.is) in
    let after = c.point_after.ensures weights list c.free.result.now c.requires.new before
    (to_z-of_z w128 c.times_at-value.result fits ∙ c.times_at-value.ensures) in
    foreseen_touched form c.columns.ensures.form list c.requires.list c.args.k c.requires.k kept are
    (with_item kept.points place c.point_after.result) (with_item kept.heads place head) c.add.new.self
    (length-set kept.points.items place c.point_after.result ∙ are.points_each) (length-set kept.heads.items place head ∙ are.heads_each)
    (c.add.ensures.n ∙ are.columns)
    (λ q apart. let other : q ≢ place = λ e. apart (e ∙ at) in rw get_or-set_other refl)
    (λ q apart. let other : q ≢ place = λ e. apart (e ∙ at) in rw get_or-set_other refl)
    (λ q under h.
    let added = not_added kept.unknown.n kept.unknown.list place q (omega (arith, under, are.columns))
    (sym (ap (λ (l : List ℕ). has_row l q) c.add.ensures.added) ∙ h) in
    (added.0, λ e. added.1 (at ∙ e)))
    (record {
      stays = λ gone. absurd (touched gone);
      cleared = λ some. inr (
        heads_here ∙ to_z-of_z w128 c.product.result product_fits ∙ number,
        record {
          entries = c.free.result.now;
          free = c.free.ensures;
          is = subst (IsPointAfter weights list c.free.result.now) point_here after;
        },
      );
    })
