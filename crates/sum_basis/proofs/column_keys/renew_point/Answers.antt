use Rattle.std.proofs.Common.{◌≡◌, ◌≢◌, ℕ, ◌<◌, ℤ, List, [], length, get_or, sym, ap, ◌∙◌, subst, arith, set, get_or-set_other, get_or-set_same, inl, inr}
use Rattle.std.proofs.lemmas.Bool.{cases_eq, true≢false}
use Rattle.std.proofs.lemmas.List.{length-set}
use Rattle.std.proofs.lemmas.List.Elements.{All-from_recursion}
use Rattle.audit_types.specs.Rows.{has_row}
use Rattle.audit_types.specs.Form.{pivot}
use Rattle.sum_basis.specs.Points.{IsPointAfter}
use Rattle.sum_basis.specs.Keys.{point_at}
use Rattle.sum_basis.specs.Reach.{AreSmallEntries}
use Rattle.sum_basis.specs.declared.points.Point.{Point}
use Rattle.sum_basis.specs.Basis.{IsFreeList}
use Rattle.sum_basis.specs.declared.sparse.FreeEntry.{FreeEntry}
use Rattle.sum_basis.proofs.ForeseenPoints.{free_lists_same, pivots_apart}
use Rattle.sum_basis.proofs.SmallEntries.{free_small}
use Rattle.sum_basis.proofs.column_keys.renew_point.Goals as goal

pub point_of-requires : goal.point_of-requires
point_of-requires c =
    subst (λ (n : ℕ). AreSmallEntries n c.free-free.result.now) (sym (ap length c.deref.ensures.value ∙ c.requires.kept.weights.one_each))
    (free_small c.args.form.now c.args.k c.free-free.result.now c.columns.ensures.form c.requires.k c.free-free.ensures)

pub returns-clause-kept : goal.returns-clause-kept
returns-clause-kept c =
    let form = c.args.form.now in
    let kept = c.args.kept.now in
    let place = c.pivot-pivot.result in
    record {
      weights = c.requires.kept.weights;
      points_each = length-set kept.points.items place c.point_of.result ∙ c.requires.kept.points_each;
      heads_each = c.requires.kept.heads_each;
      keys_each = c.requires.kept.keys_each;
      columns = c.requires.kept.columns;
      own = λ q below free.
          let apart : q ≢ place = λ same.
          All-from_recursion (λ (row : List ℤ). pivot row ≢ q) form.rows free c.args.k [] c.requires.k (sym c.pivot-pivot.ensures.pivot ∙ sym same) in
          rw get_or-set_other (c.requires.kept.own q below free);
      known = λ q below h.
          let apart : q ≢ place = λ same.
          true≢false (c.if-not-has.ensures ∙ ap (has_row kept.unknown.list) (sym same) ∙ h) in
          let known = c.requires.kept.known q below h in
          record {
            point = rw get_or-set_other known.point;
            key = rw get_or-set_other known.key;
          };
      rows = λ i within head entries free. elim (cases_eq i c.args.k) [
        | inl same ↦
            let row = get_or form.rows c.args.k [] in
            let mine = subst (λ (j : ℕ). IsFreeList form.n form.rows (get_or form.rows j []) entries) same free in
            let one = free_lists_same form.n form.rows row entries c.free-free.result.now mine c.free-free.ensures in
            let inside : place < length kept.points.items = omega (arith, c.pivot-pivot.ensures.within, c.requires.kept.points_each) in
            let here = subst (λ (ws : List Point). IsPointAfter ws [] c.free-free.result.now c.point_of.result) c.deref.ensures.value
            (record { first = c.point_of.ensures.first; second = c.point_of.ensures.second }) in
            let at : place ≡ pivot (get_or form.rows i []) =
            c.pivot-pivot.ensures.pivot ∙ ap (λ (j : ℕ). pivot (get_or form.rows j [])) (sym same) in
            subst (λ (q : ℕ). IsPointAfter kept.weights.items [] entries (point_at (set kept.points.items place c.point_of.result) q)) at
            (rw get_or-set_same (subst (λ (l : List FreeEntry). IsPointAfter kept.weights.items [] l c.point_of.result) (sym one) here))
        | inr other ↦
            let apart : pivot (get_or form.rows i []) ≢ place = λ e.
            pivots_apart form.rows i c.args.k c.columns.ensures.form.echelon within c.requires.k other (e ∙ c.pivot-pivot.ensures.pivot) in
            rw get_or-set_other (c.requires.kept.rows i within head entries free)
      ];
    }
