use Rattle.std.proofs.Common.{◌≡◌, ◌≢◌, ℕ, List, ℤ, [], get_or, refl, sym, ap, ◌∙◌, subst, inl, inr, arith}
use Rattle.std.specs.Prelude.{Vec}
use Rattle.std.specs.declared.alloc.Global.{Global}
use Rattle.std.proofs.lemmas.Bool.{cases_eq}
use Rattle.std.proofs.lemmas.List.{get_or_default}
use Rattle.std.proofs.lemmas.List.Elements.{recursion_from_All}
use Rattle.audit_types.specs.Form.{pivot}
use Rattle.sum_basis.specs.Keys.{IsColumnPoint, own_entry, point_at}
use Rattle.sum_basis.specs.declared.points.Point.{Point}
use Rattle.sum_basis.proofs.column_keys.renew_points.Goals as goal

pub loop-k-init : goal.loop-k-init
loop-k-init c = record {
  kept = c.requires;
  points = λ q below none.
      let form = c.args.form.now in
      let free = recursion_from_All (λ (row : List ℤ). pivot row ≢ q) form.rows
      (λ j d within at. none j (omega arith) within (ap pivot (get_or_default form.rows j [] d within) ∙ at)) in
      record { entries = own_entry q; left = inr (free, refl); is = c.requires.own q below free };
}

pub loop-k-preserved : goal.loop-k-preserved
loop-k-preserved c =
    let form = c.args.form.now in
    let kept = c.renew_point.new.kept in
    let k = c.loop-k.k in
    let at = pivot (get_or form.rows k []) in
    record {
      kept = c.renew_point.ensures.kept;
      points = λ q below none. elim (cases_eq q at) [
        | inl same ↦
            subst (λ (i : ℕ). IsColumnPoint form kept.weights.items i (point_at kept.points.items i)) (sym same) c.renew_point.ensures.point
        | inr apart ↦
            let before = c.loop-k.invariant.points q below (λ j above within. elim (cases_eq j k) [
              | inl e ↦ λ is. apart (sym (subst (λ (i : ℕ). pivot (get_or form.rows i []) ≡ q) e is))
              | inr later ↦ none j (omega arith) within
            ]) in
            subst (λ (ws : Vec Point Global). IsColumnPoint form ws.items q (point_at kept.points.items q)) (sym c.renew_point.ensures.weights)
            (subst (IsColumnPoint form c.loop-k.kept.weights.items q) (sym (c.renew_point.ensures.others q apart)) before)
      ];
    }
