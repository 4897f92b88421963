use Rattle.std.proofs.Common.{◌≡◌, ℕ, ℤ, pos, List, [], length, get_or, sym, ap, ◌∙◌, subst, arith}
use Rattle.std.specs.Prelude.{true, not}
use Rattle.std.proofs.lemmas.Bool.{true≢false}
use Rattle.std.proofs.lemmas.List.{length-replicate, get_or-replicate}
use Rattle.std.proofs.lemmas.List.Elements.{All-from_recursion}
use Rattle.audit_types.specs.Rows.{has_row}
use Rattle.audit_types.specs.Form.{IsPrimitive, pivot, pivot_entry}
use Rattle.audit_types.specs.Numbers.{positive_not_zero}
use Rattle.audit_types.specs.RowLaws.{has-rows_that}
use Rattle.sum_basis.specs.Points.{IsPointAfter}
use Rattle.sum_basis.specs.Keys.{AreWeights, own_entry, point_at}
use Rattle.sum_basis.specs.declared.points.Point.{Point}
use Rattle.sum_basis.proofs.ColumnLists.{pivot_within}
use Rattle.sum_basis.proofs.ColumnPoints.{own_point}
use Rattle.sum_basis.proofs.column_keys.column_keys_of.Goals as goal

pub returns : goal.returns
returns c =
    let n = c.args.form.now.n in
    let weights = subst (λ (m : ℕ). AreWeights m c.in_ok-weights.weights.items) c.columns-columns.ensures.columns c.in_ok-weights.ensures in
    let same = c.in_ok-points.ensures.items_if_clones_equal (λ x y is. is) ∙ c.deref.ensures.value in
    record {
      weights = weights;
      points_each = ap length same ∙ weights.one_each;
      heads_each =
          ap length (c.in_ok-heads.ensures.items_if_clones_equal (λ y same. same)) ∙ length-replicate c.columns-columns.result (pos 0)
          ∙ c.columns-columns.ensures.columns;
      keys_each =
          ap length (c.in_ok-keys.ensures.items_if_clones_equal (λ y same. same)) ∙ length-replicate c.columns-columns.result 0
          ∙ c.columns-columns.ensures.columns;
      columns = c.flip.ensures.n ∙ c.new-unknown.ensures.n ∙ c.columns-columns.ensures.columns;
      own = λ q below free.
          subst (λ (ps : List Point). IsPointAfter c.in_ok-weights.weights.items [] (own_entry q) (point_at ps q)) (sym same)
          (own_point n c.in_ok-weights.weights.items q weights below);
      known = λ q below h.
          let size : c.new-unknown.result.n ≡ n = c.new-unknown.ensures.n ∙ c.columns-columns.ensures.columns in
          let there : has_row c.flip.new.self.list q ≡ true =
          ap (λ (l : List ℕ). has_row l q) c.flip.ensures.others
          ∙ has-rows_that (λ r. not (has_row c.new-unknown.result.list r)) c.new-unknown.result.n q (omega (arith, below, size))
          ∙ ap (λ (l : List ℕ). not (has_row l q)) c.new-unknown.ensures.empty in
          absurd (true≢false (sym there ∙ h));
      rows = λ k within head.
          let row = get_or c.args.form.now.rows k [] in
          let f = c.columns-columns.ensures.form in
          let inside = pivot_within c.args.form.now f k within in
          let none : get_or c.in_ok-heads.heads.items (pivot row) (pos 0) ≡ pos 0 =
          ap (λ (l : List ℤ). get_or l (pivot row) (pos 0)) (c.in_ok-heads.ensures.items_if_clones_equal (λ y same. same))
          ∙ get_or-replicate c.columns-columns.result (pivot row) (pos 0) (pos 0) (omega (arith, inside, c.columns-columns.ensures.columns)) in
          absurd (positive_not_zero (pivot_entry row) (All-from_recursion (IsPrimitive n) c.args.form.now.rows f.primitive k [] within).leading
          (sym head ∙ none));
    }
