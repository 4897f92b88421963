use Rattle.std.proofs.Common.{◌≡◌, ◌+◌, ◌<◌, ◌≤◌, ◌^◌, ℕ, ℤ, List, [], ◌∷◌, ◌++◌, length, get_or, refl, sym, ap, ◌∙◌, subst, arith, rules}
use Rattle.std.specs.Prelude.{FitsSigned, unsigned_abs}
use Rattle.std.specs.Int.{w128}
use Rattle.std.proofs.lemmas.Bool.{true≢false}
use Rattle.std.proofs.lemmas.Int.{to_z-of_z}
use Rattle.std.proofs.lemmas.List.{get_or_default}
use Rattle.audit_types.specs.Form.{pivot}
use Rattle.sum_basis.specs.Basis.{unit_row}
use Rattle.sum_basis.specs.Keys.{AreTouchedPoints, HasPoint, IsListOfColumn, point_at}
use Rattle.sum_basis.specs.Points.{IsPointAfter, Matters}
use Rattle.sum_basis.specs.declared.points.Point.{Point}
use Rattle.sum_basis.proofs.ColumnLists.{first_number, on_ok_both, pivot_number, residue_of_column, touched_more, touched_skipped}
use Rattle.sum_basis.proofs.KeyProducts.{no_point}
use Rattle.sum_basis.proofs.SmallEntries.{free_small, times_small}
use Rattle.sum_basis.proofs.SparseRows.{listed_to}
use Rattle.sum_basis.proofs.telling.push_if_touched.Goals as goal

pub times_at-value-requires : goal.times_at-value-requires
times_at-value-requires c = listed_to 0 c.args.form.now.n 65536 c.free.result.now (omega (arith, c.columns.ensures.at_most)) c.free.ensures.listed

pub returns-then-is_zero : goal.returns-then-is_zero
returns-then-is_zero c =
    let form = c.args.form.now in
    let fits : FitsSigned w128 c.times_at-value.result = search rules in
    touched_skipped form c.args.kept.now.weights.items c.args.list.now c.args.beside.now.list c.args.several.now.list c.args.k
    c.args.some.now.columns.items c.args.some.now.points.items
    (λ matters.
    sym (first_number form c.args.list.now c.requires.list (get_or form.rows c.args.k []) c.free.result.now c.free.ensures) ∙ sym c.times_at-value.ensures
    ∙ sym (to_z-of_z w128 c.times_at-value.result fits) ∙ c.if-is_zero.ensures.0 refl) c.requires.some

pub returns-then-not-matters : goal.returns-then-not-matters
returns-then-not-matters c =
    touched_skipped c.args.form.now c.args.kept.now.weights.items c.args.list.now c.args.beside.now.list c.args.several.now.list c.args.k
    c.args.some.now.columns.items c.args.some.now.points.items
    (λ matters.
    absurd (true≢false (sym (c.if-not-matters.ensures.1
    (subst (Matters c.args.beside.now.list c.args.several.now.list) (sym c.pivot-pivot.ensures.pivot) matters))))) c.requires.some

pub point_after-requires : goal.point_after-requires
point_after-requires c =
    let fits : FitsSigned w128 c.times_at-value.result = search rules in
    rw (to_z-of_z w128 c.times_at-value.result fits) (subst (λ (z : ℤ). unsigned_abs z ≤ 2 ^ 56) (sym c.times_at-value.ensures)
    (times_small c.args.form.now.n c.args.list.now c.free.result.now
    (free_small c.args.form.now c.args.k c.free.result.now c.columns.ensures.form c.requires.k c.free.ensures)))

pub returns : goal.returns
returns c =
    let form = c.args.form.now in
    let kept = c.args.kept.now in
    let weights = kept.weights.items in
    let list = c.args.list.now in
    let beside = c.args.beside.now.list in
    let several = c.args.several.now.list in
    let column = c.pivot-pivot.result in
    let at : column ≡ pivot (get_or form.rows c.args.k []) = c.pivot-pivot.ensures.pivot in
    let below : column < form.n = c.pivot-pivot.ensures.within in
    let known = c.requires.kept.known column below (c.requires.known column below (c.if-not-matters.ensures.0 refl)) in
    let inside : column < length kept.points.items = omega (arith, below, c.requires.kept.points_each) in
    let point : c.index.result.now ≡ point_at kept.points.items column =
    c.index.ensures ∙ get_or_default kept.points.items column c.index.result.now no_point inside in
    let fits : FitsSigned w128 c.times_at-value.result = search rules in
    let number = c.times_at-value.ensures
    ∙ pivot_number form list c.requires.list c.columns.ensures.form c.args.k c.free.result.now known.point.entries c.requires.k c.free.ensures
    (subst (λ (q : ℕ). IsListOfColumn form q known.point.entries) at known.point.left) in
    let has : HasPoint form weights list (unit_row form.n column) c.point_after.result = record {
      entries = known.point.entries;
      residue = residue_of_column form column known.point.entries c.columns.ensures.form below known.point.left;
      is =
          c.point_after.ensures weights list known.point.entries c.requires.new
          (subst (IsPointAfter weights [] known.point.entries) (sym point) known.point.is)
          (to_z-of_z w128 c.times_at-value.result fits ∙ number);
    } in
    on_ok_both c.push.result
    (λ columns points.
    subst (λ (qs : List ℕ). AreTouchedPoints form weights list beside several (c.args.k + 1) qs c.push.new.self.points.items)
    (sym (columns ∙ ap (λ (q : ℕ). c.args.some.now.columns.items ++ q ∷ []) at))
    (subst (λ (ps : List Point). AreTouchedPoints form weights list beside several (c.args.k + 1)
    (c.args.some.now.columns.items ++ pivot (get_or form.rows c.args.k []) ∷ []) ps) (sym points)
    (touched_more form weights list beside several c.args.k c.point_after.result c.args.some.now.columns.items c.args.some.now.points.items
    (subst (λ (q : ℕ). q < form.n) at below)
    (subst (λ (q : ℕ). HasPoint form weights list (unit_row form.n q) c.point_after.result) at has) c.requires.some)))
    c.push.ensures.columns c.push.ensures.points
