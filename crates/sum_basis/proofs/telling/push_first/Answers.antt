use Rattle.std.proofs.Common.{◌≡◌, ◌<◌, ℕ, pos, List, [], ◌∷◌, ◌++◌, length, get_or, sym, ap, ◌∙◌, subst, arith}
use Rattle.std.proofs.lemmas.List.{get_or_default}
use Rattle.sum_basis.specs.Basis.{unit_row}
use Rattle.sum_basis.specs.Keys.{AreTouchedPoints, HasPoint, own_entry}
use Rattle.sum_basis.specs.Points.{IsPointAfter}
use Rattle.sum_basis.specs.declared.points.Point.{Point}
use Rattle.sum_basis.specs.declared.sparse.FreeEntry.{FreeEntry}
use Rattle.sum_basis.proofs.ColumnLists.{first_is_free, on_ok_both, own_here, touched_first}
use Rattle.sum_basis.proofs.ColumnPoints.{own_point}
use Rattle.sum_basis.proofs.KeyProducts.{no_point}
use Rattle.sum_basis.proofs.Residues.{residue_of_free}
use Rattle.sum_basis.proofs.telling.push_first.Goals as goal

abbrev none : FreeEntry
none = record { place = 0; value = pos 0 }

pub returns : goal.returns
returns c =
    let form = c.args.form.now in
    let weights = c.args.kept.now.weights.items in
    let list = c.args.list.now in
    let place = (get_or list 0 none).place in
    let first = first_is_free form list c.requires.list none in
    let inside : place < length weights = omega (arith, first.0, c.requires.kept.weights.one_each) in
    let weight : c.index.result.now ≡ get_or weights place no_point = c.index.ensures ∙ get_or_default weights place c.index.result.now no_point inside in
    let own = subst (IsPointAfter weights [] (own_entry place)) (sym weight) (own_point form.n weights place c.requires.kept.weights first.0) in
    let has : HasPoint form weights list (unit_row form.n place) c.point_after.result = record {
      entries = own_entry place;
      residue = residue_of_free form place first.0 first.1;
      is = c.point_after.ensures weights list (own_entry place) c.requires.new own (sym (own_here form list c.requires.list none));
    } in
    on_ok_both c.push.result
    (λ columns points.
    subst (λ (qs : List ℕ). AreTouchedPoints form weights list c.args.beside.now.list c.args.several.now.list 0 qs c.push.new.self.points.items)
    (sym (columns ∙ ap (λ (qs : List ℕ). qs ++ place ∷ []) c.requires.columns))
    (subst (λ (ps : List Point). AreTouchedPoints form weights list c.args.beside.now.list c.args.several.now.list 0 (place ∷ []) ps)
    (sym (points ∙ ap (λ (ps : List Point). ps ++ c.point_after.result ∷ []) c.requires.points))
    (touched_first form weights list c.args.beside.now.list c.args.several.now.list c.requires.list none c.point_after.result first.0 has)))
    c.push.ensures.columns c.push.ensures.points
