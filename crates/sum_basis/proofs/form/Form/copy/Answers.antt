use Rattle.std.proofs.Common.{ℤ, ◌≤◌, List, sym, ap, ◌∙◌, subst, rules}
use Rattle.std.specs.Prelude.{FitsSigned}
use Rattle.std.specs.Int.{w128}
use Rattle.std.specs.List.{AllByRecursion}
use Rattle.std.proofs.lemmas.Int.{to_z-of_z}
use Rattle.sum_basis.specs.Sparse.{rows_of, IsKept}
use Rattle.sum_basis.proofs.form.Form.copy.Goals as goal

pub copy_rows-requires : goal.copy_rows-requires
copy_rows-requires c = subst (AllByRecursion (IsKept c.self.inside.columns)) (sym c.deref.ensures.value) c.self.invariant.kept

pub invariant_of-result : goal.invariant_of-result
invariant_of-result c =
    let fits : FitsSigned w128 c.self.inside.common = search rules in
    let common = to_z-of_z w128 c.self.inside.common fits in
    let rows = c.in_ok-rows.ensures.same ∙ ap (rows_of c.self.inside.columns) c.deref.ensures.value in
    record {
      some = c.self.invariant.some;
      at_most = c.self.invariant.at_most;
      width_fits = c.self.invariant.width_fits;
      kept = c.in_ok-rows.ensures.kept;
      form = rw rows c.self.invariant.form;
      positive = rw common c.self.invariant.positive;
      within = rw common c.self.invariant.within;
      multiple = rw (common, rows) c.self.invariant.multiple;
      bounded = subst (AllByRecursion (λ r. r.most ≤ c.greatest_bound.result)) c.deref-2.ensures.value c.greatest_bound.ensures;
    }

pub returns : goal.returns
returns c =
    ap (λ (rows : List (List ℤ)). record { n = c.self.inside.columns; width = c.self.inside.width; rows = rows })
    (c.in_ok-rows.ensures.same ∙ ap (rows_of c.self.inside.columns) c.deref.ensures.value)
    ∙ c.self.view_is
