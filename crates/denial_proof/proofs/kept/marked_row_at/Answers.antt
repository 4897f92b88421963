use Rattle.std.proofs.Common.{◌≡◌, ℤ, pos, List, map, ◌∙◌, subst, arith}
use Rattle.std.proofs.lemmas.List.{length-take-le}
use Rattle.sum_basis.specs.RowsWith.{IsRowWith}
use Rattle.denial_proof.specs.Kept.{marked_row}
use Rattle.denial_proof.proofs.Tests.{ok_weaker}
use Rattle.denial_proof.proofs.kept.marked_row_at.Goals as goal

pub returns : goal.returns
returns c =
    ok_weaker (λ told is. λ m columns.
    let size = length-take-le c.columns.result _ (omega (arith, c.columns.ensures.columns, c.columns.ensures.at_most)) ∙ c.columns.ensures.columns ∙ columns in
    let row : map pos c.write_marked.new.bits ≡ marked_row c.args.rows.now.n m c.args.mark c.args.rows.now.list = c.write_marked.ensures.marked m size in
    subst (λ (r : List ℤ). IsRowWith c.args.form.now r c.args.pivot told) row is)
    c.row_with.result c.row_with.ensures
