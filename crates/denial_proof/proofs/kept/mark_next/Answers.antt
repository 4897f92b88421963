use Rattle.std.proofs.Common.{◌≡◌, ◌++◌, ◌∷◌, [], ℕ, ℤ, pos, List, map, sym, ◌∙◌, subst, arith}
use Rattle.std.proofs.lemmas.List.{length-take-le}
use Rattle.audit_types.specs.Form.{IsReducedForm, IsNarrow}
use Rattle.denial_proof.specs.Kept.{marked_row}
use Rattle.denial_proof.proofs.kept.mark_next.Goals as goal

pub returns-in-Wide-clause-wide : goal.returns-in-Wide-clause-wide
returns-in-Wide-clause-wide c = λ none m columns before reduced.
    let n = c.args.form.now.n in
    let told = (rw c.in-Wide.is at c.in_ok-grown.ensures.stands) before reduced in
    let size = length-take-le c.columns.result _ (omega (arith, c.columns.ensures.columns, c.columns.ensures.at_most)) ∙ c.columns.ensures.columns ∙ columns in
    let row : map pos c.write_marked.new.bits ≡ marked_row c.args.rows.now.n m c.args.mark c.args.rows.now.list = c.write_marked.ensures.marked m size in (
      told.0,
      subst (λ (r : List ℤ). IsReducedForm n (before ++ r ∷ []) told.0) row told.1,
      λ narrow. told.2 (subst (λ (width : ℕ). IsNarrow width told.0) (sym c.requires.width) narrow),
    )
