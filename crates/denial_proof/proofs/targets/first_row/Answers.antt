use Rattle.std.proofs.Common.{◌≡◌, ℕ, List, false, None, sym, ap, ◌∙◌, subst}
use Rattle.audit_types.specs.Headcount.{shared_in}
use Rattle.audit_types.specs.HeadcountLaws.{crowded_rows}
use Rattle.audit_types.specs.Rows.{Rows, AreRows, has_row}
use Rattle.sum_basis.specs.Basis.{SpansUnit}
use Rattle.denial_proof.specs.declared.proof_parts.Target.TheVariants.{Row}
use Rattle.denial_proof.specs.Canonical.{Tells}
use Rattle.denial_proof.proofs.FirstTargets.{least_same, row_told, told_row}
use Rattle.denial_proof.proofs.targets.first_row.Goals as goal

pub over-shared-requires-clause-rows : goal.over-shared-requires-clause-rows
over-shared-requires-clause-rows c =
    let people = c.args.protected.now.people in
    subst (AreRows c.args.n) (sym (c.shared.ensures.rows ∙ ap shared_in c.rows.ensures)) (crowded_rows _ c.args.n people.counts c.requires.people.within)

pub returns : goal.returns
returns c =
    let protected = c.args.protected.now in
    let form = c.args.basis.now in
    let list = ap (λ (s : Rows). s.list) c.over-shared.ensures ∙ c.shared.ensures.rows ∙ ap shared_in c.rows.ensures in
    least_same (λ i. SpansUnit form i × (has_row c.over-shared.result.list i ≡ false)) (λ i. Tells c.args.n protected c.args.column form.rows None (Row i))
    (λ i is. row_told c.args.n protected c.args.column form c.requires.n c.requires.people i is.0 (sym (ap (λ (l : List ℕ). has_row l i) list) ∙ is.1))
    (λ i tells.
    let is = told_row c.args.n protected c.args.column form c.requires.n c.requires.people i tells in
    (is.0, ap (λ (l : List ℕ). has_row l i) list ∙ is.1))
    c.unshared_unit_row.result c.unshared_unit_row.ensures
