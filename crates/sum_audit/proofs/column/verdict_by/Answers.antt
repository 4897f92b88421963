use Rattle.std.proofs.Common.{ℕ, List, map, sym, subst}
use Rattle.audit_types.specs.Rows.{Rows}
use Rattle.audit_types.specs.Form.{set_row}
use Rattle.sum_basis.specs.Reach.{ReachesAll}
use Rattle.sum_audit.specs.Sets.{IsVerdictOn}
use Rattle.sum_audit.proofs.Verdicts.{verdict_within}
use Rattle.sum_audit.proofs.column.verdict_by.Goals as goal

pub returns-then-branch : goal.returns-then-branch
returns-then-branch c =
    let basis = c.args.basis.now in
    let row = set_row basis.n c.args.rows.now.list in
    let sets = map (λ (s : Rows). s.list) c.args.apart.now in
    subst (IsVerdictOn basis c.args.reach row c.args.people.now.people sets) (sym c.verdict_of.ensures)
    (verdict_within basis c.args.reach row c.args.people.now.people sets c.args.prospect c.requires.told
    (λ new grows. subst (λ (shared : List ℕ). ReachesAll basis.n c.args.reach shared sets new.rows) c.shared.ensures.rows
    ((c.in_ok-is_within_reach.ensures new grows).0 c.if-branch.true)))
