use Rattle.denial_proof.specs.declared.proof_parts.Target.TheVariants.{Row, Group}
use Rattle.denial_proof.proofs.FirstTargets.{group_first, nobody_tells, nothing_told}
use Rattle.denial_proof.proofs.targets.first_outside.Goals as goal

pub returns-in-Some-clause-some : goal.returns-in-Some-clause-some
returns-in-Some-clause-some c =
    let protected = c.args.protected.now in
    let rows = c.args.basis.now.rows in
    group_first c.args.n protected c.args.column rows c.requires.no_row
    (λ i p. nobody_tells c.args.n protected c.args.column rows c.requires.outside p (Row i)) c.in-Some.place (rw c.in-Some.is at c.first_group.ensures)

pub returns-in-None-clause-none : goal.returns-in-None-clause-none
returns-in-None-clause-none c =
    let protected = c.args.protected.now in
    let rows = c.args.basis.now.rows in
    nothing_told c.args.n protected c.args.column rows c.requires.no_row
    (λ i p. nobody_tells c.args.n protected c.args.column rows c.requires.outside p (Row i)) (rw c.in-None.is at c.first_group.ensures)
    (λ g p. nobody_tells c.args.n protected c.args.column rows c.requires.outside p (Group g))
