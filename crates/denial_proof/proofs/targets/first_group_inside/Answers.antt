use Rattle.denial_proof.proofs.FirstTargets.{group_first, nothing_told, ok_none}
use Rattle.denial_proof.proofs.targets.first_group_inside.Goals as goal

pub returns-in-Some-clause-some : goal.returns-in-Some-clause-some
returns-in-Some-clause-some c =
    group_first c.args.n c.args.protected.now c.args.column c.args.basis.now.rows c.requires.no_row c.requires.no_pair c.in-Some.place
    (rw c.in-Some.is at c.first_group.ensures)

pub first_told_group-requires-clause-no_group : goal.first_told_group-requires-clause-no_group
first_told_group-requires-clause-no_group c = rw c.in-None.is at c.first_group.ensures

pub returns-in-None-clause-none : goal.returns-in-None-clause-none
returns-in-None-clause-none c =
    ok_none (nothing_told c.args.n c.args.protected.now c.args.column c.args.basis.now.rows c.requires.no_row c.requires.no_pair
    (rw c.in-None.is at c.first_group.ensures)) c.first_told_group.result c.first_told_group.ensures.none
