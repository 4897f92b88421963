use Rattle.denial_proof.proofs.FirstTargets.{row_first}
use Rattle.denial_proof.proofs.targets.first_target.Goals as goal

pub returns-in-Some-clause-some : goal.returns-in-Some-clause-some
returns-in-Some-clause-some c = row_first c.args.n c.args.protected.now c.args.column c.args.basis.now.rows c.in-Some.row
    (rw c.in-Some.is at c.first_row.ensures)

pub first_but_rows-requires-clause-no_row : goal.first_but_rows-requires-clause-no_row
first_but_rows-requires-clause-no_row c = rw c.in-None.is at c.first_row.ensures
