use Rattle.denial_proof.proofs.targets.first_inside.Goals as goal

pub first_group_inside-requires-clause-no_pair : goal.first_group_inside-requires-clause-no_pair
first_group_inside-requires-clause-no_pair c = rw c.in-None.is at c.in_ok-told.ensures.none
