use Rattle.drill_case.proofs.drilling.make.Goals as goal

pub make-requires : goal.make-requires
make-requires c = c.requires.shape

pub returns-in-Ok : goal.returns-in-Ok
returns-in-Ok c = record { made = (20, c.in-Ok.ensures.done (tt {0})); sent = c.make.ensures.sent }
