use Rattle.std.proofs.Common.{arith}
use Rattle.std.proofs.lemmas.Grind.{common_steps}
use Rattle.transcript_sim.proofs.judging.take_answer.Goals as goal

pub returns-in-Some-Agrees-Some-clause-takes : goal.returns-in-Some-Agrees-Some-clause-takes
returns-in-Some-Agrees-Some-clause-takes c = grind (arith, common_steps)
