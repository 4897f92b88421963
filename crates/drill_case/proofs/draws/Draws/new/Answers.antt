use Rattle.std.proofs.Common.{◌∙◌}
use Rattle.drill_case.proofs.DrawsInOrder.{begins}
use Rattle.drill_case.proofs.draws.Draws.new.Goals as goal

pub returns : goal.returns
returns c = c.from.ensures ∙ begins c.args.number
