use Rattle.std.proofs.Common.{rules, Option, sym, ap}
use Rattle.transcript_sim.specs.declared.shown.Shown.{Shown}
use Rattle.transcript_sim.specs.Steps.{goes_on}
use Rattle.transcript_sim.proofs.judging.goes_on.Goals as goal

pub returns-in-Some-Disagrees : goal.returns-in-Some-Disagrees
returns-in-Some-Disagrees c = search rules

pub returns-in-None : goal.returns-in-None
returns-in-None c = sym (ap (λ (shown : Option Shown). goes_on shown c.args.line c.args.due) c.in-None.is)
