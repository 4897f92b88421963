use Rattle.question_plan.proofs.NextLines.{gives_next, is_stopped}
use Rattle.question_plan.proofs.planner.next_line.Goals as goal

pub returns-clause-gives : goal.returns-clause-gives
returns-clause-gives g c =
    let said = c.next.ensures in
    gives_next g.P.Source c.args.lines.now c.next.new.self c.args.source.now c.next.new.source c.lines_in_turn.ensures.one c.next.result said.answer
    said.counted said.advances said.text said.steady

pub returns-clause-stopped : goal.returns-clause-stopped
returns-clause-stopped g c =
    let said = c.next.ensures in
    is_stopped g.P.Source c.args.lines.now c.next.new.self c.args.source.now c.next.new.source c.next.result said.stop said.stop_within said.steady said.input
    said.last_call said.once

pub returns-clause-cuts : goal.returns-clause-cuts
returns-clause-cuts g c =
    let said = c.next.ensures in
    record { same = said.same; taken = said.taken; within = said.within; still = λ ended. (said.once ended).1; later = said.later }
