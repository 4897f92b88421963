use Rattle.std.proofs.Common.{[], ◌∷◌, ◌∙◌}
use Rattle.drill_case.proofs.DrawsInOrder.{four_steps}
use Rattle.drill_case.proofs.draws.Draws.four.Goals as goal

pub returns : goal.returns
returns c = λ number place at.
    let all =
    four_steps number place c.next-first.new.self.state c.next-second.new.self.state c.next-third.new.self.state c.next.new.self.state c.args.self.now.state
    c.next-first.ensures.state c.next-second.ensures.state
    c.next-third.ensures.state c.next.ensures.state at in
    (all.0, (λ i. c.next-first.ensures.drawn i ∷ c.next-second.ensures.drawn i ∷ c.next-third.ensures.drawn i ∷ c.next.ensures.drawn i ∷ []) ∙ all.1)
