use Rattle.std.proofs.Common.{◌≡◌, List, arith, ap, subst, None}
use Rattle.audit_types.specs.Column.{Answer}
use Rattle.audit_types.specs.Extremes.{IsLeastLone}
use Rattle.max_bounds.specs.Maxima.{Maxima, answers_of}
use Rattle.max_bounds.proofs.DangerCases.{none_lone}
use Rattle.max_bounds.proofs.bounds.Bounds.lone_extreme.Goals as goal

pub returns-then-self-gt1 : goal.returns-then-self-gt1
returns-then-self-gt1 c =
    let kept = c.self.invariant in
    let answers = answers_of c.self.inside.pairs.items in
    let counts = c.self.inside.counts.items in
    let sets = answers_of c.self.inside.least.items in
    subst (λ (m : Maxima). IsLeastLone m.answers None) c.self.view_is
    (λ r lone. none_lone answers counts c.self.inside.fewest sets kept.tells (omega arith) r lone)

pub returns : goal.returns
returns c =
    let answers : answers_of c.self.inside.pairs.items ≡ c.args.self.now.answers = ap (λ m. m.answers) c.self.view_is in
    subst (λ (list : List Answer). IsLeastLone list c.least_lone.result) answers c.least_lone.ensures
