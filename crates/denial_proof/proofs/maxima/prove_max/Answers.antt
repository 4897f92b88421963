use Rattle.std.proofs.Common.{subst}
use Rattle.max_bounds.specs.Maxima.{Maxima, and_answer}
use Rattle.denial_proof.specs.FewRows.{IsLeastFew}
use Rattle.denial_proof.proofs.maxima.prove_max.Goals as goal

pub prove_few-requires-clause-least : goal.prove_few-requires-clause-least
prove_few-requires-clause-least c =
    let answer = c.in-Some.bad.answer in
    let rows = c.args.asked.now.rows.list in
    subst (λ (b : Maxima). IsLeastFew b.n c.args.people.now.people (and_answer b.answers rows answer) (and_answer b.answers rows answer) c.in-Some.bad.few)
    c.bounds.ensures.exact c.in-Some.ensures.least
