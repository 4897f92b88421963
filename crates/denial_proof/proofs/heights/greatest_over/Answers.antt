use Rattle.std.proofs.Common.{pos, rules, get_or, sym, ◌∙◌, SFits}
use Rattle.std.specs.Int.{w128}
use Rattle.std.proofs.lemmas.Int.{to_z-of_z}
use Rattle.denial_proof.proofs.GreatestSoFar.{greatest_begins}
use Rattle.denial_proof.proofs.heights.greatest_over.Goals as goal

pub loop-row-init : goal.loop-row-init
loop-row-init c =
    let number = get_or c.args.numbers.now c.in-Some.first (pos 0) in
    let fits : SFits w128 number = search rules in
    rw (to_z-of_z w128 number fits, c.into_iter-row-iterator.ensures.into_iter_gives)
    (greatest_begins c.args.numbers.now c.args.rows.now.n c.args.rows.now.list c.next.new.self c.in-Some.first c.n.ensures.are_rows c.requires.within
    (sym c.iter-left.ensures ∙ c.in-Some.ensures.steps))
