use Rattle.std.proofs.Common.{◌≡◌, pos, rules, get_or, ap, ◌∙◌, SFits, to_z, of_z}
use Rattle.std.specs.Int.{w128}
use Rattle.std.proofs.lemmas.Int.{to_z-of_z}
use Rattle.witness_check.specs.Pairs.{greater_of}
use Rattle.witness_check.proofs.GreatestSoFar.{greatest_begins, greatest_step}
use Rattle.witness_check.proofs.pairs.greatest.Goals as goal

pub loop-row-init : goal.loop-row-init
loop-row-init c =
    rw (c.into_iter-row-iterator.ensures.into_iter_gives, c.iter-row-items.ensures)
    (greatest_begins c.args.numbers.now c.args.rows.now.n c.args.rows.now.list c.n.ensures.are_rows c.requires.within)

pub loop-row-preserved : goal.loop-row-preserved
loop-row-preserved c =
    let number = get_or c.args.numbers.now c.in-Some.row (pos 0) in
    let fits : SFits w128 number = search rules in
    let fits_greater : SFits w128 c.greater.result = search rules in
    let value : to_z w128 (of_z w128 c.greater.result) ≡ greater_of c.loop-row.greatest number =
    to_z-of_z w128 c.greater.result fits_greater ∙ c.greater.ensures ∙ ap (greater_of c.loop-row.greatest) (to_z-of_z w128 number fits) in
    rw value
    (greatest_step c.args.numbers.now c.args.rows.now.list c.in-Some.row c.next.new.self c.loop-row.greatest
    (rw c.in-Some.ensures.steps at c.loop-row.invariant))

pub returns : goal.returns
returns c = let done = rw c.in-None.ensures.steps.0 at c.loop-row.invariant in record { exact = done.leads }
