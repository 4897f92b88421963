use Rattle.std.proofs.Common.{pos, arith, SFits, rules}
use Rattle.std.specs.Prelude.{slice_index_or}
use Rattle.std.specs.Int.{w128}
use Rattle.std.proofs.lemmas.Int.{to_z-of_z}
use Rattle.denial_proof.proofs.FirstPairs.{same_default, first_found, none_found}
use Rattle.denial_proof.proofs.maxima.first_answer.Goals as goal

pub returns-in-Some-clause-first : goal.returns-in-Some-clause-first
returns-in-Some-clause-first c =
    let items = c.args.candidates.now in
    let i = c.loop-answer.answer-index in
    let answer = slice_index_or items i (pos 0) in
    let fits : SFits w128 answer = search rules in
    let value = to_z-of_z w128 answer fits in
    let told = rw value at c.in-Some.ensures.some in
    rw value
    (first_found c.args.bounds.now.n c.args.people.now.people c.args.bounds.now.answers c.args.rows.now.list items c.requires.candidates i answer
    c.loop-answer-test.true
    (same_default items i (pos 0) answer c.loop-answer-test.true) c.loop-answer.invariant
    (record { possible = told.0; few = (told.1.answer, told.1.one, told.1.are_few) }))

pub returns-in-Some-clause-least : goal.returns-in-Some-clause-least
returns-in-Some-clause-least c =
    let answer = slice_index_or c.args.candidates.now c.loop-answer.answer-index (pos 0) in
    let fits : SFits w128 answer = search rules in
    let value = to_z-of_z w128 answer fits in
    rw value (rw value at c.in-Some.ensures.some).1

pub returns-clause-none : goal.returns-clause-none
returns-clause-none c =
    none_found c.args.bounds.now.n c.args.people.now.people c.args.bounds.now.answers c.args.rows.now.list c.args.candidates.now c.requires.candidates
    (λ k l. c.loop-answer.invariant k (omega arith))
