use Rattle.std.proofs.Common.{take, drop, ◌++◌, ◌∷◌, arith, rules, SFits, sym, ap, ◌∙◌, subst, to_z, of_z}
use Rattle.std.specs.Int.{w64}
use Rattle.std.proofs.lemmas.Int.{to_z-of_z}
use Rattle.audit_types.specs.Extremes.{extremes}
use Rattle.max_bounds.specs.Maxima.{answers_of, and_answer}
use Rattle.max_bounds.specs.Outside.{HasWithin}
use Rattle.max_bounds.specs.Kept.{AreLeast, Descend}
use Rattle.max_bounds.specs.Marks.{marks_of}
use Rattle.max_bounds.specs.declared.answered.AnsweredMax.{AnsweredMax}
use Rattle.max_bounds.proofs.NextExtremes.{least_inserted, least_within}
use Rattle.max_bounds.proofs.Descending.{answers_inserted, inserted_descend}
use Rattle.max_bounds.proofs.MarkedSets.{marks_length, marked_inserted}
use Rattle.max_bounds.proofs.kept.insert.Goals as goal

pub returns-then-not-has_within-clause-descend : goal.returns-then-not-has_within-clause-descend
returns-then-not-has_within-clause-descend c =
    let set : AnsweredMax = record { rows = c.args.own.now; answer = to_z w64 (of_z w64 c.args.latest.now.answer) } in
    subst (λ l. Descend (answers_of l)) (sym c.insert_reserved.ensures.inserted)
    (inserted_descend c.args.least.now.items c.end_of-place.result set c.requires.descend c.end_of-place.ensures.end)

pub returns-then-not-has_within-clause-tells : goal.returns-then-not-has_within-clause-tells
returns-then-not-has_within-clause-tells c =
    let answers = answers_of c.args.pairs.now.items in
    let rows = c.args.latest.now.rows.list in
    let x = c.args.latest.now.answer in
    let fits : SFits w64 x = search rules in
    let same = to_z-of_z w64 x fits in
    let least = c.args.least.now.items in
    let place = c.end_of-place.result in
    let set : AnsweredMax = record { rows = c.args.own.now; answer = to_z w64 (of_z w64 c.args.latest.now.answer) } in
    subst (AreLeast (extremes (and_answer answers rows x)) (and_answer answers rows x))
    (sym (ap answers_of c.insert_reserved.ensures.inserted ∙ answers_inserted least place set
    ∙ ap (λ a. take place (answers_of least) ++ record { rows = c.args.own.now.list; value = a } ∷ drop place (answers_of least)) same))
    (least_inserted answers rows x (answers_of least) place c.args.own.now.list c.requires.own c.requires.told)

pub returns-else-not-has_within-clause-tells : goal.returns-else-not-has_within-clause-tells
returns-else-not-has_within-clause-tells c =
    let answers = answers_of c.args.pairs.now.items in
    let rows = c.args.latest.now.rows.list in
    let x = c.args.latest.now.answer in
    let fits : SFits w64 x = search rules in
    least_within answers rows x (answers_of c.args.least.now.items)
    (subst (HasWithin (answers_of c.args.least.now.items) rows) (to_z-of_z w64 x fits) (c.has_within.ensures.0 c.if-not-has_within.false))
    c.requires.told

pub insert-requires-clause-place : goal.insert-requires-clause-place
insert-requires-clause-place c = λ marking.
    let long = marks_length marking c.args.least.now.items (marks_of marking c.args.marks.now) (c.requires.marked marking) in
    omega (arith, long, c.end_of-place.ensures.at_most)

pub returns-then-not-has_within-clause-marked : goal.returns-then-not-has_within-clause-marked
returns-then-not-has_within-clause-marked c = λ marking.
    let set : AnsweredMax = record { rows = c.args.own.now; answer = to_z w64 (of_z w64 c.args.latest.now.answer) } in
    let put = c.insert.ensures marking in
    rw (c.insert_reserved.ensures.inserted, put.2)
    (marked_inserted marking c.args.least.now.items (marks_of marking c.args.marks.now) c.end_of-place.result set put.0 (c.requires.marked marking) put.1)
