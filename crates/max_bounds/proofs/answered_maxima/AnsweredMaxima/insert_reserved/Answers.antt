use Rattle.std.proofs.Common.{◌≡◌, ◌<◌, ℤ, List, ap, ◌∙◌, arith, rules, length, to_z, of_z, min}
use Rattle.std.specs.Prelude.{vec_len, vec_capacity}
use Rattle.std.specs.List.{insert}
use Rattle.std.specs.Int.{w64}
use Rattle.std.proofs.lemmas.Int.{to_z-of_z}
use Rattle.max_bounds.specs.Maxima.{ListOfMaxima}
use Rattle.max_bounds.specs.Paired.{paired}
use Rattle.max_bounds.specs.declared.answered.AnsweredMax.{AnsweredMax}
use Rattle.max_bounds.proofs.PairedSets.{count, insert-paired}
use Rattle.max_bounds.proofs.answered_maxima.AnsweredMaxima.insert_reserved.Goals as goal

pub insert_reserved-requires-clause-room : goal.insert_reserved-requires-clause-room
insert_reserved-requires-clause-room c =
    let sets = count c.self.inside c.args.self.now c.self.view_is c.self.invariant in
    let capacity : min c.self.inside.sets.capacity (vec_capacity c.self.inside.answers) ≡ c.args.self.now.capacity = ap
    (λ (m : ListOfMaxima). m.capacity) c.self.view_is in
    omega (arith, c.requires.room)

pub insert_reserved-requires-clause-place : goal.insert_reserved-requires-clause-place
insert_reserved-requires-clause-place c =
    let sets = count c.self.inside c.args.self.now c.self.view_is c.self.invariant in omega (arith, c.requires.place)

pub insert-requires : goal.insert-requires
insert-requires c =
    let sets = count c.self.inside c.args.self.now c.self.view_is c.self.invariant in
    let long : vec_len c.self.inside.answers ≡ length c.self.inside.answers.items = search rules in
    omega (arith, c.requires.place, c.self.invariant)

-- there is room for the answer
free : (c : goal.After-insert) → vec_len c.self.inside.answers < vec_capacity c.self.inside.answers
free c =
    let sets = count c.self.inside c.args.self.now c.self.view_is c.self.invariant in
    let long : vec_len c.self.inside.answers ≡ length c.self.inside.answers.items = search rules in
    let capacity : min c.self.inside.sets.capacity (vec_capacity c.self.inside.answers) ≡ c.args.self.now.capacity = ap
    (λ (m : ListOfMaxima). m.capacity) c.self.view_is in
    omega (arith, c.requires.room, c.self.invariant)

pub unwrap-requires : goal.unwrap-requires
unwrap-requires c = c.insert.ensures.succeeds (free c)

pub returns-clause-inserted : goal.returns-clause-inserted
returns-clause-inserted c =
    let a = c.self.inside in
    let place = c.args.place in
    let x : ℤ = to_z w64 (of_z w64 c.args.answer) in
    let same : x ≡ c.args.answer = to_z-of_z w64 c.args.answer c.ranges.answer in
    let answers : c.insert.new.self.items ≡ insert a.answers.items place x = rw c.unwrap.ensures at c.insert.ensures.items in
    ap (λ (l : List ℤ). paired l c.insert_reserved.new.self.list) answers
    ∙ ap (paired (insert a.answers.items place x)) c.insert_reserved.ensures.inserted
    ∙ insert-paired a.answers.items a.sets.list place x c.args.rows.now c.self.invariant
    ∙ ap (λ (l : List AnsweredMax). insert l place (record { answer = x; rows = c.args.rows.now })) (ap (λ (m : ListOfMaxima). m.items) c.self.view_is)
    ∙ ap (λ (v : ℤ). insert c.args.self.now.items place (record { answer = v; rows = c.args.rows.now })) same
