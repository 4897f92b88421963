use Rattle.std.proofs.Common.{◌≡◌, ℕ, cond, ap, ◌∙◌, arith}
use Rattle.std.specs.Int.{bit_not, w64}
use Rattle.std.specs.List.{insert}
use Rattle.max_bounds.specs.Marks.{IsMark, marks_of}
use Rattle.max_bounds.specs.declared.marks.Marking.TheVariants.{Samples, Touched, Filled}
use Rattle.max_bounds.proofs.MarkedSets.{fills}
use Rattle.max_bounds.proofs.marks.Marks.insert.Goals as goal

pub insert-requires : goal.insert-requires
insert-requires c = let place = c.requires.place Samples in omega (arith, place, c.args.self.now.samples.ok.0)

pub insert-requires-2 : goal.insert-requires-2
insert-requires-2 c = let place = c.requires.place Touched in omega (arith, place, c.args.self.now.touched.ok.0)

pub insert-requires-3 : goal.insert-requires-3
insert-requires-3 c = let place = c.requires.place Filled in omega (arith, place, c.args.self.now.filled.ok.0)

pub returns : goal.returns
returns c = λ marking.
    let old = c.args.self.now in
    let place = c.args.place in
    elim marking as (λ m. (x : ℕ) × IsMark m c.args.rows.now x
    × (marks_of m (record { samples = c.insert.new.self; touched = c.insert-2.new.self; filled = c.insert-3.new.self }) ≡ insert (marks_of m old) place x)) [
      | Samples ↦ (
        c.samples_of.result,
        c.samples_of.ensures.only,
        c.insert.ensures.items ∙ ap (λ b. cond b (insert old.samples.items place c.samples_of.result) old.samples.items)
            (c.insert.ensures.succeeds c.requires.room.samples),
      )
      | Touched ↦ (
        c.groups_of.result,
        c.groups_of.ensures.only,
        c.insert-2.ensures.items ∙ ap (λ b. cond b (insert old.touched.items place c.groups_of.result) old.touched.items)
            (c.insert-2.ensures.succeeds c.requires.room.touched),
      )
      | Filled ↦ (
        bit_not w64 c.groups_of-2.result,
        fills c.args.rows.now c.flip.new.self.list c.groups_of-2.result c.groups_of-2.type_inv c.flip.ensures.others c.groups_of-2.ensures,
        c.insert-3.ensures.items ∙ ap (λ b. cond b (insert old.filled.items place (bit_not w64 c.groups_of-2.result)) old.filled.items)
            (c.insert-3.ensures.succeeds c.requires.room.filled),
      )
    ]
