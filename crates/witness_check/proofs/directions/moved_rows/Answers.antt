use Rattle.std.proofs.Common.{pos, get_or, rules, sym, ap, ◌∙◌, to_z}
use Rattle.std.specs.Prelude.{FitsSigned}
use Rattle.std.specs.Int.{w128}
use Rattle.std.proofs.lemmas.Int.{to_z-of_z}
use Rattle.audit_types.specs.Rows.{Rows, with_row}
use Rattle.witness_check.proofs.MovedRows.{marks_more, marks_same}
use Rattle.witness_check.proofs.directions.moved_rows.Goals as goal
use Rattle.witness_check.proofs.directions.moved_rows.Goals.{then-numbers-row-ne0, else-numbers-row-ne0}

pub loop-row-preserved : goal.loop-row-preserved
loop-row-preserved c = elim c.if-numbers-row-ne0.branch [
  | then-numbers-row-ne0 w ↦ (
    ap (λ (s : Rows). s.n) w.moved-is ∙ w.add.ensures.n ∙ c.loop-row.invariant.0,
    marks_more c.args.numbers.now c.args.n c.loop-row.row c.loop-row.moved.list c.if-numbers-row-ne0.moved.list c.loop-row-test.true
        (ap (λ (s : Rows). s.list) w.moved-is ∙ w.add.ensures.added ∙ ap (λ n. with_row n c.loop-row.moved.list c.loop-row.row) c.loop-row.invariant.0)
        c.loop-row.invariant.1,
  )
  | else-numbers-row-ne0 w ↦
      let number = get_or c.args.numbers.now c.loop-row.row (pos 0) in
      let fits : FitsSigned w128 number = search rules in
      let none = sym (to_z-of_z w128 number fits) ∙ ap (to_z w128) w.if-numbers-row-ne0.false in
      rw w.moved-is (c.loop-row.invariant.0, marks_same c.args.numbers.now c.loop-row.row c.loop-row.moved.list none c.loop-row.invariant.1)
]
