use Rattle.std.proofs.Common.{◌≡◌, arith, ap, sym, ◌∙◌, Some, to_z, of_z, w64}
use Rattle.std.proofs.lemmas.Int.{ints}
use Rattle.audit_types.specs.Extremes.{least_of}
use Rattle.oracles.proofs.UpperBounds.{bound-lowered, bound-apart, bound-other}
use Rattle.oracles.proofs.bounds.upper_bound.Goals as goal
use Rattle.oracles.proofs.bounds.upper_bound.Goals.{then-record-column+then-has, else-record-column, else-record-column-via-then-record-column+else-has, else-record-column-via-else-record-column}

pub loop-record-preserved : goal.loop-record-preserved
loop-record-preserved c = elim c.if-record-column.branch [
  | then-record-column+then-has w ↦
      let value : to_z w64 (of_z w64 w.least.result) ≡ w.least.result = omega (arith, ints) in
      let answer : to_z w64 (of_z w64 c.record-item.result.answer) ≡ c.record-item.result.answer = omega (arith, ints) in
      w.bound-is ∙ ap Some (value ∙ w.least.ensures ∙ ap (λ a. least_of a c.loop-record.bound) answer)
      ∙ bound-lowered c.args.column c.args.history.now c.loop-record.record-index c.record-item.result c.args.row c.loop-record.bound c.loop-record-test.true
      c.record-item.is c.loop-record.invariant
      w.if-record-column.true (sym w.has.ensures ∙ w.if-has.true)
  | else-record-column w ↦ elim w.else-record-column.branch [
    | else-record-column-via-then-record-column+else-has w' ↦
        w.bound-is
        ∙ bound-apart c.args.column c.args.history.now c.loop-record.record-index c.record-item.result c.args.row c.loop-record.bound c.loop-record-test.true
        c.record-item.is c.loop-record.invariant
        w'.if-record-column.true (sym w'.has.ensures ∙ w'.if-has.false)
    | else-record-column-via-else-record-column w' ↦
        w.bound-is
        ∙ bound-other c.args.column c.args.history.now c.loop-record.record-index c.record-item.result c.args.row c.loop-record.bound c.loop-record-test.true
        c.record-item.is c.loop-record.invariant
        w'.if-record-column.false
  ]
]
