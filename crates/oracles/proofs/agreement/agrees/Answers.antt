use Rattle.std.proofs.Common.{◌≡◌, ap, ◌∙◌, of_z, w64}
use Rattle.audit_types.specs.Column.{Answer}
use Rattle.audit_types.specs.Truth.{truth}
use Rattle.audit_types.specs.HistoryLaws.{own_answer}
use Rattle.oracles.proofs.agreement.agrees.Goals as goal

pub returns-then-truth-record : goal.returns-then-truth-record
returns-then-truth-record c = (
  λ no. absurd cc,
  λ agrees.
      let r = c.record-item.result in
      let P : Answer → Type 0 = λ a. truth c.args.kind c.args.numbers.now a.rows ≡ a.value in
      let here = own_answer P c.args.column c.args.history.now c.loop-record.record-index r c.loop-record-test.true c.record-item.is c.if-record-column.true
      agrees.same in
      absurd (c.if-truth-record.true (ap (of_z w64) (c.truth.ensures ∙ here))),
)
