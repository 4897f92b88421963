use Rattle.std.proofs.Common.{sym, ◌∙◌}
use Rattle.std.proofs.lemmas.Bool.{true≢false}
use Rattle.audit_types.specs.HistoryLaws.{own_answer}
use Rattle.denial_proof.specs.Lone.{IsGreatest}
use Rattle.denial_proof.proofs.heights.gives_answers.Goals as goal

pub returns-then-not-gives_answer : goal.returns-then-not-gives_answer
returns-then-not-gives_answer c = (
  λ yes. absurd (true≢false (sym yes)),
  λ all. absurd (true≢false (sym (c.gives_answer.ensures.1
      (own_answer (IsGreatest c.args.numbers.now) c.args.column c.args.history.now c.loop-record.record-index c.record-item.result
      c.loop-record-test.true c.record-item.is c.if-record-column.true all))
      ∙ c.if-not-gives_answer.true)),
)
