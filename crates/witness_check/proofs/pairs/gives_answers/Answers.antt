use Rattle.std.proofs.Common.{sym, ◌∙◌}
use Rattle.std.proofs.lemmas.Bool.{true≢false}
use Rattle.witness_check.specs.Pairs.{IsAnswerOf}
use Rattle.audit_types.specs.HistoryLaws.{own_answer}
use Rattle.witness_check.proofs.pairs.gives_answers.Goals as goal

pub returns-then-not-is_answer : goal.returns-then-not-is_answer
returns-then-not-is_answer c = record {
  exact = (
    (λ yes. absurd (true≢false (sym yes))),
    (λ all. absurd (true≢false (sym (c.is_answer.ensures.exact.1
        (own_answer (IsAnswerOf c.args.numbers.now) c.args.column c.args.list.now c.loop-answered.answered-index c.answered-item.result
        c.loop-answered-test.true c.answered-item.is c.if-answered-column.true all))
        ∙ c.if-not-is_answer.true))),
  );
}
