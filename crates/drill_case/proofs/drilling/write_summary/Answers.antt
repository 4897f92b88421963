use Rattle.std.proofs.Common.{List, ℕ, sym, subst}
use Rattle.drill_case.specs.Drills.{AnswersDrill}
use Rattle.drill_case.proofs.DrillLines.{few_lines}
use Rattle.std.proofs.lemmas.Result.{IfOk-from_err}
use Rattle.drill_case.proofs.drilling.write_summary.Goals as goal

pub tally-requires : goal.tally-requires
tally-requires c =
    let answers = subst (λ (sent : List ℕ). AnswersDrill c.args.number sent) (sym c.sent.ensures) c.in_ok-rows.ensures.replies in
    few_lines c.lines_of_replies.ensures c.args.number c.sent.result.now c.in_ok-rows.ensures.short answers

-- ---- no memory for the bench

pub returns-in_err-bench : goal.returns-in_err-bench
returns-in_err-bench c = record {
  count = IfOk-from_err _ _ c.from_residual.ensures.0;
  summary = IfOk-from_err _ _ c.from_residual.ensures.0;
}

-- ---- the drill was not answered

pub returns-in_err-rows : goal.returns-in_err-rows
returns-in_err-rows c = record {
  count = IfOk-from_err _ _ c.from_residual-in_err-rows.ensures.0;
  summary = IfOk-from_err _ _ c.from_residual-in_err-rows.ensures.0;
}
