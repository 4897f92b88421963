use Rattle.std.proofs.lemmas.Result.{IfOk-from_err}
use Rattle.drill_case.proofs.drilling.answer_lines.Goals as goal

-- ---- the journal was not made

pub returns-in_err-make : goal.returns-in_err-make
returns-in_err-make c = record {
  replies = IfOk-from_err _ _ c.from_residual.ensures.0;
  short = IfOk-from_err _ _ c.from_residual.ensures.0;
}

-- ---- no memory for the lines

pub returns-in_err-lines : goal.returns-in_err-lines
returns-in_err-lines c = record {
  replies = IfOk-from_err _ _ c.from_residual-in_err-lines.ensures.0;
  short = IfOk-from_err _ _ c.from_residual-in_err-lines.ensures.0;
}
