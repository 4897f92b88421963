use Rattle.std.proofs.lemmas.Result.{IfOk-from_err}
use Rattle.drill_case.proofs.drilling.answer_drill.Goals as goal

-- ---- no memory for the schema

pub returns-in_err-schema : goal.returns-in_err-schema
returns-in_err-schema c = record {
  rows = IfOk-from_err _ _ c.from_residual.ensures.0;
  replies = IfOk-from_err _ _ c.from_residual.ensures.0;
  short = IfOk-from_err _ _ c.from_residual.ensures.0;
}

-- ---- no memory for the table

pub returns-in_err-table : goal.returns-in_err-table
returns-in_err-table c = record {
  rows = IfOk-from_err _ _ c.from_residual-in_err-table.ensures.0;
  replies = IfOk-from_err _ _ c.from_residual-in_err-table.ensures.0;
  short = IfOk-from_err _ _ c.from_residual-in_err-table.ensures.0;
}
