use Rattle.std.proofs.lemmas.Result.{IfOk-from_err}
use Rattle.drill_case.proofs.tables.draw_table.Goals as goal

pub returns-in_err-public : goal.returns-in_err-public
returns-in_err-public c = record {
  public = IfOk-from_err _ _ c.from_residual.ensures.0;
  secret = IfOk-from_err _ _ c.from_residual.ensures.0;
  fits = IfOk-from_err _ _ c.from_residual.ensures.0;
}

pub returns-in_err-secret : goal.returns-in_err-secret
returns-in_err-secret c = record {
  public = IfOk-from_err _ _ c.from_residual-in_err-secret.ensures.0;
  secret = IfOk-from_err _ _ c.from_residual-in_err-secret.ensures.0;
  fits = IfOk-from_err _ _ c.from_residual-in_err-secret.ensures.0;
}
