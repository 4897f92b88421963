use Rattle.predicate_lang.proofs.Pushes.{where_refused}
use Rattle.predicate_lang.proofs.printing.write_between.Goals as goal

pub returns-in_err-close : goal.returns-in_err-close
returns-in_err-close c = where_refused c.from_residual.result _ c.from_residual.ensures.0
