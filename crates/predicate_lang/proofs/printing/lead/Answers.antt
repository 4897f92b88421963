use Rattle.predicate_lang.proofs.Pushes.{where_refused}
use Rattle.predicate_lang.proofs.printing.lead.Goals as goal

pub returns-in_err-push_str : goal.returns-in_err-push_str
returns-in_err-push_str c = where_refused c.from_residual.result _ c.from_residual.ensures.0
