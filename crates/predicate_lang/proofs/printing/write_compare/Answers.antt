use Rattle.predicate_lang.proofs.Pushes.{where_refused}
use Rattle.predicate_lang.proofs.printing.write_compare.Goals as goal

pub returns-in_err-write_spaced : goal.returns-in_err-write_spaced
returns-in_err-write_spaced c = where_refused c.from_residual.result _ c.from_residual.ensures.0

pub returns-in_err-write_spaced-2 : goal.returns-in_err-write_spaced-2
returns-in_err-write_spaced-2 c = where_refused c.from_residual-in_err-write_spaced-2.result _ c.from_residual-in_err-write_spaced-2.ensures.0
