use Rattle.std.proofs.Common.{rules}
use Rattle.sum_basis.proofs.form.Form.as_it_is.Goals as goal

pub returns-in-Some : goal.returns-in-Some
returns-in-Some c = search rules
