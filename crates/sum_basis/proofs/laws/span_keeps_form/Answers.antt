use Rattle.sum_basis.proofs.SpanKeepsForm.{span_keeps_form}
use Rattle.sum_basis.proofs.laws.span_keeps_form.Goals as goal

pub returns : goal.returns
returns c = span_keeps_form
