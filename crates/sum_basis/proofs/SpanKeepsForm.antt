-- A row in the span keeps the form.
use Rattle.std.proofs.Common.{[], ◌∷◌, ◌++◌}
use Rattle.audit_types.specs.Form.{InSpan}
use Rattle.audit_types.specs.ListLaws.{all-push, all-front}
use Rattle.sum_basis.specs.Laws.{SpanKeepsForm}
use Rattle.sum_basis.specs.Spans.{span_trans, span_trans_all, own}

-- the rows with one row of their span have the same form
pub span_keeps_form : SpanKeepsForm
span_keeps_form n rows form row p span = record {
  primitive = p.primitive;
  echelon = p.echelon;
  within = span_trans_all (rows ++ row ∷ []) rows form ((all-front (InSpan (rows ++ row ∷ [])) rows row (own (rows ++ row ∷ []))).0) p.within;
  spans = all-push (InSpan form) rows row p.spans (span_trans form rows row p.spans span);
}
