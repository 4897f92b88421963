use Rattle.std.proofs.Common.{◌≡◌, ◌+◌, take, map}
use Rattle.audit_types.specs.Limits.{most_width}
use Rattle.audit_types.specs.Form.{IsReducedForm}
use Rattle.denial_proof.specs.Weights.{rows_at}
use Rattle.denial_proof.specs.Kept.{marked_rows, HasWideFront}
use Rattle.denial_proof.proofs.kept.mark_all.Given as goal

abbrev pub invariant-loop-mark : goal.invariant-loop-mark
invariant-loop-mark l = record {
  same_n : l.form.n ≡ l.n + l.marks;
  same_width : l.form.width ≡ most_width;
  reduced : IsReducedForm (l.n + l.marks) (take l.mark (marked_rows l.n l.marks 0 (map (rows_at l.history) l.places))) l.form.rows;
  narrow : ¬ (HasWideFront (l.n + l.marks) (take l.mark (marked_rows l.n l.marks 0 (map (rows_at l.history) l.places))));
}
