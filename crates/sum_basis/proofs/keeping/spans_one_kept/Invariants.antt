use Rattle.std.specs.List.{AllWithin}
use Rattle.audit_types.specs.Form.{set_row}
use Rattle.sum_basis.specs.Growth.{SpansAfter}
use Rattle.sum_basis.proofs.keeping.spans_one_kept.Given as goal

-- the row of none of the sets so far lies in the span
abbrev pub invariant-loop-set : goal.invariant-loop-set
invariant-loop-set l = AllWithin (λ s. ¬ (SpansAfter l.form l.left (set_row l.form.n s.rows.list))) l.kept 0 l.set-index
