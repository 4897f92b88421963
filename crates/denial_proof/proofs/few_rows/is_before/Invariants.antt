use Rattle.std.specs.Prelude.{◌↔◌}
use Rattle.denial_proof.specs.FewRows.{IsBefore}
use Rattle.denial_proof.proofs.few_rows.is_before.Given as goal

abbrev pub invariant-loop-row : goal.invariant-loop-row
invariant-loop-row l = IsBefore l.rows.list l.others.list ↔ IsBefore l.row-iterator l.left
