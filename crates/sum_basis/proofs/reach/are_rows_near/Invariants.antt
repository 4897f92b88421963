use Rattle.std.proofs.Common.{◌≡◌, ℕ, ◌<◌, ◌≤◌, false, ℤ, List, [], get_or}
use Rattle.std.specs.Vec.{vec_capacity}
use Rattle.audit_types.specs.Rows.{has_row}
use Rattle.audit_types.specs.Truth.{number_at}
use Rattle.audit_types.specs.Form.{pivot}
use Rattle.sum_basis.specs.Reach.{IsGrownBy, IsReached}
use Rattle.sum_basis.proofs.reach.are_rows_near.Given as goal

-- the number at each pivot so far that isn't shared is reached
abbrev pub invariant-loop-k : goal.invariant-loop-k
invariant-loop-k l = record {
  near : (grown : List (List ℤ)) → IsGrownBy l.form l.new grown → (k : ℕ) → k < l.k → has_row l.shared.list (pivot (get_or l.form.rows k [])) ≡ false →
      IsReached l.form.n l.reach grown (λ w. number_at w (pivot (get_or l.form.rows k [])));
  room : l.columns ≤ vec_capacity l.room;
}
