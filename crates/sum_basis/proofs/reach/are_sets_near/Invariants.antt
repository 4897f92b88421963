use Rattle.std.proofs.Common.{◌≡◌, ℤ, List, length}
use Rattle.std.specs.List.{AllWithin}
use Rattle.audit_types.specs.Truth.{sum_over}
use Rattle.sum_basis.specs.Reach.{IsGrownBy, IsReached}
use Rattle.sum_basis.proofs.reach.are_sets_near.Given as goal

-- the total of each set so far is reached
abbrev pub invariant-loop-set : goal.invariant-loop-set
invariant-loop-set l = record {
  long : length l.row ≡ l.form.n;
  near : (grown : List (List ℤ)) → IsGrownBy l.form l.new grown → AllWithin
      (λ s. IsReached l.form.n l.reach grown (λ w. sum_over w s.list)) l.sets 0 l.set-index;
}
