use Rattle.std.proofs.Common.{take}
use Rattle.audit_types.specs.Rows.{IsLeast}
use Rattle.max_bounds.specs.Maxima.{answers_of}
use Rattle.max_bounds.specs.Reaching.{bound_at, IsAlone}
use Rattle.max_bounds.proofs.lone_rows.least_under.Given as goal

abbrev pub invariant-loop-k : goal.invariant-loop-k
invariant-loop-k l = IsLeast (IsAlone (bound_at l.bounds) (answers_of (take l.k l.pairs.items))) l.least
