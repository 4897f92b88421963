use Rattle.std.proofs.Common.{◌-◌, ◌≤◌, take}
use Rattle.max_bounds.specs.Maxima.{answers_of}
use Rattle.max_bounds.specs.Outside.{HasWithin}
use Rattle.max_bounds.proofs.within.has_within.Given as goal

abbrev pub invariant-loop-k : goal.invariant-loop-k
invariant-loop-k l = record {
  in_range : l.k ≤ l.end;
  none : HasWithin (answers_of (take l.k l.least.items)) l.rows.list l.answer → ⊥;
}

abbrev pub decreases-loop-k : goal.decreases-loop-k
decreases-loop-k l = l.end - l.k
