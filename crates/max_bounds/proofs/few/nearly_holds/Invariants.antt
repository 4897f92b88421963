use Rattle.std.proofs.Common.{◌≡◌, ◌-◌, ◌≤◌, length, take}
use Rattle.max_bounds.specs.Maxima.{answers_of}
use Rattle.max_bounds.proofs.NearlyHeld.{AreSeen}
use Rattle.max_bounds.proofs.few.nearly_holds.Given as goal

abbrev pub invariant-loop-k : goal.invariant-loop-k
invariant-loop-k l = record {
  same_n : l.left.n ≡ l.others.n;
  in_range : l.k ≤ length l.least.items;
  seen : AreSeen l.people.people (answers_of (take l.k l.least.items)) l.rows.list;
}

abbrev pub decreases-loop-k : goal.decreases-loop-k
decreases-loop-k l = length l.least.items - l.k
