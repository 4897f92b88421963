use Rattle.std.proofs.Common.{◌≡◌, ◌≤◌, ◌-◌, length, take}
use Rattle.std.specs.Vec.{vec_capacity}
use Rattle.sum_basis.proofs.growth.overwrite.Given as goal

abbrev pub invariant-loop-at : goal.invariant-loop-at
invariant-loop-at l = record {
  items : l.list.items ≡ take l.at l.entries;
  within : l.at ≤ length l.entries;
  capacity : vec_capacity l.initial.list ≤ vec_capacity l.list;
}

abbrev pub decreases-loop-at : goal.decreases-loop-at
decreases-loop-at l = length l.entries - l.at
