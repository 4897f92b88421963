use Rattle.std.proofs.Common.{length, drop, ◌-◌, ◌≡◌, ◌≤◌}
use Rattle.table_load.specs.Numerals.{after_spaces}
use Rattle.table_load.proofs.numerals.after_spaces.Given as goal

abbrev pub invariant-loop-start : goal.invariant-loop-start
invariant-loop-start l = record {
  passed : after_spaces l.field ≡ after_spaces (drop l.start l.field);
  within : l.start ≤ length l.field;
}

abbrev pub decreases-loop-start : goal.decreases-loop-start
decreases-loop-start l = length l.field - l.start
