-- The sets so far, and the set of the rows up to here.
use Rattle.std.proofs.Common.{◌≡◌, ◌+◌, ◌*◌, length}
use Rattle.set_index.specs.Marks.{first_rows}
use Rattle.set_index.proofs.Ranges.{Hold}
use Rattle.set_index.proofs.sorted.Sorted.new.Given as goal

abbrev pub invariant-loop-k : goal.invariant-loop-k
invariant-loop-k l = record {
  first : l.first ≡ record { n = l.rows; list = first_rows l.rows l.order.items (16 * l.k) };
  count : length l.marks.items ≡ l.k + 1;
  held : Hold l.rows l.order.items l.marks.items;
}
