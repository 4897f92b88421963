use Rattle.std.proofs.Common.{◌≡◌, ◌++◌, take, map}
use Rattle.line_wire.specs.CommaLists.{stated, with_commas}
use Rattle.line_wire.specs.CommaLists.{is_none}
use Rattle.line_wire.proofs.numbers.put_numbers.Given as goal

abbrev pub invariant-loop-number : goal.invariant-loop-number
invariant-loop-number l = record {
  so_far : l.line.items ≡ l.initial.line.items ++ with_commas (map (stated l.least) (take l.number-index l.numbers));
  none_before : l.first ≡ is_none (map (stated l.least) (take l.number-index l.numbers));
}
