use Rattle.std.proofs.Common.{◌≡◌, ◌++◌, decimal, map}
use Rattle.line_wire.specs.CommaLists.{with_commas, is_none}
use Rattle.certificate_lines.proofs.texts.put_rows.Given as goal

abbrev pub invariant-loop-row : goal.invariant-loop-row
invariant-loop-row l = record {
  together : l.yielded ++ l.row-iterator ≡ l.rows.list;
  so_far : l.line.items ≡ l.initial.line.items ++ with_commas (map decimal l.yielded);
  none_before : l.first ≡ is_none (map decimal l.yielded);
}
