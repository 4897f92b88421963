use Rattle.std.proofs.Common.{◌≡◌, ◌++◌, take}
use Rattle.line_wire.specs.CommaLists.{with_commas, is_none}
use Rattle.journal_audit.specs.Texts.{moved_rows}
use Rattle.journal_audit.proofs.texts.put_moved_rows.Given as goal

abbrev pub invariant-loop-row : goal.invariant-loop-row
invariant-loop-row l = record {
  so_far : l.line.items ≡ l.initial.line.items ++ with_commas (moved_rows 0 (take l.row l.direction));
  none_before : l.first ≡ is_none (moved_rows 0 (take l.row l.direction));
}
