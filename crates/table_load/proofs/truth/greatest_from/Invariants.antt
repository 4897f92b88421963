use Rattle.std.proofs.Common.{◌≡◌, ◌++◌, map}
use Rattle.std.specs.List.{fold}
use Rattle.std.specs.Int.{int_max}
use Rattle.audit_types.specs.Truth.{number_at}
use Rattle.table_load.proofs.truth.greatest_from.Given as goal

abbrev pub invariant-loop-row : goal.invariant-loop-row
invariant-loop-row l = record {
  together : l.yielded ++ l.row-iterator ≡ l.rows.list;
  greatest : fold int_max l.greatest (map (number_at l.list) l.row-iterator) ≡ fold int_max l.start (map (number_at l.list) l.rows.list);
}
