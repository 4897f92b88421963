use Rattle.std.proofs.Common.{◌≡◌, ◌≤◌, ◌+◌, ◌^◌}
use Rattle.std.specs.Prelude.{option_map}
use Rattle.table_load.specs.Numerals.{digits_number}
use Rattle.table_load.specs.Numbers.{capped}
use Rattle.table_load.proofs.Digits.{number_at}
use Rattle.table_load.proofs.numerals.size_in.Given as goal

abbrev pub invariant-loop-place : goal.invariant-loop-place
invariant-loop-place l = record {
  same : option_map capped (digits_number l.bytes) ≡ number_at l.size l.bytes l.place;
  at_most : l.size ≤ 10 ^ 12 + 1;
}
