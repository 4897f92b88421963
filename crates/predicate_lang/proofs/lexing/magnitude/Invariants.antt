-- The digits so far with those to come mean the number of all.
use Rattle.std.proofs.Common.{◌≡◌, ◌≤◌, ◌^◌, drop}
use Rattle.schema_json.specs.Decimals.{decimal_after}
use Rattle.predicate_lang.specs.Tokens.{}
use Rattle.predicate_lang.proofs.lexing.magnitude.Given as goal

abbrev pub invariant-loop-digit : goal.invariant-loop-digit
invariant-loop-digit l = record {
  within : l.value ≤ 10 ^ 12;
  same : decimal_after l.value (drop l.digit-index l.digits) ≡ decimal_after 0 l.digits;
}
