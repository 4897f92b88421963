-- The tokens before the offset were read, and each turn takes one more.
use Rattle.std.proofs.Common.{◌≤◌, length, ◌-◌}
use Rattle.predicate_lang.specs.Building.{build_of}
use Rattle.predicate_lang.specs.Reads.{HasRead}
use Rattle.predicate_lang.proofs.reading.take_tokens.Given as goal

abbrev pub invariant-tokens : goal.invariant-tokens
invariant-tokens l = record {
  within : l.from ≤ length l.text;
  few : l.count ≤ 512;
  read : HasRead l.schema.columns l.text l.from l.count (build_of l.state);
}

abbrev pub decreases-tokens : goal.decreases-tokens
decreases-tokens l = length l.text - l.from
