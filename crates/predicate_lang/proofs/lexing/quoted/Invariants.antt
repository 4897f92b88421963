-- The bytes so far stand in front of those to come.
use Rattle.std.proofs.Common.{length, ◌-◌, ◌≡◌, ◌≤◌, false, drop}
use Rattle.predicate_lang.specs.Tokens.{quoted, with_front}
use Rattle.predicate_lang.proofs.lexing.quoted.Given as goal

abbrev pub invariant-bytes : goal.invariant-bytes
invariant-bytes l = record {
  within : l.at ≤ length l.rest;
  same : quoted false l.rest ≡ with_front l.list.items l.at (quoted false (drop l.at l.rest));
}

abbrev pub decreases-bytes : goal.decreases-bytes
decreases-bytes l = length l.rest - l.at
