-- What was passed over is blank.
use Rattle.std.proofs.Common.{length, ◌-◌, ◌≡◌, ◌≤◌}
use Rattle.predicate_lang.specs.Tokens.{lexed_from}
use Rattle.predicate_lang.proofs.lexing.skip_blanks.Given as goal

abbrev pub invariant-blanks : goal.invariant-blanks
invariant-blanks l = record {
  behind : l.from ≤ l.at;
  within : l.at ≤ length l.bytes;
  same : lexed_from l.bytes l.at ≡ lexed_from l.bytes l.from;
}

abbrev pub decreases-blanks : goal.decreases-blanks
decreases-blanks l = length l.bytes - l.at
