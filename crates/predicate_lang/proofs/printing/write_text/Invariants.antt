-- What is written and what is left to write make the text.
use Rattle.std.proofs.Common.{◌≡◌, ◌++◌, length}
use Rattle.std.specs.Prelude.{string_bytes}
use denote.Text.{Utf8}
use denote.Shadow.{shadow}
use Rattle.predicate_lang.specs.Printing.{doubled}
use Rattle.predicate_lang.proofs.printing.write_text.Given as goal

abbrev pub invariant-quotes : goal.invariant-quotes
invariant-quotes l = shadow (Utf8 l.rest) × (string_bytes l.out ++ doubled l.rest ≡ string_bytes l.initial.out ++ doubled l.text)

abbrev pub decreases-quotes : goal.decreases-quotes
decreases-quotes l = length l.rest
