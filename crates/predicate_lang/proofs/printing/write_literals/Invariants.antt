-- What is written and what is left to write make the whole list.
use Rattle.std.proofs.Common.{◌≡◌, ◌++◌, drop}
use Rattle.std.specs.Prelude.{string_bytes}
use Rattle.predicate_lang.proofs.Spaced.{list_rest}
use Rattle.predicate_lang.proofs.printing.write_literals.Given as goal

abbrev pub invariant-loop-literal : goal.invariant-loop-literal
invariant-loop-literal l = string_bytes l.out ++ list_rest (drop l.literal-index l.rest) ≡ string_bytes l.initial.out ++ list_rest l.rest
