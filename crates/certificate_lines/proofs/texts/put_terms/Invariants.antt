use Rattle.std.proofs.Common.{◌≡◌, ◌++◌, take, map}
use Rattle.line_wire.specs.CommaLists.{with_commas, is_none}
use Rattle.certificate_lines.specs.Texts.{term_text}
use Rattle.certificate_lines.proofs.texts.put_terms.Given as goal

abbrev pub invariant-loop-term : goal.invariant-loop-term
invariant-loop-term l = record {
  so_far : l.line.items ≡ l.initial.line.items ++ with_commas (map term_text (take l.term-index l.terms));
  none_before : l.first ≡ is_none (map term_text (take l.term-index l.terms));
}
