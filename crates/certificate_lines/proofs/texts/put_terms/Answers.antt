use Rattle.std.proofs.Common.{◌≡◌, ◌++◌, ◌∙◌, sym, ap, arith, take, map, to_z, of_z}
use Rattle.std.proofs.lemmas.Int.{to_z-of_z}
use mir.Syntax.{w128}
use Rattle.line_wire.specs.CommaLists.{with_commas, comma_unless, is_none, is_none-snoc, text_more, at_place}
use Rattle.denial_proof.specs.declared.proof_parts.Term.{Term}
use Rattle.certificate_lines.specs.Texts.{term_text}
use Rattle.certificate_lines.proofs.TermsSoFar.{term_at, terms_more}
use Rattle.certificate_lines.proofs.texts.put_terms.Goals as goal

pub loop-term-preserved : goal.loop-term-preserved
loop-term-preserved c =
    let before = c.args.line.now.items in
    let i = c.loop-term.term-index in
    let term : Term = term_at c.args.terms.now i in
    let texts = map term_text (take i c.args.terms.now) in
    let same : to_z w128 (of_z w128 term.times) ≡ term.times = grind (arith, to_z-of_z) in
    let more = terms_more c.args.terms.now i c.loop-term-test.true in
    let put = c.in_ok-put_at_place.ensures ∙ ap (λ z. c.loop-term.line.items ++ comma_unless c.loop-term.first ++ at_place term.place z) same in
    record {
      so_far =
          text_more before c.put_at_place.new.line.items c.loop-term.line.items c.loop-term.first texts
          (term_text term) c.loop-term.invariant.so_far c.loop-term.invariant.none_before put
          ∙ ap (λ t. before ++ with_commas t) (sym more);
      none_before = sym (ap is_none more ∙ is_none-snoc texts (term_text term));
    }
