use Rattle.std.proofs.Common.{ap, sym, ◌∙◌, inl, inr, arith, get_or, bit_and}
use Rattle.std.specs.Int.Bits.{and_zero_l}
use Rattle.std.proofs.lemmas.Bool.{cases_lt}
use Rattle.std.proofs.lemmas.Grind.{common_steps}
use Rattle.audit_types.specs.Words.{words_over}
use Rattle.audit_types.specs.WordLaws.{no_bits_past}
use Rattle.audit_types.proofs.words.and_words.Goals as goal

pub loop-k-preserved : goal.loop-k-preserved
loop-k-preserved c = grind (arith, common_steps)

pub returns-clause-both : goal.returns-clause-both
returns-clause-both c = λ k within. elim (cases_lt k (words_over c.args.n)) [
  | inl l ↦ c.loop-k.invariant.done k (omega arith)
  | inr l ↦
      let none = no_bits_past c.args.n c.args.words.now c.requires k (omega arith) in
      let other = get_or c.args.others.now k 0 in
      c.loop-k.invariant.left k (omega arith) ∙ none ∙ sym (ap (λ x. bit_and x other) none ∙ and_zero_l other)
]
