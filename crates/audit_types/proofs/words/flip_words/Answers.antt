use Rattle.std.proofs.Common.{ap, sym, ◌∙◌, inl, inr, arith, get_or, bit_and}
use Rattle.std.specs.Int.{bit_not, w64}
use Rattle.std.specs.Int.Bits.{and_zero_r}
use Rattle.std.proofs.lemmas.Bool.{cases_lt}
use Rattle.audit_types.specs.Words.{words_over}
use Rattle.audit_types.specs.WordLaws.{no_bits_past, mask_past}
use Rattle.audit_types.proofs.words.flip_words.Goals as goal

pub returns-clause-turned : goal.returns-clause-turned
returns-clause-turned c = λ k within. elim (cases_lt k (words_over c.args.n)) [
  | inl l ↦ c.loop-k.invariant.done k (omega arith)
  | inr l ↦
      let turned = bit_not w64 (get_or c.args.words.now k 0) in
      c.loop-k.invariant.left k (omega arith) ∙ no_bits_past c.args.n c.args.words.now c.requires k (omega arith)
      ∙ sym (ap (bit_and turned) (mask_past c.args.n k (omega arith)) ∙ and_zero_r turned)
]
