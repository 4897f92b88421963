use Rattle.std.proofs.Common.{ap, sym, ◌∙◌, inl, inr, arith, get_or, bit_or}
use Rattle.std.specs.Int.Bits.{or_zero_l}
use Rattle.std.proofs.lemmas.Bool.{cases_lt}
use Rattle.audit_types.specs.Words.{words_over}
use Rattle.audit_types.specs.WordLaws.{no_bits_past}
use Rattle.audit_types.proofs.words.or_words.Goals as goal

pub returns-clause-either : goal.returns-clause-either
returns-clause-either c = λ k within. elim (cases_lt k (words_over c.args.n)) [
  | inl l ↦ c.loop-k.invariant.done k (omega arith)
  | inr l ↦
      let none = no_bits_past c.args.n c.args.words.now c.requires.words k (omega arith) in
      let other = get_or c.args.others.now k 0 in
      c.loop-k.invariant.left k (omega arith) ∙ none
      ∙ sym (ap (λ x. bit_or x other) none ∙ or_zero_l other ∙ no_bits_past c.args.n c.args.others.now c.requires.others k (omega arith))
]
