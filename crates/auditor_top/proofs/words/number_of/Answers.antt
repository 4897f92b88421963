use Rattle.std.proofs.Common.{rules, sym, ◌∙◌, arith}
use Rattle.auditor_top.proofs.Numbers.{read_number}
use Rattle.auditor_top.proofs.words.number_of.Goals as goal

pub returns : goal.returns
returns c =
    c.ok.ensures.value ∙ read_number c.args.word.now c.parse.result c.parse.ensures.value.0 (omega arith) (sym c.has_digits_alone.ensures ∙ search rules)
