use Rattle.std.proofs.Common.{◌++◌, ap, ◌∙◌}
use Rattle.predicate_lang.specs.Printing.{literal_text}
use Rattle.predicate_lang.proofs.Pushes.{then_ok, where_refused}
use Rattle.predicate_lang.proofs.printing.write_next.Goals as goal

pub returns : goal.returns
returns c =
    then_ok c.write_literal.result _ _ c.write_literal.ensures (λ last. last ∙ ap (λ xs. xs ++ literal_text c.args.literal.now) c.in_ok-push_str.ensures.bytes)

pub returns-in_err-push_str : goal.returns-in_err-push_str
returns-in_err-push_str c = where_refused c.from_residual.result _ c.from_residual.ensures.0
