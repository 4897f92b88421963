use Rattle.std.proofs.Common.{◌+◌, ap, drop, refl, ◌∙◌}
use Rattle.std.proofs.lemmas.List.{take_rest}
use Rattle.predicate_lang.specs.Lexing.{quoted_in}
use Rattle.predicate_lang.proofs.NextToken.{text_is, no_text_is}
use Rattle.predicate_lang.proofs.lexing.text_literal.Goals as goal

pub returns-in-Some-clause-exact : goal.returns-in-Some-clause-exact
returns-in-Some-clause-exact c =
    let tail = drop (c.args.at + 1) c.args.bytes.now in
    let closed = simp take_rest at c.in_ok-word.ensures.exact in
    λ columns. text_is columns c.args.at tail _ _ (closed ∙ ap quoted_in c.in-Some.is)

pub returns-in-None-clause-exact : goal.returns-in-None-clause-exact
returns-in-None-clause-exact c =
    let tail = drop (c.args.at + 1) c.args.bytes.now in
    let open_end = simp take_rest at c.in_ok-word.ensures.exact in
    λ columns. (no_text_is columns c.args.at tail (open_end ∙ ap quoted_in c.in-None.is), refl)
