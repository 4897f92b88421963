use Rattle.std.proofs.Common.{◌++◌, refl, ◌∙◌}
use Rattle.std.specs.Prelude.{string_bytes}
use Rattle.predicate_lang.specs.Printing.{doubled}
use Rattle.predicate_lang.proofs.QuotedTexts.{next_quote, last_quote, split_nowhere}
use Rattle.predicate_lang.proofs.Pushes.{then_ok, where_refused}
use lib.Utf8.{encode}
use Rattle.predicate_lang.proofs.printing.write_text.Goals as goal

pub quotes-preserved : goal.quotes-preserved
quotes-preserved c =
    next_quote (string_bytes c.push.new.self ++ doubled c.args.text.now) (string_bytes c.quotes.out) (string_bytes c.quotes.out ++ c.in-Some.front.now)
    (string_bytes c.write_doubled.new.out) c.quotes.rest.now
    (c.in-Some.front, c.in-Some.behind) c.in-Some.ensures.cases c.quotes.invariant.1 refl c.in_ok-write_doubled.ensures c.quotes.invariant.0

pub returns : goal.returns
unfolding encode
returns c =
    then_ok c.write_end.result _ _ c.write_end.ensures
    (λ last. last
    ∙ last_quote (string_bytes c.args.out.now) (string_bytes c.push.new.self) (string_bytes c.quotes.out)
    (string_bytes c.quotes.out ++ c.quotes.rest.now) c.args.text.now
    c.quotes.rest.now
    c.in_ok-push.ensures.bytes c.quotes.invariant.1 refl (split_nowhere c.quotes.rest.now c.in_default.ensures.cases))

pub returns-in_err-push : goal.returns-in_err-push
returns-in_err-push c = where_refused c.from_residual.result _ c.from_residual.ensures.0

pub returns-in_err-write_doubled : goal.returns-in_err-write_doubled
returns-in_err-write_doubled c = where_refused c.from_residual-in_err-write_doubled.result _ c.from_residual-in_err-write_doubled.ensures.0
