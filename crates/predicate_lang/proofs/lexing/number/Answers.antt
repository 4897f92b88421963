use Rattle.std.proofs.Common.{◌≡◌, ◌+◌, Some, ap, refl, ◌∙◌, rules, drop, slice_index, to_z, of_z, w64}
use Rattle.std.proofs.lemmas.List.{take_rest}
use Rattle.predicate_lang.proofs.NextToken.{number_is, no_number_is}
use Rattle.predicate_lang.proofs.lexing.number.Goals as goal

pub number_between-requires-clause-digits : goal.number_between-requires-clause-digits
number_between-requires-clause-digits c = let exact = simp take_rest at c.digits_length.ensures.exact in ap (λ n. c.args.at + 1 + n) exact

pub returns-in-Some-clause-exact : goal.returns-in-Some-clause-exact
returns-in-Some-clause-exact c =
    let bytes = c.args.bytes.now in
    let tail = drop (c.args.at + 1) bytes in
    let number : to_z w64 (of_z w64 c.in-Some.n) ≡ c.in-Some.n = search rules in
    let exact = simp take_rest at c.digits_length.ensures.exact in
    λ columns. number_is columns c.args.at (slice_index bytes c.args.at) _ tail _ (ap Some number ∙ c.in-Some.ensures) (ap (λ n. c.args.at + 1 + n) exact)

pub returns-in-None-clause-exact : goal.returns-in-None-clause-exact
returns-in-None-clause-exact c =
    let bytes = c.args.bytes.now in
    λ columns. (no_number_is columns c.args.at (slice_index bytes c.args.at) (drop (c.args.at + 1) bytes) c.in-None.ensures, refl)
