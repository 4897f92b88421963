use Rattle.std.proofs.Common.{◌≡◌, false, ◌||◌, ap, sym, ◌∙◌, subst, get_or, drop, ◌+◌, Option, refl}
use Rattle.std.specs.Prelude.{◌==◌}
use Rattle.std.specs.Char.{is_ascii_digit}
use Rattle.std.proofs.lemmas.List.{take_rest}
use Rattle.std.proofs.lemmas.Bool.{eq-eqb, ne_eqb}
use Rattle.predicate_lang.specs.Tokens.{Front}
use Rattle.predicate_lang.specs.Lexing.{lexeme, Takes}
use Rattle.predicate_lang.proofs.NextToken.{front_of_letter, front_of_number, front_of_quote, front_of_mark, begins_number, mark_is, no_mark_is}
use Rattle.predicate_lang.proofs.lexing.token_at.Goals as goal

pub returns-then-is_ascii_alphabetic-clause-exact :
    goal.returns-then-is_ascii_alphabetic-clause-exact
returns-then-is_ascii_alphabetic-clause-exact c =
    let letter = rw c.as_bytes-bytes.ensures.value at c.if-is_ascii_alphabetic.ensures.value in
    ap (lexeme c.args.schema.now.columns c.args.at) (front_of_letter (get_or c.args.text.now c.args.at 0) (drop (c.args.at + 1) c.args.text.now) (sym letter))
    ∙ c.word.ensures.exact

pub returns-then-is_ascii_digit-clause-exact : goal.returns-then-is_ascii_digit-clause-exact
returns-then-is_ascii_digit-clause-exact c =
    let letter = rw c.as_bytes-bytes.ensures.value at c.if-is_ascii_alphabetic.ensures.value in
    let either = rw c.as_bytes-bytes.ensures.value at c.then-is_ascii_digit.either in
    let told = rw c.as_bytes-bytes.ensures.value at c.is_ascii_digit.ensures.value in
    let front = front_of_number (get_or c.args.text.now c.args.at 0) (drop (c.args.at + 1) c.args.text.now) (sym letter)
    (begins_number (get_or c.args.text.now c.args.at 0) c.is_ascii_digit.result told either) in
    let taken = rw c.as_bytes-bytes.ensures.value at (c.number.ensures.exact c.args.schema.now.columns) in
    subst (λ (o : Option Front). Takes (lexeme c.args.schema.now.columns c.args.at o) c.args.at c.number.result) (sym front) taken

pub returns-then-first-eq39-clause-exact : goal.returns-then-first-eq39-clause-exact
returns-then-first-eq39-clause-exact c =
    let letter = rw c.as_bytes-bytes.ensures.value at c.if-is_ascii_alphabetic.ensures.value in
    let digit = rw c.as_bytes-bytes.ensures.value at c.if-is_ascii_digit.ensures.value in
    let minus = rw c.as_bytes-bytes.ensures.value at c.if-first-eq45.false in
    let quote = rw c.as_bytes-bytes.ensures.value at c.if-first-eq39.true in
    let number : (is_ascii_digit (get_or c.args.text.now c.args.at 0) || (get_or c.args.text.now c.args.at 0 == 45)) ≡ false =
    ap (λ t. t || (get_or c.args.text.now c.args.at 0 == 45)) (sym digit) ∙ ne_eqb _ 45 minus in
    let front = front_of_quote (get_or c.args.text.now c.args.at 0) (drop (c.args.at + 1) c.args.text.now) (sym letter) number (eq-eqb _ 39 quote) in
    let taken = rw c.as_bytes-bytes.ensures.value at (c.text_literal.ensures.exact c.args.schema.now.columns) in
    subst (λ (o : Option Front). Takes (lexeme c.args.schema.now.columns c.args.at o) c.args.at c.text_literal.result) (sym front) taken

pub returns-in-Some-clause-exact : goal.returns-in-Some-clause-exact
returns-in-Some-clause-exact c =
    let letter = rw c.as_bytes-bytes.ensures.value at c.if-is_ascii_alphabetic.ensures.value in
    let digit = rw c.as_bytes-bytes.ensures.value at c.if-is_ascii_digit.ensures.value in
    let minus = rw c.as_bytes-bytes.ensures.value at c.if-first-eq45.false in
    let quote = rw c.as_bytes-bytes.ensures.value at c.if-first-eq39.false in
    let number : (is_ascii_digit (get_or c.args.text.now c.args.at 0) || (get_or c.args.text.now c.args.at 0 == 45)) ≡ false =
    ap (λ t. t || (get_or c.args.text.now c.args.at 0 == 45)) (sym digit) ∙ ne_eqb _ 45 minus in
    let front = front_of_mark (get_or c.args.text.now c.args.at 0) (drop (c.args.at + 1) c.args.text.now) (sym letter) number (ne_eqb _ 39 quote) in
    let mark = simp (c.as_bytes-bytes.ensures.value, take_rest) at (c.in-Some.ensures.exact c.args.schema.now.columns) in
    ap (lexeme c.args.schema.now.columns c.args.at) front ∙ mark_is c.args.schema.now.columns c.args.at _ c.in-Some.token c.in-Some.more mark

pub returns-in-None-clause-exact : goal.returns-in-None-clause-exact
returns-in-None-clause-exact c =
    let letter = rw c.as_bytes-bytes.ensures.value at c.if-is_ascii_alphabetic.ensures.value in
    let digit = rw c.as_bytes-bytes.ensures.value at c.if-is_ascii_digit.ensures.value in
    let minus = rw c.as_bytes-bytes.ensures.value at c.if-first-eq45.false in
    let quote = rw c.as_bytes-bytes.ensures.value at c.if-first-eq39.false in
    let number : (is_ascii_digit (get_or c.args.text.now c.args.at 0) || (get_or c.args.text.now c.args.at 0 == 45)) ≡ false =
    ap (λ t. t || (get_or c.args.text.now c.args.at 0 == 45)) (sym digit) ∙ ne_eqb _ 45 minus in
    let front = front_of_mark (get_or c.args.text.now c.args.at 0) (drop (c.args.at + 1) c.args.text.now) (sym letter) number (ne_eqb _ 39 quote) in
    let mark = simp (c.as_bytes-bytes.ensures.value, take_rest) at (c.in-None.ensures.exact c.args.schema.now.columns) in
    (ap (lexeme c.args.schema.now.columns c.args.at) front ∙ no_mark_is c.args.schema.now.columns c.args.at _ mark, refl)

pub returns-then-is_ascii_alphabetic-clause-within : goal.returns-then-is_ascii_alphabetic-clause-within
returns-then-is_ascii_alphabetic-clause-within c = c.word.ensures.within

pub returns-then-is_ascii_digit-clause-within : goal.returns-then-is_ascii_digit-clause-within
returns-then-is_ascii_digit-clause-within c = rw c.as_bytes-bytes.ensures.value at c.number.ensures.within

pub returns-then-first-eq39-clause-within : goal.returns-then-first-eq39-clause-within
returns-then-first-eq39-clause-within c = rw c.as_bytes-bytes.ensures.value at c.text_literal.ensures.within
