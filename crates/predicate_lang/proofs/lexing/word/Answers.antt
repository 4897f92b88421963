use Rattle.std.proofs.Common.{ap, ◌≡◌, ℕ, Some, ◌+◌, length, drop, get_or, ◌∷◌, sym, ◌∙◌}
use Rattle.std.specs.List.{take_while}
use Rattle.std.proofs.lemmas.List.{take_rest}
use Rattle.schema_json.specs.Columns.{is_name_byte}
use Rattle.predicate_lang.specs.Tokens.{word_token}
use Rattle.predicate_lang.specs.Lexing.{seen}
use Rattle.predicate_lang.specs.declared.tokens.Lexeme.{Lexeme}
use Rattle.predicate_lang.specs.declared.tokens.Token.{Token}
use Rattle.predicate_lang.proofs.Fronts.{take_front, name_boundary}
use Rattle.predicate_lang.proofs.lexing.word.Goals as goal

pub range-requires-clause-end_boundary : goal.range-requires-clause-end_boundary
range-requires-clause-end_boundary c =
    let exact = simp (c.as_bytes-bytes.ensures.value, take_rest) at c.name_length.ensures.exact in
    let within = simp (c.as_bytes-bytes.ensures.value, take_rest) at c.name_length.ensures.within in
    name_boundary c.args.text.now c.args.at c.name_length.result c.utf8.text c.requires.inside c.requires.letter exact within

pub returns-clause-exact : goal.returns-clause-exact
returns-clause-exact c =
    let exact : c.name_length.result ≡ length (take_while is_name_byte (drop (c.args.at + 1) c.args.text.now)) =
    simp (c.as_bytes-bytes.ensures.value, take_rest) at c.name_length.ensures.exact in
    let word : c.range.result.now ≡ get_or c.args.text.now c.args.at 0 ∷ take_while is_name_byte (drop (c.args.at + 1) c.args.text.now) = c.range.ensures.value
    ∙ take_front is_name_byte c.args.text.now c.args.at c.name_length.result c.requires.inside exact in
    let token : c.word_token.result ≡ seen c.args.schema.now.columns
    (word_token (get_or c.args.text.now c.args.at 0 ∷ take_while is_name_byte (drop (c.args.at + 1) c.args.text.now))) = c.word_token.ensures
    ∙ ap (λ w. seen c.args.schema.now.columns (word_token w)) word in
    let made : Token → ℕ → Lexeme = λ t n. record { token = t; at = c.args.at; end = c.args.at + 1 + n } in
    ap (λ t. Some (made t (length (take_while is_name_byte (drop (c.args.at + 1) c.args.text.now))))) (sym token)
    ∙ ap (λ n. Some (made c.word_token.result n)) (sym exact)
