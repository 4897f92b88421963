-- The texts in a predicate are UTF-8 if the text that it was read from is.
use Rattle.std.proofs.Common.{◌≡◌, ℕ, zero, suc, ◌+◌, ◌<◌, Bool, true, false, ◌||◌, cond, List, [], ◌∷◌, ◌++◌, length, drop, Option, Some, None, refl, sym, ap, ◌∙◌, subst, arith, ◌⊎◌, inl, inr}
use Rattle.std.specs.Prelude.{◌==◌}
use Rattle.std.specs.List.{AllByRecursion, take_while}
use Rattle.std.specs.Str.{IsUtf8, bytes_eq}
use Rattle.std.specs.Char.{is_ascii_digit}
use Rattle.std.proofs.lemmas.Bool.{eqb-true}
use Rattle.std.proofs.lemmas.Bool.Decides.{nat_tests}
use Rattle.std.proofs.lemmas.List.Sums.{take_while-cons}
use Rattle.std.proofs.lemmas.Str.{IsUtf8-drop, IsCharBoundary-after_ascii}
use Rattle.schema_json.specs.Columns.{Column, is_name_byte}
use Rattle.predicate_lang.specs.Trees.{Tree, AreTexts, IsTextLiteral}
use Rattle.predicate_lang.specs.Tokens.{Token, lexed, and_word, or_word, not_word, all_word, in_word, name, value, operator, open_bracket, close_bracket, comma, Front, front_token, word_token, lex_from, lex_front, is_blank, is_equals_next}
use Rattle.predicate_lang.specs.Grammar.{Disjunction, Conjunction, Operand, conj, or_conj, unit, and_unit, all, not_unit, in_brackets, compare, one_of, more_literals, most_depth}
use Rattle.predicate_lang.specs.Places.{Means, tokens_of}
use Rattle.predicate_lang.specs.declared.trees.Literal.{Literal}
use Rattle.predicate_lang.proofs.Fronts.{letter_ascii, name_byte_ascii}
use Rattle.predicate_lang.proofs.QuotedTexts.{quoted_utf8}
use Rattle.predicate_lang.proofs.TokenFronts.{is_mark, Kind, a_word, a_number, a_text, a_mark, front_kind}

-- a text among the tokens is UTF-8
abbrev IsTextToken : Token → Type 0
IsTextToken and_word = Unit {0}
IsTextToken or_word = Unit {0}
IsTextToken not_word = Unit {0}
IsTextToken all_word = Unit {0}
IsTextToken in_word = Unit {0}
IsTextToken (name n) = Unit {0}
IsTextToken (value l) = IsTextLiteral l
IsTextToken (operator o) = Unit {0}
IsTextToken open_bracket = Unit {0}
IsTextToken close_bracket = Unit {0}
IsTextToken comma = Unit {0}

abbrev AreTextTokens : List Token → Type 0
AreTextTokens = AllByRecursion IsTextToken

-- ---- the tokens of a text

behind_ascii : (b : ℕ) (bytes : List ℕ) → b < 128 → IsUtf8 (b ∷ bytes) → IsUtf8 bytes
behind_ascii b bytes low utf8 = IsUtf8-drop (b ∷ bytes) 1 utf8 (IsCharBoundary-after_ascii (b ∷ bytes) 0 utf8 (omega arith) low)

-- after bytes at the front that pass a test of ASCII
behind_passing : (p : ℕ → Bool) → ((b : ℕ) → p b ≡ true → b < 128) → (bytes : List ℕ) → IsUtf8 bytes → IsUtf8 (drop (length (take_while p bytes)) bytes)
behind_passing p low [] utf8 = utf8
behind_passing p low (b ∷ bytes) utf8 = go (p b) refl (behind_passing p low bytes)
  where
    go : (t : Bool) → p b ≡ t → (IsUtf8 bytes → IsUtf8 (drop (length (take_while p bytes)) bytes)) →
        IsUtf8 (drop (length (take_while p (b ∷ bytes))) (b ∷ bytes))
    go true e rest =
        subst (λ xs. IsUtf8 (drop (length xs) (b ∷ bytes))) (sym (take_while-cons p b bytes ∙ ap (λ t. cond t (b ∷ take_while p bytes) []) e))
        (rest (behind_ascii b bytes (low b e) utf8))
    go false e rest =
        subst (λ xs. IsUtf8 (drop (length xs) (b ∷ bytes))) (sym (take_while-cons p b bytes ∙ ap (λ t. cond t (b ∷ take_while p bytes) []) e)) utf8

digit_ascii : (b : ℕ) → is_ascii_digit b ≡ true → b < 128
digit_ascii b h = grind (arith, nat_tests)

number_ascii : (b : ℕ) → (is_ascii_digit b || (b == 45)) ≡ true → b < 128
number_ascii b h = grind (arith, nat_tests)

word_is_text : (w : List ℕ) → IsTextToken (word_token w)
word_is_text w = go (bytes_eq w _) (bytes_eq w _) (bytes_eq w _) (bytes_eq w _) (bytes_eq w _)
  where
    go : (p q r s t : Bool) → IsTextToken (cond p and_word (cond q or_word (cond r not_word (cond s all_word (cond t in_word (name w))))))
    go true q r s t = tt
    go false true r s t = tt
    go false false true s t = tt
    go false false false true t = tt
    go false false false false true = tt
    go false false false false false = tt

mark_is_text : (t : Token) → is_mark t ≡ true → IsTextToken t
mark_is_text (value l) h = absurd cc
mark_is_text and_word h = tt
mark_is_text or_word h = tt
mark_is_text not_word h = tt
mark_is_text all_word h = tt
mark_is_text in_word h = tt
mark_is_text (name n) h = tt
mark_is_text (operator o) h = tt
mark_is_text open_bracket h = tt
mark_is_text close_bracket h = tt
mark_is_text comma h = tt

behind_equals : (bytes : List ℕ) → is_equals_next bytes ≡ true → IsUtf8 bytes → IsUtf8 (drop 1 bytes)
behind_equals [] h utf8 = utf8
behind_equals (b ∷ bytes) h utf8 = behind_ascii b bytes (omega (arith, eqb-true b 61 h)) utf8

-- a text at the front and what follows the token are UTF-8
front_is_text : (b : ℕ) (bytes : List ℕ) (f : Front) → IsUtf8 (b ∷ bytes) → Kind b bytes f → IsTextToken f.token × IsUtf8 (drop f.more bytes)
front_is_text b bytes f utf8 (a_word letter is) =
    subst (λ (g : Front). IsTextToken g.token × IsUtf8 (drop g.more bytes)) (sym is)
    (word_is_text (b ∷ take_while is_name_byte bytes), behind_passing is_name_byte name_byte_ascii bytes (behind_ascii b bytes (letter_ascii b letter) utf8))
front_is_text b bytes f utf8 (a_number begins z number is) =
    subst (λ (g : Front). IsTextToken g.token × IsUtf8 (drop g.more bytes)) (sym is)
    (tt, behind_passing is_ascii_digit digit_ascii bytes (behind_ascii b bytes (number_ascii b begins) utf8))
front_is_text b bytes f utf8 (a_text quote q text is) =
    subst (λ (g : Front). IsTextToken g.token × IsUtf8 (drop g.more bytes)) (sym is) (quoted_utf8 bytes q (behind_ascii b bytes (omega arith) utf8) text)
front_is_text b bytes f utf8 (a_mark mark) = (mark_is_text f.token mark.marks, go mark.behind)
  where
    rest : IsUtf8 bytes
    rest = behind_ascii b bytes mark.ascii utf8

    go : (f.more ≡ 0) ⊎ ((f.more ≡ 1) × (is_equals_next bytes ≡ true)) → IsUtf8 (drop f.more bytes)
    go (inl none) = subst (λ n. IsUtf8 (drop n bytes)) (sym none) rest
    go (inr one) = subst (λ n. IsUtf8 (drop n bytes)) (sym one.0) (behind_equals bytes one.1 rest)

blank_ascii : (b : ℕ) → is_blank b ≡ true → b < 128
blank_ascii b h = grind (arith, nat_tests)

lexed_texts : (turns at : ℕ) (bytes : List ℕ) → IsUtf8 bytes → AreTextTokens (tokens_of (lex_from turns at bytes).tokens)
unfolding lex_from
lexed_texts zero at bytes utf8 = tt
lexed_texts (suc turns) at [] utf8 = tt
lexed_texts (suc turns) at (b ∷ bytes) utf8 = go (is_blank b) refl (lexed_texts turns (at + 1) bytes) (λ n. lexed_texts turns (at + 1 + n) (drop n bytes))
  where
    token : (o : Option Front) → front_token b bytes ≡ o
        → ((n : ℕ) → IsUtf8 (drop n bytes) → AreTextTokens (tokens_of (lex_from turns (at + 1 + n) (drop n bytes)).tokens))
        → AreTextTokens (tokens_of (lex_front at o (λ n. lex_from turns (at + 1 + n) (drop n bytes))).tokens)
    token None e rest = tt
    token (Some f) e rest = let is = front_is_text b bytes f utf8 (front_kind b bytes f e) in (is.0, rest f.more is.1)

    go : (t : Bool) → is_blank b ≡ t → (IsUtf8 bytes → AreTextTokens (tokens_of (lex_from turns (at + 1) bytes).tokens))
        → ((n : ℕ) → IsUtf8 (drop n bytes) → AreTextTokens (tokens_of (lex_from turns (at + 1 + n) (drop n bytes)).tokens))
        → AreTextTokens
        (tokens_of (cond t (lex_from turns (at + 1) bytes) (lex_front at (front_token b bytes) (λ n. lex_from turns (at + 1 + n) (drop n bytes)))).tokens)
    go true e blank rest = blank (behind_ascii b bytes (blank_ascii b e) utf8)
    go false e blank rest = token (front_token b bytes) refl rest

-- ---- the tree

front_texts : (xs ys : List Token) → AreTextTokens (xs ++ ys) → AreTextTokens xs
front_texts [] ys texts = tt
front_texts (x ∷ xs) ys texts = (texts.0, front_texts xs ys texts.1)

back_texts : (xs ys : List Token) → AreTextTokens (xs ++ ys) → AreTextTokens ys
back_texts [] ys texts = texts
back_texts (x ∷ xs) ys texts = back_texts xs ys texts.1

list_texts : (ls : List Literal) → AreTextTokens (more_literals ls) → AllByRecursion IsTextLiteral ls
list_texts [] texts = tt
list_texts (l ∷ ls) texts = (texts.1.0, list_texts ls texts.1.1)

module _ (columns : List Column) where
  mutual
    -- each text of the tree is one of the tokens
    all_texts : (room : ℕ) (ts : List Token) (t : Tree) → Disjunction columns room ts t → AreTextTokens ts → AreTexts t
    all_texts room ts t (conj c) texts = conj_texts room ts t c texts
    all_texts room ts t (or_conj {ts = xs} {us = ys} {p = p} {q = q} d c) texts =
        (all_texts room xs p d (front_texts xs (or_word ∷ ys) texts), conj_texts room ys q c (back_texts xs (or_word ∷ ys) texts).1)

    conj_texts : (room : ℕ) (ts : List Token) (t : Tree) → Conjunction columns room ts t → AreTextTokens ts → AreTexts t
    conj_texts room ts t (unit u) texts = unit_texts room ts t u texts
    conj_texts room ts t (and_unit {ts = xs} {us = ys} {p = p} {q = q} c u) texts =
        (conj_texts room xs p c (front_texts xs (and_word ∷ ys) texts), unit_texts room ys q u (back_texts xs (and_word ∷ ys) texts).1)

    unit_texts : (room : ℕ) (ts : List Token) (t : Tree) → Operand columns room ts t → AreTextTokens ts → AreTexts t
    unit_texts room ts t all texts = tt
    unit_texts room ts t (not_unit {room = less} {ts = xs} {p = p} u) texts = unit_texts less xs p u texts.1
    unit_texts room ts t (in_brackets {room = less} {ts = xs} d) texts = all_texts less xs t d (front_texts xs (close_bracket ∷ []) texts.1)
    unit_texts room ts t (compare place takes of_role) texts = texts.1.1.0
    unit_texts room ts t (one_of {ls = ls} place of_role) texts = (texts.1.1.1.0, list_texts ls texts.1.1.1.1)

-- the texts of the tree that a text means are UTF-8
pub means_texts : (columns : List Column) (text : List ℕ) (t : Tree) → IsUtf8 text → Means columns text t → AreTexts t
means_texts columns text t utf8 means =
    all_texts columns most_depth (tokens_of (lexed text).tokens) t means.writes (lexed_texts (length text + 1) 0 text utf8)
