-- No token has a longer text than what it was read from.
use Rattle.std.proofs.Common.{ℕ, suc, ◌≤◌, max, Bool, true, false, cond, ◌==◌, List, [], ◌∷◌, length, Option, Some, None, arith}
use Rattle.json.specs.Token.{Token, begin_object, end_object, begin_array, end_array, key, string, number, boolean, null, bad}
use Rattle.json.specs.Text.{content, plain}
use Rattle.json.specs.Word.{word, head, literal, number_before, after_number, ends_word}
use Rattle.json.specs.Ascii as ascii
use Rattle.json.specs.Lex.{Lexeme, token, comma, colon, Class, quote, backslash, operator, space, other, class, operator_lexeme, string_token, Mode, between, in_word, in_string, in_escape, lex_byte, lex, Place, fresh, after_value, after_comma, after_key, begins_colon, may_begin, may_close, if_allowed, place_token, punctuate, tokens}
use Rattle.line_wire.proofs.Texts.Content.{AtMost, content-le}

-- the length of a token's text
abbrev pub text_len : Token → ℕ
text_len begin_object = 0
text_len end_object = 0
text_len begin_array = 0
text_len end_array = 0
text_len (key s) = length s
text_len (string s) = length s
text_len (number s) = 0
text_len (boolean b) = 0
text_len null = 0
text_len bad = 0

-- of the longest text among tokens
abbrev pub longest_text : List Token → ℕ
longest_text [] = 0
longest_text (t ∷ ts) = max (text_len t) (longest_text ts)

abbrev lexeme_len : Lexeme → ℕ
lexeme_len (token t) = text_len t
lexeme_len comma = 0
lexeme_len colon = 0

abbrev longest_lexeme : List Lexeme → ℕ
longest_lexeme [] = 0
longest_lexeme (l ∷ ls) = max (lexeme_len l) (longest_lexeme ls)

-- ---- the lexer

either_lexeme : (b : Bool) (l m : Lexeme) → lexeme_len l ≤ 0 → lexeme_len m ≤ 0 → lexeme_len (cond b l m) ≤ 0
either_lexeme true l m first second = first
either_lexeme false l m first second = second

operator_text : (x : ℕ) → lexeme_len (operator_lexeme x) ≤ 0
operator_text x =
    either_lexeme (x == 123) _ _ (omega arith) (either_lexeme (x == 125) _ _ (omega arith) (either_lexeme (x == 91) _ _ (omega arith)
    (either_lexeme (x == 93) _ _ (omega arith) (either_lexeme (x == 44) _ _ (omega arith) (omega arith)))))

either_token : (b : Bool) (t u : Token) → text_len t ≤ 0 → text_len u ≤ 0 → text_len (cond b t u) ≤ 0
either_token true t u first second = first
either_token false t u first second = second

number_text : (t : List ℕ) (o : Option (List ℕ)) → text_len (number_before t o) ≤ 0
number_text t None = omega arith
number_text t (Some rest) = either_token (ends_word rest) _ _ (omega arith) (omega arith)

literal_text : (name : List ℕ) (k : Token) (t : List ℕ) → text_len k ≤ 0 → text_len (literal name k t) ≤ 0
literal_text name k t none = either_token _ k bad none (omega arith)

word_text : (t : List ℕ) → text_len (word t) ≤ 0
unfolding word
word_text t =
    either_token (head t == 116) _ _ (literal_text ascii.true_text (boolean true) t (omega arith))
    (either_token (head t == 102) _ _ (literal_text ascii.false_text (boolean false) t (omega arith))
    (either_token (head t == 110) _ _ (literal_text ascii.null_text null t (omega arith)) (number_text t (after_number t))))

string_text : (o : Option (List ℕ)) (n : ℕ) → AtMost length n o → text_len (string_token o) ≤ n
string_text None n within = omega arith
string_text (Some s) n within = within

byte_text : (m : Mode) (c : Class) (x : ℕ) (xs : List ℕ) (k : Mode → List Lexeme) (n : ℕ) → suc (length xs) ≤ n →
    ((next : Mode) → longest_lexeme (k next) ≤ n) → longest_lexeme (lex_byte m c x xs k) ≤ n
byte_text between quote x xs k n room rest = omega (arith, string_text (content plain xs) (length xs) (content-le plain xs), rest in_string)
byte_text between backslash x xs k n room rest = omega (arith, rest in_word)
byte_text between operator x xs k n room rest = omega (arith, operator_text x, rest between)
byte_text between space x xs k n room rest = rest between
byte_text between other x xs k n room rest = omega (arith, word_text (x ∷ xs), rest in_word)
byte_text in_word quote x xs k n room rest = rest in_word
byte_text in_word backslash x xs k n room rest = rest in_word
byte_text in_word operator x xs k n room rest = omega (arith, operator_text x, rest between)
byte_text in_word space x xs k n room rest = rest between
byte_text in_word other x xs k n room rest = rest in_word
byte_text in_string quote x xs k n room rest = rest between
byte_text in_string backslash x xs k n room rest = rest in_escape
byte_text in_string operator x xs k n room rest = rest in_string
byte_text in_string space x xs k n room rest = rest in_string
byte_text in_string other x xs k n room rest = rest in_string
byte_text in_escape c x xs k n room rest = rest in_string

lex_text : (m : Mode) (xs : List ℕ) (n : ℕ) → length xs ≤ n → longest_lexeme (lex m xs) ≤ n
unfolding lex
lex_text m [] n room = omega arith
lex_text m (x ∷ xs) n room = byte_text m (class x) x xs (λ next. lex next xs) n room (λ next. lex_text next xs n (omega arith))

-- ---- commas and colons

allowed_text : (b : Bool) (t : Token) (k : Place → List Token) (next : Place) (n : ℕ) → text_len t ≤ n → ((p : Place) → longest_text (k p) ≤ n) →
    longest_text (if_allowed b t k next) ≤ n
allowed_text true t k next n here rest = omega (arith, here, rest next)
allowed_text false t k next n here rest = omega arith

placed_text : (p : Place) (t : Token) (before_colon : Bool) (k : Place → List Token) (n : ℕ) → text_len t ≤ n → ((q : Place) → longest_text (k q) ≤ n) →
    longest_text (place_token p t before_colon k) ≤ n
placed_text p begin_object c k n here rest = allowed_text (may_begin p) begin_object k fresh n here rest
placed_text p end_object c k n here rest = allowed_text (may_close p) end_object k after_value n here rest
placed_text p begin_array c k n here rest = allowed_text (may_begin p) begin_array k fresh n here rest
placed_text p end_array c k n here rest = allowed_text (may_close p) end_array k after_value n here rest
placed_text p (key s) c k n here rest = omega arith
placed_text p (string s) true k n here rest = allowed_text (may_begin p) (key s) k after_key n here rest
placed_text p (string s) false k n here rest = allowed_text (may_begin p) (string s) k after_value n here rest
placed_text p (number s) c k n here rest = allowed_text (may_begin p) (number s) k after_value n here rest
placed_text p (boolean b) c k n here rest = allowed_text (may_begin p) (boolean b) k after_value n here rest
placed_text p null c k n here rest = allowed_text (may_begin p) null k after_value n here rest
placed_text p bad c k n here rest = omega arith

punctuate_text : (p : Place) (ls : List Lexeme) (n : ℕ) → longest_lexeme ls ≤ n → longest_text (punctuate p ls) ≤ n
unfolding punctuate
punctuate_text fresh [] n room = omega arith
punctuate_text after_value [] n room = omega arith
punctuate_text after_comma [] n room = omega arith
punctuate_text after_key [] n room = omega arith
punctuate_text p (token t ∷ ls) n room =
    placed_text p t (begins_colon ls) (λ next. punctuate next ls) n (omega arith) (λ next. punctuate_text next ls n (omega arith))
punctuate_text fresh (comma ∷ ls) n room = omega arith
punctuate_text after_value (comma ∷ ls) n room = punctuate_text after_comma ls n (omega arith)
punctuate_text after_comma (comma ∷ ls) n room = omega arith
punctuate_text after_key (comma ∷ ls) n room = omega arith
punctuate_text fresh (colon ∷ ls) n room = omega arith
punctuate_text after_value (colon ∷ ls) n room = omega arith
punctuate_text after_comma (colon ∷ ls) n room = omega arith
punctuate_text after_key (colon ∷ ls) n room = punctuate_text fresh ls n (omega arith)

pub tokens_text : (bytes : List ℕ) → longest_text (tokens bytes) ≤ length bytes
tokens_text bytes = punctuate_text fresh (lex between bytes) (length bytes) (lex_text between bytes (length bytes) (omega arith))
