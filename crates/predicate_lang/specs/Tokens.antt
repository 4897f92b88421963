-- Texts as tokens with their places: the longest token is taken, and blanks may stand between any two.
use Rattle.std.specs.Prelude.{ℕ, ℤ, zero, suc, ◌+◌, Bool, true, false, ◌||◌, cond, if◌then◌else◌, List, [], ◌∷◌, ◌++◌, length, drop, Option, Some, None, option_map, nat_le, codes, ◌==◌}
use Rattle.std.specs.List.{take_while}
use Rattle.std.specs.Str.{bytes_eq}
use Rattle.std.specs.Char.{is_ascii_alphabetic, is_ascii_digit}
use Rattle.audit_types.specs.Limits.{most_number}
use Rattle.schema_json.specs.Columns.{is_name_byte}
use Rattle.schema_json.specs.Decimals.{decimal_after, signed}
use Rattle.predicate_lang.specs.declared.trees.Op.{Op}
use Rattle.predicate_lang.specs.declared.trees.Op.TheVariants as op
use Rattle.predicate_lang.specs.declared.trees.Literal.{Literal}
use Rattle.predicate_lang.specs.declared.trees.Literal.TheVariants as literal

-- what a predicate is written with
pub data Token : Type 0 where
  and_word : Token
  or_word : Token
  not_word : Token
  all_word : Token
  in_word : Token
  name : List ℕ → Token
  value : Literal → Token
  operator : Op → Token
  open_bracket : Token
  close_bracket : Token
  comma : Token

-- a word is a keyword, in lower case only, or a name
abbrev pub word_token : List ℕ → Token
word_token w =
    if bytes_eq w (codes "and") then and_word else (if bytes_eq w (codes "or") then or_word else (if bytes_eq w (codes "not") then not_word
    else (if bytes_eq w (codes "all") then all_word else (if bytes_eq w (codes "in") then in_word else name w))))

-- space, tab, carriage return, line feed
abbrev pub is_blank : ℕ → Bool
is_blank b = (b == 32) || (b == 9) || (b == 13) || (b == 10)

-- ---- the token at the front of a text

-- a token, and how many bytes follow its first one
pub record Front : Type 0 where
  pub token : Token
  pub more : ℕ

-- such a front, if there is a token
abbrev pub taking : ℕ → Option Token → Option Front
taking n token = option_map (λ t. record { token = t; more = n }) token

-- a size that is not too great
abbrev pub within_most : ℕ → Option ℕ
within_most n = cond (nat_le n most_number) (Some n) None

-- the number of one or more digits after a minus sign or none, if it isn't too large
abbrev pub number_of : Bool → List ℕ → Option ℤ
number_of minus [] = None
number_of minus (d ∷ digits) = option_map (signed minus) (within_most (decimal_after 0 (d ∷ digits)))

abbrev pub number_token : Option ℤ → Option Token
number_token number = option_map (λ z. value (literal.Number z)) number

-- a quoted text, and how many bytes follow its opening quote, the closing one among them
pub record Quoted : Type 0 where
  pub text : List ℕ
  pub bytes : ℕ

-- with some bytes in front of it, that took some bytes to write
abbrev pub with_front : List ℕ → ℕ → Option Quoted → Option Quoted
with_front front n rest = option_map (λ q. record { text = front ++ q.text; bytes = n + q.bytes }) rest

-- what stands after an opening quote, up to the closing one; a doubled quote is one. The flag says that the byte before was a quote.
abbrev pub quoted : Bool → List ℕ → Option Quoted
quoted false [] = None
quoted true [] = Some (record { text = []; bytes = 1 })
quoted false (b ∷ bytes) = cond (b == 39) (quoted true bytes) (with_front (b ∷ []) 1 (quoted false bytes))
quoted true (b ∷ bytes) = cond (b == 39) (with_front (39 ∷ []) 2 (quoted false bytes)) (Some (record { text = []; bytes = 1 }))

abbrev pub text_front : Option Quoted → Option Front
text_front text = option_map (λ q. record { token = value (literal.Text q.text); more = q.bytes }) text

-- these bytes begin with an equals sign
abbrev pub is_equals_next : List ℕ → Bool
is_equals_next [] = false
is_equals_next (b ∷ bytes) = b == 61

-- a comparison or another mark; `!` alone is none
abbrev pub mark_front : ℕ → List ℕ → Option Front
mark_front b bytes =
    if b == 61 then taking 0 (Some (operator op.Eq)) else (if b == 33 then (if is_equals_next bytes then taking 1 (Some (operator op.Ne)) else None)
    else (if b == 60 then (if is_equals_next bytes then taking 1 (Some (operator op.Le)) else taking 0 (Some (operator op.Lt)))
    else (if b == 62 then (if is_equals_next bytes then taking 1 (Some (operator op.Ge)) else taking 0 (Some (operator op.Gt)))
    else (if b == 40 then taking 0 (Some open_bracket) else (if b == 41 then taking 0 (Some close_bracket) else (if b == 44 then taking 0 (Some comma) else None))))))

-- a keyword or a name
abbrev pub word_front : ℕ → List ℕ → Option Front
word_front b bytes = taking (length (take_while is_name_byte bytes)) (Some (word_token (b ∷ take_while is_name_byte bytes)))

-- a number, whose first byte is a minus sign or a digit
abbrev pub number_at : ℕ → List ℕ → Option ℤ
number_at b bytes = if b == 45 then number_of true (take_while is_ascii_digit bytes) else number_of false (b ∷ take_while is_ascii_digit bytes)

abbrev pub number_front : ℕ → List ℕ → Option Front
number_front b bytes = taking (length (take_while is_ascii_digit bytes)) (number_token (number_at b bytes))

-- the longest token that begins with this byte and goes on with those, and None if no token begins
unfoldable pub front_token : ℕ → List ℕ → Option Front
front_token b bytes =
    if is_ascii_alphabetic b then word_front b bytes
    else (if is_ascii_digit b || (b == 45) then number_front b bytes
    else (if b == 39 then text_front (quoted false bytes) else mark_front b bytes))

-- ---- all tokens

-- a token and the offset of its first byte
pub record Placed : Type 0 where
  pub token : Token
  pub at : ℕ

-- the tokens of a text, and the offset where no token begins, if there is one
pub record Lexed : Type 0 where
  pub tokens : List Placed
  pub stop : Option ℕ

abbrev pub no_tokens : Option ℕ → Lexed
no_tokens stop = record { tokens = []; stop = stop }

abbrev pub with_token : Token → ℕ → Lexed → Lexed
with_token t at more = record { tokens = (record { token = t; at = at }) ∷ more.tokens; stop = more.stop }

abbrev pub lex_front : ℕ → Option Front → (ℕ → Lexed) → Lexed
lex_front at None more = no_tokens (Some at)
lex_front at (Some f) more = with_token f.token at (more f.more)

-- The tokens of the bytes, which stand at an offset. The first number bounds the turns: one more than the bytes is enough.
unfoldable pub lex_from : ℕ → ℕ → List ℕ → Lexed
lex_from zero at bytes = no_tokens None
lex_from (suc turns) at [] = no_tokens None
lex_from (suc turns) at (b ∷ bytes) =
    cond (is_blank b) (lex_from turns (at + 1) bytes) (lex_front at (front_token b bytes) (λ n. lex_from turns (at + 1 + n) (drop n bytes)))

-- the tokens of a text from an offset on
abbrev pub lexed_from : List ℕ → ℕ → Lexed
lexed_from text at = lex_from (length text + 1) at (drop at text)

abbrev pub lexed : List ℕ → Lexed
lexed text = lexed_from text 0
