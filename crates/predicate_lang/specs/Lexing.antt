-- Tokens as the reader takes them: a name is the place of its column, if there is one. Contracts of private calls speak of it.
use Rattle.std.specs.Prelude.{ℕ, ◌+◌, ◌<◌, ◌≤◌, ◌≡◌, List, length, Option, Some, None, Result, Ok, Err}
use Rattle.schema_json.specs.Columns.{Column, place_of}
use Rattle.predicate_lang.specs.Tokens as text
use Rattle.predicate_lang.specs.Tokens.{Front, Quoted, lexed_from, with_token, no_tokens}
use Rattle.predicate_lang.specs.declared.trees.WhereFault.{WhereFault}
use Rattle.predicate_lang.specs.declared.trees.WhereFault.TheVariants.{Bad, NoMemory}
use Rattle.predicate_lang.specs.declared.tokens.Token.{Token}
use Rattle.predicate_lang.specs.declared.tokens.Token.TheVariants.{And, Or, Not, All, In, Column as ColumnToken, Value, Operator, OpenBracket, CloseBracket, Comma}
use Rattle.predicate_lang.specs.declared.tokens.Lexeme.{Lexeme}
use Rattle.predicate_lang.specs.declared.tokens.Quote.{Quote}

abbrev pub seen : List Column → text.Token → Token
seen columns text.and_word = And
seen columns text.or_word = Or
seen columns text.not_word = Not
seen columns text.all_word = All
seen columns text.in_word = In
seen columns (text.name n) = ColumnToken (place_of n columns)
seen columns (text.value l) = Value l
seen columns (text.operator o) = Operator o
seen columns text.open_bracket = OpenBracket
seen columns text.close_bracket = CloseBracket
seen columns text.comma = Comma

-- a token with how many bytes follow its first one
abbrev pub seen_front : List Column → Option Front → Option (Token × ℕ)
seen_front columns None = None
seen_front columns (Some f) = Some (seen columns f.token, f.more)

-- the token at an offset, with the offset after it
abbrev pub lexeme : List Column → ℕ → Option Front → Option Lexeme
lexeme columns at None = None
lexeme columns at (Some f) = Some (record { token = seen columns f.token; at = at; end = at + 1 + f.more })

-- the token at an offset, or a refusal there
abbrev pub Takes : Option Lexeme → ℕ → Result Lexeme WhereFault → Type 0
Takes l at (Ok x) = l ≡ Some x
Takes l at (Err (Bad n)) = (l ≡ None) × (n ≡ at)
Takes l at (Err NoMemory) = Unit {0}

abbrev pub quoted_in : Option Quote → Option Quoted
quoted_in None = None
quoted_in (Some q) = Some (record { text = q.word; bytes = q.bytes })

-- the quoted text, if it is closed
abbrev pub Quotes : Option Quoted → Result (Option Quote) WhereFault → Type 0
Quotes q (Ok o) = q ≡ quoted_in o
Quotes q (Err (Bad n)) = ⊥
Quotes q (Err NoMemory) = Unit {0}

-- the first token from an offset on
pub record IsNext (columns : List Column) (bytes : List ℕ) (from : ℕ) (l : Lexeme) : Type 0 where
  pub token : text.Token
  pub is_seen : l.token ≡ seen columns token
  pub lexed : lexed_from bytes from ≡ with_token token l.at (lexed_from bytes l.end)
  pub behind : from ≤ l.at
  pub longer : l.at < l.end
  pub within : l.end ≤ length bytes

abbrev pub Lexes : List Column → List ℕ → ℕ → Result (Option Lexeme) WhereFault → Type 0
Lexes columns bytes from (Ok (Some l)) = IsNext columns bytes from l
Lexes columns bytes from (Ok None) = lexed_from bytes from ≡ no_tokens None
Lexes columns bytes from (Err (Bad n)) = (lexed_from bytes from ≡ no_tokens (Some n)) × (from ≤ n) × (n < length bytes)
Lexes columns bytes from (Err NoMemory) = Unit {0}
