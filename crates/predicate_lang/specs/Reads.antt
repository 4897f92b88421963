-- How far a text has been read: contracts and invariants of the reader speak of it.
use Rattle.std.specs.Prelude.{◌≡◌, ℕ, List, [], ◌∷◌, length, Some}
use Rattle.schema_json.specs.Columns.{Column}
use Rattle.predicate_lang.specs.Tokens.{Placed, Lexed, lexed, lexed_from, with_token}
use Rattle.predicate_lang.specs.Places.{tokens_of}
use Rattle.predicate_lang.specs.Machine.{Build, run, start}

-- these tokens, and then those
abbrev pub followed : List Placed → Lexed → Lexed
followed [] more = more
followed (p ∷ ps) more = with_token p.token p.at (followed ps more)

-- so many tokens stand before the offset; each may stand where it stands, and this is what they build
pub record HasRead (columns : List Column) (text : List ℕ) (from count : ℕ) (b : Build) : Type 0 where
  pub front : List Placed
  pub is_front : lexed text ≡ followed front (lexed_from text from)
  pub many : length front ≡ count
  pub builds : run columns (tokens_of front) (Some start) ≡ Some b
