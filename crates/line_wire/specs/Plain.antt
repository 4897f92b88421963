-- Objects as real questions are: each key is one of the four, and has a text. Here they are json's, whose values borrow the line.
use Rattle.std.specs.Prelude.{Bool, true, false, ◌&&◌, List, ℕ, Option, is_some, option_and_then}
use Rattle.json.specs.Json.{Json, null, boolean, number, string, array, object, Members, no_members, member}
use Rattle.json.specs.Find.{get, as_str}
use Rattle.serde_json.specs.Read.{of_json}
use Rattle.line_wire.specs.Questions.{Written, is_key, question_in}

-- a known key with a text
abbrev pub is_text_at : List ℕ → Json → Bool
is_text_at k j = is_key k && is_some (as_str j)

abbrev pub are_texts : Members → Bool
are_texts no_members = true
are_texts (member k j ms) = is_text_at k j && are_texts ms

abbrev pub is_plain : Json → Bool
is_plain null = false
is_plain (boolean b) = false
is_plain (number s) = false
is_plain (string s) = false
is_plain (array js) = false
is_plain (object ms) = are_texts ms

-- the text at a key
abbrev pub text_at : List ℕ → Json → Option (List ℕ)
text_at k j = option_and_then as_str (get k j)

-- the question that a value writes, read as serde_json reads it
abbrev pub question_in_json : Json → Option Written
question_in_json j = option_and_then question_in (of_json j)
