-- The question that a line writes: an object whose keys are all among four.
use Rattle.std.specs.Prelude.{ℕ, Bool, true, false, ◌&&◌, ◌||◌, if◌then◌else◌, List, Option, Some, None, is_some, unwrap_or, option_map, option_and_then, codes}
use Rattle.std.specs.Str.{bytes_eq}
use Rattle.serde_json.specs.Data.{Data, Members, no_members, member}
use Rattle.serde_json.specs.Find.{get, as_str, as_object}
use Rattle.schema_json.specs.Reading.{value_of}
use Rattle.schema_json.specs.declared.roles.Role.{Role}
use Rattle.schema_json.specs.declared.roles.Role.TheVariants as role
use Rattle.line_wire.specs.declared.question.Ask.{Ask}
use Rattle.line_wire.specs.declared.question.Ask.TheVariants.{Count, Of}
use Rattle.line_wire.specs.declared.question.Take.{Take}
use Rattle.line_wire.specs.declared.question.Take.TheVariants.{Sum, Avg, Max, Min}

-- a question as its line writes it: a count over a condition, or what is taken of a column over one
pub data Written : Type 0 where
  counted : List ℕ → Written
  taken : Take → List ℕ → List ℕ → Written

-- its condition
abbrev pub text_of : Written → List ℕ
text_of (counted text) = text
text_of (taken take column text) = text

-- what a word asks for
abbrev pub ask_of : List ℕ → Option Ask
ask_of word = if bytes_eq word (codes "count") then Some Count else (if bytes_eq word (codes "sum") then Some (Of Sum) else (if bytes_eq word (codes "avg") then Some (Of Avg) else (if bytes_eq word (codes "max") then Some (Of Max) else (if bytes_eq word (codes "min") then Some (Of Min) else None))))

-- one of the four keys
abbrev pub is_key : List ℕ → Bool
is_key k = bytes_eq k (codes "ask") || bytes_eq k (codes "column") || bytes_eq k (codes "where") || bytes_eq k (codes "user")

abbrev pub keys_are_known : Members → Bool
keys_are_known no_members = true
keys_are_known (member k d ms) = is_key k && keys_are_known ms

-- an object, and each of its keys is known
abbrev pub has_known_keys : Option Members → Bool
has_known_keys members = unwrap_or (option_map keys_are_known members) false

-- absent, or a text
abbrev pub may_be_text : Option Data → Bool
may_be_text value = unwrap_or (option_map (λ d. is_some (as_str d)) value) true

-- a column stands exactly if something is taken of it
abbrev pub with_column : Ask → Option Data → List ℕ → Option Written
with_column Count None text = Some (counted text)
with_column Count (Some d) text = None
with_column (Of take) column text = option_map (λ name. taken take name text) (option_and_then as_str column)

-- the question of a text and of a word that asks
abbrev pub asked_with : Option (List ℕ) → Option Ask → Option Data → Option Written
asked_with (Some text) (Some ask) column = with_column ask column text
asked_with text ask column = None

-- the question that a value writes, if it writes one
unfoldable pub question_in : Data → Option Written
question_in d =
    if has_known_keys (as_object d) && may_be_text (get (codes "user") d)
    then asked_with (option_and_then as_str (get (codes "where") d)) (option_and_then ask_of (option_and_then as_str (get (codes "ask") d))) (get (codes "column") d)
    else None

-- the question that a line writes, if it writes one
abbrev pub question_of : List ℕ → Option Written
question_of line = option_and_then question_in (value_of line)

-- ---- its column

-- a column of this kind can be taken so
abbrev pub wants : Take → Role → Bool
wants Sum role.Sum = true
wants Avg role.Sum = true
wants Max role.Max = true
wants Min role.Min = true
wants take role = false
