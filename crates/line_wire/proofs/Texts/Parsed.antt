-- No text of a parsed value is longer than the longest of its tokens.
use Rattle.std.proofs.Common.{ℕ, zero, suc, ◌≤◌, max, List, [], ◌∷◌, length, Option, Some, None, option_and_then, arith}
use Rattle.std.specs.Prelude.{⊤}
use Rattle.json.specs.Token.{Token}
use Rattle.json.specs.Json.{Json, null, boolean, number, string, array, object, Items, no_items, item, Members, no_members, member, Parse, parse_map, after_end_array, read_key, items_step, members_step, items, members, value_with, value}
use Rattle.line_wire.proofs.Texts.Tokens.{longest_text}

-- the length of a parsed value's longest text, its keys included
abbrev mutual
  pub longest : Json → ℕ
  longest null = 0
  longest (boolean b) = 0
  longest (number s) = 0
  longest (string s) = length s
  longest (array js) = items_longest js
  longest (object ms) = members_longest ms

  pub items_longest : Items → ℕ
  items_longest no_items = 0
  items_longest (item j js) = max (longest j) (items_longest js)

  pub members_longest : Members → ℕ
  members_longest no_members = 0
  members_longest (member k j ms) = max (length k) (max (longest j) (members_longest ms))

-- what was parsed, and what is left of the tokens, have no longer texts
abbrev pub IsShort : {A : Type 0} → (A → ℕ) → ℕ → Option (A × List Token) → Type 0
IsShort size n None = ⊤
IsShort size n (Some p) = (size p.0 ≤ n) × (longest_text p.1 ≤ n)

-- it parses tokens without longer texts so
abbrev ParsesShort : {A : Type 0} → (A → ℕ) → ℕ → Parse A → Type 0
ParsesShort size n parse = (ts : List Token) → longest_text ts ≤ n → IsShort size n (parse ts)

mapped : {A B : Type 0} (f : A → ℕ) (g : B → ℕ) (n : ℕ) (h : A → B) → ((a : A) → f a ≤ n → g (h a) ≤ n) → (o : Option (A × List Token)) → IsShort f n o →
    IsShort g n (parse_map h o)
mapped f g n h step None short = tt
mapped f g n h step (Some p) short = (step p.0 short.0, short.1)

and_more : {B : Type 0} (g : B → ℕ) (n : ℕ) (h : Json → B → B) → ((j : Json) (b : B) → longest j ≤ n → g b ≤ n → g (h j b) ≤ n) → (more : Parse B)
    → ParsesShort g n more
    → (o : Option (Json × List Token)) → IsShort longest n o → IsShort g n (option_and_then (λ q. parse_map (h q.0) (more q.1)) o)
and_more g n h step more again None short = tt
and_more g n h step more again (Some q) short = mapped g g n (h q.0) (λ b small. step q.0 b short.0 small) _ (again q.1 short.1)

-- what stands after a bracket that closes an array
IsRestShort : ℕ → Option (List Token) → Type 0
IsRestShort n None = ⊤
IsRestShort n (Some ts) = longest_text ts ≤ n

after_end : (n : ℕ) (ts : List Token) → longest_text ts ≤ n → IsRestShort n (after_end_array ts)
unfolding IsRestShort
after_end n [] short = tt
after_end n (Token.begin_object ∷ ts) short = tt
after_end n (Token.end_object ∷ ts) short = tt
after_end n (Token.begin_array ∷ ts) short = tt
after_end n (Token.end_array ∷ ts) short = omega arith
after_end n (Token.key s ∷ ts) short = tt
after_end n (Token.string s ∷ ts) short = tt
after_end n (Token.number s ∷ ts) short = tt
after_end n (Token.boolean b ∷ ts) short = tt
after_end n (Token.null ∷ ts) short = tt
after_end n (Token.bad ∷ ts) short = tt

-- the length of a key, where one comes
abbrev key_len : Option (List ℕ) → ℕ
key_len None = 0
key_len (Some k) = length k

a_key : (n : ℕ) (ts : List Token) → longest_text ts ≤ n → IsShort key_len n (read_key ts)
a_key n [] short = tt
a_key n (Token.begin_object ∷ ts) short = tt
a_key n (Token.end_object ∷ ts) short = (omega arith, omega arith)
a_key n (Token.begin_array ∷ ts) short = tt
a_key n (Token.end_array ∷ ts) short = tt
a_key n (Token.key s ∷ ts) short = (omega arith, omega arith)
a_key n (Token.string s ∷ ts) short = tt
a_key n (Token.number s ∷ ts) short = tt
a_key n (Token.boolean b ∷ ts) short = tt
a_key n (Token.null ∷ ts) short = tt
a_key n (Token.bad ∷ ts) short = tt

module _ (n : ℕ) (p : Parse Json) (short_value : ParsesShort longest n p) where
  item_turn : (more : Parse Items) → ParsesShort items_longest n more → (ts : List Token) → longest_text ts ≤ n → (o : Option (List Token)) → IsRestShort n o →
      IsShort items_longest n (items_step p more ts o)
  unfolding IsRestShort
  item_turn more again ts short (Some r) rest = (omega arith, rest)
  item_turn more again ts short None rest = and_more items_longest n item (λ j b one all. omega arith) more again (p ts) (short_value ts short)

  short_items : (turns : ℕ) → ParsesShort items_longest n (items p turns)
  unfolding items
  short_items zero ts short = tt
  short_items (suc turns) ts short = item_turn (items p turns) (short_items turns) ts short (after_end_array ts) (after_end n ts short)

  member_turn : (more : Parse Members) → ParsesShort members_longest n more → (o : Option (Option (List ℕ) × List Token)) → IsShort key_len n o →
      IsShort members_longest n (option_and_then (λ q. members_step p more q.0 q.1) o)
  member_turn more again None short = tt
  member_turn more again (Some (None, ts)) short = (omega arith, short.1)
  member_turn more again (Some (Some k, ts)) short =
      and_more members_longest n (member k) (λ j b one all. omega arith) more again (p ts) (short_value ts short.1)

  short_members : (turns : ℕ) → ParsesShort members_longest n (members p turns)
  unfolding members
  short_members zero ts short = tt
  short_members (suc turns) ts short = member_turn (members p turns) (short_members turns) (read_key ts) (a_key n ts short)

one_level : (n : ℕ) (a : Parse Items) (o : Parse Members) → ParsesShort items_longest n a → ParsesShort members_longest n o →
    ParsesShort longest n (value_with a o)
one_level n a o items_short members_short [] short = tt
one_level n a o items_short members_short (Token.begin_object ∷ ts) short =
    mapped members_longest longest n object (λ ms small. small) _ (members_short ts (omega arith))
one_level n a o items_short members_short (Token.end_object ∷ ts) short = tt
one_level n a o items_short members_short (Token.begin_array ∷ ts) short =
    mapped items_longest longest n array (λ js small. small) _ (items_short ts (omega arith))
one_level n a o items_short members_short (Token.end_array ∷ ts) short = tt
one_level n a o items_short members_short (Token.key s ∷ ts) short = tt
one_level n a o items_short members_short (Token.string s ∷ ts) short = (omega arith, omega arith)
one_level n a o items_short members_short (Token.number s ∷ ts) short = (omega arith, omega arith)
one_level n a o items_short members_short (Token.boolean b ∷ ts) short = (omega arith, omega arith)
one_level n a o items_short members_short (Token.null ∷ ts) short = (omega arith, omega arith)
one_level n a o items_short members_short (Token.bad ∷ ts) short = tt

pub short_value : (n depth : ℕ) → ParsesShort longest n (value depth)
unfolding value
short_value n zero = one_level n (λ ts. None) (λ ts. None) (λ ts short. tt) (λ ts short. tt)
short_value n (suc depth) =
    one_level n (λ ts. items (value depth) (length ts) ts) (λ ts. members (value depth) (length ts) ts)
    (λ ts short. short_items n (value depth) (short_value n depth) (length ts) ts short)
    (λ ts short. short_members n (value depth) (short_value n depth) (length ts) ts short)
