-- How a predicate is printed.
use Rattle.std.specs.Prelude.{ℕ, Bool, true, false, cond, List, [], ◌∷◌, ◌++◌, unwrap_or, codes, ◌==◌, ◌||◌}
use Rattle.std.specs.Fmt.{signed_decimal}
use Rattle.schema_json.specs.Columns.{Column, name_at}
use Rattle.predicate_lang.specs.Trees.{Tree, all_rows, negation, both, either, compared, among}
use Rattle.predicate_lang.specs.Tokens.{Token, and_word, or_word, not_word, all_word, in_word, name, value, operator, open_bracket, close_bracket, comma}
use Rattle.predicate_lang.specs.Grammar.{more_literals}
use Rattle.predicate_lang.specs.declared.trees.Op.TheVariants as op
use Rattle.predicate_lang.specs.declared.trees.Op.{Op}
use Rattle.predicate_lang.specs.declared.trees.Literal.{Literal}
use Rattle.predicate_lang.specs.declared.trees.Literal.TheVariants.{Number, Text}

-- in brackets if they are wanted
abbrev pub bracketed : Bool → List Token → List Token
bracketed false ts = ts
bracketed true ts = open_bracket ∷ (ts ++ close_bracket ∷ [])

abbrev pub is_or : Tree → Bool
is_or all_rows = false
is_or (negation p) = false
is_or (both p q) = false
is_or (either p q) = true
is_or (compared c o l) = false
is_or (among c ls) = false

-- an `or` or an `and`
abbrev pub is_or_and : Tree → Bool
is_or_and all_rows = false
is_or_and (negation p) = false
is_or_and (both p q) = true
is_or_and (either p q) = true
is_or_and (compared c o l) = false
is_or_and (among c ls) = false

-- the name of a column
abbrev pub name_of : List Column → ℕ → Token
name_of columns c = name (unwrap_or (name_at columns c) [])

-- the literals of an `in` with a comma between two, and the bracket that closes them
abbrev pub list_tokens : List Literal → List Token
list_tokens [] = []
list_tokens (l ∷ ls) = value l ∷ more_literals ls

-- the tokens, with brackets only where a part needs them
abbrev pub print_tokens : List Column → Tree → List Token
print_tokens columns all_rows = all_word ∷ []
print_tokens columns (negation p) = not_word ∷ bracketed (is_or_and p) (print_tokens columns p)
print_tokens columns (both p q) = bracketed (is_or p) (print_tokens columns p) ++ and_word ∷ bracketed (is_or_and q) (print_tokens columns q)
print_tokens columns (either p q) = print_tokens columns p ++ or_word ∷ bracketed (is_or q) (print_tokens columns q)
print_tokens columns (compared c o l) = name_of columns c ∷ operator o ∷ value l ∷ []
print_tokens columns (among c ls) = name_of columns c ∷ in_word ∷ open_bracket ∷ list_tokens ls

abbrev pub op_text : Op → List ℕ
op_text op.Eq = codes "="
op_text op.Ne = codes "!="
op_text op.Lt = codes "<"
op_text op.Le = codes "<="
op_text op.Gt = codes ">"
op_text op.Ge = codes ">="

-- each quote within is doubled
abbrev pub doubled : List ℕ → List ℕ
doubled [] = []
doubled (b ∷ bytes) = cond (b == 39) (39 ∷ 39 ∷ doubled bytes) (b ∷ doubled bytes)

-- a number in decimal, or a text in quotes
abbrev pub literal_text : Literal → List ℕ
literal_text (Number n) = signed_decimal n
literal_text (Text t) = 39 ∷ (doubled t ++ 39 ∷ [])

-- how a token is printed
abbrev pub token_text : Token → List ℕ
token_text and_word = codes "and"
token_text or_word = codes "or"
token_text not_word = codes "not"
token_text all_word = codes "all"
token_text in_word = codes "in"
token_text (name n) = n
token_text (value l) = literal_text l
token_text (operator o) = op_text o
token_text open_bracket = codes "("
token_text close_bracket = codes ")"
token_text comma = codes ","

-- no space stands before this token
abbrev pub closes : Token → Bool
closes close_bracket = true
closes comma = true
closes and_word = false
closes or_word = false
closes not_word = false
closes all_word = false
closes in_word = false
closes (name n) = false
closes (value l) = false
closes (operator o) = false
closes open_bracket = false

-- no space stands after this token
abbrev pub opens : Token → Bool
opens open_bracket = true
opens close_bracket = false
opens comma = false
opens and_word = false
opens or_word = false
opens not_word = false
opens all_word = false
opens in_word = false
opens (name n) = false
opens (value l) = false
opens (operator o) = false

-- a token and those after it
abbrev pub spaced_after : Token → List Token → List ℕ
spaced_after t [] = token_text t
spaced_after t (u ∷ ts) = token_text t ++ (cond (opens t || closes u) [] (32 ∷ []) ++ spaced_after u ts)

-- one space between two tokens, but none after an opening bracket and none before a closing bracket or a comma
abbrev pub spaced : List Token → List ℕ
spaced [] = []
spaced (t ∷ ts) = spaced_after t ts

-- the text of a tree
abbrev pub printed : List Column → Tree → List ℕ
printed columns t = spaced (print_tokens columns t)
