-- A predicate is written part by part.
use Rattle.std.proofs.Common.{◌≡◌, ◌<◌, ℕ, Bool, true, false, cond, List, [], ◌∷◌, ◌++◌, length, Option, Some, None, refl, sym, ap, ◌∙◌, append_assoc}
use Rattle.std.specs.Prelude.{codes, slice_get, option_map, unwrap_or}
use Rattle.std.specs.List.{list_all}
use Rattle.std.proofs.lemmas.Bool.{and_parts}
use Rattle.std.proofs.lemmas.Option.{slice_get_within}
use Rattle.schema_json.specs.Columns.{Column, role_at, name_at}
use Rattle.schema_json.specs.declared.roles.Role.{Role}
use Rattle.predicate_lang.specs.Trees.{Tree, negation, both, either, compared, among, fits, has_operator, is_of_role, has_literals}
use Rattle.predicate_lang.specs.Printing.{printed, is_or, is_or_and, list_tokens, spaced}
use Rattle.predicate_lang.specs.declared.trees.Op.{Op}
use Rattle.predicate_lang.specs.declared.trees.Literal.{Literal}
use Rattle.predicate_lang.proofs.Pushes.{behind_push}
use Rattle.predicate_lang.proofs.Spaced.{part_text, printed-negation, printed-both, printed-either}

-- ---- the columns

-- a test that no missing column passes is passed by a column of the schema
in_schema : (columns : List Column) (c : ℕ) (f : Option Role → Bool) → f None ≡ false → f (role_at columns c) ≡ true → c < length columns
in_schema columns c f none h = go (slice_get columns c) refl h
  where
    go : (o : Option Column) → slice_get columns c ≡ o → f (option_map (λ x. x.role) o) ≡ true → c < length columns
    go None e h = absurd cc
    go (Some x) e h = slice_get_within columns c x e

-- the column of a comparison that fits
pub compared_inside : (columns : List Column) (t : Tree) (c : ℕ) (o : Op) (l : Literal) → t ≡ compared c o l → fits columns t ≡ true → c < length columns
compared_inside columns t c o l is fit =
    in_schema columns c (λ r. has_operator r o) refl
    (and_parts (has_operator (role_at columns c) o) (is_of_role (role_at columns c) l) (ap (fits columns) (sym is) ∙ fit)).0

-- the column of an `in` that fits
pub among_inside : (columns : List Column) (t : Tree) (c : ℕ) (ls : List Literal) → t ≡ among c ls → fits columns t ≡ true → c < length columns
among_inside columns t c [] is fit = let none : false ≡ true = ap (fits columns) (sym is) ∙ fit in absurd cc
among_inside columns t c (l ∷ ls) is fit =
    let all : list_all (is_of_role (role_at columns c)) (l ∷ ls) ≡ true = ap (fits columns) (sym is) ∙ fit in
    in_schema columns c (λ r. is_of_role r l) refl (and_parts (is_of_role (role_at columns c) l) (list_all (is_of_role (role_at columns c)) ls) all).0

-- an `in` that fits has a literal
pub fits_some : (columns : List Column) (t : Tree) (c : ℕ) (ls : List Literal) → t ≡ among c ls → fits columns t ≡ true → has_literals ls ≡ true
fits_some columns t c ls is fit = (and_parts (has_literals ls) (list_all (is_of_role (role_at columns c)) ls) (ap (fits columns) (sym is) ∙ fit)).0

-- ---- the parts

-- a part with its brackets, and what follows it
part_written : (columns : List Column) (p : Tree) (b c : Bool) (old one two rest : List ℕ) → c ≡ b →
    one ≡ old ++ cond c (codes "(") [] → two ≡ one ++ printed columns p → (two ++ cond c (codes ")") []) ++ rest ≡ old ++ (part_text columns b p ++ rest)
part_written columns p b c old one two rest is first second =
    append_assoc two (cond c (codes ")") []) rest ∙ behind_push one two (printed columns p) (cond c (codes ")") [] ++ rest) second
    ∙ behind_push old one (cond c (codes "(") []) (printed columns p ++ (cond c (codes ")") [] ++ rest)) first
    ∙ ap (λ xs. old ++ (cond c (codes "(") [] ++ xs)) (sym (append_assoc (printed columns p) (cond c (codes ")") []) rest))
    ∙ ap (λ xs. old ++ xs) (sym (append_assoc (cond c (codes "(") []) (printed columns p ++ cond c (codes ")") []) rest))
    ∙ ap (λ x. old ++ (part_text columns x p ++ rest)) is

-- a part with its brackets at the end
last_part : (columns : List Column) (p : Tree) (b c : Bool) (old one two : List ℕ) → c ≡ b →
    one ≡ old ++ cond c (codes "(") [] → two ≡ one ++ printed columns p → two ++ cond c (codes ")") [] ≡ old ++ part_text columns b p
last_part columns p b c old one two is first second =
    behind_push one two (printed columns p)
    (cond c (codes ")") []) second ∙ behind_push old one (cond c (codes "(") []) (printed columns p ++ cond c (codes ")") []) first
    ∙ ap (λ x. old ++ part_text columns x p) is

-- a `not` that is written piece by piece
pub negation_written : (columns : List Column) (t p : Tree) (c : Bool) (old one two three : List ℕ) → t ≡ negation p → fits columns t ≡ true → c ≡ is_or_and p
    → one ≡ old ++ codes "not " → two ≡ one ++ cond c (codes "(") [] → three ≡ two ++ printed columns p →
    three ++ cond c (codes ")") [] ≡ old ++ printed columns t
negation_written columns t p c old one two three is fit told first second third =
    last_part columns p (is_or_and p) c one two three told second third ∙ behind_push old one (codes "not ") (part_text columns (is_or_and p) p) first
    ∙ ap (λ xs. old ++ xs) (sym (printed-negation columns p (ap (fits columns) (sym is) ∙ fit)) ∙ ap (printed columns) (sym is))

-- an `and` that is written piece by piece
pub both_written : (columns : List Column) (t p q : Tree) (b c : Bool) (old one two three four five six : List ℕ) → t ≡ both p q → fits columns t ≡ true
    → b ≡ is_or p → c ≡ is_or_and q
    → one ≡ old ++ cond b (codes "(") [] → two ≡ one ++ printed columns p → three ≡ two ++ cond b (codes ")") [] → four ≡ three ++ codes " and "
    → five ≡ four ++ cond c (codes "(") [] → six ≡ five ++ printed columns q → six ++ cond c (codes ")") [] ≡ old ++ printed columns t
both_written columns t p q b c old one two three four five six is fit left right first second third fourth fifth sixth =
    last_part columns q (is_or_and q) c four five six right fifth sixth ∙ behind_push three four (codes " and ") (part_text columns (is_or_and q) q) fourth
    ∙ ap (λ xs. xs ++ (codes " and " ++ part_text columns (is_or_and q) q)) third
    ∙ part_written columns p (is_or p) b old one two (codes " and " ++ part_text columns (is_or_and q) q) left first second
    ∙ ap (λ xs. old ++ xs) (sym (printed-both columns p q (ap (fits columns) (sym is) ∙ fit)) ∙ ap (printed columns) (sym is))

-- an `or` that is written piece by piece
pub either_written : (columns : List Column) (t p q : Tree) (c : Bool) (old one two three four : List ℕ) → t ≡ either p q → fits columns t ≡ true → c ≡ is_or q
    → one ≡ old ++ printed columns p → two ≡ one ++ codes " or " → three ≡ two ++ cond c (codes "(") [] → four ≡ three ++ printed columns q →
    four ++ cond c (codes ")") [] ≡ old ++ printed columns t
either_written columns t p q c old one two three four is fit right first second third fourth =
    last_part columns q (is_or q) c two three four right third fourth ∙ behind_push one two (codes " or ") (part_text columns (is_or q) q) second
    ∙ behind_push old one (printed columns p) (codes " or " ++ part_text columns (is_or q) q) first
    ∙ ap (λ xs. old ++ xs) (sym (printed-either columns p q (ap (fits columns) (sym is) ∙ fit)) ∙ ap (printed columns) (sym is))

-- an `in` that is written piece by piece
pub among_written : (columns : List Column) (t : Tree) (c : ℕ) (ls : List Literal) (found old one two three : List ℕ) → t ≡ among c ls → has_literals ls ≡ true
    → Some found ≡ name_at columns c
    → one ≡ old ++ found → two ≡ one ++ codes " in (" → three ≡ two ++ spaced (list_tokens ls) → three ≡ old ++ printed columns t
among_written columns t c [] found old one two three is some named first second third = absurd cc
among_written columns t c (l ∷ ls) found old one two three is some named first second third =
    third
    ∙ behind_push one two (codes " in (") (spaced (list_tokens (l ∷ ls))) second
    ∙ behind_push old one found (codes " in (" ++ spaced (list_tokens (l ∷ ls))) first
    ∙ ap
    (λ (n : Option (List ℕ)). old ++ (unwrap_or n [] ++ (codes " in (" ++ spaced (list_tokens (l ∷ ls))))) named ∙ ap (λ x. old ++ printed columns x) (sym is)
