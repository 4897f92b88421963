-- The text of a predicate, part by part.
use Rattle.std.proofs.Common.{◌≡◌, ℕ, Bool, true, false, ◌||◌, cond, List, [], ◌∷◌, ◌++◌, refl, sym, ap, ◌∙◌, append_assoc, add-one, arith, ◌+◌, ◌<◌, ◌≤◌, length, drop, drop-cons, get_or}
use Rattle.std.specs.Prelude.{codes}
use Rattle.std.proofs.lemmas.Bool.{and_parts, or_right}
use Rattle.std.proofs.lemmas.List.{append-nil, drop_all}
use Rattle.std.specs.List.{list_all}
use Rattle.schema_json.specs.Columns.{Column, role_at}
use Rattle.predicate_lang.specs.Trees.{Tree, all_rows, negation, both, either, compared, among, has_literals, fits, is_of_role}
use Rattle.predicate_lang.specs.Tokens.{Token, and_word, or_word, not_word, all_word, in_word, value, operator, open_bracket, close_bracket}
use Rattle.predicate_lang.specs.Grammar.{more_literals}
use Rattle.predicate_lang.specs.Printing.{bracketed, is_or, is_or_and, name_of, list_tokens, print_tokens, literal_text, token_text, closes, opens, spaced_after, spaced, printed}
use Rattle.predicate_lang.specs.declared.trees.Literal.{Literal}

-- the last of a token and those after it
abbrev last : Token → List Token → Token
last t [] = t
last t (u ∷ ts) = last u ts

-- what stands between two tokens
abbrev gap : Token → Token → List ℕ
gap t u = cond (opens t || closes u) [] (32 ∷ [])

last-append : (t u : Token) (ts us : List Token) → last t (ts ++ u ∷ us) ≡ last u us
last-append t u [] us = refl
last-append t u (x ∷ ts) us = last-append x u ts us

-- two lists of tokens, with what stands between them
spaced_after-append : (t u : Token) (ts us : List Token) → spaced_after t (ts ++ u ∷ us) ≡ spaced_after t ts ++ (gap (last t ts) u ++ spaced_after u us)
spaced_after-append t u [] us = refl
spaced_after-append t u (x ∷ ts) us =
    ap (λ xs. token_text t ++ (gap t x ++ xs)) (spaced_after-append x u ts us)
    ∙ ap (λ xs. token_text t ++ xs) (sym (append_assoc (gap t x) (spaced_after x ts) (gap (last x ts) u ++ spaced_after u us)))
    ∙ sym (append_assoc (token_text t) (gap t x ++ spaced_after x ts) (gap (last x ts) u ++ spaced_after u us))

-- the first token closes nothing, and the last one opens nothing
record IsPart (ts : List Token) : Type 0 where
  first : Token
  rest : List Token
  is : ts ≡ first ∷ rest
  starts : closes first ≡ false
  ends : opens (last first rest) ≡ false

open_gap : (t u : Token) → opens t ≡ false → closes u ≡ false → gap t u ≡ 32 ∷ []
open_gap t u p q = ap (λ b. cond (b || closes u) [] (32 ∷ [])) p ∙ ap (λ b. cond b [] (32 ∷ [])) q

-- two parts, one after the other
join_part : (xs ys : List Token) → IsPart xs → IsPart ys → IsPart (xs ++ ys)
join_part xs ys p q = record {
  first = p.first;
  rest = p.rest ++ q.first ∷ q.rest;
  is = ap (λ ts. ts ++ ys) p.is ∙ ap (λ ts. p.first ∷ (p.rest ++ ts)) q.is;
  starts = p.starts;
  ends = ap opens (last-append p.first q.first p.rest q.rest) ∙ q.ends;
}

-- one space between two parts
spaced-join : (xs ys : List Token) → IsPart xs → IsPart ys → spaced (xs ++ ys) ≡ spaced xs ++ 32 ∷ spaced ys
spaced-join xs ys p q =
    ap (λ ts. spaced (ts ++ ys)) p.is ∙ ap (λ ts. spaced_after p.first (p.rest ++ ts)) q.is
    ∙ spaced_after-append p.first q.first p.rest q.rest
    ∙ ap (λ g. spaced_after p.first p.rest ++ (g ++ spaced_after q.first q.rest)) (open_gap (last p.first p.rest) q.first p.ends q.starts)
    ∙ ap (λ ts. spaced ts ++ 32 ∷ spaced_after q.first q.rest) (sym p.is) ∙ ap (λ ts. spaced xs ++ 32 ∷ spaced ts) (sym q.is)

-- a part in brackets
bracketed_part : (b : Bool) (ts : List Token) → IsPart ts → IsPart (bracketed b ts)
bracketed_part false ts p = p
bracketed_part true ts p = record {
  first = open_bracket;
  rest = ts ++ close_bracket ∷ [];
  is = refl;
  starts = refl;
  ends = ap opens (last-append open_bracket close_bracket ts []);
}

-- no space within brackets
spaced-bracketed : (b : Bool) (ts : List Token) → IsPart ts → spaced (bracketed b ts) ≡ cond b (codes "(") [] ++ (spaced ts ++ cond b (codes ")") [])
spaced-bracketed false ts p = sym (append-nil (spaced ts))
spaced-bracketed true ts p =
    ap (λ us. spaced (open_bracket ∷ (us ++ close_bracket ∷ []))) p.is
    ∙ ap (λ xs. 40 ∷ xs) (spaced_after-append p.first close_bracket p.rest [])
    ∙ ap (λ b. 40 ∷ (spaced_after p.first p.rest ++ (cond b [] (32 ∷ []) ++ 41 ∷ []))) (or_right (opens (last p.first p.rest)) true refl)
    ∙ ap (λ us. 40 ∷ (spaced us ++ 41 ∷ [])) (sym p.is)

one_part : (t : Token) → closes t ≡ false → opens t ≡ false → IsPart (t ∷ [])
one_part t p q = record { first = t; rest = []; is = refl; starts = p; ends = q }

-- a list of literals ends with its bracket
list_ends : (t : Token) (ls : List Literal) → opens (last t (more_literals ls)) ≡ false
list_ends t [] = refl
list_ends t (l ∷ ls) = list_ends (value l) ls

list_tokens_end : (t : Token) (ls : List Literal) → has_literals ls ≡ true → opens (last t (list_tokens ls)) ≡ false
list_tokens_end t [] h = absurd cc
list_tokens_end t (l ∷ ls) h = list_ends (value l) ls

-- ---- literals

-- what follows a literal of an `in`
abbrev pub list_rest : List Literal → List ℕ
list_rest [] = codes ")"
list_rest (l ∷ ls) = codes ", " ++ (literal_text l ++ list_rest ls)

-- a list of literals is printed literal by literal
spaced_list : (l : Literal) (ls : List Literal) → spaced_after (value l) (more_literals ls) ≡ literal_text l ++ list_rest ls
spaced_list l [] = refl
spaced_list l (k ∷ ls) = ap (λ xs. literal_text l ++ (44 ∷ 32 ∷ xs)) (spaced_list k ls)

-- so is a whole one
pub spaced-list_tokens : (l : Literal) (ls : List Literal) → spaced (list_tokens (l ∷ ls)) ≡ literal_text l ++ list_rest ls
spaced-list_tokens l ls = spaced_list l ls

-- ---- trees

-- the tokens of a tree are a part
tree_part : (columns : List Column) (t : Tree) → fits columns t ≡ true → IsPart (print_tokens columns t)
tree_part columns all_rows fit = one_part all_word refl refl
tree_part columns (negation p) fit =
    join_part (not_word ∷ []) (bracketed (is_or_and p) (print_tokens columns p)) (one_part not_word refl refl)
    (bracketed_part (is_or_and p) (print_tokens columns p) (tree_part columns p fit))
tree_part columns (both p q) fit =
    join_part (bracketed (is_or p) (print_tokens columns p)) (and_word ∷ bracketed (is_or_and q) (print_tokens columns q))
    (bracketed_part (is_or p) (print_tokens columns p) (tree_part columns p (and_parts (fits columns p) (fits columns q) fit).0))
    (join_part (and_word ∷ []) (bracketed (is_or_and q) (print_tokens columns q)) (one_part and_word refl refl)
    (bracketed_part (is_or_and q) (print_tokens columns q) (tree_part columns q (and_parts (fits columns p) (fits columns q) fit).1)))
tree_part columns (either p q) fit =
    join_part (print_tokens columns p) (or_word ∷ bracketed (is_or q) (print_tokens columns q))
    (tree_part columns p (and_parts (fits columns p) (fits columns q) fit).0)
    (join_part (or_word ∷ []) (bracketed (is_or q) (print_tokens columns q)) (one_part or_word refl refl)
    (bracketed_part (is_or q) (print_tokens columns q) (tree_part columns q (and_parts (fits columns p) (fits columns q) fit).1)))
tree_part columns (compared c o l) fit = record { first = name_of columns c; rest = operator o ∷ value l ∷ []; is = refl; starts = refl; ends = refl }
tree_part columns (among c ls) fit = record {
  first = name_of columns c;
  rest = in_word ∷ open_bracket ∷ list_tokens ls;
  is = refl;
  starts = refl;
  ends = list_tokens_end open_bracket ls (and_parts (has_literals ls) (list_all (is_of_role (role_at columns c)) ls) fit).0;
}

-- a part as it stands within another
abbrev pub part_text : List Column → Bool → Tree → List ℕ
part_text columns b t = cond b (codes "(") [] ++ (printed columns t ++ cond b (codes ")") [])

-- how a `not` is printed
pub printed-negation : (columns : List Column) (p : Tree) → fits columns p ≡ true →
    printed columns (negation p) ≡ codes "not " ++ part_text columns (is_or_and p) p
printed-negation columns p fit =
    let part = tree_part columns p fit in
    spaced-join (not_word ∷ []) (bracketed (is_or_and p) (print_tokens columns p)) (one_part not_word refl refl)
    (bracketed_part (is_or_and p) (print_tokens columns p) part)
    ∙ ap (λ xs. codes "not " ++ xs) (spaced-bracketed (is_or_and p) (print_tokens columns p) part)

-- how an `and` is printed
pub printed-both : (columns : List Column) (p q : Tree) → fits columns (both p q) ≡ true →
    printed columns (both p q) ≡ part_text columns (is_or p) p ++ (codes " and " ++ part_text columns (is_or_and q) q)
printed-both columns p q fit =
    let left = tree_part columns p (and_parts (fits columns p) (fits columns q) fit).0 in
    let right = tree_part columns q (and_parts (fits columns p) (fits columns q) fit).1 in
    let behind = bracketed_part (is_or_and q) (print_tokens columns q) right in
    spaced-join (bracketed (is_or p) (print_tokens columns p)) (and_word ∷ bracketed (is_or_and q) (print_tokens columns q))
    (bracketed_part (is_or p) (print_tokens columns p) left)
    (join_part (and_word ∷ []) (bracketed (is_or_and q) (print_tokens columns q)) (one_part and_word refl refl) behind)
    ∙ ap (λ xs. spaced (bracketed (is_or p) (print_tokens columns p)) ++ 32 ∷ xs)
    (spaced-join (and_word ∷ []) (bracketed (is_or_and q) (print_tokens columns q)) (one_part and_word refl refl) behind)
    ∙ ap (λ xs. xs ++ (codes " and " ++ spaced (bracketed (is_or_and q) (print_tokens columns q)))) (spaced-bracketed (is_or p) (print_tokens columns p) left)
    ∙ ap (λ xs. part_text columns (is_or p) p ++ (codes " and " ++ xs)) (spaced-bracketed (is_or_and q) (print_tokens columns q) right)

-- how an `or` is printed
pub printed-either : (columns : List Column) (p q : Tree) → fits columns (either p q) ≡ true →
    printed columns (either p q) ≡ printed columns p ++ (codes " or " ++ part_text columns (is_or q) q)
printed-either columns p q fit =
    let left = tree_part columns p (and_parts (fits columns p) (fits columns q) fit).0 in
    let right = tree_part columns q (and_parts (fits columns p) (fits columns q) fit).1 in
    let behind = bracketed_part (is_or q) (print_tokens columns q) right in
    spaced-join (print_tokens columns p) (or_word ∷ bracketed (is_or q) (print_tokens columns q))
    left (join_part (or_word ∷ []) (bracketed (is_or q) (print_tokens columns q)) (one_part or_word refl refl) behind)
    ∙ ap (λ xs. printed columns p ++ 32 ∷ xs) (spaced-join (or_word ∷ []) (bracketed (is_or q) (print_tokens columns q)) (one_part or_word refl refl) behind)
    ∙ ap (λ xs. printed columns p ++ (codes " or " ++ xs)) (spaced-bracketed (is_or q) (print_tokens columns q) right)

-- what follows the literals before this one
rest_here : (rest : List Literal) (i : ℕ) (l : Literal) → i < length rest → l ≡ get_or rest i l →
    list_rest (drop i rest) ≡ codes ", " ++ (literal_text l ++ list_rest (drop (i + 1) rest))
rest_here rest i l within is =
    ap list_rest (drop-cons rest i l within ∙ ap (λ n. get_or rest i l ∷ drop n rest) (sym (add-one i)))
    ∙ ap (λ x. codes ", " ++ (literal_text x ++ list_rest (drop (i + 1) rest))) (sym is)

-- after two pushes
after_pushes : (old new front text rest : List ℕ) → new ≡ (old ++ front) ++ text → new ++ rest ≡ old ++ (front ++ (text ++ rest))
after_pushes old new front text rest is = ap (λ xs. xs ++ rest) is ∙ append_assoc (old ++ front) text rest ∙ append_assoc old front (text ++ rest)

-- one literal more was written
pub next_literal : (whole out new : List ℕ) (rest : List Literal) (i : ℕ) (l : Literal) → i < length rest → l ≡ get_or rest i l →
    new ≡ (out ++ codes ", ") ++ literal_text l → out ++ list_rest (drop i rest) ≡ whole → new ++ list_rest (drop (i + 1) rest) ≡ whole
next_literal whole out new rest i l within is written same =
    after_pushes out new (codes ", ") (literal_text l) (list_rest (drop (i + 1) rest)) written
    ∙ ap (λ xs. out ++ xs) (sym (rest_here rest i l within is)) ∙ same

-- with the closing bracket the whole list stands there
pub last_literal : (old start out : List ℕ) (ls rest : List Literal) (first : Literal) (i : ℕ) → 1 ≤ length ls → first ≡ get_or ls 0 first → rest ≡ drop 1 ls
    → length rest ≤ i → start ≡ old ++ literal_text first → out ++ list_rest (drop i rest) ≡ start ++ list_rest rest
    → out ++ 41 ∷ [] ≡ old ++ spaced (list_tokens ls)
last_literal old start out [] rest first i some is behind past begun same = absurd (omega arith)
last_literal old start out (l ∷ ls) rest first i some is behind past begun same =
    ap (λ xs. out ++ list_rest xs) (sym (drop_all i rest past)) ∙ same ∙ ap (λ xs. xs ++ list_rest rest) begun
    ∙ append_assoc old (literal_text first) (list_rest rest)
    ∙ ap (λ x. old ++ (literal_text x ++ list_rest rest)) is ∙ ap (λ xs. old ++ (literal_text l ++ list_rest xs)) behind
    ∙ ap (λ xs. old ++ xs) (sym (spaced-list_tokens l ls))
