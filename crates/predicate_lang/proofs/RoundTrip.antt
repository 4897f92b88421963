-- What is printed of a predicate that was read means it again, and is at most 511 bytes longer than what was read.
use Rattle.std.proofs.Common.{◌≡◌, ℕ, suc, ◌+◌, ◌-◌, ◌≤◌, Bool, true, false, ◌||◌, cond, List, [], ◌∷◌, ◌++◌, length, refl, sym, ap, subst, arith, length-append}
use Rattle.std.proofs.lemmas.Bool.{and_from}
use Rattle.schema_json.specs.Columns.{Column, role_at}
use Rattle.predicate_lang.specs.Trees.{Tree, all_rows, negation, both, either, compared, among, height, fits, is_of_role, has_operator}
use Rattle.predicate_lang.specs.Tokens.{Token, and_word, or_word, close_bracket, Placed, lexed}
use Rattle.predicate_lang.specs.Grammar.{Disjunction, Conjunction, Operand, conj, or_conj, unit, and_unit, all, not_unit, in_brackets, compare, one_of, most_depth, Writes}
use Rattle.predicate_lang.specs.Places.{Means, tokens_of}
use Rattle.predicate_lang.specs.Printing.{is_or, is_or_and, bracketed, print_tokens, printed, spaced, spaced_after, token_text, opens, closes}
use Rattle.predicate_lang.proofs.LeastTokens.{total, LeastAlone, least_alone}
use Rattle.predicate_lang.proofs.PrintableTokens.{printed_length, unprintable, ArePrintable, tokens_printable}
use Rattle.predicate_lang.proofs.ReadAgain.{LexesAs, lexed-spaced}

-- 1 for each token
abbrev count_one : Token → ℕ
count_one t = 1

-- so many tokens
total-one : (ts : List Token) → total count_one ts ≡ length ts
total-one [] = refl
total-one (t ∷ ts) = omega (arith, total-one ts)

length-tokens_of : (ps : List Placed) → length (tokens_of ps) ≡ length ps
length-tokens_of [] = refl
length-tokens_of (p ∷ ps) = ap suc (length-tokens_of ps)

length-gap : (b : Bool) → length {A = ℕ} (cond b [] (32 ∷ [])) ≤ 1
length-gap true = omega arith
length-gap false = omega arith

-- at most one space between two tokens
length-spaced_after : (t : Token) (ts : List Token) → length (spaced_after t ts) ≤ total printed_length (t ∷ ts) + length ts
length-spaced_after t [] = omega arith
length-spaced_after t (u ∷ ts) =
    let gap : List ℕ = cond (opens t || closes u) [] (32 ∷ []) in
    omega (
      arith,
      length-append (token_text t) (gap ++ spaced_after u ts),
      length-append gap (spaced_after u ts),
      length-gap (opens t || closes u),
      length-spaced_after u ts,
    )

-- spaces stand only between two tokens
length-spaced : (ts : List Token) → length (spaced ts) ≤ total printed_length ts + (length ts - 1)
length-spaced [] = omega arith
length-spaced (t ∷ ts) = omega (arith, length-spaced_after t ts)

length-bracketed : (b : Bool) (ts : List Token) → length ts ≤ length (bracketed b ts)
length-bracketed false ts = omega arith
length-bracketed true ts = omega (arith, length-append ts (close_bracket ∷ []))

-- ---- what tokens write fits the columns

module _ (columns : List Column) where
  mutual
    -- by the tests that the rules make of each comparison and list
    all_fit : (room : ℕ) (ts : List Token) (t : Tree) → Disjunction columns room ts t → fits columns t ≡ true
    all_fit room ts t (conj c) = conj_fits room ts t c
    all_fit room ts t (or_conj {ts = xs} {us = ys} {p = p} {q = q} d c) =
        and_from (fits columns p) (fits columns q) (all_fit room xs p d) (conj_fits room ys q c)

    conj_fits : (room : ℕ) (ts : List Token) (t : Tree) → Conjunction columns room ts t → fits columns t ≡ true
    conj_fits room ts t (unit u) = unit_fits room ts t u
    conj_fits room ts t (and_unit {ts = xs} {us = ys} {p = p} {q = q} c u) =
        and_from (fits columns p) (fits columns q) (conj_fits room xs p c) (unit_fits room ys q u)

    unit_fits : (room : ℕ) (ts : List Token) (t : Tree) → Operand columns room ts t → fits columns t ≡ true
    unit_fits room ts t all = refl
    unit_fits room ts t (not_unit {room = less} {ts = xs} {p = p} u) = unit_fits less xs p u
    unit_fits room ts t (in_brackets {room = less} {ts = xs} d) = all_fit less xs t d
    unit_fits room ts t (compare {c = c} {o = o} {l = l} place takes of_role) =
        and_from (has_operator (role_at columns c) o) (is_of_role (role_at columns c) l) takes of_role
    unit_fits room ts t (one_of place of_role) = of_role

  -- and so does a tree that a text means
  pub means_fits : (text : List ℕ) (t : Tree) → Means columns text t → fits columns t ≡ true
  means_fits text t means = all_fit most_depth (tokens_of (lexed text).tokens) t means.writes

-- ---- what is printed

-- how the tokens that are printed compare with those that were read
least : (columns : List Column) (text : List ℕ) (t : Tree) (w : Token → ℕ) → Means columns text t →
    total w (print_tokens columns t) ≤ total w (tokens_of (lexed text).tokens)
least columns text t w means =
    let best : LeastAlone columns w most_depth (tokens_of (lexed text).tokens) t =
    least_alone columns w most_depth (tokens_of (lexed text).tokens) t means.writes in
    best.light

-- no more tokens
fewer : (columns : List Column) (text : List ℕ) (t : Tree) → Means columns text t → length (print_tokens columns t) ≤ 512
fewer columns text t means =
    omega (
      arith,
      least columns text t count_one means,
      total-one (print_tokens columns t),
      total-one (tokens_of (lexed text).tokens),
      length-tokens_of (lexed text).tokens,
      means.few,
    )

-- each part of the tree has a token of its own
height_tokens : (columns : List Column) (t : Tree) → height t ≤ length (print_tokens columns t)
height_tokens columns all_rows = omega arith
height_tokens columns (negation p) = omega (arith, height_tokens columns p, length-bracketed (is_or_and p) (print_tokens columns p))
height_tokens columns (both p q) =
    omega (
      arith,
      height_tokens columns p,
      height_tokens columns q,
      length-bracketed (is_or p) (print_tokens columns p),
      length-bracketed (is_or_and q) (print_tokens columns q),
      length-append (bracketed (is_or p) (print_tokens columns p)) (and_word ∷ bracketed (is_or_and q) (print_tokens columns q)),
    )
height_tokens columns (either p q) =
    omega (
      arith,
      height_tokens columns p,
      height_tokens columns q,
      length-bracketed (is_or q) (print_tokens columns q),
      length-append (print_tokens columns p) (or_word ∷ bracketed (is_or q) (print_tokens columns q)),
    )
height_tokens columns (compared c o l) = omega arith
height_tokens columns (among c ls) = omega arith

-- a tree that a text means is at most as deep as it may have tokens
pub means_shallow : (columns : List Column) (text : List ℕ) (t : Tree) → Means columns text t → height t ≤ 512
means_shallow columns text t means = omega (arith, height_tokens columns t, fewer columns text t means)

-- each of which can be printed
printable : (columns : List Column) (text : List ℕ) (t : Tree) → Means columns text t → total unprintable (print_tokens columns t) ≡ 0
printable columns text t means =
    let source : ArePrintable (tokens_of (lexed text).tokens) (length text) = tokens_printable text in
    omega (arith, least columns text t unprintable means, source.printable)

-- what is printed means the tree
pub printed_means : (columns : List Column) (text : List ℕ) (t : Tree) → Means columns text t → Means columns (printed columns t) t
printed_means columns text t means =
    let again : LexesAs (lexed (printed columns t)) (print_tokens columns t) = lexed-spaced (print_tokens columns t) (printable columns text t means) in
    let best : LeastAlone columns count_one most_depth (tokens_of (lexed text).tokens) t =
    least_alone columns count_one most_depth (tokens_of (lexed text).tokens) t means.writes in
    record {
      whole = again.stop;
      few = omega (arith, fewer columns text t means, ap (length {A = Token}) again.tokens, length-tokens_of (lexed (printed columns t)).tokens);
      writes = subst (λ (ts : List Token). Writes columns ts t) (sym again.tokens) best.writes;
    }

-- with at most 511 bytes more
pub printed_short : (columns : List Column) (text : List ℕ) (t : Tree) → Means columns text t → length (printed columns t) ≤ length text + 511
printed_short columns text t means =
    let source : ArePrintable (tokens_of (lexed text).tokens) (length text) = tokens_printable text in
    omega (arith, length-spaced (print_tokens columns t), least columns text t printed_length means, source.short, fewer columns text t means)
