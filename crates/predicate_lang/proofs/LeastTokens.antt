-- What is printed of a tree writes it, with no more open than any tokens that write it, and no heavier.
use Rattle.std.proofs.Common.{◌≡◌, ℕ, suc, ◌+◌, ◌<◌, ◌≤◌, length, get_or, Bool, true, false, List, [], ◌∷◌, ◌++◌, Option, Some, refl, sym, ap, ◌∙◌, arith}
use Rattle.std.specs.Prelude.{option_map, unwrap_or}
use Rattle.std.specs.List.{list_all}
use Rattle.std.proofs.lemmas.Bool.{false≢true}
use Rattle.std.proofs.lemmas.Slice.Eq.{bytes_eq-Decides}
use Rattle.std.proofs.lemmas.List.Quantifiers.{position-Some}
use Rattle.std.proofs.lemmas.Option.{slice_get-get_or}
use Rattle.schema_json.specs.Columns.{Column, place_of, role_at, name_at, has_name}
use Rattle.schema_json.specs.declared.roles.Role.TheVariants.{Text}
use Rattle.predicate_lang.specs.Trees.{Tree, all_rows, negation, both, either, compared, among, is_of_role, has_operator}
use Rattle.predicate_lang.specs.Tokens.{Token, and_word, or_word, in_word, name, value, operator, open_bracket, close_bracket}
use Rattle.predicate_lang.specs.Grammar.{Disjunction, Conjunction, Operand, conj, or_conj, unit, and_unit, all, not_unit, in_brackets, compare, one_of, more_literals}
use Rattle.predicate_lang.specs.Printing.{bracketed, is_or, is_or_and, print_tokens}
use Rattle.predicate_lang.specs.declared.trees.Op.{Op}
use Rattle.predicate_lang.specs.declared.trees.Literal.{Literal}

-- the weight of all tokens
abbrev pub total : (Token → ℕ) → List Token → ℕ
total w [] = 0
total w (t ∷ ts) = w t + total w ts

-- two lists weigh what both weigh
pub total-append : (w : Token → ℕ) (xs ys : List Token) → total w (xs ++ ys) ≡ total w xs + total w ys
total-append w [] ys = omega arith
total-append w (x ∷ xs) ys = omega (arith, total-append w xs ys)

-- brackets make nothing lighter
total-bracketed : (w : Token → ℕ) (b : Bool) (ts : List Token) → total w ts ≤ total w (bracketed b ts)
total-bracketed w false ts = omega arith
total-bracketed w true ts = omega (arith, total-append w ts (close_bracket ∷ []))

-- and weigh what two brackets do, at most
total-brackets : (w : Token → ℕ) (b : Bool) (ts : List Token) → total w (bracketed b ts) ≤ w open_bracket + (total w ts + w close_bracket)
total-brackets w false ts = omega arith
total-brackets w true ts = omega (arith, total-append w ts (close_bracket ∷ []))

-- an `or` wants brackets wherever an `and` does
total-both : (w : Token → ℕ) (t : Tree) (ts : List Token) → total w (bracketed (is_or t) ts) ≤ total w (bracketed (is_or_and t) ts)
total-both w all_rows ts = omega arith
total-both w (negation p) ts = omega arith
total-both w (both p q) ts = omega (arith, total-append w ts (close_bracket ∷ []))
total-both w (either p q) ts = omega arith
total-both w (compared c o l) ts = omega arith
total-both w (among c ls) ts = omega arith

-- the name of a column
abbrev column_name : List Column → ℕ → List ℕ
column_name columns c = unwrap_or (name_at columns c) []

-- a name that has a place is that of the column there
named : (columns : List Column) (n : List ℕ) (c : ℕ) → place_of n columns ≡ Some c → n ≡ column_name columns c
named columns n c h =
    let none : Column = record { name = []; role = Text } in
    let found = position-Some (has_name n) columns c none h in
    let inside : c < length columns = found.0 in
    let same : n ≡ (get_or columns c none).name = (bytes_eq-Decides n (get_or columns c none).name).0 found.1 in
    same ∙ ap (λ (o : Option Column). unwrap_or (option_map (λ x. x.name) o) []) (sym (slice_get-get_or columns c none inside))

module _ (columns : List Column) where
  -- ---- more may be open

  mutual
    -- what is written with so many open is written with one more
    raise_all : (room : ℕ) (ts : List Token) (t : Tree) → Disjunction columns room ts t → Disjunction columns (suc room) ts t
    raise_all room ts t (conj c) = conj (raise_conj room ts t c)
    raise_all room ts t (or_conj {ts = xs} {us = ys} {p = p} {q = q} d c) = or_conj (raise_all room xs p d) (raise_conj room ys q c)

    raise_conj : (room : ℕ) (ts : List Token) (t : Tree) → Conjunction columns room ts t → Conjunction columns (suc room) ts t
    raise_conj room ts t (unit u) = unit (raise_unit room ts t u)
    raise_conj room ts t (and_unit {ts = xs} {us = ys} {p = p} {q = q} c u) = and_unit (raise_conj room xs p c) (raise_unit room ys q u)

    raise_unit : (room : ℕ) (ts : List Token) (t : Tree) → Operand columns room ts t → Operand columns (suc room) ts t
    raise_unit room ts t all = all
    raise_unit room ts t (not_unit {room = less} {ts = xs} {p = p} u) = not_unit (raise_unit less xs p u)
    raise_unit room ts t (in_brackets {room = less} {ts = xs} d) = in_brackets (raise_all less xs t d)
    raise_unit room ts t (compare place takes of_role) = compare place takes of_role
    raise_unit room ts t (one_of place of_role) = one_of place of_role

  -- ---- what isn't an `or`, and what is neither

  -- what isn't an `or` is a conjunction
  no_or : (room : ℕ) (ts : List Token) (t : Tree) → is_or t ≡ false → Disjunction columns room ts t → Conjunction columns room ts t
  no_or room ts t plain (conj c) = c
  no_or room ts t plain (or_conj d c) = absurd (false≢true (sym plain))

  -- what is neither is an operand
  no_and : (room : ℕ) (ts : List Token) (t : Tree) → is_or_and t ≡ false → Conjunction columns room ts t → Operand columns room ts t
  no_and room ts t plain (unit u) = u
  no_and room ts t plain (and_unit c u) = absurd (false≢true (sym plain))

  -- what stands in brackets where it has to, if one more may be open
  in_or : (room : ℕ) (ts : List Token) (t : Tree) → Disjunction columns room ts t → Conjunction columns (suc room) (bracketed (is_or t) ts) t
  in_or room ts t d = go (is_or t) refl
    where
      go : (b : Bool) → is_or t ≡ b → Conjunction columns (suc room) (bracketed b ts) t
      go true is = unit (in_brackets d)
      go false is = raise_conj room ts t (no_or room ts t is d)

  -- what is neither isn't an `or`
  less_or : (t : Tree) → is_or_and t ≡ false → is_or t ≡ false
  less_or all_rows is = refl
  less_or (negation p) is = refl
  less_or (both p q) is = refl
  less_or (either p q) is = is
  less_or (compared c o l) is = refl
  less_or (among c ls) is = refl

  -- the same within an `and` or a `not`
  in_and : (room : ℕ) (ts : List Token) (t : Tree) → Disjunction columns room ts t → Operand columns (suc room) (bracketed (is_or_and t) ts) t
  in_and room ts t d = go (is_or_and t) refl
    where
      go : (b : Bool) → is_or_and t ≡ b → Operand columns (suc room) (bracketed b ts) t
      go true is = in_brackets d
      go false is = raise_unit room ts t (no_and room ts t is (no_or room ts t (less_or t is) d))

  module _ (w : Token → ℕ) where
    -- ---- no tokens of the tree are lighter, by where it stands

    -- by itself
    pub record LeastAlone (room : ℕ) (us : List Token) (t : Tree) : Type 0 where
      pub writes : Disjunction columns room (print_tokens columns t) t
      pub light : total w (print_tokens columns t) ≤ total w us

    -- as a part of an `or`
    record LeastInOr (room : ℕ) (us : List Token) (t : Tree) : Type 0 where
      alone : Disjunction columns room (print_tokens columns t) t
      writes : Conjunction columns room (bracketed (is_or t) (print_tokens columns t)) t
      light : total w (bracketed (is_or t) (print_tokens columns t)) ≤ total w us

    -- as a part of an `and`, or under a `not`
    record LeastInAnd (room : ℕ) (us : List Token) (t : Tree) : Type 0 where
      alone : Disjunction columns room (print_tokens columns t) t
      in_or_writes : Conjunction columns room (bracketed (is_or t) (print_tokens columns t)) t
      writes : Operand columns room (bracketed (is_or_and t) (print_tokens columns t)) t
      light : total w (bracketed (is_or_and t) (print_tokens columns t)) ≤ total w us

    -- a comparison
    least_compare : (room : ℕ) (n : List ℕ) (c : ℕ) (o : Op) (l : Literal) → place_of n columns ≡ Some c → has_operator (role_at columns c) o ≡ true →
        is_of_role (role_at columns c) l ≡ true → LeastInAnd room (name n ∷ operator o ∷ value l ∷ []) (compared c o l)
    least_compare room n c o l place takes of_role =
        let name_is : n ≡ column_name columns c = named columns n c place in
        let found : place_of (column_name columns c) columns ≡ Some c = ap (λ m. place_of m columns) (sym name_is) ∙ place in
        let way : Operand columns room (name (column_name columns c) ∷ operator o ∷ value l ∷ []) (compared c o l) = compare found takes of_role in
        record { alone = conj (unit way); in_or_writes = unit way; writes = way; light = omega (arith, ap (λ m. w (name m)) name_is) }

    -- a list
    least_one_of : (room : ℕ) (n : List ℕ) (c : ℕ) (l : Literal) (ls : List Literal) → place_of n columns ≡ Some c →
        list_all (is_of_role (role_at columns c)) (l ∷ ls) ≡ true →
        LeastInAnd room (name n ∷ in_word ∷ open_bracket ∷ value l ∷ more_literals ls) (among c (l ∷ ls))
    least_one_of room n c l ls place of_role =
        let name_is : n ≡ column_name columns c = named columns n c place in
        let found : place_of (column_name columns c) columns ≡ Some c = ap (λ m. place_of m columns) (sym name_is) ∙ place in
        let way : Operand columns room (name (column_name columns c) ∷ in_word ∷ open_bracket ∷ value l ∷ more_literals ls) (among c (l ∷ ls)) =
        one_of found of_role in
        record { alone = conj (unit way); in_or_writes = unit way; writes = way; light = omega (arith, ap (λ m. w (name m)) name_is) }

    mutual
      pub least_alone : (room : ℕ) (us : List Token) (t : Tree) → Disjunction columns room us t → LeastAlone room us t
      least_alone room us t (conj c) =
          let part = least_in_or room us t c in
          record { writes = part.alone; light = omega (arith, part.light, total-bracketed w (is_or t) (print_tokens columns t)) }
      least_alone room us t (or_conj {ts = xs} {us = ys} {p = p} {q = q} d c) =
          let left = least_alone room xs p d in
          let right = least_in_or room ys q c in
          record {
            writes = or_conj left.writes right.writes;
            light =
                omega (
                  arith,
                  left.light,
                  right.light,
                  total-append w (print_tokens columns p) (or_word ∷ bracketed (is_or q) (print_tokens columns q)),
                  total-append w xs (or_word ∷ ys),
                );
          }

      least_in_or : (room : ℕ) (us : List Token) (t : Tree) → Conjunction columns room us t → LeastInOr room us t
      least_in_or room us t (unit u) =
          let part = least_in_and room us t u in
          record { alone = part.alone; writes = part.in_or_writes; light = omega (arith, part.light, total-both w t (print_tokens columns t)) }
      least_in_or room us t (and_unit {ts = xs} {us = ys} {p = p} {q = q} c u) =
          let left = least_in_or room xs p c in
          let right = least_in_and room ys q u in
          let way = and_unit left.writes right.writes in
          record {
            alone = conj way;
            writes = way;
            light =
                omega (
                  arith,
                  left.light,
                  right.light,
                  total-append w (bracketed (is_or p) (print_tokens columns p))
                      (and_word ∷ bracketed (is_or_and q) (print_tokens columns q)),
                  total-append w xs (and_word ∷ ys),
                );
          }

      least_in_and : (room : ℕ) (us : List Token) (t : Tree) → Operand columns room us t → LeastInAnd room us t
      least_in_and room us t all = record { alone = conj (unit all); in_or_writes = unit all; writes = all; light = omega arith }
      least_in_and room us t (not_unit {room = less} {ts = xs} {p = p} u) =
          let part = least_in_and less xs p u in
          let way = not_unit part.writes in
          record { alone = conj (unit way); in_or_writes = unit way; writes = way; light = omega (arith, part.light) }
      least_in_and room us t (in_brackets {room = less} {ts = xs} d) =
          let part = least_alone less xs t d in
          record {
            alone = raise_all less (print_tokens columns t) t part.writes;
            in_or_writes = in_or less (print_tokens columns t) t part.writes;
            writes = in_and less (print_tokens columns t) t part.writes;
            light = omega (arith, part.light, total-brackets w (is_or_and t) (print_tokens columns t), total-append w xs (close_bracket ∷ []));
          }
      least_in_and room us t (compare {c = c} {n = n} {o = o} {l = l} place takes of_role) = least_compare room n c o l place takes of_role
      least_in_and room us t (one_of {c = c} {n = n} {l = l} {ls = ls} place of_role) = least_one_of room n c l ls place of_role
