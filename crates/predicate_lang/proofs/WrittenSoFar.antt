-- What the machine has run through is written so far: the tokens before what is open, and those of each part that waits.
use Rattle.std.proofs.Common.{◌≡◌, ℕ, zero, suc, ◌+◌, Bool, true, false, cond, List, [], ◌∷◌, ◌++◌, length, Option, Some, None, refl, sym, ap, ◌∙◌, arith, append_assoc, subst}
use Rattle.std.specs.List.{list_all}
use Rattle.std.proofs.lemmas.Bool.{false≢true, ltb-true, and_parts, and_from}
use Rattle.std.proofs.lemmas.List.{append-nil}
use Rattle.schema_json.specs.Columns.{Column, place_of, role_at}
use Rattle.predicate_lang.specs.Trees.{Tree, all_rows, negation, compared, among, is_of_role, has_operator, has_literals}
use Rattle.predicate_lang.specs.Tokens.{Token, and_word, or_word, not_word, all_word, in_word, name, value, operator, open_bracket, close_bracket, comma}
use Rattle.predicate_lang.specs.Grammar.{Disjunction, Conjunction, Operand, conj, or_conj, unit, and_unit, all, not_unit, in_brackets, compare, one_of, more_literals, most_depth, Writes}
use Rattle.predicate_lang.specs.Lexing.{seen}
use Rattle.predicate_lang.specs.Machine.{Frame, a_not, a_bracket, Stand, at_operand, at_name, at_operator, at_in, at_comma, at_literal, behind, Build, build, start, add_and, add_or, is_under_not, negated, whole, has_room, public_role, put, may_stand, may_put, run, tree_at}
use Rattle.predicate_lang.specs.declared.trees.Op.{Op}
use Rattle.predicate_lang.specs.declared.trees.Literal.{Literal}
use Rattle.predicate_lang.specs.declared.tokens.Token.TheVariants.{Column as ColumnToken}
use Rattle.predicate_lang.proofs.Frames.{without_nots_bracket, negated_bracket}
use Rattle.predicate_lang.proofs.PredicatesRunThrough.{run-none}

-- ---- before an operand

-- these tokens leave this open, and these parts of the innermost `or` and `and`, if so many more may be opened
pub data Before (columns : List Column) : ℕ → List Token → List Frame → Option Tree → Option Tree → Type 0 where
  begin : Before columns most_depth [] [] None None
  after_or : {room : ℕ} {ts us : List Token} {fs : List Frame} {d : Tree} → is_under_not fs ≡ false → Before columns room ts fs None None →
      Disjunction columns room us d → Before columns room (ts ++ (us ++ or_word ∷ [])) fs (Some d) None
  after_and : {room : ℕ} {ts us : List Token} {fs : List Frame} {ors : Option Tree} {c : Tree} → is_under_not fs ≡ false → Before columns room ts fs ors None →
      Conjunction columns room us c → Before columns room (ts ++ (us ++ and_word ∷ [])) fs ors (Some c)
  after_not : {room : ℕ} {ts : List Token} {fs : List Frame} {ors ands : Option Tree} → Before columns (suc room) ts fs ors ands →
      Before columns room (ts ++ not_word ∷ []) (a_not ∷ fs) ors ands
  after_bracket : {room : ℕ} {ts : List Token} {fs : List Frame} {ors ands : Option Tree} → Before columns (suc room) ts fs ors ands →
      Before columns room (ts ++ open_bracket ∷ []) (a_bracket ors ands ∷ fs) None None

-- ---- after it, or after a part of it

-- the part begins with the name of a public column
pub record Named (columns : List Column) (c : ℕ) (part rest : List Token) : Type 0 where
  pub word : List ℕ
  pub place : place_of word columns ≡ Some c
  pub public : public_role (role_at columns c) ≡ true
  pub split : part ≡ name word ∷ rest

-- the tokens of a list of literals
abbrev pub literals : List Literal → List Token
literals [] = close_bracket ∷ []
literals (l ∷ ls) = value l ∷ more_literals ls

-- the part is a list up to a literal that is to come, or up to a comma or the bracket that closes it
pub record Listed (columns : List Column) (c : ℕ) (part : List Token) (ls : List Literal) (ends : List Token → List Literal → Type 0) : Type 0 where
  pub list : List Token
  pub named : Named columns c part (in_word ∷ open_bracket ∷ list)
  pub of_role : list_all (is_of_role (role_at columns c)) ls ≡ true
  pub goes_on : ends list ls

-- with any literal more the list goes on
abbrev pub BeforeLiteral : List Token → List Literal → Type 0
BeforeLiteral list ls = (l : Literal) (more : List Literal) → list ++ value l ∷ more_literals more ≡ literals (ls ++ l ∷ more)

-- it has a literal, and goes on with any more of them, or with none
abbrev pub BehindLiteral : List Token → List Literal → Type 0
BehindLiteral list ls = (has_literals ls ≡ true) × ((more : List Literal) → list ++ more_literals more ≡ literals (ls ++ more))

-- these tokens of an operand, or of a conjunction, lead to this place
abbrev pub IsPart : List Column → ℕ → List Frame → Option Tree → List Token → Stand → Type 0
IsPart columns room fs ands part at_operand = part ≡ []
IsPart columns room fs ands part (at_name c) = Named columns c part []
IsPart columns room fs ands part (at_operator c o) = Named columns c part (operator o ∷ []) × (has_operator (role_at columns c) o ≡ true)
IsPart columns room fs ands part (at_in c) = Named columns c part (in_word ∷ [])
IsPart columns room fs ands part (at_comma c ls) = Listed columns c part ls BeforeLiteral
IsPart columns room fs ands part (at_literal c ls) = Listed columns c part ls BehindLiteral
IsPart columns room fs ands part (behind p) = (is_under_not fs ≡ false) × (ands ≡ None) × Conjunction columns room part p

-- the tokens are written up to where the machine stands
pub record Written (columns : List Column) (ts : List Token) (b : Build) : Type 0 where
  pub room : ℕ
  pub front : List Token
  pub part : List Token
  pub split : ts ≡ front ++ part
  pub before : Before columns room front b.frames b.ors b.ands
  pub stands : IsPart columns room b.frames b.ands part b.stand

-- a test that one literal more passes
all_push : (f : Literal → Bool) (ls : List Literal) (l : Literal) → list_all f ls ≡ true → f l ≡ true → list_all f (ls ++ l ∷ []) ≡ true
all_push f [] l h is = and_from (f l) true is refl
all_push f (k ∷ ls) l h is = let tests = and_parts (f k) (list_all f ls) h in and_from (f k) (list_all f (ls ++ l ∷ [])) tests.0 (all_push f ls l tests.1 is)

-- a list with one literal more has one
has_push : (ls : List Literal) (l : Literal) → has_literals (ls ++ l ∷ []) ≡ true
has_push [] l = refl
has_push (k ∷ ls) l = refl

module _ (columns : List Column) where
  -- what is open and what may yet be is 64
  rooms : (room : ℕ) (ts : List Token) (fs : List Frame) (ors ands : Option Tree) → Before columns room ts fs ors ands → room + length fs ≡ 64
  rooms room ts fs ors ands begin = refl
  rooms room ts fs ors ands (after_or {ts = xs} plain b d) = rooms room xs fs None None b
  rooms room ts fs ors ands (after_and {ts = xs} {ors = o} plain b c) = rooms room xs fs o None b
  rooms room ts fs ors ands (after_not {ts = xs} {fs = gs} b) = omega (arith, rooms (suc room) xs gs ors ands b)
  rooms room ts fs ors ands (after_bracket {ts = xs} {fs = gs} {ors = o} {ands = a} b) = omega (arith, rooms (suc room) xs gs o a b)

  -- the same tokens, said otherwise
  along : (ts us : List Token) (b : Build) → ts ≡ us → Written columns us b → Written columns ts b
  along ts us b is w = record { room = w.room; front = w.front; part = w.part; split = is ∙ w.split; before = w.before; stands = w.stands }

  -- ---- after a whole operand

  -- if no `not` waits for the operand
  plain_whole : (room : ℕ) (us vs : List Token) (fs : List Frame) (ors ands : Option Tree) (p : Tree) → is_under_not fs ≡ false →
      Before columns room us fs ors None → Conjunction columns room vs (add_and ands p) → Written columns (us ++ vs) (whole fs ors ands p)
  plain_whole room us vs fs ors ands p plain before c =
      subst (Written columns (us ++ vs))
      (sym (ap (λ gs. build gs ors None (behind (add_and ands (negated fs p)))) (without_nots_bracket fs plain)
      ∙ ap (λ u. build fs ors None (behind (add_and ands u))) (negated_bracket fs p plain)))
      (record { room = room; front = us; part = vs; split = refl; before = before; stands = (plain, refl, c) })

  -- an operand more is written, under each `not` that waits for it
  pub whole_written : (room : ℕ) (us vs : List Token) (fs : List Frame) (ors ands : Option Tree) (p : Tree) → Before columns room us fs ors ands →
      Operand columns room vs p → Written columns (us ++ vs) (whole fs ors ands p)
  whole_written room us vs fs ors ands p begin u = plain_whole room us vs [] None None p refl begin (unit u)
  whole_written room us vs fs ors ands p (after_or {d = d} plain b way) u = plain_whole room us vs fs (Some d) None p plain (after_or plain b way) (unit u)
  whole_written room us vs fs ors ands p (after_and {ts = ws} {us = xs} {ors = o} {c = c} plain b way) u =
      along (us ++ vs) (ws ++ (xs ++ and_word ∷ vs)) (whole fs o (Some c) p)
      (append_assoc ws (xs ++ and_word ∷ []) vs ∙ ap (λ ys. ws ++ ys) (append_assoc xs (and_word ∷ []) vs))
      (plain_whole room ws (xs ++ and_word ∷ vs) fs o (Some c) p plain b (and_unit way u))
  whole_written room us vs fs ors ands p (after_not {ts = ws} {fs = gs} b) u =
      along (us ++ vs) (ws ++ not_word ∷ vs) (whole gs ors ands (negation p)) (append_assoc ws (not_word ∷ []) vs)
      (whole_written (suc room) ws (not_word ∷ vs) gs ors ands (negation p) b (not_unit u))
  whole_written room us vs fs ors ands p (after_bracket {fs = gs} {ors = o} {ands = a} b) u =
      plain_whole room us vs (a_bracket o a ∷ gs) None None p refl (after_bracket b) (unit u)

  -- ---- after a bracket

  -- the tokens before an open bracket, and after it
  record Inner (room : ℕ) (us : List Token) (fs : List Frame) (ors ands : Option Tree) : Type 0 where
    ts : List Token
    split : us ≡ ts ++ open_bracket ∷ []
    before : Before columns (suc room) ts fs ors ands

  -- nothing else stands right after it
  inner : (room : ℕ) (us : List Token) (fs : List Frame) (o a : Option Tree) → Before columns room us (a_bracket o a ∷ fs) None None → Inner room us fs o a
  inner room us fs o a (after_bracket {ts = ws} b) = record { ts = ws; split = refl; before = b }

  -- the `or` part that waits, with one conjunction more
  record Joined (room : ℕ) (us vs : List Token) (fs : List Frame) (t : Tree) : Type 0 where
    ts : List Token
    all : List Token
    split : us ++ vs ≡ ts ++ all
    before : Before columns room ts fs None None
    way : Disjunction columns room all t

  -- a disjunction ends with it
  joined : (room : ℕ) (us vs : List Token) (fs : List Frame) (ors : Option Tree) (p : Tree) → is_under_not fs ≡ false → Before columns room us fs ors None →
      Conjunction columns room vs p → Joined room us vs fs (add_or ors p)
  joined room us vs fs None p bare before c = record { ts = us; all = vs; split = refl; before = before; way = conj c }
  joined room us vs fs (Some d) p bare (after_or {ts = ws} {us = xs} plain b way) c =
      record {
        ts = ws;
        all = xs ++ or_word ∷ vs;
        split = append_assoc ws (xs ++ or_word ∷ []) vs ∙ ap (λ ys. ws ++ ys) (append_assoc xs (or_word ∷ []) vs);
        before = b;
        way = or_conj way c;
      }
  joined room us vs fs (Some d) p bare (after_not b) c = absurd (false≢true (sym bare))

  -- the bracket with all in it is an operand
  pub closed_written : (room : ℕ) (us vs : List Token) (fs : List Frame) (o a ors : Option Tree) (p : Tree) →
      Before columns room us (a_bracket o a ∷ fs) ors None → Conjunction columns room vs p →
      Written columns ((us ++ vs) ++ close_bracket ∷ []) (whole fs o a (add_or ors p))
  closed_written room us vs fs o a ors p before c =
      let j = joined room us vs (a_bracket o a ∷ fs) ors p refl before c in
      let i = inner room j.ts fs o a j.before in
      along ((us ++ vs) ++ close_bracket ∷ []) (i.ts ++ open_bracket ∷ (j.all ++ close_bracket ∷ [])) (whole fs o a (add_or ors p))
      (ap (λ xs. xs ++ close_bracket ∷ []) (j.split ∙ ap (λ xs. xs ++ j.all) i.split ∙ append_assoc i.ts (open_bracket ∷ []) j.all)
      ∙ append_assoc i.ts (open_bracket ∷ j.all) (close_bracket ∷ []))
      (whole_written (suc room) i.ts (open_bracket ∷ (j.all ++ close_bracket ∷ [])) fs o a (add_or ors p) i.before (in_brackets j.way))

  -- ---- with one token more

  -- a token more after the part
  more_tokens : (ts front part : List Token) (t : Token) → ts ≡ front ++ part → ts ++ t ∷ [] ≡ front ++ (part ++ t ∷ [])
  more_tokens ts front part t split = ap (λ xs. xs ++ t ∷ []) split ∙ append_assoc front part (t ∷ [])

  -- a token more after a name
  more_named : (c : ℕ) (part rest : List Token) (t : Token) → Named columns c part rest → Named columns c (part ++ t ∷ []) (rest ++ t ∷ [])
  more_named c part rest t n = record { word = n.word; place = n.place; public = n.public; split = ap (λ xs. xs ++ t ∷ []) n.split }

  -- if one more may be open
  opened_not : (room : ℕ) (ts : List Token) (fs : List Frame) (ors ands : Option Tree) → Before columns room ts fs ors ands → has_room fs ≡ true →
      Written columns (ts ++ not_word ∷ []) (build (a_not ∷ fs) ors ands at_operand)
  opened_not zero ts fs ors ands before may = let low = ltb-true (length fs) 64 may in absurd (omega (arith, rooms zero ts fs ors ands before, low))
  opened_not (suc room) ts fs ors ands before may =
      record { room = room; front = ts ++ not_word ∷ []; part = []; split = sym (append-nil (ts ++ not_word ∷ [])); before = after_not before; stands = refl }

  -- the same of a bracket
  opened_bracket : (room : ℕ) (ts : List Token) (fs : List Frame) (ors ands : Option Tree) → Before columns room ts fs ors ands → has_room fs ≡ true →
      Written columns (ts ++ open_bracket ∷ []) (build (a_bracket ors ands ∷ fs) None None at_operand)
  opened_bracket zero ts fs ors ands before may = let low = ltb-true (length fs) 64 may in absurd (omega (arith, rooms zero ts fs ors ands before, low))
  opened_bracket (suc room) ts fs ors ands before may =
      record {
        room = room;
        front = ts ++ open_bracket ∷ [];
        part = [];
        split = sym (append-nil (ts ++ open_bracket ∷ []));
        before = after_bracket before;
        stands = refl;
      }

  -- before an operand all tokens stand in front of it
  no_part : (ts : List Token) (b : Build) (w : Written columns ts b) → w.part ≡ [] → ts ≡ w.front
  no_part ts b w none = w.split ∙ ap (λ xs. w.front ++ xs) none ∙ append-nil w.front

  -- the name of a public column
  named_written : (ts : List Token) (fs : List Frame) (ors ands : Option Tree) (n : List ℕ) (place : Option ℕ) → place_of n columns ≡ place
      → Written columns ts (build fs ors ands at_operand) → may_stand columns fs at_operand (ColumnToken place) ≡ true
      → Written columns (ts ++ name n ∷ []) (put (build fs ors ands at_operand) (ColumnToken place))
  named_written ts fs ors ands n None is w may = absurd (false≢true may)
  named_written ts fs ors ands n (Some c) is w may =
      record {
        room = w.room;
        front = w.front;
        part = name n ∷ [];
        split = ap (λ xs. xs ++ name n ∷ []) (no_part ts (build fs ors ands at_operand) w w.stands);
        before = w.before;
        stands = record { word = n; place = is; public = may; split = refl };
      }

  -- the operand that a part and one token more are
  compared_written : (ts : List Token) (fs : List Frame) (ors ands : Option Tree) (c : ℕ) (o : Op) (l : Literal) →
      Written columns ts (build fs ors ands (at_operator c o)) → is_of_role (role_at columns c) l ≡ true →
      Written columns (ts ++ value l ∷ []) (whole fs ors ands (compared c o l))
  compared_written ts fs ors ands c o l w of_role =
      let n = w.stands.0 in
      let spelled : w.part ++ value l ∷ [] ≡ name n.word ∷ operator o ∷ value l ∷ [] = ap (λ xs. xs ++ value l ∷ []) n.split in
      along (ts ++ value l ∷ []) (w.front ++ (name n.word ∷ operator o ∷ value l ∷ [])) (whole fs ors ands (compared c o l))
      (more_tokens ts w.front w.part (value l) w.split ∙ ap (λ xs. w.front ++ xs) spelled)
      (whole_written w.room w.front (name n.word ∷ operator o ∷ value l ∷ []) fs ors ands (compared c o l) w.before (compare n.place w.stands.1 of_role))

  -- a list that is not empty is an operand
  listed_operand : (room c : ℕ) (n : List ℕ) (ls : List Literal) → place_of n columns ≡ Some c → has_literals ls ≡ true →
      list_all (is_of_role (role_at columns c)) ls ≡ true → Operand columns room (name n ∷ in_word ∷ open_bracket ∷ literals ls) (among c ls)
  listed_operand room c n [] place some of_role = absurd (false≢true some)
  listed_operand room c n (l ∷ ls) place some of_role = one_of place of_role

  -- so is a list, with the bracket that closes it
  listed_written : (ts : List Token) (fs : List Frame) (ors ands : Option Tree) (c : ℕ) (ls : List Literal) →
      Written columns ts (build fs ors ands (at_literal c ls)) → Written columns (ts ++ close_bracket ∷ []) (whole fs ors ands (among c ls))
  listed_written ts fs ors ands c ls w =
      let n = w.stands.named in
      let closes = w.stands.goes_on in
      let whole_list : w.stands.list ++ close_bracket ∷ [] ≡ literals ls = closes.1 [] ∙ ap literals (append-nil ls) in
      let spelled : w.part ++ close_bracket ∷ [] ≡ name n.word ∷ in_word ∷ open_bracket ∷ literals ls = ap (λ xs. xs ++ close_bracket ∷ []) n.split
      ∙ ap (λ xs. name n.word ∷ in_word ∷ open_bracket ∷ xs) whole_list in
      along (ts ++ close_bracket ∷ []) (w.front ++ (name n.word ∷ in_word ∷ open_bracket ∷ literals ls)) (whole fs ors ands (among c ls))
      (more_tokens ts w.front w.part close_bracket w.split ∙ ap (λ xs. w.front ++ xs) spelled)
      (whole_written w.room w.front (name n.word ∷ in_word ∷ open_bracket ∷ literals ls) fs ors ands (among c ls) w.before
      (listed_operand w.room c n.word ls n.place closes.0 w.stands.of_role))

  -- a literal more
  literal_written : (ts : List Token) (fs : List Frame) (ors ands : Option Tree) (c : ℕ) (ls : List Literal) (l : Literal) →
      Written columns ts (build fs ors ands (at_comma c ls)) → is_of_role (role_at columns c) l ≡ true →
      Written columns (ts ++ value l ∷ []) (build fs ors ands (at_literal c (ls ++ l ∷ [])))
  literal_written ts fs ors ands c ls l w of_role =
      let s = w.stands in
      record {
        room = w.room;
        front = w.front;
        part = w.part ++ value l ∷ [];
        split = more_tokens ts w.front w.part (value l) w.split;
        before = w.before;
        stands = record {
          list = s.list ++ value l ∷ [];
          named = more_named c w.part (in_word ∷ open_bracket ∷ s.list) (value l) s.named;
          of_role = all_push (is_of_role (role_at columns c)) ls l s.of_role of_role;
          goes_on = (
            has_push ls l,
            λ more. append_assoc s.list (value l ∷ []) (more_literals more) ∙ s.goes_on l more
                ∙ ap literals (sym (append_assoc ls (l ∷ []) more)),
          );
        };
      }

  -- a comma after it
  comma_written : (ts : List Token) (fs : List Frame) (ors ands : Option Tree) (c : ℕ) (ls : List Literal) →
      Written columns ts (build fs ors ands (at_literal c ls)) → Written columns (ts ++ comma ∷ []) (build fs ors ands (at_comma c ls))
  comma_written ts fs ors ands c ls w =
      let s = w.stands in
      let goes = s.goes_on in
      record {
        room = w.room;
        front = w.front;
        part = w.part ++ comma ∷ [];
        split = more_tokens ts w.front w.part comma w.split;
        before = w.before;
        stands = record {
          list = s.list ++ comma ∷ [];
          named = more_named c w.part (in_word ∷ open_bracket ∷ s.list) comma s.named;
          of_role = s.of_role;
          goes_on = λ l more. append_assoc s.list (comma ∷ []) (value l ∷ more_literals more) ∙ goes.1 (l ∷ more);
        };
      }

  -- an `or` after a conjunction
  or_written : (ts : List Token) (fs : List Frame) (ors ands : Option Tree) (p : Tree) → Written columns ts (build fs ors ands (behind p)) →
      Written columns (ts ++ or_word ∷ []) (build fs (Some (add_or ors p)) None at_operand)
  or_written ts fs ors ands p w =
      let before : Before columns w.room w.front fs ors None = subst (Before columns w.room w.front fs ors) w.stands.1 w.before in
      let j = joined w.room w.front w.part fs ors p w.stands.0 before w.stands.2 in
      record {
        room = w.room;
        front = j.ts ++ (j.all ++ or_word ∷ []);
        part = [];
        split = ap (λ xs. xs ++ or_word ∷ []) (w.split ∙ j.split) ∙ append_assoc j.ts j.all (or_word ∷ []) ∙ sym (append-nil (j.ts ++ (j.all ++ or_word ∷ [])));
        before = after_or w.stands.0 j.before j.way;
        stands = refl;
      }

  -- an `and` after it
  and_written : (ts : List Token) (fs : List Frame) (ors ands : Option Tree) (p : Tree) → Written columns ts (build fs ors ands (behind p)) →
      Written columns (ts ++ and_word ∷ []) (build fs ors (Some p) at_operand)
  and_written ts fs ors ands p w =
      let before : Before columns w.room w.front fs ors None = subst (Before columns w.room w.front fs ors) w.stands.1 w.before in
      record {
        room = w.room;
        front = w.front ++ (w.part ++ and_word ∷ []);
        part = [];
        split = more_tokens ts w.front w.part and_word w.split ∙ sym (append-nil (w.front ++ (w.part ++ and_word ∷ [])));
        before = after_and w.stands.0 before w.stands.2;
        stands = refl;
      }

  -- the bracket that closes it
  pub close_written : (ts : List Token) (fs : List Frame) (o a ors ands : Option Tree) (p : Tree) →
      Written columns ts (build (a_bracket o a ∷ fs) ors ands (behind p)) → Written columns (ts ++ close_bracket ∷ []) (whole fs o a (add_or ors p))
  close_written ts fs o a ors ands p w =
      let before : Before columns w.room w.front (a_bracket o a ∷ fs) ors None =
      subst (Before columns w.room w.front (a_bracket o a ∷ fs) ors) w.stands.1 w.before in
      along (ts ++ close_bracket ∷ []) ((w.front ++ w.part) ++ close_bracket ∷ []) (whole fs o a (add_or ors p)) (ap (λ xs. xs ++ close_bracket ∷ []) w.split)
      (closed_written w.room w.front w.part fs o a ors p before w.stands.2)

  -- in front of an operand
  at_front : (ts : List Token) (fs : List Frame) (ors ands : Option Tree) (w : Written columns ts (build fs ors ands at_operand)) (t : Token) →
      ts ++ t ∷ [] ≡ w.front ++ t ∷ []
  at_front ts fs ors ands w t = ap (λ xs. xs ++ t ∷ []) (no_part ts (build fs ors ands at_operand) w w.stands)

  -- any token that may stand there
  pub put_written : (ts : List Token) (fs : List Frame) (ors ands : Option Tree) (stand : Stand) (t : Token) → Written columns ts (build fs ors ands stand) →
      may_stand columns fs stand (seen columns t) ≡ true → Written columns (ts ++ t ∷ []) (put (build fs ors ands stand) (seen columns t))
  put_written ts fs ors ands at_operand not_word w may =
      along (ts ++ not_word ∷ []) (w.front ++ not_word ∷ []) (build (a_not ∷ fs) ors ands at_operand) (at_front ts fs ors ands w not_word)
      (opened_not w.room w.front fs ors ands w.before may)
  put_written ts fs ors ands at_operand open_bracket w may =
      along (ts ++ open_bracket ∷ []) (w.front ++ open_bracket ∷ []) (build (a_bracket ors ands ∷ fs) None None at_operand)
      (at_front ts fs ors ands w open_bracket) (opened_bracket w.room w.front fs ors ands w.before may)
  put_written ts fs ors ands at_operand all_word w may =
      along (ts ++ all_word ∷ []) (w.front ++ all_word ∷ []) (whole fs ors ands all_rows) (at_front ts fs ors ands w all_word)
      (whole_written w.room w.front (all_word ∷ []) fs ors ands all_rows w.before all)
  put_written ts fs ors ands at_operand (name n) w may = named_written ts fs ors ands n (place_of n columns) refl w may
  put_written ts fs ors ands (at_name c) in_word w may =
      record {
        room = w.room;
        front = w.front;
        part = w.part ++ in_word ∷ [];
        split = more_tokens ts w.front w.part in_word w.split;
        before = w.before;
        stands = more_named c w.part [] in_word w.stands;
      }
  put_written ts fs ors ands (at_name c) (operator o) w may =
      record {
        room = w.room;
        front = w.front;
        part = w.part ++ operator o ∷ [];
        split = more_tokens ts w.front w.part (operator o) w.split;
        before = w.before;
        stands = (more_named c w.part [] (operator o) w.stands, may);
      }
  put_written ts fs ors ands (at_operator c o) (value l) w may = compared_written ts fs ors ands c o l w may
  put_written ts fs ors ands (at_in c) open_bracket w may =
      record {
        room = w.room;
        front = w.front;
        part = w.part ++ open_bracket ∷ [];
        split = more_tokens ts w.front w.part open_bracket w.split;
        before = w.before;
        stands = record { list = []; named = more_named c w.part (in_word ∷ []) open_bracket w.stands; of_role = refl; goes_on = λ l more. refl };
      }
  put_written ts fs ors ands (at_comma c ls) (value l) w may = literal_written ts fs ors ands c ls l w may
  put_written ts fs ors ands (at_literal c ls) comma w may = comma_written ts fs ors ands c ls w
  put_written ts fs ors ands (at_literal c ls) close_bracket w may = listed_written ts fs ors ands c ls w
  put_written ts fs ors ands (behind p) and_word w may = and_written ts fs ors ands p w
  put_written ts fs ors ands (behind p) or_word w may = or_written ts fs ors ands p w
  put_written ts (a_bracket o a ∷ fs) ors ands (behind p) close_bracket w may = close_written ts fs o a ors ands p w
  put_written ts (a_not ∷ fs) ors ands (behind p) close_bracket w may = absurd (false≢true may)
  put_written ts [] ors ands (behind p) close_bracket w may = absurd (false≢true may)
  put_written ts fs ors ands stand t w may = absurd (false≢true may)

  -- ---- a whole run

  -- before the first token
  start_written : Written columns [] start
  start_written = record { room = most_depth; front = []; part = []; split = refl; before = begin; stands = refl }

  -- what was written, and the tokens that are run through then
  run_written : (done ts : List Token) (b c : Build) → Written columns done b → run columns ts (Some b) ≡ Some c → Written columns (done ++ ts) c
  run_written done [] b c w is =
      let same : b ≡ c = cc in
      subst (Written columns (done ++ [])) same (along (done ++ []) done b (append-nil done) w)
  run_written done (t ∷ ts) b c w is =
      go (may_put columns b (seen columns t)) refl is (λ more goes. run_written (done ++ t ∷ []) ts (put b (seen columns t)) c more goes)
    where
      go : (may : Bool) → may_put columns b (seen columns t) ≡ may → run columns ts (cond may (Some (put b (seen columns t))) None) ≡ Some c
          → (Written columns (done ++ t ∷ []) (put b (seen columns t)) → run columns ts (Some (put b (seen columns t))) ≡ Some c →
          Written columns ((done ++ t ∷ []) ++ ts) c) → Written columns (done ++ t ∷ ts) c
      go true may e rest =
          along (done ++ t ∷ ts) ((done ++ t ∷ []) ++ ts) c (sym (append_assoc done (t ∷ []) ts))
          (rest (put_written done b.frames b.ors b.ands b.stand t w may) e)
      go false may e rest = absurd (let none : None ≡ Some c = sym (run-none columns ts) ∙ e in cc)

  -- the tokens that were run through are written
  pub so_far : (tokens : List Token) (b : Build) → run columns tokens (Some start) ≡ Some b → Written columns tokens b
  so_far tokens b is = run_written [] tokens start b start_written is

  -- ---- at the end

  -- if nothing is open, and no `or` waits
  record AtBegin (room : ℕ) (us : List Token) : Type 0 where
    all_room : room ≡ most_depth
    none : us ≡ []

  -- only the begin is such a place
  at_begin : (room : ℕ) (us : List Token) → Before columns room us [] None None → AtBegin room us
  at_begin room us begin = record { all_room = refl; none = refl }

  -- a tree that there is is written
  pub built_written : (ts : List Token) (fs : List Frame) (ors ands : Option Tree) (stand : Stand) (t : Tree) → Written columns ts (build fs ors ands stand) →
      tree_at fs ors stand ≡ Some t → Writes columns ts t
  built_written ts [] ors ands (behind p) t w is =
      let before : Before columns w.room w.front [] ors None = subst (Before columns w.room w.front [] ors) w.stands.1 w.before in
      let j = joined w.room w.front w.part [] ors p refl before w.stands.2 in
      let first = at_begin w.room j.ts j.before in
      let same : add_or ors p ≡ t = cc in
      let spelled : ts ≡ j.all = w.split ∙ j.split ∙ ap (λ xs. xs ++ j.all) first.none in
      subst (Writes columns ts) same
      (subst (λ (r : ℕ). Disjunction columns r ts (add_or ors p)) first.all_room
      (subst (λ (xs : List Token). Disjunction columns w.room xs (add_or ors p)) (sym spelled) j.way))
  built_written ts fs ors ands stand t w is = absurd cc
