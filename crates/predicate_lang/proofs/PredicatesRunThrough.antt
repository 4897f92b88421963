-- The machine runs through every predicate, and builds its tree.
use Rattle.std.proofs.Common.{◌≡◌, ℕ, ◌+◌, ◌<◌, ◌≤◌, true, false, cond, List, [], ◌∷◌, ◌++◌, length, Option, Some, None, refl, sym, ap, ◌∙◌, arith, append_assoc}
use Rattle.std.specs.Prelude.{is_some, unwrap_or}
use Rattle.std.specs.List.{list_all}
use Rattle.std.proofs.lemmas.Bool.{lt-ltb, and_parts}
use Rattle.std.proofs.lemmas.List.{append-nil}
use Rattle.schema_json.specs.Columns.{Column, role_at}
use Rattle.schema_json.specs.declared.roles.Role.{Role}
use Rattle.schema_json.specs.declared.roles.Role.TheVariants as role
use Rattle.predicate_lang.specs.Trees.{Tree, compared, among, is_of_role, has_operator}
use Rattle.predicate_lang.specs.Tokens.{Token, lexed, and_word, or_word, in_word, value, operator, open_bracket, close_bracket}
use Rattle.predicate_lang.specs.Grammar.{Disjunction, Conjunction, Operand, conj, or_conj, unit, and_unit, all, not_unit, in_brackets, compare, one_of, more_literals, most_depth, Writes, IsPredicate, BeginPredicate}
use Rattle.predicate_lang.specs.Places.{Means, tokens_of}
use Rattle.predicate_lang.specs.Machine.{Frame, a_not, a_bracket, at_operand, at_name, at_operator, at_literal, behind, Build, build, start, add_and, add_or, is_under_not, negated, whole, has_room, public_role, step, run, built, is_complete}
use Rattle.predicate_lang.specs.declared.trees.Op.{Op}
use Rattle.predicate_lang.specs.declared.trees.Literal.{Literal}
use Rattle.predicate_lang.specs.declared.tokens.Token.TheVariants.{Column as ColumnToken}
use Rattle.predicate_lang.proofs.Frames.{without_nots_bracket, negated_bracket}

-- what is stopped stays so
pub run-none : (columns : List Column) (ts : List Token) → run columns ts None ≡ None
run-none columns [] = refl
run-none columns (t ∷ ts) = refl

-- some tokens, and then others
pub run-append : (columns : List Column) (a b : List Token) (s : Option Build) → run columns (a ++ b) s ≡ run columns b (run columns a s)
run-append columns [] b s = refl
run-append columns (t ∷ a) b None = sym (run-none columns b)
run-append columns (t ∷ a) b (Some s) = run-append columns a b (run columns (t ∷ []) (Some s))

-- a column whose role takes a literal is public
role_public : (r : Option Role) (l : Literal) → is_of_role r l ≡ true → public_role r ≡ true
role_public (Some role.Number) l h = refl
role_public (Some role.Text) l h = refl
role_public (Some role.Count) l h = h
role_public (Some role.Sum) l h = h
role_public (Some role.Max) l h = h
role_public (Some role.Min) l h = h
role_public None l h = h

-- after a whole operand if no `not` waits for it
plain_whole : (fs : List Frame) (ors ands : Option Tree) (t : Tree) → is_under_not fs ≡ false →
    whole fs ors ands t ≡ build fs ors None (behind (add_and ands t))
plain_whole fs ors ands t plain =
    ap (λ gs. build gs ors None (behind (add_and ands (negated fs t)))) (without_nots_bracket fs plain)
    ∙ ap (λ u. build fs ors None (behind (add_and ands u))) (negated_bracket fs t plain)

module _ (columns : List Column) where
  -- after a whole disjunction
  record Behind (fs : List Frame) (t : Tree) (s : Option Build) : Type 0 where
    ors : Option Tree
    last : Tree
    is : s ≡ Some (build fs ors None (behind last))
    adds : add_or ors last ≡ t

  -- a comparison after the name of a column
  runs_compare : (fs : List Frame) (ors ands : Option Tree) (c : ℕ) (o : Op) (l : Literal) → has_operator (role_at columns c) o ≡ true
      → is_of_role (role_at columns c) l ≡ true
      → run columns (operator o ∷ value l ∷ []) (step columns (build fs ors ands at_operand) (ColumnToken (Some c))) ≡ Some (whole fs ors ands (compared c o l))
  runs_compare fs ors ands c o l takes of_role =
      ap (λ b. run columns (operator o ∷ value l ∷ []) (cond b (Some (build fs ors ands (at_name c))) None)) (role_public (role_at columns c) l of_role)
      ∙ ap (λ b. run columns (value l ∷ []) (cond b (Some (build fs ors ands (at_operator c o))) None)) takes
      ∙ ap (λ b. cond b (Some (whole fs ors ands (compared c o l))) None) of_role

  -- the rest of a list
  runs_more : (fs : List Frame) (ors ands : Option Tree) (c : ℕ) (done ls : List Literal) → list_all (is_of_role (role_at columns c)) ls ≡ true
      → run columns (more_literals ls) (Some (build fs ors ands (at_literal c done))) ≡ Some (whole fs ors ands (among c (done ++ ls)))
  runs_more fs ors ands c done [] of_role = ap (λ xs. Some (whole fs ors ands (among c xs))) (sym (append-nil done))
  runs_more fs ors ands c done (l ∷ ls) of_role =
      let tests = and_parts (is_of_role (role_at columns c) l) (list_all (is_of_role (role_at columns c)) ls) of_role in
      ap (λ b. run columns (more_literals ls) (cond b (Some (build fs ors ands (at_literal c (done ++ l ∷ [])))) None)) tests.0
      ∙ runs_more fs ors ands c (done ++ l ∷ []) ls tests.1
      ∙ ap (λ xs. Some (whole fs ors ands (among c xs))) (append_assoc done (l ∷ []) ls)

  -- a list after the name of a column
  runs_one_of : (fs : List Frame) (ors ands : Option Tree) (c : ℕ) (l : Literal) (ls : List Literal) → list_all (is_of_role (role_at columns c)) (l ∷ ls) ≡ true
      → run columns (in_word ∷ open_bracket ∷ value l ∷ more_literals ls) (step columns (build fs ors ands at_operand) (ColumnToken (Some c))) ≡ Some
      (whole fs ors ands (among c (l ∷ ls)))
  runs_one_of fs ors ands c l ls of_role =
      let tests = and_parts (is_of_role (role_at columns c) l) (list_all (is_of_role (role_at columns c)) ls) of_role in
      ap (λ b. run columns (in_word ∷ open_bracket ∷ value l ∷ more_literals ls) (cond b (Some (build fs ors ands (at_name c))) None))
      (role_public (role_at columns c) l tests.0)
      ∙ ap (λ b. run columns (more_literals ls) (cond b (Some (build fs ors ands (at_literal c (l ∷ [])))) None)) tests.0
      ∙ runs_more fs ors ands c (l ∷ []) ls tests.1

  -- one more may be open
  opens : (fs : List Frame) (b : Build) → length fs < 64 → cond (has_room fs) (Some b) None ≡ Some b
  opens fs b low = ap (λ t. cond t (Some b) None) (lt-ltb (length fs) 64 low)

  mutual
    -- a disjunction after an open bracket, or at the begin
    runs_all : (room : ℕ) (ts : List Token) (t : Tree) (d : Disjunction columns room ts t) (fs : List Frame) → is_under_not fs ≡ false → length fs + room ≤ 64 →
        Behind fs t (run columns ts (Some (build fs None None at_operand)))
    runs_all room ts t (conj c) fs plain deep = record { ors = None; last = t; is = runs_conj room ts t c fs None plain deep; adds = refl }
    runs_all room ts t (or_conj {ts = xs} {us = ys} {p = p} {q = q} d c) fs plain deep =
        let front = runs_all room xs p d fs plain deep in
        record {
          ors = Some p;
          last = q;
          is =
              run-append columns xs (or_word ∷ ys) (Some (build fs None None at_operand))
              ∙ ap (run columns (or_word ∷ ys)) front.is
              ∙ ap (λ u. run columns ys (Some (build fs (Some u) None at_operand))) front.adds
              ∙ runs_conj room ys q c fs (Some p) plain deep;
          adds = refl;
        }

    -- a conjunction there, or after an `or`
    runs_conj : (room : ℕ) (ts : List Token) (t : Tree) (c : Conjunction columns room ts t) (fs : List Frame) (ors : Option Tree) → is_under_not fs ≡ false
        → length fs + room ≤ 64
        → run columns ts (Some (build fs ors None at_operand)) ≡ Some (build fs ors None (behind t))
    runs_conj room ts t (unit u) fs ors plain deep = runs_unit room ts t u fs ors None deep ∙ ap Some (plain_whole fs ors None t plain)
    runs_conj room ts t (and_unit {ts = xs} {us = ys} {p = p} {q = q} c u) fs ors plain deep =
        run-append columns xs (and_word ∷ ys) (Some (build fs ors None at_operand))
        ∙ ap (run columns (and_word ∷ ys)) (runs_conj room xs p c fs ors plain deep)
        ∙ runs_unit room ys q u fs ors (Some p) deep
        ∙ ap Some (plain_whole fs ors (Some p) q plain)

    -- an operand wherever one may stand
    runs_unit : (room : ℕ) (ts : List Token) (t : Tree) (u : Operand columns room ts t) (fs : List Frame) (ors ands : Option Tree) → length fs + room ≤ 64
        → run columns ts (Some (build fs ors ands at_operand)) ≡ Some (whole fs ors ands t)
    runs_unit room ts t all fs ors ands deep = refl
    runs_unit room ts t (not_unit {room = less} {ts = xs} {p = p} u) fs ors ands deep =
        ap (run columns xs) (opens fs (build (a_not ∷ fs) ors ands at_operand) (omega (arith, deep)))
        ∙ runs_unit less xs p u (a_not ∷ fs) ors ands (omega (arith, deep))
    runs_unit room ts t (in_brackets {room = less} {ts = xs} d) fs ors ands deep =
        let inner = runs_all less xs t d (a_bracket ors ands ∷ fs) refl (omega (arith, deep)) in
        ap (run columns (xs ++ close_bracket ∷ [])) (opens fs (build (a_bracket ors ands ∷ fs) None None at_operand) (omega (arith, deep)))
        ∙ run-append columns xs (close_bracket ∷ []) (Some (build (a_bracket ors ands ∷ fs) None None at_operand))
        ∙ ap (run columns (close_bracket ∷ [])) inner.is
        ∙ ap (λ u. Some (whole fs ors ands u)) inner.adds
    runs_unit room ts t (compare {c = c} {o = o} {l = l} place takes of_role) fs ors ands deep =
        ap (λ p. run columns (operator o ∷ value l ∷ []) (step columns (build fs ors ands at_operand) (ColumnToken p))) place
        ∙ runs_compare fs ors ands c o l takes of_role
    runs_unit room ts t (one_of {c = c} {l = l} {ls = ls} place of_role) fs ors ands deep =
        ap (λ p. run columns (in_word ∷ open_bracket ∷ value l ∷ more_literals ls) (step columns (build fs ors ands at_operand) (ColumnToken p))) place
        ∙ runs_one_of fs ors ands c l ls of_role

  -- the machine stands after this tree, and nothing is open
  pub record StandsBehind (t : Tree) (s : Option Build) : Type 0 where
    pub last : Build
    pub is : s ≡ Some last
    pub built_is : built last ≡ Some t

  -- what writes a tree is run through to its end, and builds the tree
  pub runs_predicate : (tokens : List Token) (t : Tree) → Writes columns tokens t → StandsBehind t (run columns tokens (Some start))
  runs_predicate tokens t writes =
      let whole_run = runs_all most_depth tokens t writes [] refl (omega arith) in
      record { last = build [] whole_run.ors None (behind whole_run.last); is = whole_run.is; built_is = ap Some whole_run.adds }

  -- so a predicate leaves nothing open or wanting
  pub predicate_completes : (tokens : List Token) → IsPredicate columns tokens → is_complete (run columns tokens (Some start)) ≡ true
  predicate_completes tokens is = let end = runs_predicate tokens is.0 is.1 in ap is_complete end.is ∙ ap is_some end.built_is

  -- and what begins one isn't stopped
  pub begins_runs : (tokens : List Token) → BeginPredicate columns tokens → is_some (run columns tokens (Some start)) ≡ true
  begins_runs tokens is = goes (run columns tokens (Some start)) (sym (run-append columns tokens is.0 (Some start)) ∙ end.is)
    where
      end : StandsBehind is.1.0 (run columns (tokens ++ is.0) (Some start))
      end = runs_predicate (tokens ++ is.0) is.1.0 is.1.1

      goes : (s : Option Build) → run columns is.0 s ≡ Some end.last → is_some s ≡ true
      goes None h = ap is_some (sym (run-none columns is.0) ∙ h)
      goes (Some s) h = refl

  -- tokens write one tree
  pub one_tree : (text : List ℕ) (s t : Tree) → Means columns text s → Means columns text t → s ≡ t
  one_tree text s t first second =
      let a = runs_predicate (tokens_of (lexed text).tokens) s first.writes in
      let b = runs_predicate (tokens_of (lexed text).tokens) t second.writes in
      let both : Some s ≡ Some t = sym a.built_is ∙ ap (λ o. built (unwrap_or o start)) (sym a.is ∙ b.is) ∙ b.built_is in
      cc
