-- What the machine has run through can be completed.
use Rattle.std.proofs.Common.{◌≡◌, ℕ, zero, suc, ◌≤◌, true, List, [], ◌∷◌, ◌++◌, length, Option, Some, None, refl, sym, arith, append_assoc, subst, pos}
use Rattle.std.specs.Prelude.{is_some}
use Rattle.std.proofs.lemmas.Bool.{false≢true}
use Rattle.std.proofs.lemmas.List.{append-nil}
use Rattle.schema_json.specs.Columns.{Column, role_at}
use Rattle.schema_json.specs.declared.roles.Role.{Role}
use Rattle.schema_json.specs.declared.roles.Role.TheVariants as role
use Rattle.predicate_lang.specs.Trees.{Tree, all_rows, compared, among, is_of_role, has_operator}
use Rattle.predicate_lang.specs.Tokens.{Token, all_word, value, operator, open_bracket, close_bracket}
use Rattle.predicate_lang.specs.Grammar.{IsPredicate, BeginPredicate}
use Rattle.predicate_lang.specs.Machine.{Frame, a_not, a_bracket, Stand, at_operand, at_name, at_operator, at_in, at_comma, at_literal, behind, Build, build, start, add_and, add_or, negated, without_nots, whole, public_role, run, built, is_complete}
use Rattle.predicate_lang.specs.declared.trees.Op.{Op}
use Rattle.predicate_lang.specs.declared.trees.Op.TheVariants as op
use Rattle.predicate_lang.specs.declared.trees.Literal.{Literal}
use Rattle.predicate_lang.specs.declared.trees.Literal.TheVariants as literal
use Rattle.predicate_lang.proofs.WrittenSoFar.{Written, put_written, close_written, so_far, built_written}

-- a literal that a role takes, and that it may be compared with
some_literal : Option Role → Literal
some_literal (Some role.Text) = literal.Text []
some_literal role = literal.Number (pos 0)

-- a public role takes it
has_literal : (r : Option Role) → public_role r ≡ true → is_of_role r (some_literal r) ≡ true
unfolding some_literal
has_literal None h = h
has_literal (Some role.Number) h = refl
has_literal (Some role.Text) h = refl
has_literal (Some role.Count) h = h
has_literal (Some role.Sum) h = h
has_literal (Some role.Max) h = h
has_literal (Some role.Min) h = h

-- and is compared for equality
has_equal : (r : Option Role) → public_role r ≡ true → has_operator r op.Eq ≡ true
has_equal None h = h
has_equal (Some role.Number) h = refl
has_equal (Some role.Text) h = refl
has_equal (Some role.Count) h = h
has_equal (Some role.Sum) h = h
has_equal (Some role.Max) h = h
has_equal (Some role.Min) h = h

module _ (columns : List Column) where
  -- a token more begins a predicate, so does what is before it
  less : (ts : List Token) (t : Token) → BeginPredicate columns (ts ++ t ∷ []) → BeginPredicate columns ts
  less ts t more = (t ∷ more.0, subst (IsPredicate columns) (append_assoc ts (t ∷ []) more.0) more.1)

  -- what is left without the innermost `not` is no more
  length-without : (fs : List Frame) → length (without_nots fs) ≤ length fs
  length-without [] = omega arith
  length-without (a_not ∷ fs) = omega (arith, length-without fs)
  length-without (a_bracket o a ∷ fs) = omega arith

  -- each bracket that is open can be closed
  closes : (n : ℕ) (ts : List Token) (fs : List Frame) (ors ands : Option Tree) (p : Tree) → length fs ≤ n → Written columns ts (build fs ors ands (behind p)) →
      BeginPredicate columns ts
  closes n ts [] ors ands p few w = (
    [],
    (
      add_or ors p,
      built_written columns (ts ++ []) [] ors ands (behind p) (add_or ors p)
          (subst (λ (xs : List Token). Written columns xs (build [] ors ands (behind p))) (sym (append-nil ts)) w) refl,
    ),
  )
  closes zero ts (f ∷ fs) ors ands p few w = absurd (omega (arith, few))
  closes (suc n) ts (a_not ∷ fs) ors ands p few w = absurd (false≢true (sym w.stands.0))
  closes (suc n) ts (a_bracket o a ∷ fs) ors ands p few w =
      less ts close_bracket
      (closes n (ts ++ close_bracket ∷ []) (without_nots fs) o None (add_and a (negated fs (add_or ors p))) (omega (arith, few, length-without fs))
      (close_written columns ts fs o a ors ands p w))

  -- after a whole operand
  behind_operand : (ts : List Token) (fs : List Frame) (ors ands : Option Tree) (p : Tree) → Written columns ts (whole fs ors ands p) →
      BeginPredicate columns ts
  behind_operand ts fs ors ands p w = closes (length (without_nots fs)) ts (without_nots fs) ors None (add_and ands (negated fs p)) (omega arith) w

  -- a list ends after a literal
  at_a_literal : (ts : List Token) (fs : List Frame) (ors ands : Option Tree) (c : ℕ) (ls : List Literal) →
      Written columns ts (build fs ors ands (at_literal c ls)) → BeginPredicate columns ts
  at_a_literal ts fs ors ands c ls w =
      less ts close_bracket
      (behind_operand (ts ++ close_bracket ∷ []) fs ors ands (among c ls) (put_written columns ts fs ors ands (at_literal c ls) close_bracket w refl))

  -- a literal may stand in a list
  at_a_comma : (ts : List Token) (fs : List Frame) (ors ands : Option Tree) (c : ℕ) (ls : List Literal) →
      Written columns ts (build fs ors ands (at_comma c ls)) → BeginPredicate columns ts
  at_a_comma ts fs ors ands c ls w =
      let l = some_literal (role_at columns c) in
      less ts (value l)
      (at_a_literal (ts ++ value l ∷ []) fs ors ands c (ls ++ l ∷ [])
      (put_written columns ts fs ors ands (at_comma c ls) (value l) w (has_literal (role_at columns c) w.stands.named.public)))

  -- a literal may stand after an operator
  at_an_operator : (ts : List Token) (fs : List Frame) (ors ands : Option Tree) (c : ℕ) (o : Op) → Written columns ts (build fs ors ands (at_operator c o)) →
      BeginPredicate columns ts
  at_an_operator ts fs ors ands c o w =
      let l = some_literal (role_at columns c) in
      let n = w.stands.0 in
      less ts (value l)
      (behind_operand (ts ++ value l ∷ []) fs ors ands (compared c o l)
      (put_written columns ts fs ors ands (at_operator c o) (value l) w (has_literal (role_at columns c) n.public)))

  -- from wherever the machine stands
  completes : (ts : List Token) (fs : List Frame) (ors ands : Option Tree) (stand : Stand) → Written columns ts (build fs ors ands stand) →
      BeginPredicate columns ts
  completes ts fs ors ands at_operand w =
      less ts all_word (behind_operand (ts ++ all_word ∷ []) fs ors ands all_rows (put_written columns ts fs ors ands at_operand all_word w refl))
  completes ts fs ors ands (at_name c) w =
      less ts (operator op.Eq)
      (at_an_operator (ts ++ operator op.Eq ∷ []) fs ors ands c op.Eq
      (put_written columns ts fs ors ands (at_name c) (operator op.Eq) w (has_equal (role_at columns c) w.stands.public)))
  completes ts fs ors ands (at_operator c o) w = at_an_operator ts fs ors ands c o w
  completes ts fs ors ands (at_in c) w =
      less ts open_bracket (at_a_comma (ts ++ open_bracket ∷ []) fs ors ands c [] (put_written columns ts fs ors ands (at_in c) open_bracket w refl))
  completes ts fs ors ands (at_comma c ls) w = at_a_comma ts fs ors ands c ls w
  completes ts fs ors ands (at_literal c ls) w = at_a_literal ts fs ors ands c ls w
  completes ts fs ors ands (behind p) w = closes (length fs) ts fs ors ands p (omega arith) w

  -- so what was not stopped begins a predicate
  pub goes_on_predicate : (tokens : List Token) → is_some (run columns tokens (Some start)) ≡ true → BeginPredicate columns tokens
  goes_on_predicate tokens runs = go (run columns tokens (Some start)) refl runs
    where
      go : (s : Option Build) → run columns tokens (Some start) ≡ s → is_some s ≡ true → BeginPredicate columns tokens
      go None is some = absurd cc
      go (Some b) is some = completes tokens b.frames b.ors b.ands b.stand (so_far columns tokens b is)

  -- what is run through to its end is a predicate
  pub complete_predicate : (tokens : List Token) → is_complete (run columns tokens (Some start)) ≡ true → IsPredicate columns tokens
  complete_predicate tokens complete = go (run columns tokens (Some start)) refl complete
    where
      tree_of_end : (b : Build) (t : Option Tree) → run columns tokens (Some start) ≡ Some b → built b ≡ t → is_some t ≡ true → IsPredicate columns tokens
      tree_of_end b None is tree some = absurd cc
      tree_of_end b (Some t) is tree some = (t, built_written columns tokens b.frames b.ors b.ands b.stand t (so_far columns tokens b is) tree)

      go : (s : Option Build) → run columns tokens (Some start) ≡ s → is_complete s ≡ true → IsPredicate columns tokens
      go None is some = absurd cc
      go (Some b) is some = tree_of_end b (built b) is refl some
