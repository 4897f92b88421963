-- The grammar of predicates: which tokens write which tree.
use Rattle.std.specs.Prelude.{◌≡◌, ℕ, suc, true, List, [], ◌∷◌, ◌++◌, Some}
use Rattle.std.specs.List.{list_all}
use Rattle.schema_json.specs.Columns.{Column, place_of, role_at}
use Rattle.predicate_lang.specs.Trees.{Tree, all_rows, negation, both, either, compared, among, is_of_role, has_operator}
use Rattle.predicate_lang.specs.Tokens.{Token, and_word, or_word, not_word, all_word, in_word, name, value, operator, open_bracket, close_bracket, comma}
use Rattle.predicate_lang.specs.declared.trees.Op.{Op}
use Rattle.predicate_lang.specs.declared.trees.Literal.{Literal}

-- the tokens after the first literal of a list
abbrev pub more_literals : List Literal → List Token
more_literals [] = close_bracket ∷ []
more_literals (l ∷ ls) = comma ∷ value l ∷ more_literals ls

-- these tokens write this tree over the columns, with at most so many `not` and brackets open at one place
mutual
  -- conj { "or" conj }
  pub data Disjunction (columns : List Column) : ℕ → List Token → Tree → Type 0 where
    conj : {room : ℕ} {ts : List Token} {p : Tree} → Conjunction columns room ts p → Disjunction columns room ts p
    or_conj : {room : ℕ} {ts us : List Token} {p q : Tree} → Disjunction columns room ts p → Conjunction columns room us q → Disjunction columns room (ts ++ or_word ∷ us) (either p q)

  -- unit { "and" unit }
  pub data Conjunction (columns : List Column) : ℕ → List Token → Tree → Type 0 where
    unit : {room : ℕ} {ts : List Token} {p : Tree} → Operand columns room ts p → Conjunction columns room ts p
    and_unit : {room : ℕ} {ts us : List Token} {p q : Tree} → Conjunction columns room ts p → Operand columns room us q → Conjunction columns room (ts ++ and_word ∷ us) (both p q)

  -- a name is that of a column, and a literal what its role takes
  pub data Operand (columns : List Column) : ℕ → List Token → Tree → Type 0 where
    all : {room : ℕ} → Operand columns room (all_word ∷ []) all_rows
    not_unit : {room : ℕ} {ts : List Token} {p : Tree} → Operand columns room ts p → Operand columns (suc room) (not_word ∷ ts) (negation p)
    in_brackets : {room : ℕ} {ts : List Token} {p : Tree} → Disjunction columns room ts p → Operand columns (suc room) (open_bracket ∷ (ts ++ close_bracket ∷ [])) p
    compare : {room c : ℕ} {n : List ℕ} {o : Op} {l : Literal} → place_of n columns ≡ Some c → has_operator (role_at columns c) o ≡ true → is_of_role (role_at columns c) l ≡ true → Operand columns room (name n ∷ operator o ∷ value l ∷ []) (compared c o l)
    one_of : {room c : ℕ} {n : List ℕ} {l : Literal} {ls : List Literal} → place_of n columns ≡ Some c → list_all (is_of_role (role_at columns c)) (l ∷ ls) ≡ true → Operand columns room (name n ∷ in_word ∷ open_bracket ∷ value l ∷ more_literals ls) (among c (l ∷ ls))

abbrev pub most_depth : ℕ
most_depth = 64

-- the tokens are a way to write this tree, over these columns
abbrev pub Writes : List Column → List Token → Tree → Type 0
Writes columns tokens t = Disjunction columns most_depth tokens t

abbrev pub IsPredicate : List Column → List Token → Type 0
IsPredicate columns tokens = (t : Tree) × Writes columns tokens t

-- the tokens begin a predicate
abbrev pub BeginPredicate : List Column → List Token → Type 0
BeginPredicate columns tokens = (rest : List Token) × IsPredicate columns (tokens ++ rest)
