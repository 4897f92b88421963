-- Predicates as trees.
use Rattle.std.specs.Prelude.{ℕ, suc, max, Bool, true, false, ◌&&◌, List, [], ◌∷◌, Option, Some}
use Rattle.std.specs.List.{list_all, AllByRecursion}
use Rattle.std.specs.Str.{IsUtf8}
use Rattle.schema_json.specs.Columns.{Column, role_at}
use Rattle.schema_json.specs.declared.roles.Role.{Role}
use Rattle.schema_json.specs.declared.roles.Role.TheVariants.{Text, Number}
use Rattle.predicate_lang.specs.declared.trees.Op.{Op}
use Rattle.predicate_lang.specs.declared.trees.Op.TheVariants as op
use Rattle.predicate_lang.specs.declared.trees.Literal.{Literal}
use Rattle.predicate_lang.specs.declared.trees.Literal.TheVariants as literal
use Rattle.predicate_lang.specs.declared.trees.Pred.{Pred, fold-Pred}
use Rattle.predicate_lang.specs.declared.trees.Pred.TheOpen.{Pred-F}

pub data Tree : Type 0 where
  all_rows : Tree
  negation : Tree → Tree
  both : Tree → Tree → Tree
  either : Tree → Tree → Tree
  compared : ℕ → Op → Literal → Tree
  among : ℕ → List Literal → Tree

abbrev pub tree_step : Pred-F Tree → Tree
tree_step Pred-F.All = all_rows
tree_step (Pred-F.Not p) = negation p.value
tree_step (Pred-F.And p q) = both p.value q.value
tree_step (Pred-F.Or p q) = either p.value q.value
tree_step (Pred-F.Compare column op literal) = compared column op literal
tree_step (Pred-F.Within column literals) = among column literals

-- the tree that a `Pred` is
abbrev pub tree_of : Pred → Tree
tree_of = fold-Pred Tree tree_step

-- how deep it is
abbrev pub height : Tree → ℕ
height all_rows = 1
height (negation p) = suc (height p)
height (both p q) = suc (max (height p) (height q))
height (either p q) = suc (max (height p) (height q))
height (compared c o l) = 1
height (among c ls) = 1

-- ---- what fits a schema

abbrev pub is_of_role : Option Role → Literal → Bool
is_of_role (Some Number) (literal.Number n) = true
is_of_role (Some Text) (literal.Text t) = true
is_of_role role l = false

-- texts are only compared for equality
abbrev pub has_operator : Option Role → Op → Bool
has_operator (Some Number) o = true
has_operator (Some Text) op.Eq = true
has_operator (Some Text) op.Ne = true
has_operator role o = false

abbrev pub has_literals : List Literal → Bool
has_literals [] = false
has_literals (l ∷ ls) = true

abbrev pub fits : List Column → Tree → Bool
fits columns all_rows = true
fits columns (negation p) = fits columns p
fits columns (both p q) = fits columns p && fits columns q
fits columns (either p q) = fits columns p && fits columns q
fits columns (compared c o l) = has_operator (role_at columns c) o && is_of_role (role_at columns c) l
fits columns (among c ls) = has_literals ls && list_all (is_of_role (role_at columns c)) ls

-- ---- texts that can be printed

-- a text is UTF-8
abbrev pub IsTextLiteral : Literal → Type 0
IsTextLiteral (literal.Number n) = Unit {0}
IsTextLiteral (literal.Text t) = IsUtf8 t

-- each text is UTF-8
abbrev pub AreTexts : Tree → Type 0
AreTexts all_rows = Unit {0}
AreTexts (negation p) = AreTexts p
AreTexts (both p q) = AreTexts p × AreTexts q
AreTexts (either p q) = AreTexts p × AreTexts q
AreTexts (compared c o l) = IsTextLiteral l
AreTexts (among c ls) = AllByRecursion IsTextLiteral ls
