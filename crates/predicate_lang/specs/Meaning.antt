-- Which rows satisfy a predicate.
use Rattle.std.specs.Prelude.{ℕ, ℤ, Bool, true, false, ◌&&◌, ◌||◌, not, List, int_lt, int_le}
use Rattle.std.specs.List.{list_any}
use Rattle.std.specs.Str.{bytes_eq}
use Rattle.std.specs.Ordering.{int_eq}
use Rattle.predicate_lang.specs.Trees.{Tree, all_rows, negation, both, either, compared, among}
use Rattle.predicate_lang.specs.declared.trees.Op.{Op}
use Rattle.predicate_lang.specs.declared.trees.Op.TheVariants.{Eq, Ne, Lt, Le, Gt, Ge}
use Rattle.predicate_lang.specs.declared.trees.Literal.{Literal}
use Rattle.predicate_lang.specs.declared.trees.Literal.TheVariants.{Number, Text}

abbrev pub compares : Op → ℤ → ℤ → Bool
compares Eq x y = int_eq x y
compares Ne x y = not (int_eq x y)
compares Lt x y = int_lt x y
compares Le x y = int_le x y
compares Gt x y = int_lt y x
compares Ge x y = int_le y x

abbrev pub compares_text : Op → List ℕ → List ℕ → Bool
compares_text Eq x y = bytes_eq x y
compares_text Ne x y = not (bytes_eq x y)
compares_text o x y = false

-- a row, as the number and the text that it has in each column
pub record Row : Type 0 where
  pub number : ℕ → ℤ
  pub text : ℕ → List ℕ

abbrev pub compares_cell : Row → ℕ → Op → Literal → Bool
compares_cell row c o (Number n) = compares o (row.number c) n
compares_cell row c o (Text t) = compares_text o (row.text c) t

-- whether the row satisfies the predicate
abbrev pub satisfies : Row → Tree → Bool
satisfies row all_rows = true
satisfies row (negation p) = not (satisfies row p)
satisfies row (both p q) = satisfies row p && satisfies row q
satisfies row (either p q) = satisfies row p || satisfies row q
satisfies row (compared c o l) = compares_cell row c o l
satisfies row (among c ls) = list_any (compares_cell row c Eq) ls
