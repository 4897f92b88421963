-- The true answer to a question: a sum, or the greatest number, over a set of rows.
use Rattle.std.specs.Prelude.{ℕ, zero, suc, ℤ, pos, negsuc, Bool, true, false, ◌+ℤ◌, List, [], ◌∷◌, map, slice_index_or}
use Rattle.std.specs.List.{fold}
use Rattle.std.specs.Int.{int_max}
use Rattle.audit_types.specs.declared.shapes.Kind.{Kind}
use Rattle.audit_types.specs.declared.shapes.Kind.TheVariants.{Sum, Max}

-- the number of a row, and 0 past the end
abbrev pub number_at : List ℤ → ℕ → ℤ
number_at w r = slice_index_or w r (pos 0)

-- the sum of the numbers over some rows
abbrev pub sum_over : List ℤ → List ℕ → ℤ
sum_over w [] = pos 0
sum_over w (r ∷ rows) = number_at w r +ℤ sum_over w rows

-- the greatest number over a set that is not empty
abbrev pub greatest_over : List ℤ → List ℕ → ℤ
greatest_over w [] = pos 0
greatest_over w (r ∷ rows) = fold int_max (number_at w r) (map (number_at w) rows)

-- the true answer to a question over a set, by the kind of its column
abbrev pub truth : Kind → List ℤ → List ℕ → ℤ
truth Sum w rows = sum_over w rows
truth Max w rows = greatest_over w rows

-- whether a number is 0
abbrev pub is_zero : ℤ → Bool
is_zero (pos zero) = true
is_zero (pos (suc n)) = false
is_zero (negsuc n) = false
