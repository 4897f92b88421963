-- Two lists of numbers that show a row of answered maxima to be free.
use Rattle.std.specs.Prelude.{ℕ, ℤ, pos, ◌-ℤ◌, List, map, Option, Some, None, slice_set}
use Rattle.std.specs.List.{range_with_len}
use Rattle.audit_types.specs.Truth.{number_at}
use Rattle.audit_types.specs.Column.{Answer}
use Rattle.audit_types.specs.Extremes.{upper_bound}

-- a bound, and 0 if there is none
abbrev pub bound_or_zero : Option ℤ → ℤ
bound_or_zero None = pos 0
bound_or_zero (Some b) = b

-- each row at its upper bound, and at 0 if it has none
unfoldable pub highest : ℕ → List Answer → List ℤ
highest n answers = map (λ r. bound_or_zero (upper_bound answers r)) (range_with_len 0 n)

-- the list with the number of row i less by one
abbrev pub lowered_at : List ℤ → ℕ → List ℤ
lowered_at w i = slice_set w i (number_at w i -ℤ pos 1)
