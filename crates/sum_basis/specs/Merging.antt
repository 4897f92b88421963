-- The first entry of a list, at a place.
use Rattle.std.specs.Prelude.{ℕ, ℤ, pos, cond, nat_eq, List, [], ◌∷◌}
use Rattle.sum_basis.specs.declared.sparse.FreeEntry.{FreeEntry}

-- the value of the first entry, if it stands at the place, and else 0
abbrev pub first_value : List FreeEntry → ℕ → ℤ
first_value [] place = pos 0
first_value (e ∷ entries) place = cond (nat_eq e.place place) e.value (pos 0)
