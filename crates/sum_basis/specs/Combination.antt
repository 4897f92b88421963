-- Sums and combinations of rows, as lists.
use Rattle.std.specs.Prelude.{ℤ, ◌+ℤ◌, neg_ℤ, List, [], ◌∷◌}
use Rattle.audit_types.specs.PrimitiveLines.{times}

-- the sum of two rows, entry by entry
abbrev pub both : List ℤ → List ℤ → List ℤ
both [] b = b
both (x ∷ a) [] = x ∷ a
both (x ∷ a) (y ∷ b) = (x +ℤ y) ∷ both a b

-- x times f less y times g
abbrev pub combine : ℤ → List ℤ → ℤ → List ℤ → List ℤ
combine x f y g = both (times x f) (times (neg_ℤ y) g)
