-- Shapes: the rows and the secret columns of a table.
use Rattle.std.specs.Prelude.{◌≡◌, ℕ, ◌<◌, ◌≤◌, cond, ◌==◌, nat_lt, Bool, List, [], ◌∷◌, slice_index, ◌⊎◌, count_by}
use Rattle.audit_types.specs.Limits.{most_rows}
use Rattle.std.specs.List.{AllByRecursion}
use Rattle.audit_types.specs.declared.shapes.Kind.{Kind}
use Rattle.audit_types.specs.declared.shapes.Kind.TheVariants.{Sum, Max}
use Rattle.audit_types.specs.declared.shapes.Shape.{Shape}

-- the kind that a byte of a shape names: 1 sums, 2 maxima, and 3 maxima of numbers that are kept negated, so minima
abbrev pub kind_of_byte : ℕ → Kind
kind_of_byte b = cond (b == 1) Sum Max

-- whether a secret column's numbers are kept negated, so that its maxima are minima of the table's
abbrev pub is_least : Shape → ℕ → Bool
is_least shape column = slice_index shape.kinds column == 3

-- the number of secret columns
abbrev pub columns : Shape → ℕ
columns shape = count_by (λ b. nat_lt 0 b) shape.kinds

-- the kind of a secret column
abbrev pub kind_at : Shape → ℕ → Kind
kind_at shape column = kind_of_byte (slice_index shape.kinds column)

-- a byte that names a kind for each column, and bytes 0 after them
abbrev pub AreKinds : List ℕ → Type 0
AreKinds [] = Unit {0}
AreKinds (b ∷ bytes) = (((0 < b) × (b ≤ 3)) × AreKinds bytes) ⊎ ((b ≡ 0) × AllByRecursion (λ x. x ≡ 0) bytes)

-- a byte that names a kind
abbrev pub IsKind : ℕ → Type 0
IsKind b = (0 < b) × (b ≤ 3)

-- 1 to most_rows rows, and kinds
pub record IsShape (shape : Shape) : Type 0 where
  pub some_rows : 0 < shape.rows
  pub at_most : shape.rows ≤ most_rows
  pub kinds : AreKinds shape.kinds
