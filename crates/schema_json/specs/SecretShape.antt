-- The secret columns of a schema as the shape of its table.
use Rattle.std.specs.Prelude.{◌≡◌, ℕ, ◌<◌, List, [], ◌∷◌, ◌++◌, take, replicate, Option, Some, None, option_and_then}
use Rattle.audit_types.specs.declared.shapes.Kind.{Kind}
use Rattle.audit_types.specs.declared.shapes.Kind.TheVariants as kind
use Rattle.audit_types.specs.declared.shapes.Shape.{Shape}
use Rattle.audit_types.specs.Shapes.{columns, kind_at}
use Rattle.schema_json.specs.Columns.{Column, AreColumns, role_at, secret_place}
use Rattle.schema_json.specs.declared.roles.Role.{Role}
use Rattle.schema_json.specs.declared.roles.Role.TheVariants.{Text, Number, Count, Sum, Max, Min}

-- a kind byte for a secret column, and none for a public one, before the bytes of later columns
abbrev pub kind_byte_and : Role → List ℕ → List ℕ
kind_byte_and Sum bytes = 1 ∷ bytes
kind_byte_and Max bytes = 2 ∷ bytes
kind_byte_and Min bytes = 3 ∷ bytes
kind_byte_and role bytes = bytes

-- the kind bytes of the secret columns, in order
abbrev pub kind_bytes : List Column → List ℕ
kind_bytes [] = []
kind_bytes (c ∷ schema) = kind_byte_and c.role (kind_bytes schema)

-- eight kind bytes, 0 where there is no column
abbrev pub shape_kinds : List Column → List ℕ
shape_kinds schema = take 8 (kind_bytes schema ++ replicate 8 0)

-- the shape of a table with these columns and so many rows
abbrev pub shape_of : List Column → ℕ → Shape
shape_of schema rows = record { rows = rows; kinds = shape_kinds schema }

-- the kind of the secret columns of a role; a column of minima is one of maxima, of the negated numbers
abbrev pub kind_of_role : Role → Option Kind
kind_of_role Text = None
kind_of_role Number = None
kind_of_role Count = None
kind_of_role Sum = Some kind.Sum
kind_of_role Max = Some kind.Max
kind_of_role Min = Some kind.Max

-- each table over the schema has this secret column, and it is of this kind
pub record HasSecret (schema : List Column) (column : ℕ) (kind : Kind) : Type 0 where
  pub below : (rows : ℕ) → column < columns (shape_of schema rows)
  pub of_kind : (rows : ℕ) → kind_at (shape_of schema rows) column ≡ kind

-- a secret column of the kind that its role names
pub record IsSecretOf (schema : List Column) (found : Option Role) (column : ℕ) : Type 0 where
  pub kind : Kind
  pub has : HasSecret schema column kind
  pub named : option_and_then kind_of_role found ≡ Some kind

-- a place among the secret columns of a schema is a column of each table over it, of the kind that its role names
abbrev pub PlacesAreColumns : Type 0
PlacesAreColumns =
    (schema : List Column) (place column : ℕ) → AreColumns schema → secret_place schema place ≡ Some column →
    IsSecretOf schema (role_at schema place) column
