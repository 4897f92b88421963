-- Facts on the columns of a schema from a place on.
use Rattle.std.proofs.Common.{◌≡◌, ℕ, zero, suc, ◌+◌, ◌<◌, List, [], ◌∷◌, length, drop, Some, refl, ap, ◌∙◌, arith}
use Rattle.std.specs.Prelude.{option_map, unwrap_or, slice_get}
use Rattle.schema_json.specs.Columns.{Column, role_at, name_at}
use Rattle.schema_json.specs.declared.roles.Role.{Role}

-- the column at a place, and the columns from there on
pub record Here (cs : List Column) (place : ℕ) : Type 0 where
  pub column : Column
  pub from_here : drop place cs ≡ column ∷ drop (place + 1) cs
  pub found : slice_get cs place ≡ Some column

-- a place below the number of columns has a column
pub here : (cs : List Column) (place : ℕ) → place < length cs → Here cs place
here [] place within = absurd (omega (arith, within))
here (c ∷ cs) zero within = record { column = c; from_here = refl; found = refl }
here (c ∷ cs) (suc place) within =
    let later = here cs place (omega (arith, within)) in
    let next : suc (place + 1) ≡ suc place + 1 = omega arith in
    record { column = later.column; from_here = later.from_here ∙ ap (λ k. later.column ∷ drop k (c ∷ cs)) next; found = later.found }

-- the role at a place is that of the column there
pub role_is : (cs : List Column) (place : ℕ) (h : Here cs place) (r : Role) → Some r ≡ role_at cs place → r ≡ h.column.role
role_is cs place h r is = ap (λ o. unwrap_or o r) (is ∙ ap (λ o. option_map (λ c. c.role) o) h.found)

-- the name at a place is that of the column there
pub name_is : (cs : List Column) (place : ℕ) (h : Here cs place) (name : List ℕ) → Some name ≡ name_at cs place → name ≡ h.column.name
name_is cs place h name is = ap (λ o. unwrap_or o name) (is ∙ ap (λ o. option_map (λ c. c.name) o) h.found)
