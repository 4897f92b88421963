-- Facts: the column at the place of the count is one.
use Rattle.std.proofs.Common.{◌≡◌, ℕ, true, List, [], get_or, Some, refl, ap, ◌∙◌}
use Rattle.std.specs.Prelude.{option_map}
use Rattle.std.proofs.lemmas.Bool.{false≢true}
use Rattle.std.proofs.lemmas.List.Quantifiers.{position-Some}
use Rattle.std.proofs.lemmas.Option.{slice_get-get_or}
use Rattle.schema_json.specs.Columns.{Column, is_count, people_place, role_at}
use Rattle.schema_json.specs.declared.roles.Role.{Role}
use Rattle.schema_json.specs.declared.roles.Role.TheVariants as role

-- the role of a count
is_role : (r : Role) → is_count r ≡ true → r ≡ role.Count
is_role role.Text h = absurd (false≢true h)
is_role role.Number h = absurd (false≢true h)
is_role role.Count h = refl
is_role role.Sum h = absurd (false≢true h)
is_role role.Max h = absurd (false≢true h)
is_role role.Min h = absurd (false≢true h)

-- the column at that place is a count
pub people_is_count : (cs : List Column) (k : ℕ) → people_place cs ≡ Some k → role_at cs k ≡ Some role.Count
people_is_count cs k is =
    let none : Column = record { name = []; role = role.Text } in
    let found = position-Some (λ c. is_count c.role) cs k none is in
    ap (option_map (λ c. c.role)) (slice_get-get_or cs k none found.0) ∙ ap Some (is_role (get_or cs k none).role found.1)
