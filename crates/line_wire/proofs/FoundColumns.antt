-- A column that is found is one of the table.
use Rattle.std.proofs.Common.{◌≡◌, ℕ, ◌<◌, List, length, Some, sym}
use Rattle.std.proofs.lemmas.List.Quantifiers.{position-Some}
use Rattle.schema_json.specs.Columns.{Column, has_name, place_of}
use Rattle.schema_json.specs.declared.roles.Role.TheVariants.{Text}

pub place_below : (name : List ℕ) (columns : List Column) (place : ℕ) → Some place ≡ place_of name columns → place < length columns
place_below name columns place is = (position-Some (has_name name) columns place (record { name = name; role = Text }) (sym is)).0
