-- The place of the count and the roles, over the entries that the code keeps.
use Rattle.std.proofs.Common.{◌≡◌, ℕ, ◌+◌, ◌<◌, Bool, true, false, cond, List, [], ◌∷◌, length, map, get_or, String, Some, None, refl, sym, ap, ◌∙◌}
use Rattle.std.specs.Prelude.{not, nat_lt, option_map, Option, IfSome}
use Rattle.std.specs.List.{position, prefix_len}
use Rattle.std.proofs.lemmas.List.{length-map}
use Rattle.std.proofs.lemmas.Option.{slice_get-get_or, slice_get-map}
use Rattle.std.specs.declared.alloc.Global.{Global}
use Rattle.schema_json.specs.Columns.{Column, is_count, people_place, role_at}
use Rattle.schema_json.specs.CountFacts.{people_is_count}
use Rattle.schema_json.specs.Kept.{column_of_entry}
use Rattle.schema_json.specs.declared.roles.Role.{Role}
use Rattle.schema_json.specs.declared.roles.Role.TheVariants as role

-- as many entries stand before the first count as columns
prefix_of_entry : (es : List (String Global × Role)) →
    prefix_len (λ c. not (is_count c.role)) (map column_of_entry es) ≡ prefix_len (λ (e : String Global × Role). not (is_count e.1)) es
prefix_of_entry [] = refl
prefix_of_entry (e ∷ es) = ap (λ k. cond (not (is_count e.1)) (1 + k) 0) (prefix_of_entry es)

-- the place of the count is that of the entry that is one
pub people_of_entry : (es : List (String Global × Role)) → people_place (map column_of_entry es) ≡ position (λ (e : String Global × Role). is_count e.1) es
people_of_entry es =
    let before : ℕ = prefix_len (λ (e : String Global × Role). not (is_count e.1)) es in
    ap (λ n. cond (nat_lt n (length (map column_of_entry es))) (Some n) None) (prefix_of_entry es)
    ∙ ap (λ n. cond (nat_lt before n) (Some before) None) (length-map es column_of_entry)

-- and the column there is a count
pub count_there : (cs : List Column) (place : Option ℕ) → place ≡ people_place cs → IfSome place (λ k. role_at cs k ≡ Some role.Count)
count_there cs None is = tt
count_there cs (Some k) is = people_is_count cs k (sym is)

-- the role of the column at a place is that of the entry there
pub role_of_entry : (es : List (String Global × Role)) (k : ℕ) (e : String Global × Role) → k < length es → e ≡ get_or es k e →
    Some e.1 ≡ role_at (map column_of_entry es) k
role_of_entry es k e below is =
    let there = slice_get-get_or es k e below ∙ ap Some (sym is) in
    sym (ap (option_map (λ c. c.role)) (slice_get-map column_of_entry es k ∙ ap (option_map column_of_entry) there))
