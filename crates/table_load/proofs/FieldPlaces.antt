-- The fields of a record, place by place.
use Rattle.std.proofs.Common.{◌≡◌, ℕ, zero, suc, ◌+◌, ◌<◌, ◌≤◌, true, false, List, [], ◌∷◌, length, drop, get_or, Option, Some, None, refl, sym, ap, ◌∙◌, arith, drop-cons, add-one}
use Rattle.std.specs.Prelude.{◌&&◌, IsUtf8}
use Rattle.std.specs.List.{list_all}
use Rattle.std.specs.Str.{is_utf8}
use Rattle.std.proofs.lemmas.Str.{IsUtf8-from_is_utf8, is_utf8-from_IsUtf8}
use Rattle.std.proofs.lemmas.Bool.{false_from_ne_true}
use Rattle.csv.specs.Records.{field_at}
use Rattle.schema_json.specs.declared.roles.Role.{Role}
use Rattle.std.specs.Option.{is_some, option_or}
use Rattle.std.proofs.Math.ListN.{drop_of_length-le}
use Rattle.table_load.specs.declared.faults.TableFault.{TableFault}
use Rattle.table_load.specs.Reading.{cell_fault, cells_fault}

-- a place below the number of fields has a field
pub field_at_within : (fields : List (List ℕ)) (k : ℕ) → k < length fields → field_at fields k ≡ Some (get_or fields k [])
unfolding field_at
field_at_within [] k within = absurd (omega (arith, within))
field_at_within (f ∷ fields) zero within = refl
field_at_within (f ∷ fields) (suc k) within = field_at_within fields k (omega (arith, within))

-- a text passes the test
pub text_is : (bytes : List ℕ) → IsUtf8 bytes → is_utf8 bytes ≡ true
text_is bytes text = is_utf8-from_IsUtf8 bytes text

-- what isn't text fails it
pub text_is_not : (bytes : List ℕ) → ¬ (IsUtf8 bytes) → is_utf8 bytes ≡ false
text_is_not bytes none = false_from_ne_true (is_utf8 bytes) (λ is. none (IsUtf8-from_is_utf8 bytes is))

-- the list from a place on, by the element there
pub drop_here : {X : Type 0} (xs : List X) (k : ℕ) (d : X) → k < length xs → drop k xs ≡ get_or xs k d ∷ drop (k + 1) xs
drop_here xs k d within = drop-cons xs k d within ∙ ap (λ n. get_or xs k d ∷ drop n xs) (sym (add-one k))

-- the fields from a place on are texts if the one there is and the later ones are
pub texts_from : (fields : List (List ℕ)) (k : ℕ) → k < length fields →
    list_all is_utf8 (drop k fields) ≡ (is_utf8 (get_or fields k []) && list_all is_utf8 (drop (k + 1) fields))
texts_from fields k within = ap (list_all is_utf8) (drop_here fields k [] within)

-- the first fault of the fields from a place on is that of the one there, or of the later ones
pub cells_fault_from : (line k : ℕ) (roles : List Role) (fields : List (List ℕ)) (role : Role) → k < length roles → k < length fields
    → cells_fault line k (drop k roles) (drop k fields) ≡ option_or (cell_fault (get_or roles k role) line k (get_or fields k []))
    (cells_fault line (k + 1) (drop (k + 1) roles) (drop (k + 1) fields))
cells_fault_from line k roles fields role in_roles in_fields =
    ap (λ rs. cells_fault line k rs (drop k fields)) (drop_here roles k role in_roles)
    ∙ ap (cells_fault line k (get_or roles k role ∷ drop (k + 1) roles)) (drop_here fields k [] in_fields)

-- a fault there is the first
pub fault_here : (line k : ℕ) (roles : List Role) (fields : List (List ℕ)) (role : Role) (fault : Option TableFault) → length fields ≡ length roles
    → k < length roles → fault ≡ cell_fault (get_or roles k role) line k (get_or fields k []) → is_some fault ≡ true
    → cells_fault line k (drop k roles) (drop k fields) ≡ fault
fault_here line k roles fields role fault one_each within is some =
    cells_fault_from line k roles fields role within (omega (arith, one_each, within))
    ∙ ap (λ o. option_or o (cells_fault line (k + 1) (drop (k + 1) roles) (drop (k + 1) fields))) (sym is) ∙ first fault some
  where
    first : (o : Option TableFault) → is_some o ≡ true → option_or o (cells_fault line (k + 1) (drop (k + 1) roles) (drop (k + 1) fields)) ≡ o
    first (Some f) some = refl
    first None some = absurd cc

-- if there is none, it is that of the later ones
pub fault_later : (line k : ℕ) (roles : List Role) (fields : List (List ℕ)) (role : Role) (fault : Option TableFault) → length fields ≡ length roles
    → k < length roles → fault ≡ cell_fault (get_or roles k role) line k (get_or fields k []) → is_some fault ≡ false
    → cells_fault line k (drop k roles) (drop k fields) ≡ cells_fault line (k + 1) (drop (k + 1) roles) (drop (k + 1) fields)
fault_later line k roles fields role fault one_each within is none =
    cells_fault_from line k roles fields role within (omega (arith, one_each, within))
    ∙ ap (λ o. option_or o (cells_fault line (k + 1) (drop (k + 1) roles) (drop (k + 1) fields))) (sym is) ∙ later fault none
  where
    later : (o : Option TableFault) → is_some o ≡ false → option_or o (cells_fault line (k + 1) (drop (k + 1) roles) (drop (k + 1) fields))
        ≡ cells_fault line (k + 1) (drop (k + 1) roles) (drop (k + 1) fields)
    later (Some f) none = absurd cc
    later None none = refl

-- past the last column there is none
pub no_fault_left : (line k : ℕ) (roles : List Role) (fields : List (List ℕ)) → length roles ≤ k → cells_fault line k (drop k roles) fields ≡ None
no_fault_left line k roles fields past = ap (λ rs. cells_fault line k rs fields) (drop_of_length-le roles {i = k} past)
