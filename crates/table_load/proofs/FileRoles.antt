-- The columns of a file: their roles and names, from a place of the schema on.
use Rattle.std.proofs.Common.{◌≡◌, ℕ, ◌+◌, ◌<◌, ◌≤◌, Bool, true, false, cond, List, [], ◌∷◌, length, drop, get_or, Some, refl, sym, ap, ◌∙◌, arith, inl, inr, zero, suc, filter}
use Rattle.std.specs.Prelude.{nat_lt, ◌&&◌, ◌||◌, ◌==◌}
use Rattle.std.specs.Str.{bytes_eq}
use Rattle.std.proofs.lemmas.Bool.{cases_eq, eq-eqb, ne_eqb, ltb-false, or_parts}
use Rattle.std.proofs.Math.ListN.{drop_of_length-le}
use Rattle.schema_json.specs.Columns.{Column, AreColumns, role_at, name_at, secret_count, is_count}
use Rattle.schema_json.specs.declared.roles.Role.{Role}
use Rattle.table_load.specs.Reading.{Fields, is_in_file, file_columns, roles_of, names_are}
use Rattle.table_load.specs.declared.layout.FileColumns.{FileColumns}
use Rattle.table_load.specs.SchemaPlaces.{Here, here, role_is, name_is}
use Rattle.table_load.proofs.FieldPlaces.{drop_here}

-- a column that is in the file or not adds at most one
one_of : (b : Bool) (c : Column) (cs : List Column) (n : ℕ) → length (roles_of cs) ≤ n → length (roles_of (cond b (c ∷ cs) cs)) ≤ 1 + n
one_of true c cs n h = omega (arith, h)
one_of false c cs n h = omega (arith, h)

-- a file has no more columns than the schema
not_more : (which : FileColumns) (cs : List Column) → length (roles_of (file_columns which cs)) ≤ length cs
not_more which [] = omega arith
not_more which (c ∷ cs) = let most = one_of (is_in_file which c.role) c (file_columns which cs) (length cs) (not_more which cs) in omega (arith, most)

-- a file has at most 32 columns
pub few_roles : (which : FileColumns) (cs : List Column) → AreColumns cs → length (roles_of (file_columns which cs)) ≤ 32
few_roles which cs are =
    let few = (or_parts (nat_lt 32 (length cs) || nat_lt 8 (secret_count cs)) (nat_lt 1 (length (filter (λ c. is_count c.role) cs))) are.within).0 in
    omega (arith, not_more which cs, ltb-false 32 (length cs) (or_parts (nat_lt 32 (length cs)) (nat_lt 8 (secret_count cs)) few).0)

-- the columns of the file from a place of the schema on
columns_from : (which : FileColumns) (cs : List Column) (place : ℕ) (h : Here cs place) (r : Role) → Some r ≡ role_at cs place
    → file_columns which (drop place cs) ≡ cond (is_in_file which r) (h.column ∷ file_columns which (drop (place + 1) cs))
    (file_columns which (drop (place + 1) cs))
columns_from which cs place h r is =
    ap (file_columns which) h.from_here
    ∙ ap (λ x. cond (is_in_file which x) (h.column ∷ file_columns which (drop (place + 1) cs)) (file_columns which (drop (place + 1) cs)))
    (sym (role_is cs place h r is))

-- a column that is in the file
pub roles_with : (which : FileColumns) (cs : List Column) (place : ℕ) (r : Role) → place < length cs → Some r ≡ role_at cs place → is_in_file which r ≡ true
    → roles_of (file_columns which (drop place cs)) ≡ r ∷ roles_of (file_columns which (drop (place + 1) cs))
roles_with which cs place r within is in_file =
    let h = here cs place within in
    ap roles_of (columns_from which cs place h r is)
    ∙ ap (λ b. roles_of (cond b (h.column ∷ file_columns which (drop (place + 1) cs)) (file_columns which (drop (place + 1) cs)))) in_file
    ∙ ap (λ x. x ∷ roles_of (file_columns which (drop (place + 1) cs))) (sym (role_is cs place h r is))

-- a column that is not in the file
pub columns_without : (which : FileColumns) (cs : List Column) (place : ℕ) (r : Role) → place < length cs → Some r ≡ role_at cs place
    → is_in_file which r ≡ false
    → file_columns which (drop place cs) ≡ file_columns which (drop (place + 1) cs)
columns_without which cs place r within is not_in_file =
    let h = here cs place within in
    columns_from which cs place h r is
    ∙ ap (λ b. cond b (h.column ∷ file_columns which (drop (place + 1) cs)) (file_columns which (drop (place + 1) cs))) not_in_file

-- a column that is in the file, by its name
columns_with : (which : FileColumns) (cs : List Column) (place : ℕ) (h : Here cs place) (r : Role) → Some r ≡ role_at cs place → is_in_file which r ≡ true
    → file_columns which (drop place cs) ≡ h.column ∷ file_columns which (drop (place + 1) cs)
columns_with which cs place h r is in_file =
    columns_from which cs place h r is
    ∙ ap (λ b. cond b (h.column ∷ file_columns which (drop (place + 1) cs)) (file_columns which (drop (place + 1) cs))) in_file

-- no field is left for a column
pub no_name_left : (which : FileColumns) (cs : List Column) (place : ℕ) (r : Role) (fields : Fields) (k : ℕ) → place < length cs → Some r ≡ role_at cs place
    → is_in_file which r ≡ true → length fields ≤ k
    → names_are (drop k fields) (file_columns which (drop place cs)) ≡ false
no_name_left which cs place r fields k within is in_file past =
    ap (names_are (drop k fields)) (columns_with which cs place (here cs place within) r is in_file) ∙ none fields k past _ _
  where
    none : (fields : Fields) (k : ℕ) → length fields ≤ k → (c : Column) (later : List Column) → names_are (drop k fields) (c ∷ later) ≡ false
    none [] zero past c later = refl
    none [] (suc k) past c later = refl
    none (f ∷ fields) zero past c later = absurd (omega (arith, past))
    none (f ∷ fields) (suc k) past c later = none fields k (omega (arith, past)) c later

-- the field is the column's name, and the later ones are the later names
pub names_from : (which : FileColumns) (cs : List Column) (place : ℕ) (r : Role) (name : List ℕ) (fields : Fields) (k : ℕ) → place < length cs
    → k < length fields
    → Some r ≡ role_at cs place → is_in_file which r ≡ true → Some name ≡ name_at cs place
    → names_are (drop k fields) (file_columns which (drop place cs)) ≡
    (bytes_eq (get_or fields k []) name && names_are (drop (k + 1) fields) (file_columns which (drop (place + 1) cs)))
names_from which cs place r name fields k within in_fields is in_file named =
    let h = here cs place within in
    ap (names_are (drop k fields)) (columns_with which cs place h r is in_file)
    ∙ ap (λ fs. names_are fs (h.column ∷ file_columns which (drop (place + 1) cs))) (drop_here fields k [] in_fields)
    ∙ ap (λ n. bytes_eq (get_or fields k []) n && names_are (drop (k + 1) fields) (file_columns which (drop (place + 1) cs)))
    (sym (name_is cs place h name named))

-- after the last column no field may be left
pub names_end : (fields : Fields) (k : ℕ) → k ≤ length fields → names_are (drop k fields) [] ≡ (k == length fields)
names_end fields k most =
    elim (cases_eq k (length fields)) [
      | inl last ↦ ap (λ fs. names_are fs []) (drop_of_length-le fields (omega (arith, last))) ∙ sym (eq-eqb k (length fields) last)
      | inr more ↦ ap (λ fs. names_are fs []) (drop_here fields k [] (omega (arith, most, more))) ∙ sym (ne_eqb k (length fields) more)
    ]
