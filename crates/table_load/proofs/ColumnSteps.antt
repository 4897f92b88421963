-- The columns of a table, one after another, and what they are if no record has a fault.
use Rattle.std.proofs.Common.{◌≡◌, ℕ, zero, suc, ◌+◌, ◌<◌, Bool, true, false, cond, List, [], ◌∷◌, length, drop, filter, get_or, subst, Option, Some, None, refl, sym, ap, ◌∙◌, arith, add-one}
use Rattle.std.specs.Prelude.{ℤ, pos, ◌<ℤ◌, int_lt, neg_ℤ, unwrap_or, not, nat_lt}
use Rattle.std.proofs.lemmas.Bool.{and_parts}
use Rattle.std.proofs.lemmas.Int.{ints}
use Rattle.std.specs.List.{AllByRecursion}
use Rattle.std.proofs.lemmas.List.{length-map}
use Rattle.audit_types.specs.History.{Secrets}
use Rattle.audit_types.specs.Limits.{most_number}
use Rattle.audit_types.specs.Minima.{negated}
use Rattle.audit_types.specs.Numbers.{size_negated}
use Rattle.schema_json.specs.Columns.{Column, is_public, is_secret, role_at, secret_count}
use Rattle.schema_json.specs.declared.roles.Role.{Role}
use Rattle.schema_json.specs.declared.roles.Role.TheVariants as role
use Rattle.table_load.specs.Numerals.{number_in, in_range}
use Rattle.table_load.specs.Cells.{AreCells, AreNumbers, HoldsRole, hidden}
use Rattle.table_load.specs.Reading.{Fields, is_in_file, has_numbers, file_columns, roles_of, records_fault}
use Rattle.table_load.specs.Tables.{HasCell, is_number, field_of, number_of_field, number_column, kept_as, kept_number, cells_of, place_after, cells_from, secrets_from}
use Rattle.table_load.specs.declared.layout.FileColumns.{FileColumns}
use Rattle.table_load.specs.declared.layout.FileColumns.TheVariants as file
use Rattle.table_load.specs.MeaningLaws.{all_columns}
use Rattle.table_load.specs.SchemaPlaces.{here, role_is}
use Rattle.table_load.proofs.GoodCells.{records_hold}

-- a public column is in every file
pub public_in_file : (which : FileColumns) (r : Role) → is_public r ≡ true → is_in_file which r ≡ true
public_in_file file.All r public = refl
public_in_file file.Public r public = public

-- the elements after the first of those from a place on
pub drop_tail : {X : Type 0} (xs : List X) (k : ℕ) (x : X) (rest : List X) → drop k xs ≡ x ∷ rest → drop (k + 1) xs ≡ rest
drop_tail [] zero x rest is = absurd (cc)
drop_tail [] (suc k) x rest is = absurd (cc)
drop_tail (y ∷ xs) zero x rest is = cc
drop_tail (y ∷ xs) (suc k) x rest is = ap (λ n. drop n (y ∷ xs)) (add-one (suc k)) ∙ ap (λ n. drop n xs) (sym (add-one k)) ∙ drop_tail xs k x rest is

-- the public columns from a place of the schema on
pub cells_step : (which : FileColumns) (k : ℕ) (cs : List Column) (place : ℕ) (r : Role) (rows : List Fields) → place < length cs → Some r ≡ role_at cs place
    → cells_from which k (drop place cs) rows ≡ cells_of r k rows ∷ cells_from which (place_after which r k) (drop (place + 1) cs) rows
cells_step which k cs place r rows within is =
    let h = here cs place within in
    ap (λ columns. cells_from which k columns rows) h.from_here
    ∙ ap (λ x. cells_of x k rows ∷ cells_from which (place_after which x k) (drop (place + 1) cs) rows) (sym (role_is cs place h r is))

-- the secret columns from a place of the schema on
pub secrets_step : (k : ℕ) (cs : List Column) (place : ℕ) (r : Role) (rows : List Fields) → place < length cs → Some r ≡ role_at cs place
    → secrets_from k (drop place cs) rows ≡ cond (is_secret r) (kept_as r (number_column k rows) ∷ secrets_from (k + 1) (drop (place + 1) cs) rows)
    (secrets_from (k + 1) (drop (place + 1) cs) rows)
secrets_step k cs place r rows within is =
    let h = here cs place within in
    ap (λ columns. secrets_from k columns rows) h.from_here
    ∙ ap (λ x. cond (is_secret x) (kept_as x (number_column k rows) ∷ secrets_from (k + 1) (drop (place + 1) cs) rows)
    (secrets_from (k + 1) (drop (place + 1) cs) rows))
    (sym (role_is cs place h r is))

-- the roles from a place on are those of the columns from there on
drop-roles : (k : ℕ) (cs : List Column) → drop k (roles_of cs) ≡ roles_of (drop k cs)
drop-roles zero cs = refl
drop-roles (suc k) [] = refl
drop-roles (suc k) (c ∷ cs) = drop-roles k cs

-- the roles of a file with all columns from a place on
pub all_roles_from : (k : ℕ) (cs : List Column) → drop k (roles_of (file_columns file.All cs)) ≡ roles_of (drop k cs)
all_roles_from k cs = ap (λ columns. drop k (roles_of columns)) (all_columns cs) ∙ drop-roles k cs

-- the same, by the role at the place
pub role_of_all : (cs : List Column) (place : ℕ) (r : Role) → place < length cs → Some r ≡ role_at cs place →
    drop place (roles_of (file_columns file.All cs)) ≡ r ∷ roles_of (drop (place + 1) cs)
role_of_all cs place r within is =
    let h = here cs place within in
    all_roles_from place cs ∙ ap roles_of h.from_here ∙ ap (λ x. x ∷ roles_of (drop (place + 1) cs)) (sym (role_is cs place h r is))

-- a secret column has numbers
pub secret_numbers : (r : Role) → is_secret r ≡ true → has_numbers r ≡ true
secret_numbers role.Text secret = absurd (cc)
secret_numbers role.Number secret = refl
secret_numbers role.Count secret = refl
secret_numbers role.Sum secret = refl
secret_numbers role.Max secret = refl
secret_numbers role.Min secret = refl

-- the number of a field that spells one in range is in range
number_in_range : (o : Option ℤ) → is_number o ≡ true → in_range (unwrap_or o (pos 0)) ≡ true
number_in_range None number = absurd (cc)
number_in_range (Some z) number = number

-- the numbers of such fields are in range
all_in_range : (r : Role) (k : ℕ) (rows : List Fields) → has_numbers r ≡ true → AllByRecursion (HasCell r k) rows →
    AllByRecursion (λ z. in_range z ≡ true) (number_column k rows)
all_in_range r k [] numeric all = tt
all_in_range r k (fields ∷ rows) numeric all = (number_in_range (number_in (field_of k fields)) (all.0.number numeric), all_in_range r k rows numeric all.1)

-- a column whose fields are numbers is one of numbers in range
pub numbers_are : (r : Role) (k : ℕ) (rows : List Fields) → has_numbers r ≡ true → AllByRecursion (HasCell r k) rows →
    AreNumbers (length rows) (number_column k rows)
numbers_are r k rows numeric all =
    record { one_each = length-map rows (λ fields. number_of_field (field_of k fields)); within = all_in_range r k rows numeric all }

-- a number is negated within the range
negated_in_range : (z : ℤ) → in_range z ≡ true → in_range (neg_ℤ z) ≡ true
negated_in_range z within = ap (λ n. not (nat_lt most_number n)) (size_negated z) ∙ within

-- numbers in range are in range as they are kept
kept_are : (r : Role) (n : ℕ) (w : List ℤ) → AreNumbers n w → AreNumbers n (kept_as r w)
kept_are role.Text n w are = are
kept_are role.Number n w are = are
kept_are role.Count n w are = are
kept_are role.Sum n w are = are
kept_are role.Max n w are = are
kept_are role.Min n w are = record { one_each = length-map w neg_ℤ ∙ are.one_each; within = all w are.within }
  where
    all : (w : List ℤ) → AllByRecursion (λ z. in_range z ≡ true) w → AllByRecursion (λ z. in_range z ≡ true) (negated w)
    all [] within = tt
    all (z ∷ w) within = (negated_in_range z within.0, all w within.1)

-- one number more, as they are kept
pub kept_one : (r : Role) (z : ℤ) (w : List ℤ) → kept_as r (z ∷ w) ≡ kept_number r z ∷ kept_as r w
kept_one role.Text z w = refl
kept_one role.Number z w = refl
kept_one role.Count z w = refl
kept_one role.Sum z w = refl
kept_one role.Max z w = refl
kept_one role.Min z w = refl

-- none
pub kept_none : (r : Role) → kept_as r [] ≡ []
kept_none role.Text = refl
kept_none role.Number = refl
kept_none role.Count = refl
kept_none role.Sum = refl
kept_none role.Max = refl
kept_none role.Min = refl

-- what everybody may see of a column has a cell for each row
cells_are : (r : Role) (k : ℕ) (rows : List Fields) → (is_public r ≡ true → AllByRecursion (HasCell r k) rows) → AreCells (length rows) (cells_of r k rows)
cells_are role.Text k rows all = length-map rows (field_of k)
cells_are role.Number k rows all = numbers_are role.Number k rows refl (all refl)
cells_are role.Count k rows all = numbers_are role.Count k rows refl (all refl)
cells_are role.Sum k rows all = tt
cells_are role.Max k rows all = tt
cells_are role.Min k rows all = tt

-- the counts of a column are at least 1
counts_are : (k : ℕ) (rows : List Fields) → AllByRecursion (HasCell role.Count k) rows → AllByRecursion (λ z. pos 0 <ℤ z) (number_column k rows)
counts_are k [] all = tt
counts_are k (fields ∷ rows) all =
    let z = number_of_field (field_of k fields) in
    let above = (and_parts (in_range z) (int_lt (pos 0) z) (all.0.fits refl)).1 in
    (omega (arith, ints), counts_are k rows all.1)

-- the cells of a role hold what it says
cells_hold_role : (r : Role) (k : ℕ) (rows : List Fields) → (is_public r ≡ true → AllByRecursion (HasCell r k) rows) → HoldsRole r (cells_of r k rows)
cells_hold_role role.Text k rows all = tt
cells_hold_role role.Number k rows all = tt
cells_hold_role role.Count k rows all = (tt, counts_are k rows (all refl))
cells_hold_role role.Sum k rows all = refl
cells_hold_role role.Max k rows all = refl
cells_hold_role role.Min k rows all = refl

-- a column that is in the file has the next role
roles_in : (which : FileColumns) (c : Column) (cs : List Column) (r : Role) (b : Bool) → is_in_file which r ≡ b → b ≡ true →
    roles_of (cond (is_in_file which r) (c ∷ file_columns which cs) (file_columns which cs)) ≡ c.role ∷ roles_of (file_columns which cs)
roles_in which c cs r b is in_file = ap (λ x. roles_of (cond x (c ∷ file_columns which cs) (file_columns which cs))) (is ∙ in_file)

-- after the next column of the file the later roles are left
next_roles : (which : FileColumns) (roles : List Role) (k : ℕ) (c : Column) (cs : List Column) (b : Bool) →
    drop k roles ≡ roles_of (cond b (c ∷ file_columns which cs) (file_columns which cs)) → drop (cond b (k + 1) k) roles ≡ roles_of (file_columns which cs)
next_roles which roles k c cs true at_k = drop_tail roles k c.role (roles_of (file_columns which cs)) at_k
next_roles which roles k c cs false at_k = at_k

-- the public columns of a file without a fault have a cell for each row
pub all_cells_are : (which : FileColumns) (roles : List Role) (rows : List Fields) (k : ℕ) (cs : List Column) → records_fault roles 2 rows ≡ None
    → drop k roles ≡ roles_of (file_columns which cs)
    → AllByRecursion (AreCells (length rows)) (cells_from which k cs rows)
all_cells_are which roles rows k [] good at_k = tt
all_cells_are which roles rows k (c ∷ cs) good at_k = (
  cells_are c.role k rows (λ public. records_hold roles 2 rows k c.role (roles_of (file_columns which cs)) good
      (at_k ∙ roles_in which c cs c.role (is_in_file which c.role) refl (public_in_file which c.role public))),
  all_cells_are which roles rows (place_after which c.role k) cs good (next_roles which roles k c cs (is_in_file which c.role) at_k),
)

-- they fit the schema
pub cells_fit : (which : FileColumns) (roles : List Role) (rows : List Fields) (k : ℕ) (cs : List Column) → records_fault roles 2 rows ≡ None
    → drop k roles ≡ roles_of (file_columns which cs)
    → (place : ℕ) (r : Role) → role_at cs place ≡ Some r → HoldsRole r (get_or (cells_from which k cs rows) place hidden)
cells_fit which roles rows k [] good at_k place r is = absurd (cc)
cells_fit which roles rows k (c ∷ cs) good at_k zero r is =
    let same : c.role ≡ r = ap (λ o. unwrap_or o r) is in
    let P : Role → Type 0 = λ x. HoldsRole x (cells_of c.role k rows) in
    subst P same (cells_hold_role c.role k rows (λ public. records_hold roles 2 rows k c.role (roles_of (file_columns which cs)) good
    (at_k ∙ roles_in which c cs c.role (is_in_file which c.role) refl (public_in_file which c.role public))))
cells_fit which roles rows k (c ∷ cs) good at_k (suc place) r is =
    cells_fit which roles rows (place_after which c.role k) cs good (next_roles which roles k c cs (is_in_file which c.role) at_k) place r is

-- a list joins the others if its column is secret
secret_of : (b : Bool) (list : List ℤ) (lists : Secrets) (n : ℕ) → (b ≡ true → AreNumbers n list) → AllByRecursion (AreNumbers n) lists →
    AllByRecursion (AreNumbers n) (cond b (list ∷ lists) lists)
secret_of true list lists n first others = (first refl, others)
secret_of false list lists n first others = others

-- the secret columns of a file without a fault have a number in range for each row
pub all_secrets_are : (roles : List Role) (rows : List Fields) (k : ℕ) (cs : List Column) → records_fault roles 2 rows ≡ None → drop k roles ≡ roles_of cs →
    AllByRecursion (AreNumbers (length rows)) (secrets_from k cs rows)
all_secrets_are roles rows k [] good at_k = tt
all_secrets_are roles rows k (c ∷ cs) good at_k =
    secret_of (is_secret c.role) (kept_as c.role (number_column k rows)) (secrets_from (k + 1) cs rows) (length rows)
    (λ secret. kept_are c.role (length rows) (number_column k rows)
    (numbers_are c.role k rows (secret_numbers c.role secret) (records_hold roles 2 rows k c.role (roles_of cs) good at_k)))
    (all_secrets_are roles rows (k + 1) cs good (drop_tail roles k c.role (roles_of cs) at_k))

-- a list that is there or not counts as its column does
counted : (b : Bool) (list : List ℤ) (lists : Secrets) (c : Column) (cs : List Column) → length lists ≡ length cs →
    length (cond b (list ∷ lists) lists) ≡ length (cond b (c ∷ cs) cs)
counted true list lists c cs same = ap (λ n. suc n) same
counted false list lists c cs same = same

-- there is a list for each secret column
pub secrets_counted : (k : ℕ) (cs : List Column) (rows : List Fields) → length (secrets_from k cs rows) ≡ secret_count cs
secrets_counted k [] rows = refl
secrets_counted k (c ∷ cs) rows =
    counted (is_secret c.role) (kept_as c.role (number_column k rows)) (secrets_from (k + 1) cs rows) c (filter (λ d. is_secret d.role) cs)
    (secrets_counted (k + 1) cs rows)
