-- Records without a fault have the cells that the roles of their columns want.
use Rattle.std.proofs.Common.{◌≡◌, ℕ, zero, suc, ◌+◌, ◌<◌, Bool, true, false, cond, List, [], ◌∷◌, length, drop, map, get_or, Option, Some, None, refl, sym, ap, ◌∙◌, arith, subst}
use Rattle.std.specs.Prelude.{ℤ, pos, not, ◌==◌, ◌&&◌, if◌then◌else◌, int_lt, unwrap_or}
use Rattle.std.specs.List.{AllByRecursion, list_all}
use Rattle.std.specs.Str.{is_utf8}
use Rattle.std.proofs.lemmas.Bool.{false≢true, eqb-true, and_parts}
use Rattle.csv.specs.Records.{Row, fields_of}
use Rattle.schema_json.specs.declared.roles.Role.{Role}
use Rattle.schema_json.specs.declared.roles.Role.TheVariants as role
use Rattle.table_load.specs.Numerals.{number_in, in_range}
use Rattle.table_load.specs.Numbers.{IsNumeralOf}
use Rattle.table_load.specs.Reading.{Fields, has_numbers, fits_role, number_fault, cell_fault, cells_fault, record_fault, records_fault}
use Rattle.table_load.specs.Tables.{HasCell, is_number, number_of_field}
use Rattle.table_load.specs.declared.faults.TableFault.TheVariants as fault
use Rattle.table_load.specs.declared.numerals.Numeral.TheVariants as numeral
use Rattle.table_load.specs.MeaningLaws.{none_first}
use Rattle.audit_types.specs.ListLaws.{all-get_or, all-unmap}

-- a number in range is not too large
pub not_too_large : (meant : Option ℤ) → IsNumeralOf numeral.TooLarge meant → is_number meant ≡ true → ⊥
not_too_large meant large number = false≢true (sym (ap is_number large.1 ∙ large.2) ∙ number)

-- a number is one
pub not_none : (meant : Option ℤ) → IsNumeralOf numeral.NoNumber meant → is_number meant ≡ true → ⊥
not_none meant none number = false≢true (sym (ap is_number none) ∙ number)

-- what has no fault for its size is in range
in_range_from : (line column : ℕ) (z : ℤ) (b : Bool) → cond b None (Some (fault.OutOfRange line column)) ≡ None → b ≡ true
in_range_from line column z true is = refl
in_range_from line column z false is = absurd (cc)

-- what a role may have is in range
pub fits_in_range : (r : Role) (z : ℤ) → fits_role r z ≡ true → in_range z ≡ true
fits_in_range role.Text z fits = fits
fits_in_range role.Number z fits = fits
fits_in_range role.Count z fits = (and_parts (in_range z) (int_lt (pos 0) z) fits).0
fits_in_range role.Sum z fits = fits
fits_in_range role.Max z fits = fits
fits_in_range role.Min z fits = fits

-- a number that is too large is none
pub large_fits_not : (r : Role) (z : ℤ) → in_range z ≡ false → fits_role r z ≡ false
large_fits_not role.Text z large = large
large_fits_not role.Number z large = large
large_fits_not role.Count z large = ap (λ b. b && int_lt (pos 0) z) large
large_fits_not role.Sum z large = large
large_fits_not role.Max z large = large
large_fits_not role.Min z large = large

-- if a field that should be a number has no fault, it is one that its role may have
fine_number : (r : Role) (line column : ℕ) (meant : Option ℤ) → number_fault r line column meant ≡ None →
    (is_number meant ≡ true) × (fits_role r (unwrap_or meant (pos 0)) ≡ true)
fine_number r line column None is = absurd (cc)
fine_number r line column (Some z) is =
    let fits = in_range_from line column z (fits_role r z) is in
    (fits_in_range r z fits, fits)

-- a field without a fault spells one if its role wants one
fine_cell : (role : Role) (line column : ℕ) (field : List ℕ) → cell_fault role line column field ≡ None → has_numbers role ≡ true →
    (is_number (number_in field) ≡ true) × (fits_role role (number_of_field field) ≡ true)
fine_cell role line column field fine numeric =
    fine_number role line column (number_in field) (sym (ap (λ b. cond b (number_fault role line column (number_in field)) None) numeric) ∙ fine)

-- the first of the roles, if there is one
head_or : Role → List Role → Role
head_or r [] = r
head_or r (x ∷ xs) = x

-- fields without a fault have the cell at each place
cells_hold : (line column : ℕ) (roles : List Role) (fields : Fields) (k : ℕ) (role : Role) (rest : List Role) → length fields ≡ length roles →
    cells_fault line column roles fields ≡ None → drop k roles ≡ role ∷ rest → HasCell role k fields
unfolding head_or
cells_hold line column [] fields zero role rest same fine at_k = absurd (cc)
cells_hold line column [] fields (suc k) role rest same fine at_k = absurd (cc)
cells_hold line column (r ∷ roles) [] k role rest same fine at_k = absurd (omega (arith, same))
cells_hold line column (r ∷ roles) (f ∷ fields) zero role rest same fine at_k =
    let is : r ≡ role = ap (head_or r) at_k in
    let first = (none_first (cell_fault r line column f) (cells_fault line (column + 1) roles fields) fine).0 in
    record {
      within = omega arith;
      number = λ numeric. (fine_cell r line column f first (ap has_numbers is ∙ numeric)).0;
      fits = λ numeric. subst (λ x. fits_role x (number_of_field f) ≡ true) is (fine_cell r line column f first (ap has_numbers is ∙ numeric)).1;
    }
cells_hold line column (r ∷ roles) (f ∷ fields) (suc k) role rest same fine at_k =
    let later = cells_hold line (column + 1) roles fields k role rest (omega (arith, same))
    (none_first (cell_fault r line column f) (cells_fault line (column + 1) roles fields) fine).1 at_k in
    record { within = omega (arith, later.within); number = later.number; fits = later.fits }

-- the parts of a record's test
record FineRecord (roles : List Role) (line : ℕ) (fields : Fields) : Type 0 where
  same : length fields ≡ length roles
  cells : cells_fault line 0 roles fields ≡ None

-- what each test of a record says if it has no fault
fine_parts : (roles : List Role) (line : ℕ) (fields : Fields) (a b : Bool) → (length fields == length roles) ≡ a
    → (if not a then Some (fault.Length line) else (if not b then Some (fault.NotText line) else cells_fault line 0 roles fields)) ≡ None →
    FineRecord roles line fields
fine_parts roles line fields true true same fine = record { same = eqb-true (length fields) (length roles) same; cells = fine }
fine_parts roles line fields true false same fine = absurd (cc)
fine_parts roles line fields false b same fine = absurd (cc)

-- a record without a fault has the cell of a column
record_holds : (roles : List Role) (line : ℕ) (fields : Fields) (k : ℕ) (role : Role) (rest : List Role) → record_fault roles line fields ≡ None →
    drop k roles ≡ role ∷ rest → HasCell role k fields
record_holds roles line fields k role rest fine at_k =
    let parts = fine_parts roles line fields (length fields == length roles) (list_all is_utf8 fields) refl fine in
    cells_hold line 0 roles fields k role rest parts.same parts.cells at_k

-- records without a fault have the cells of a column
pub records_hold : (roles : List Role) (line : ℕ) (rows : List Fields) (k : ℕ) (role : Role) (rest : List Role) → records_fault roles line rows ≡ None →
    drop k roles ≡ role ∷ rest → AllByRecursion (HasCell role k) rows
records_hold roles line [] k role rest good at_k = tt
records_hold roles line (r ∷ rows) k role rest good at_k =
    let parts = none_first (record_fault roles line r) (records_fault roles (line + 1) rows) good in
    (record_holds roles line r k role rest parts.0 at_k, records_hold roles (line + 1) rows k role rest parts.1 at_k)

-- what all records have, the one at a place has
pub record_has : (P : Fields → Type 0) (rows : List Row) (i : ℕ) (row : Row) → AllByRecursion P (map fields_of rows) → i < length rows →
    row ≡ get_or rows i row → P (fields_of row)
record_has P rows i row all within is =
    subst (λ r. P (fields_of r)) (sym is) (all-get_or (λ r. P (fields_of r)) rows i row (all-unmap fields_of P rows all) within)
