-- The first fault of records, and of the fields of one, is that of the first that has any.
use Rattle.std.proofs.Common.{◌≡◌, ℕ, zero, suc, ◌+◌, ◌<◌, List, [], ◌∷◌, Option, Some, None, refl, sym, ap, ◌∙◌, arith}
use Rattle.std.specs.Prelude.{slice_get}
use Rattle.std.proofs.lemmas.Option.{none-some, same_Some}
use Rattle.schema_json.specs.declared.roles.Role.{Role}
use Rattle.table_load.specs.declared.faults.TableFault.{TableFault}
use Rattle.std.specs.Option.{option_or}
use Rattle.table_load.specs.Reading.{Fields, cell_fault, cells_fault, record_fault, records_fault}
use Rattle.table_load.specs.FirstFaults.{IsFirstRecord, IsFirstField}

-- ---- records

-- the first of records that are numbered from a line on
record FirstRecord (roles : List Role) (line : ℕ) (rs : List Fields) (place : ℕ) (fault : TableFault) : Type 0 where
  fields : Fields
  stands : slice_get rs place ≡ Some fields
  fault_is : record_fault roles (line + place) fields ≡ Some fault
  before : (k : ℕ) (earlier : Fields) → k < place → slice_get rs k ≡ Some earlier → record_fault roles (line + k) earlier ≡ None

-- a record is numbered by how many stand before it
at_line : (roles : List Role) (m n : ℕ) (fields : Fields) → m ≡ n → record_fault roles m fields ≡ record_fault roles n fields
at_line roles m n fields e = ap (λ k. record_fault roles k fields) e

this_record : (roles : List Role) (line : ℕ) (r : Fields) (rs : List Fields) (fault : TableFault) → record_fault roles line r ≡ Some fault →
    FirstRecord roles line (r ∷ rs) 0 fault
this_record roles line r rs fault is =
    record { fields = r; stands = refl; fault_is = at_line roles (line + 0) line r (omega arith) ∙ is; before = λ k earlier lt. absurd (omega (arith, lt)) }

later_record : (roles : List Role) (line : ℕ) (r : Fields) (rs : List Fields) (place : ℕ) (fault : TableFault) → record_fault roles line r ≡ None →
    FirstRecord roles (line + 1) rs place fault → FirstRecord roles line (r ∷ rs) (suc place) fault
later_record roles line r rs place fault none first = record {
  fields = first.fields;
  stands = first.stands;
  fault_is = at_line roles (line + suc place) (line + 1 + place) first.fields (omega arith) ∙ first.fault_is;
  before = before;
}
  where
    before : (k : ℕ) (earlier : Fields) → k < suc place → slice_get (r ∷ rs) k ≡ Some earlier → record_fault roles (line + k) earlier ≡ None
    before zero earlier lt e = at_line roles (line + 0) line earlier (omega arith) ∙ ap (record_fault roles line) (sym (same_Some r earlier e)) ∙ none
    before (suc k) earlier lt e = at_line roles (line + suc k) (line + 1 + k) earlier (omega arith) ∙ first.before k earlier (omega (arith, lt)) e

record_by_first : (roles : List Role) (line : ℕ) (r : Fields) (rs : List Fields) (fault : TableFault) (first : Option TableFault)
    → record_fault roles line r ≡ first → option_or first (records_fault roles (line + 1) rs) ≡ Some fault
    → (records_fault roles (line + 1) rs ≡ Some fault → (place : ℕ) × FirstRecord roles (line + 1) rs place fault) →
    (place : ℕ) × FirstRecord roles line (r ∷ rs) place fault
record_by_first roles line r rs fault (Some this) is e rest = (0, this_record roles line r rs fault (is ∙ e))
record_by_first roles line r rs fault None is e rest = let later = rest e in (suc later.0, later_record roles line r rs later.0 fault is later.1)

records_first : (roles : List Role) (line : ℕ) (rs : List Fields) (fault : TableFault) → records_fault roles line rs ≡ Some fault →
    (place : ℕ) × FirstRecord roles line rs place fault
records_first roles line [] fault e = absurd (none-some fault e)
records_first roles line (r ∷ rs) fault e = record_by_first roles line r rs fault (record_fault roles line r) refl e (records_first roles (line + 1) rs fault)

first_record : (roles : List Role) (line : ℕ) (rs : List Fields) (place : ℕ) (fault : TableFault) → FirstRecord roles line rs place fault →
    records_fault roles line rs ≡ Some fault
first_record roles line [] place fault first = absurd (none-some first.fields first.stands)
first_record roles line (r ∷ rs) zero fault first =
    let here : record_fault roles line r ≡ Some fault = ap (record_fault roles line) (same_Some r first.fields first.stands)
    ∙ at_line roles line (line + 0) first.fields (omega arith) ∙ first.fault_is in
    ap (λ f. option_or f (records_fault roles (line + 1) rs)) here
first_record roles line (r ∷ rs) (suc place) fault first =
    let none : record_fault roles line r ≡ None = at_line roles line (line + 0) r (omega arith) ∙ first.before 0 r (omega arith) refl in
    let rest : FirstRecord roles (line + 1) rs place fault = record {
      fields = first.fields;
      stands = first.stands;
      fault_is = at_line roles (line + 1 + place) (line + suc place) first.fields (omega arith) ∙ first.fault_is;
      before = λ k earlier lt e. at_line roles (line + 1 + k) (line + suc k) earlier (omega arith) ∙ first.before (suc k) earlier (omega (arith, lt)) e;
    } in
    ap (λ f. option_or f (records_fault roles (line + 1) rs)) none ∙ first_record roles (line + 1) rs place fault rest

pub first_of_records : (roles : List Role) (rs : List Fields) (fault : TableFault) → records_fault roles 2 rs ≡ Some fault →
    (place : ℕ) × IsFirstRecord roles rs place fault
first_of_records roles rs fault e =
    let first = records_first roles 2 rs fault e in
    (first.0, record { fields = first.1.fields; stands = first.1.stands; fault_is = first.1.fault_is; before = first.1.before })

pub fault_of_first_record : (roles : List Role) (rs : List Fields) (place : ℕ) (fault : TableFault) → IsFirstRecord roles rs place fault →
    records_fault roles 2 rs ≡ Some fault
fault_of_first_record roles rs place fault first =
    first_record roles 2 rs place fault (record { fields = first.fields; stands = first.stands; fault_is = first.fault_is; before = first.before })

-- ---- fields

-- the first of fields whose columns are numbered from one on
record FirstField (roles : List Role) (line from : ℕ) (fields : Fields) (column : ℕ) (fault : TableFault) : Type 0 where
  role : Role
  field : List ℕ
  role_is : slice_get roles column ≡ Some role
  stands : slice_get fields column ≡ Some field
  fault_is : cell_fault role line (from + column) field ≡ Some fault
  before : (k : ℕ) (other : Role) (earlier : List ℕ) → k < column → slice_get roles k ≡ Some other → slice_get fields k ≡ Some earlier →
      cell_fault other line (from + k) earlier ≡ None

at_column : (role : Role) (line m n : ℕ) (field : List ℕ) → m ≡ n → cell_fault role line m field ≡ cell_fault role line n field
at_column role line m n field e = ap (λ k. cell_fault role line k field) e

this_field : (role : Role) (roles : List Role) (line from : ℕ) (field : List ℕ) (fields : Fields) (fault : TableFault) →
    cell_fault role line from field ≡ Some fault → FirstField (role ∷ roles) line from (field ∷ fields) 0 fault
this_field role roles line from field fields fault is =
    record {
      role = role;
      field = field;
      role_is = refl;
      stands = refl;
      fault_is = at_column role line (from + 0) from field (omega arith) ∙ is;
      before = λ k other earlier lt. absurd (omega (arith, lt));
    }

later_field : (role : Role) (roles : List Role) (line from : ℕ) (field : List ℕ) (fields : Fields) (column : ℕ) (fault : TableFault)
    → cell_fault role line from field ≡ None → FirstField roles line (from + 1) fields column fault
    → FirstField (role ∷ roles) line from (field ∷ fields) (suc column) fault
later_field role roles line from field fields column fault none first = record {
  role = first.role;
  field = first.field;
  role_is = first.role_is;
  stands = first.stands;
  fault_is = at_column first.role line (from + suc column) (from + 1 + column) first.field (omega arith) ∙ first.fault_is;
  before = before;
}
  where
    before : (k : ℕ) (other : Role) (earlier : List ℕ) → k < suc column → slice_get (role ∷ roles) k ≡ Some other →
        slice_get (field ∷ fields) k ≡ Some earlier → cell_fault other line (from + k) earlier ≡ None
    before zero other earlier lt r e =
        at_column other line (from + 0) from earlier (omega arith) ∙ ap (λ x. cell_fault x line from earlier) (sym (same_Some role other r))
        ∙ ap (cell_fault role line from) (sym (same_Some field earlier e)) ∙ none
    before (suc k) other earlier lt r e =
        at_column other line (from + suc k) (from + 1 + k) earlier (omega arith) ∙ first.before k other earlier (omega (arith, lt)) r e

field_by_first : (role : Role) (roles : List Role) (line from : ℕ) (field : List ℕ) (fields : Fields) (fault : TableFault) (first : Option TableFault)
    → cell_fault role line from field ≡ first
    → option_or first (cells_fault line (from + 1) roles fields) ≡ Some fault →
    (cells_fault line (from + 1) roles fields ≡ Some fault → (column : ℕ) × FirstField roles line (from + 1) fields column fault)
    → (column : ℕ) × FirstField (role ∷ roles) line from (field ∷ fields) column fault
field_by_first role roles line from field fields fault (Some this) is e rest = (0, this_field role roles line from field fields fault (is ∙ e))
field_by_first role roles line from field fields fault None is e rest =
    let later = rest e in (suc later.0, later_field role roles line from field fields later.0 fault is later.1)

fields_first : (roles : List Role) (line from : ℕ) (fields : Fields) (fault : TableFault) → cells_fault line from roles fields ≡ Some fault →
    (column : ℕ) × FirstField roles line from fields column fault
fields_first [] line from fields fault e = absurd (none-some fault e)
fields_first (role ∷ roles) line from [] fault e = absurd (none-some fault e)
fields_first (role ∷ roles) line from (field ∷ fields) fault e =
    field_by_first role roles line from field fields fault (cell_fault role line from field) refl e (fields_first roles line (from + 1) fields fault)

first_field : (roles : List Role) (line from : ℕ) (fields : Fields) (column : ℕ) (fault : TableFault) → FirstField roles line from fields column fault →
    cells_fault line from roles fields ≡ Some fault
first_field [] line from fields column fault first = absurd (none-some first.role first.role_is)
first_field (role ∷ roles) line from [] column fault first = absurd (none-some first.field first.stands)
first_field (role ∷ roles) line from (field ∷ fields) zero fault first =
    let here : cell_fault role line from field ≡ Some fault =
    ap (λ x. cell_fault x line from field) (same_Some role first.role first.role_is)
    ∙ ap (cell_fault first.role line from) (same_Some field first.field first.stands) ∙ at_column first.role line from (from + 0) first.field (omega arith)
    ∙ first.fault_is in
    ap (λ f. option_or f (cells_fault line (from + 1) roles fields)) here
first_field (role ∷ roles) line from (field ∷ fields) (suc column) fault first =
    let none : cell_fault role line from field ≡ None = at_column role line from (from + 0) field (omega arith)
    ∙ first.before 0 role field (omega arith) refl refl in
    let rest : FirstField roles line (from + 1) fields column fault = record {
      role = first.role;
      field = first.field;
      role_is = first.role_is;
      stands = first.stands;
      fault_is = at_column first.role line (from + 1 + column) (from + suc column) first.field (omega arith) ∙ first.fault_is;
      before =
          λ k other earlier lt r e. at_column other line (from + 1 + k) (from + suc k) earlier (omega arith)
          ∙ first.before (suc k) other earlier (omega (arith, lt)) r e;
    } in
    ap (λ f. option_or f (cells_fault line (from + 1) roles fields)) none ∙ first_field roles line (from + 1) fields column fault rest

pub first_of_fields : (roles : List Role) (line : ℕ) (fields : Fields) (fault : TableFault) → cells_fault line 0 roles fields ≡ Some fault →
    (column : ℕ) × IsFirstField roles line fields column fault
first_of_fields roles line fields fault e =
    let first = fields_first roles line 0 fields fault e in (
      first.0,
      record {
        role = first.1.role;
        field = first.1.field;
        role_is = first.1.role_is;
        stands = first.1.stands;
        fault_is = at_column first.1.role line first.0 (0 + first.0) first.1.field (omega arith) ∙ first.1.fault_is;
        before = λ k other earlier lt r s. at_column other line k (0 + k) earlier (omega arith) ∙ first.1.before k other earlier lt r s;
      },
    )

pub fault_of_first_field : (roles : List Role) (line : ℕ) (fields : Fields) (column : ℕ) (fault : TableFault) → IsFirstField roles line fields column fault →
    cells_fault line 0 roles fields ≡ Some fault
fault_of_first_field roles line fields column fault first = first_field roles line 0 fields column fault (record {
  role = first.role;
  field = first.field;
  role_is = first.role_is;
  stands = first.stands;
  fault_is = at_column first.role line (0 + column) column first.field (omega arith) ∙ first.fault_is;
  before = λ k other earlier lt r s. at_column other line (0 + k) k earlier (omega arith) ∙ first.before k other earlier lt r s;
})
