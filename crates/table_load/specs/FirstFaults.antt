-- Which of many records, and of many fields, is the first with a fault.
use Rattle.std.specs.Prelude.{◌≡◌, ℕ, ◌+◌, ◌<◌, List, Some, None, slice_get}
use Rattle.schema_json.specs.declared.roles.Role.{Role}
use Rattle.table_load.specs.declared.faults.TableFault.{TableFault}
use Rattle.table_load.specs.Reading.{Fields, cell_fault, record_fault}

-- the data record at this place, from 0, has this fault, and none before it has any; the first one's line is 2
pub record IsFirstRecord (roles : List Role) (records : List Fields) (place : ℕ) (fault : TableFault) : Type 0 where
  pub fields : Fields
  pub stands : slice_get records place ≡ Some fields
  pub fault_is : record_fault roles (2 + place) fields ≡ Some fault
  pub before : (k : ℕ) (earlier : Fields) → k < place → slice_get records k ≡ Some earlier → record_fault roles (2 + k) earlier ≡ None

-- the field of this column, from 0, has this fault, and none of a column before it has any
pub record IsFirstField (roles : List Role) (line : ℕ) (fields : Fields) (column : ℕ) (fault : TableFault) : Type 0 where
  pub role : Role
  pub field : List ℕ
  pub role_is : slice_get roles column ≡ Some role
  pub stands : slice_get fields column ≡ Some field
  pub fault_is : cell_fault role line column field ≡ Some fault
  pub before : (k : ℕ) (other : Role) (earlier : List ℕ) → k < column → slice_get roles k ≡ Some other → slice_get fields k ≡ Some earlier → cell_fault other line k earlier ≡ None
