-- The bytes of a group after its gate: a count and that many records, or a count of 0 and a greater number of rows.
use Rattle.std.specs.Prelude.{◌≡◌, ℕ, ◌+◌, ◌*◌, ◌/◌, ◌%◌, ◌<◌, ◌≤◌, ◌⊎◌, List, [], ◌∷◌, ◌++◌, length, slice_index}
use Rattle.audit_types.specs.Limits.{most_rows}
use Rattle.audit_types.specs.declared.shapes.Shape.{Shape}
use Rattle.audit_types.specs.declared.records.Answered.{Answered}
use Rattle.journal_form.specs.Places.{FirstBad}
use Rattle.journal_form.specs.Record.{IsRecord, RecordBreaks}

-- these bytes are the records, one after the other
abbrev pub AreRecords : Shape → List ℕ → List Answered → Type 0
AreRecords shape bytes [] = bytes ≡ []
AreRecords shape bytes (r ∷ list) = (text : List ℕ) × (behind : List ℕ) × (bytes ≡ text ++ behind) × IsRecord shape text r × AreRecords shape behind list

-- these bytes are a group of these records
abbrev pub IsGroup : Shape → List ℕ → List Answered → Type 0
IsGroup shape [] list = ⊥
IsGroup shape (count ∷ records) list = (count ≡ length list) × (0 < count) × (count ≤ 64) × AreRecords shape records list

-- a number that so many rows may grow to
abbrev pub IsMoreRows : ℕ → ℕ → Type 0
IsMoreRows rows more = (rows < more) × (more ≤ most_rows)

-- these bytes are a growth to more rows
abbrev pub IsGrowth : ℕ → List ℕ → ℕ → Type 0
IsGrowth rows text more = IsMoreRows rows more × (text ≡ 0 ∷ (more / 256) ∷ (more % 256) ∷ [])

-- these bytes are some records, after which the rows are as before, or a growth, which has no record
abbrev pub IsWritten : Shape → List ℕ → List Answered → ℕ → Type 0
IsWritten shape text list rows = (IsGroup shape text list × (rows ≡ shape.rows)) ⊎ (IsGrowth shape.rows text rows × (list ≡ []))

-- ---- damage

-- a count byte of records: 1 to 64, and no more than the journal may still hold
abbrev pub IsCount : ℕ → ℕ → Type 0
IsCount left count = (0 < count) × (count ≤ 64) × (count ≤ left)

-- a count byte of a growth: there may be more rows
abbrev pub MayGrow : ℕ → ℕ → Type 0
MayGrow rows count = (count ≡ 0) × (rows < most_rows)

-- there is no count byte, or it is none
abbrev pub CountBreaks : ℕ → ℕ → List ℕ → Type 0
CountBreaks rows left [] = Unit {0}
CountBreaks rows left (count ∷ behind) = IsCount left count ⊎ MayGrow rows count → ⊥

-- after a good count and some whole records, fewer than it says, a byte breaks the next record
pub record BreaksInRecord (shape : Shape) (left : ℕ) (bytes : List ℕ) (at : ℕ) : Type 0 where
  pub count : ℕ
  pub whole : List ℕ
  pub part : List ℕ
  pub list : List Answered
  pub place : ℕ
  pub bytes_are : bytes ≡ count ∷ (whole ++ part)
  pub good_count : IsCount left count
  pub records : AreRecords shape whole list
  pub fewer : length list < count
  pub breaks : RecordBreaks shape part place
  pub at_is : at ≡ 1 + length whole + place

-- what the two bytes of a growth may be: the first is that of some number of more rows, and both are such a number
pub record IsGoodGrowthByte (rows : ℕ) (bytes : List ℕ) (place : ℕ) : Type 0 where
  pub high : place ≡ 0 → (more : ℕ) × IsMoreRows rows more × (slice_index bytes 0 ≡ more / 256)
  pub low : place ≡ 1 → IsMoreRows rows (256 * slice_index bytes 0 + slice_index bytes 1)

-- after a count of 0 a byte breaks the number
pub record BreaksInGrowth (rows : ℕ) (bytes : List ℕ) (at : ℕ) : Type 0 where
  pub number : List ℕ
  pub place : ℕ
  pub bytes_are : bytes ≡ 0 ∷ number
  pub may : rows < most_rows
  pub breaks : FirstBad (IsGoodGrowthByte rows number) 2 number place
  pub at_is : at ≡ 1 + place

-- the place of the first byte that breaks a group, from its count byte on, if the journal may still hold so many records
abbrev pub GroupBreaks : Shape → ℕ → List ℕ → ℕ → Type 0
GroupBreaks shape left bytes at = ((at ≡ 0) × CountBreaks shape.rows left bytes) ⊎ (BreaksInRecord shape left bytes at ⊎ BreaksInGrowth shape.rows bytes at)
