-- What is kept of points, and how keys are found to be apart.
use Rattle.std.specs.Prelude.{◌≡◌, ◌≢◌, ◌⊎◌, ℕ, zero, suc, ◌<◌, ◌≤◌, ◌*ℤ◌, ◌*◌, ◌/◌, ◌%◌, ℤ, pos, true, false, bit_xor, List, [], ◌∷◌, Contains, Option, None, Some, length, slice_index_or}
use Rattle.std.specs.List.{AllByRecursion}
use Rattle.audit_types.specs.Words.{has_bit}
use Rattle.sum_basis.specs.declared.seen.Seen.{Seen}
use Rattle.sum_basis.specs.declared.column_keys.ColumnKeys.{ColumnKeys}
use Rattle.sum_basis.specs.declared.column_keys.SomePoints.{SomePoints}
use Rattle.audit_types.specs.Rows.{has_row}
use Rattle.sum_basis.specs.Basis.{Echelon, IsFreeList, unit_row}
use Rattle.audit_types.specs.Truth.{number_at}
use Rattle.sum_basis.specs.Reach.{times_of}
use Rattle.sum_basis.specs.Sparse.{entry_at}
use Rattle.sum_basis.specs.Points.{modulus, IsLeftModulo, IsPointAfter, IsKey, IsResidue, HasKey, Matters, AreKeysApart, AreSetsApart}
use Rattle.sum_basis.specs.Ties.{MayTell}
use Rattle.audit_types.specs.Form.{set_row, pivot, pivot_entry}
use Rattle.sum_basis.specs.declared.points.Point.{Point}
use Rattle.sum_basis.specs.declared.points.NewPoint.{NewPoint}
use Rattle.sum_basis.specs.declared.sparse.FreeEntry.{FreeEntry}

-- what is known of a new list, nothing if there is none
abbrev pub IsNewPoint : List Point → List FreeEntry → Option NewPoint → Type 0
IsNewPoint weights [] None = Unit {0}
IsNewPoint weights [] (Some p) = ⊥
IsNewPoint weights (e ∷ new) None = ⊥
IsNewPoint weights (e ∷ new) (Some p) = (p.place ≡ e.place) × IsLeftModulo e.value p.value × IsPointAfter weights [] (e ∷ new) p.point

-- the point of what the form leaves of a row, once the form has a new list
pub record HasPoint (form : Echelon) (weights : List Point) (new : List FreeEntry) (row : List ℤ) (point : Point) : Type 0 where
  pub entries : List FreeEntry
  pub residue : IsResidue form row entries
  pub is : IsPointAfter weights new entries point

-- the product of the second sums of the points before place j
abbrev pub product_before : List Point → ℕ → ℕ
product_before points zero = 1
product_before points (suc j) = product_before points j * (slice_index_or points j (record { first = 0; second = 0 })).second

-- the three bits of the key are set
pub record IsSeen (seen : Seen) (key : ℕ) : Type 0 where
  pub low : has_bit seen.low (key % 65536) ≡ true
  pub high : has_bit seen.high (key / 65536) ≡ true
  pub both : has_bit seen.both (bit_xor (key % 65536) (key / 65536)) ≡ true

-- two weights for each of n columns, below the modulus
pub record AreWeights (n : ℕ) (weights : List Point) : Type 0 where
  pub one_each : length weights ≡ n
  pub below : AllByRecursion (λ (p : Point). (p.first < modulus) × (p.second < modulus)) weights

-- the point at a place
abbrev pub point_at : List Point → ℕ → Point
point_at points k = slice_index_or points k (record { first = 0; second = 0 })

-- the one entry of a column's unit row
abbrev pub own_entry : ℕ → List FreeEntry
own_entry q = record { place = q; value = pos 1 } ∷ []

-- what the form leaves of the unit row of a column: of a pivot its row's free list, of another column its own entry
abbrev pub IsListOfColumn : Echelon → ℕ → List FreeEntry → Type 0
IsListOfColumn form q entries =
    ((k : ℕ) × (k < length form.rows) × (pivot (slice_index_or form.rows k []) ≡ q) × IsFreeList form.n form.rows (slice_index_or form.rows k []) entries) ⊎
    (AllByRecursion (λ row. pivot row ≢ q) form.rows × (entries ≡ own_entry q))

-- its point
pub record IsColumnPoint (form : Echelon) (weights : List Point) (q : ℕ) (point : Point) : Type 0 where
  pub entries : List FreeEntry
  pub left : IsListOfColumn form q entries
  pub is : IsPointAfter weights [] entries point

-- the point and the key that are kept of a column are its own
pub record IsKnown (form : Echelon) (kept : ColumnKeys) (q : ℕ) : Type 0 where
  pub point : IsColumnPoint form kept.weights.items q (point_at kept.points.items q)
  pub key : IsKey (point_at kept.points.items q) (slice_index_or kept.keys.items q 0)

-- the point that is kept of a row's pivot is the row's, if its pivot entry is the one that is kept
abbrev pub IsRightWithHead : Echelon → ColumnKeys → List ℤ → Type 0
IsRightWithHead form kept row =
    slice_index_or kept.heads.items (pivot row) (pos 0) ≡ pivot_entry row → (entries : List FreeEntry) → IsFreeList form.n form.rows row entries →
    IsPointAfter kept.weights.items [] entries (point_at kept.points.items (pivot row))

-- so it is with each row; what is kept of a column that isn't unknown is its own, and so is the point of one that is no pivot
pub record AreColumnKeys (form : Echelon) (kept : ColumnKeys) : Type 0 where
  pub weights : AreWeights form.n kept.weights.items
  pub points_each : length kept.points.items ≡ form.n
  pub heads_each : length kept.heads.items ≡ form.n
  pub keys_each : length kept.keys.items ≡ form.n
  pub columns : kept.unknown.n ≡ form.n
  pub own : (q : ℕ) → q < form.n → AllByRecursion (λ row. pivot row ≢ q) form.rows →
      IsPointAfter kept.weights.items [] (own_entry q) (point_at kept.points.items q)
  pub known : (q : ℕ) → q < form.n → has_row kept.unknown.list q ≡ false → IsKnown form kept q
  pub rows : (k : ℕ) → k < length form.rows → IsRightWithHead form kept (slice_index_or form.rows k [])

-- the points of all columns are kept
abbrev pub AreColumnPoints : Echelon → ColumnKeys → Type 0
AreColumnPoints form kept = (q : ℕ) → q < form.n → IsColumnPoint form kept.weights.items q (point_at kept.points.items q)

-- the form leaves nothing of the column at the first place of the new list
abbrev pub IsUntouched : Echelon → List FreeEntry → ℕ → Type 0
IsUntouched form new q = (entries : List FreeEntry) → IsListOfColumn form q entries → times_of new (entry_at entries) ≡ pos 0

-- the key is that of a point of the column
abbrev pub IsKeyAmong : SomePoints → ℕ → ℕ → Type 0
IsKeyAmong some q key = (k : ℕ) × (k < length some.columns.items) × (slice_index_or some.columns.items k 0 ≡ q) × IsKey (point_at some.points.items k) key

-- the value of the first entry
abbrev pub leading_of : List FreeEntry → ℤ
leading_of [] = pos 0
leading_of (e ∷ new) = e.value

-- a row has 0 at the first place of the new list
abbrev pub IsZeroAtFirst : List FreeEntry → List ℤ → Type 0
IsZeroAtFirst new row = times_of new (number_at row) ≡ pos 0

-- the point of a row once the form has a new list: that of its free list
pub record IsRowPointAfter (form : Echelon) (weights : List Point) (new : List FreeEntry) (row : List ℤ) (point : Point) : Type 0 where
  pub entries : List FreeEntry
  pub free : IsFreeList form.n form.rows row entries
  pub is : IsPointAfter weights new entries point

-- the point that is kept of a row's pivot is right once the form has the new list, if the row has the pivot entry that is kept, which is 0 if
-- nothing is foreseen
pub record IsForeseen (form : Echelon) (new : List FreeEntry) (kept : ColumnKeys) (row : List ℤ) : Type 0 where
  pub stays : IsZeroAtFirst new row → slice_index_or kept.heads.items (pivot row) (pos 0) ≡ pivot_entry row →
      IsRowPointAfter form kept.weights.items [] row (point_at kept.points.items (pivot row))
  pub cleared : ¬ (IsZeroAtFirst new row) → (slice_index_or kept.heads.items (pivot row) (pos 0) ≡ pos 0) ⊎
      ((slice_index_or kept.heads.items (pivot row) (pos 0) ≡ leading_of new *ℤ pivot_entry row) ×
      IsRowPointAfter form kept.weights.items new row (point_at kept.points.items (pivot row)))

-- so it is with the first rows, and of these, and of the other columns, those that the list touches are unknown
pub record AreForeseen (form : Echelon) (new : List FreeEntry) (upto : ℕ) (kept : ColumnKeys) : Type 0 where
  pub weights : AreWeights form.n kept.weights.items
  pub points_each : length kept.points.items ≡ form.n
  pub heads_each : length kept.heads.items ≡ form.n
  pub keys_each : length kept.keys.items ≡ form.n
  pub columns : kept.unknown.n ≡ form.n
  pub own : (q : ℕ) → q < form.n → AllByRecursion (λ row. pivot row ≢ q) form.rows →
      IsPointAfter kept.weights.items [] (own_entry q) (point_at kept.points.items q)
  pub known : (q : ℕ) → q < form.n → has_row kept.unknown.list q ≡ false → IsKnown form kept q
  pub first : (q : ℕ) → q < form.n → has_row kept.unknown.list q ≡ false → times_of new (entry_at (own_entry q)) ≡ pos 0
  pub first_head : (q : ℕ) → times_of new (entry_at (own_entry q)) ≢ pos 0 → slice_index_or kept.heads.items q (pos 0) ≡ pos 0
  pub untouched : (k : ℕ) → k < upto → has_row kept.unknown.list (pivot (slice_index_or form.rows k [])) ≡ false →
      IsZeroAtFirst new (slice_index_or form.rows k [])
  pub foreseen : (k : ℕ) → k < upto → IsForeseen form new kept (slice_index_or form.rows k [])
  pub rest : (k : ℕ) → upto ≤ k → k < length form.rows → IsRightWithHead form kept (slice_index_or form.rows k [])

-- the column is known, or its point may have a key
abbrev pub MayHaveKey : ColumnKeys → ℕ → Type 0
MayHaveKey kept q = (has_row kept.unknown.list q ≡ false) ⊎ ((point_at kept.points.items q).second ≢ 0)

-- of the columns up to one those that are unknown and whose points may have a key, with these points
pub record AreUnknownPoints (kept : ColumnKeys) (upto : ℕ) (columns : List ℕ) (points : List Point) : Type 0 where
  pub each : length columns ≡ length points
  pub below : AllByRecursion (λ q. q < kept.unknown.n) columns
  pub are : (k : ℕ) → k < length columns →
      (has_row kept.unknown.list (slice_index_or columns k 0) ≡ true) × (point_at points k ≡ point_at kept.points.items (slice_index_or columns k 0))
  pub all : (q : ℕ) → q < upto → has_row kept.unknown.list q ≡ true → (point_at kept.points.items q).second ≢ 0 → Contains columns q

-- of the first rows the pivots that matter of which the form leaves something at the first place of the new list, and the column of that place
-- itself, with their points once the form has the list
pub record AreTouchedPoints (form : Echelon) (weights : List Point) (new : List FreeEntry) (beside several : List ℕ) (upto : ℕ) (columns : List ℕ)
    (points : List Point) : Type 0 where
  pub each : length columns ≡ length points
  pub below : AllByRecursion (λ q. q < form.n) columns
  pub are : (k : ℕ) → k < length columns → HasPoint form weights new (unit_row form.n (slice_index_or columns k 0)) (point_at points k)
  pub own : (q : ℕ) → Matters beside several q → times_of new (entry_at (own_entry q)) ≢ pos 0 → Contains columns q
  pub rows : (k : ℕ) → k < upto → Matters beside several (pivot (slice_index_or form.rows k [])) →
      ¬ (IsZeroAtFirst new (slice_index_or form.rows k [])) → Contains columns (pivot (slice_index_or form.rows k []))

-- columns of which the one may tell the other have different keys
abbrev pub AreColumnsApart : ℕ → List ℕ → List ℕ → List ℕ → Type 0
AreColumnsApart n beside several keys =
    (i j : ℕ) → i < n → j < n → MayTell beside several i j → i ≢ j → slice_index_or keys i 0 ≢ slice_index_or keys j 0

-- what the form with the new list leaves of the set's row has a key that wasn't seen
pub record HasUnseenKey (form : Echelon) (weights : List Point) (new : List FreeEntry) (seen : Seen) (set : List ℕ) : Type 0 where
  pub key : ℕ
  pub is : HasKey form weights new (set_row form.n set) key
  pub unseen : ¬ (IsSeen seen key)

-- there are keys by which the form with the new list tells nobody what she isn't to know
pub record TellSurelyNone (form : Echelon) (weights : List Point) (new : List FreeEntry) (beside several : List ℕ) (sets : List (List ℕ)) : Type 0 where
  pub keys : List ℕ
  pub columns_apart : AreKeysApart form weights new beside several keys
  pub sets_apart : AreSetsApart form weights new several keys sets
