-- Reduced rows as they are kept: lists of the entries that are not 0.
use Rattle.std.specs.Prelude.{◌≡◌, ◌≢◌, ◌*ℤ◌, length, ℕ, ◌+◌, ◌<◌, ◌≤◌, ℤ, pos, ◌+ℤ◌, ◌<ℤ◌, cond, nat_eq, List, [], ◌∷◌, map, unsigned_abs, slice_index_or}
use Rattle.std.specs.List.{range_with_len, AllByRecursion}
use Rattle.std.specs.Vec.{vec_capacity}
use Rattle.audit_types.specs.Form.{IsPrimitive, IsContent}
use Rattle.sum_basis.specs.Elimination.{IsSmall}
use Rattle.sum_basis.specs.Limits.{most_short}
use Rattle.sum_basis.specs.declared.sparse.FreeEntry.{FreeEntry}
use Rattle.sum_basis.specs.declared.sparse.SparseRow.{SparseRow}

-- what the entries have at a column
abbrev pub entry_at : List FreeEntry → ℕ → ℤ
entry_at [] j = pos 0
entry_at (e ∷ entries) j = cond (nat_eq e.place j) e.value (pos 0) +ℤ entry_at entries j

-- the row of n columns with these entries
abbrev pub row_of : ℕ → List FreeEntry → List ℤ
row_of n entries = map (entry_at entries) (range_with_len 0 n)

-- entries that are not 0, in ascending places from `from` on and below n
abbrev pub IsListed : ℕ → ℕ → List FreeEntry → Type 0
IsListed from n [] = Unit {0}
IsListed from n (e ∷ entries) = (from ≤ e.place) × (e.place < n) × (e.value ≢ pos 0) × IsListed (e.place + 1) n entries

-- all entries of a kept row
abbrev pub entries_of : SparseRow → List FreeEntry
entries_of r = record { place = r.pivot; value = r.head } ∷ r.free.items

-- the rows that are kept, over n columns
abbrev pub rows_of : ℕ → List SparseRow → List (List ℤ)
rows_of n rows = map (λ r. row_of n (entries_of r)) rows

-- what is true of each kept row: its pivot entry is positive, no size is above its bound, its list has room for one entry a column
pub record IsKept (n : ℕ) (r : SparseRow) : Type 0 where
  pub listed : IsListed 0 n (entries_of r)
  pub leading : pos 0 <ℤ r.head
  pub bounded : AllByRecursion (λ (e : FreeEntry). unsigned_abs e.value ≤ r.most) (entries_of r)
  pub room : n ≤ vec_capacity r.free

-- an entry with a multiple of its value
abbrev pub scaled : ℤ → FreeEntry → FreeEntry
scaled by e = record { place = e.place; value = by *ℤ e.value }

-- the list of a new row: primitive, with no entry above 2 ^ 56
pub record IsNew (n : ℕ) (entries : List FreeEntry) : Type 0 where
  pub some : 0 < length entries
  pub listed : IsListed 0 n entries
  pub primitive : IsPrimitive n (row_of n entries)
  pub small : IsSmall (row_of n entries)

-- a pivot entry and a list over their content
pub record IsOverContent (old_head : ℤ) (old : List FreeEntry) (head : ℤ) (entries : List FreeEntry) : Type 0 where
  pub by : ℤ
  pub positive : pos 0 <ℤ by
  pub head_is : old_head ≡ by *ℤ head
  pub entries_are : old ≡ map (scaled by) entries
  pub content : IsContent (head ∷ map (λ e. e.value) entries) 1

-- a list over its content, the first value positive
pub record IsMadeList (old new : List FreeEntry) : Type 0 where
  pub by : ℤ
  pub not_zero : by ≢ pos 0
  pub is_multiple : old ≡ map (scaled by) new
  pub content : IsContent (map (λ e. e.value) new) 1
  pub leading : pos 0 <ℤ (slice_index_or new 0 (record { place = 0; value = pos 0 })).value

-- a kept row whose pivot entry is 1, and that has no entry above 2 ^ 48
abbrev pub IsShortRow : SparseRow → Type 0
IsShortRow r = (r.head ≡ pos 1) × AllByRecursion (λ (e : FreeEntry). unsigned_abs e.value ≤ most_short) r.free.items
