-- Points of rows, by which a form is seen to tell nobody who knows the number at one column that at another.
--
-- What a form leaves of a row are entries at its free columns. If a row lies in the span with the unit row of a column, what is left of the two
-- are multiples of one another, and so are two sums over each, whatever the weights are: their points. Modulo a number, the first sum over the
-- second is a row's key. So rows of different keys are no multiples of one another.
use Rattle.std.specs.Prelude.{◌≡◌, ◌≢◌, ◌⊎◌, ℕ, ◌<◌, ◌*◌, ◌++◌, ℤ, pos, ◌+ℤ◌, ◌-ℤ◌, ◌*ℤ◌, false, List, [], ◌∷◌, slice_index_or, Contains, Option, None, Some, Vec}
use Rattle.std.specs.declared.alloc.Global.{Global}
use Rattle.audit_types.specs.Rows.{has_row}
use Rattle.audit_types.specs.Truth.{number_at}
use Rattle.audit_types.specs.Form.{set_row, combined, InSpan}
use Rattle.sum_basis.specs.Basis.{Echelon, unit_row}
use Rattle.sum_basis.specs.Elimination.{IsSmallForm, IsZeroAtPivots}
use Rattle.sum_basis.specs.Reach.{IsLeftOverOrNone}
use Rattle.sum_basis.specs.Sparse.{entry_at, row_of, IsListed}
use Rattle.sum_basis.specs.Ties.{MayTell}
use Rattle.sum_basis.specs.declared.points.Point.{Point}
use Rattle.sum_basis.specs.declared.sparse.FreeEntry.{FreeEntry}

-- by what sums are divided to keep what is left
abbrev pub modulus : ℕ
modulus = 4294967291

-- what is left of a number, modulo the modulus
abbrev pub IsLeftModulo : ℤ → ℕ → Type 0
IsLeftModulo z left = (left < modulus) × ((k : ℤ) × (z ≡ k *ℤ pos modulus +ℤ pos left))

-- the two weights of a column
abbrev pub first_weight : List Point → ℕ → ℤ
first_weight weights j = pos (slice_index_or weights j (record { first = 0; second = 0 })).first

abbrev pub second_weight : List Point → ℕ → ℤ
second_weight weights j = pos (slice_index_or weights j (record { first = 0; second = 0 })).second

-- the sum of the values, each as many times as the weight at its place says
abbrev pub weighted : (ℕ → ℤ) → List FreeEntry → ℤ
weighted weight [] = pos 0
weighted weight (e ∷ entries) = weight e.place *ℤ e.value +ℤ weighted weight entries

-- the same of a multiple of the entries, less one of the list of a new row: they are 0 at its first place
abbrev pub weighted_after : (ℕ → ℤ) → List FreeEntry → List FreeEntry → ℤ
weighted_after weight [] entries = weighted weight entries
weighted_after weight (e ∷ new) entries = e.value *ℤ weighted weight entries -ℤ entry_at entries e.place *ℤ weighted weight (e ∷ new)

-- the two sums of the entries, modulo the modulus, once the form has the new list
pub record IsPointAfter (weights : List Point) (new entries : List FreeEntry) (point : Point) : Type 0 where
  pub first : IsLeftModulo (weighted_after (first_weight weights) new entries) point.first
  pub second : IsLeftModulo (weighted_after (second_weight weights) new entries) point.second

-- the first sum over the second, which has an inverse
pub record IsKey (point : Point) (key : ℕ) : Type 0 where
  pub inverse : ℕ
  pub is_inverse : IsLeftModulo (pos (point.second * inverse)) 1
  pub is : IsLeftModulo (pos (point.first * inverse)) key

-- what the form leaves of a row: entries in ascending places that are 0 at the pivots, of which a multiple is one of the row but for rows of the form
pub record IsResidue (form : Echelon) (row : List ℤ) (entries : List FreeEntry) : Type 0 where
  pub listed : IsListed 0 form.n entries
  pub zeros : IsZeroAtPivots form.rows (row_of form.n entries)
  pub times : ℤ
  pub times_some : times ≢ pos 0
  pub by : ℤ
  pub by_some : by ≢ pos 0
  pub coefficients : List ℤ
  pub is : (j : ℕ) → times *ℤ number_at row j ≡ by *ℤ number_at (row_of form.n entries) j +ℤ combined coefficients form.rows j

-- the rows of the form, with that of a new list if there is one
abbrev pub with_new : Echelon → List FreeEntry → List (List ℤ)
with_new form [] = form.rows
with_new form (e ∷ new) = form.rows ++ row_of form.n (e ∷ new) ∷ []

-- a row that lies in the span with the unit row of a column, once the form has a new list, has the key of that unit row
abbrev pub LikeRowsHaveOneKey : Type 0
LikeRowsHaveOneKey =
    (form : Echelon) (new : List FreeEntry) (weights : List Point) (q : ℕ) (row : List ℤ) (entries others : List FreeEntry)
    (point other : Point) (key another : ℕ) → IsSmallForm form.n form.rows → IsLeftOverOrNone form new →
    IsResidue form row entries → IsResidue form (unit_row form.n q) others → InSpan (with_new form new ++ unit_row form.n q ∷ []) row →
    IsPointAfter weights new entries point → IsPointAfter weights new others other → IsKey point key → IsKey other another → key ≡ another

-- ---- keys of columns

-- the list that is left of a row, empty if none is
abbrev pub items_of : Option (Vec FreeEntry Global) → List FreeEntry
items_of None = []
items_of (Some list) = list.items

-- the number at the column may tell somebody one at another column, or be told by it
abbrev pub Matters : List ℕ → List ℕ → ℕ → Type 0
Matters beside several j = (has_row beside j ≡ false) ⊎ (has_row several j ≡ false)

-- what the form with the new list leaves of a row has this key
pub record HasKey (form : Echelon) (weights : List Point) (new : List FreeEntry) (row : List ℤ) (key : ℕ) : Type 0 where
  pub entries : List FreeEntry
  pub residue : IsResidue form row entries
  pub point : Point
  pub point_is : IsPointAfter weights new entries point
  pub key_is : IsKey point key

-- each column that matters has the key that stands at its place, and no two have one of which the one may tell the other
pub record AreKeysApart (form : Echelon) (weights : List Point) (new : List FreeEntry) (beside several keys : List ℕ) : Type 0 where
  pub each : (j : ℕ) → j < form.n → Matters beside several j → HasKey form weights new (unit_row form.n j) (slice_index_or keys j 0)
  pub apart : (i j : ℕ) → i < form.n → j < form.n → MayTell beside several i j → i ≢ j → slice_index_or keys i 0 ≢ slice_index_or keys j 0

-- the row of the set has a key, which is that of no column that isn't one of several people
pub record IsKeyApart (form : Echelon) (weights : List Point) (new : List FreeEntry) (several keys set : List ℕ) : Type 0 where
  pub key : ℕ
  pub key_is : HasKey form weights new (set_row form.n set) key
  pub apart : (j : ℕ) → j < form.n → has_row several j ≡ false → slice_index_or keys j 0 ≢ key

-- so have the rows of these sets
abbrev pub AreSetsApart : Echelon → List Point → List FreeEntry → List ℕ → List ℕ → List (List ℕ) → Type 0
AreSetsApart form weights new several keys sets = (set : List ℕ) → Contains sets set → IsKeyApart form weights new several keys set
