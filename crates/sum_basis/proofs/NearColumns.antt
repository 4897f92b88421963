-- A value that changes along directions of free columns does so along a near one exactly if its row is near: a row that isn't 0 at the
-- columns along whose directions the value changes.
use Rattle.std.proofs.Common.{◌≡◌, ◌≢◌, ℕ, ◌+◌, ◌<◌, ◌≤◌, false, ℤ, pos, List, get_or, arith}
use Rattle.std.specs.Prelude.{not}
use Rattle.std.specs.List.{AllByRecursion}
use Rattle.std.proofs.lemmas.List.Sums.{count_by-le-length}
use Rattle.audit_types.specs.Truth.{is_zero}
use Rattle.audit_types.specs.Form.{IsPrimitive, IsEchelon}
use Rattle.audit_types.specs.Direction.{is_pivot}
use Rattle.sum_basis.specs.Reach.{IsAlong, Changes, IsReached, IsNear, met}
use Rattle.sum_basis.proofs.Along.{direction_of, extent_is, column_below}

-- a row that isn't 0 at the free columns along whose directions the value changes
pub record Tells (n : ℕ) (form : List (List ℤ)) (value : List ℤ → ℤ) (row : ℕ → ℤ) : Type 0 where
  pub inside : (j : ℕ) → row j ≢ pos 0 → (j < n) × (is_pivot form j ≡ false)
  pub there : (j : ℕ) (d : List ℤ) → IsAlong n form j d → value d ≡ pos 0 → row j ≡ pos 0
  pub back : (j : ℕ) (d : List ℤ) → IsAlong n form j d → row j ≡ pos 0 → value d ≡ pos 0

module _ (n : ℕ) (form : List (List ℤ)) (primitive : AllByRecursion (IsPrimitive n) form) (echelon : IsEchelon form) (value : List ℤ → ℤ) (row : ℕ → ℤ)
    (tells : Tells n form value row) (counts : List ℕ) (reach : ℕ) (counted : (j : ℕ) → j < n → is_pivot form j ≡ false → get_or counts j 0 ≡ met form j) where
  -- the value changes along the direction of a column at which the row isn't 0
  changes_at : (j : ℕ) → row j ≢ pos 0 → (most : ℕ) → 1 + met form j ≤ most → Changes n form most value
  changes_at j some most small =
      let at = tells.inside j some in
      let d = direction_of n form j primitive echelon at.0 at.1 in
      let long = extent_is n form primitive echelon j d.0 d.1 in
      record { column = j; direction = d.0; along = d.1; near = omega arith; changed = λ e. some (tells.there j d.0 d.1 e) }

  -- which isn't 0 at more than n rows
  few : (j : ℕ) → row j ≢ pos 0 → 1 + met form j ≤ n
  few j some =
      let at = tells.inside j some in
      let d = direction_of n form j primitive echelon at.0 at.1 in
      let long = extent_is n form primitive echelon j d.0 d.1 in
      let all = count_by-le-length (λ (x : ℤ). not (is_zero x)) d.0 in
      let one_each = d.1.one_each in
      omega arith

  pub reached_if_near : IsNear counts reach row → IsReached n reach form value
  reached_if_near near change =
      let q = near change.column (λ e. change.changed (tells.back change.column change.direction change.along e)) in
      let at = tells.inside q.0 q.1 in
      let count = counted q.0 at.0 at.1 in
      let small = q.2 in
      changes_at q.0 q.1 reach (omega arith)

  pub near_if_reached : IsReached n reach form value → IsNear counts reach row
  near_if_reached reached j some =
      let c = reached (changes_at j some n (few j some)) in
      let long = extent_is n form primitive echelon c.column c.direction c.along in
      let count = counted c.column (column_below n form primitive echelon c.column c.direction c.along) c.along.free in
      let near = c.near in
      (c.column, λ e. c.changed (tells.back c.column c.direction c.along e), omega arith)
