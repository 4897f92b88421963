-- Groups of rows, and some rows that are spread over the table.
use Rattle.std.specs.Prelude.{◌≡◌, ℕ, ◌+◌, ◌*◌, ◌/◌, ◌%◌, ◌<◌, true, List}
use Rattle.std.specs.Int.{bit_at}
use Rattle.audit_types.specs.Rows.{has_row}

-- how far one sampled row is from the next
abbrev pub step_of : ℕ → ℕ
step_of n = 2 * ((n + 63) / 128) + 1

-- of n rows, a row is the sampled one of this number
abbrev pub IsSample : ℕ → ℕ → ℕ → Type 0
IsSample n r g = r ≡ g * step_of n

-- a row is in this group
abbrev pub IsInGroup : ℕ → ℕ → Type 0
IsInGroup r g = r % 64 ≡ g

-- the groups that these rows are in
pub record AreGroups (is_in : ℕ → ℕ → Type 0) (rows : List ℕ) (groups : ℕ) : Type 0 where
  pub has : (r g : ℕ) → has_row rows r ≡ true → g < 64 → is_in r g → bit_at groups g ≡ 1
  pub only : (g : ℕ) → g < 64 → bit_at groups g ≡ 1 → (r : ℕ) × (has_row rows r ≡ true) × is_in r g
