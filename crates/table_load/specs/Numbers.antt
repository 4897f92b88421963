-- What the reader of numbers gives.
use Rattle.std.specs.Prelude.{◌≡◌, ◌+◌, ℕ, ℤ, false, true, min, Option, Some, None}
use Rattle.audit_types.specs.Limits.{most_number}
use Rattle.table_load.specs.Numerals.{in_range}
use Rattle.table_load.specs.declared.numerals.Numeral.{Numeral}
use Rattle.table_load.specs.declared.numerals.Numeral.TheVariants as numeral

-- a size; all that are above the limit are one
abbrev pub capped : ℕ → ℕ
capped n = min n (most_number + 1)

-- what a field is read as: the number that is meant, if it is in range
abbrev pub IsNumeralOf : Numeral → Option ℤ → Type 0
IsNumeralOf (numeral.Number z) meant = (meant ≡ Some z) × (in_range z ≡ true)
IsNumeralOf numeral.TooLarge meant = (z : ℤ) × (meant ≡ Some z) × (in_range z ≡ false)
IsNumeralOf numeral.NoNumber meant = meant ≡ None
