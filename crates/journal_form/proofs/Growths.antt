-- The two bytes of a growth's number.
use Rattle.std.proofs.Common.{◌≡◌, ℕ, ◌+◌, ◌*◌, ◌/◌, ◌<◌, ◌≤◌, inl, inr, arith}
use Rattle.std.proofs.lemmas.Bool.{cases_lt}
use Rattle.audit_types.specs.Limits.{most_rows}
use Rattle.journal_form.specs.Group.{IsMoreRows}

-- a first byte between that of one row more and that of most_rows is that of some number
pub high_of : (rows high : ℕ) → rows < most_rows → (rows + 1) / 256 ≤ high → high ≤ most_rows / 256 → (more : ℕ) × IsMoreRows rows more × (high ≡ more / 256)
high_of rows high may from to = elim (cases_lt ((rows + 1) / 256) high) [
  | inl above ↦ (256 * high, (omega (arith, above), omega (arith, to)), omega arith)
  | inr here ↦ (rows + 1, (omega arith, omega (arith, may)), omega (arith, from, here))
]

-- and no other
pub high_is : (rows high more : ℕ) → IsMoreRows rows more → high ≡ more / 256 → ((rows + 1) / 256 ≤ high) × (high ≤ most_rows / 256)
high_is rows high more is e = (omega (arith, is.0, e), omega (arith, is.1, e))
