-- Rows with one entry that is not 0, and rows with none.
use Rattle.std.proofs.Common.{◌≡◌, ℕ, ℤ, pos, List, length, arith, inl, inr}
use Rattle.std.proofs.lemmas.List.{get_or_past}
use Rattle.std.proofs.lemmas.Bool.{cases_lt}
use Rattle.audit_types.specs.Truth.{number_at}
use Rattle.audit_types.specs.Form.{pivot}
use Rattle.audit_types.specs.FormRows.{zero_before}

-- a row has no pivot exactly if it is all zeros
pub no_pivot : (row : List ℤ) → pivot row ≡ length row → (j : ℕ) → number_at row j ≡ pos 0
no_pivot row e j = elim (cases_lt j (length row)) [
  | inl lt ↦ zero_before row j (omega arith)
  | inr le ↦ get_or_past row j (pos 0) le
]
