-- To whom the rows of a form tell the total over a set.
use Rattle.std.specs.Prelude.{◌≡◌, ◌≢◌, ℕ, ◌<◌, ◌++◌, true, false, List, [], ◌∷◌}
use Rattle.audit_types.specs.Rows.{has_row}
use Rattle.audit_types.specs.Form.{set_row, InSpan}
use Rattle.sum_basis.specs.Basis.{Echelon, unit_row}

-- to one who knows the number of this row, which isn't one of several people; the set has another row
pub record IsTeller (form : Echelon) (several set : List ℕ) (own : ℕ) : Type 0 where
  pub below : own < form.n
  pub single : has_row several own ≡ false
  pub row : ℕ
  pub inside : has_row set row ≡ true
  pub other : row ≢ own
  pub spanned : InSpan (form.rows ++ unit_row form.n own ∷ []) (set_row form.n set)
