-- What a form with a new list leaves of two columns, if these are multiples of one list, and what it surely tells.
use Rattle.std.specs.Prelude.{◌≡◌, ◌≢◌, ◌⊎◌, ℕ, ◌<◌, ℤ, pos, ◌*ℤ◌, true, false, List, Contains}
use Rattle.audit_types.specs.Form.{set_row}
use Rattle.audit_types.specs.Rows.{has_row}
use Rattle.sum_basis.specs.Asking.{TellsAsker}
use Rattle.sum_basis.specs.Basis.{Echelon, unit_row}
use Rattle.sum_basis.specs.Growth.{GrowsTo}
use Rattle.sum_basis.specs.Keys.{TellSurelyNone}
use Rattle.sum_basis.specs.Points.{IsResidue}
use Rattle.sum_basis.specs.Reach.{without_new}
use Rattle.sum_basis.specs.Sparse.{entry_at}
use Rattle.sum_basis.specs.Ties.{MayTell}
use Rattle.sum_basis.specs.declared.points.Point.{Point}
use Rattle.sum_basis.specs.declared.sparse.FreeEntry.{FreeEntry}
use Rattle.sum_basis.specs.declared.told.Told.{Told}
use Rattle.sum_basis.specs.declared.told.Told.TheVariants as told

-- the numbers are the others times a number other than 0
pub record IsMultipleOf (numbers others : ℕ → ℤ) : Type 0 where
  pub by : ℤ
  pub some : by ≢ pos 0
  pub is : (j : ℕ) → numbers j ≡ by *ℤ others j

-- what the new list leaves of the two is a multiple of one list
pub record AreAlikeAfter (new entries others : List FreeEntry) : Type 0 where
  pub a : ℤ
  pub b : ℤ
  pub a_some : a ≢ pos 0
  pub b_some : b ≢ pos 0
  pub is : (j : ℕ) → a *ℤ without_new new (entry_at entries) j ≡ b *ℤ without_new new (entry_at others) j

-- what the form with the new list leaves of the two columns is
pub record AreColumnsAlike (form : Echelon) (new : List FreeEntry) (p q : ℕ) : Type 0 where
  pub entries : List FreeEntry
  pub others : List FreeEntry
  pub first : IsResidue form (unit_row form.n p) entries
  pub second : IsResidue form (unit_row form.n q) others
  pub alike : AreAlikeAfter new entries others

-- so it is with two columns of which the one may tell the other
pub record TiesSurely (form : Echelon) (new : List FreeEntry) (beside several : List ℕ) : Type 0 where
  pub p : ℕ
  pub q : ℕ
  pub p_below : p < form.n
  pub q_below : q < form.n
  pub apart : q ≢ p
  pub tells : MayTell beside several p q
  pub alike : AreColumnsAlike form new p q

-- what the form with the new list leaves of the set's row, and of the unit row of a column that isn't one of several people, is a multiple of one
-- list, and the set has another row
pub record IsSetAlike (form : Echelon) (new : List FreeEntry) (several set : List ℕ) : Type 0 where
  pub own : ℕ
  pub below : own < form.n
  pub single : has_row several own ≡ false
  pub row : ℕ
  pub inside : has_row set row ≡ true
  pub other : row ≢ own
  pub entries : List FreeEntry
  pub others : List FreeEntry
  pub first : IsResidue form (set_row form.n set) entries
  pub second : IsResidue form (unit_row form.n own) others
  pub alike : AreAlikeAfter new entries others

-- so it is with one of these sets
abbrev pub SpansSurely : Echelon → List FreeEntry → List ℕ → List (List ℕ) → Type 0
SpansSurely form new several sets = (set : List ℕ) × Contains sets set × IsSetAlike form new several set

-- what is surely told of the form with the new list
abbrev pub IsSurelyTold : Echelon → List Point → List FreeEntry → List ℕ → List ℕ → List (List ℕ) → Told → Type 0
IsSurelyTold form weights new beside several sets told.Nothing = TellSurelyNone form weights new beside several sets
IsSurelyTold form weights new beside several sets told.Something = TiesSurely form new beside several ⊎ SpansSurely form new several sets
IsSurelyTold form weights new beside several sets told.Unsure = Unit {0}

-- and of the grown form itself
abbrev pub TellsGrown : Echelon → List ℤ → List ℕ → List ℕ → List (List ℕ) → Told → Type 0
TellsGrown old row beside several sets told.Nothing = (new : Echelon) → GrowsTo old row new → ¬ (TellsAsker new beside several sets)
TellsGrown old row beside several sets told.Something = (new : Echelon) → GrowsTo old row new → TellsAsker new beside several sets
TellsGrown old row beside several sets told.Unsure = Unit {0}
