-- What a reduced form tells people who ask, each of whom may know the number of one row, her own.
use Rattle.std.specs.Prelude.{◌≡◌, ◌≢◌, ◌⊎◌, ◌↔◌, ℕ, ◌<◌, ◌++◌, ℤ, true, false, List, [], ◌∷◌, Contains, Option, Vec}
use Rattle.std.specs.declared.alloc.Global.{Global}
use Rattle.audit_types.specs.Rows.{has_row}
use Rattle.audit_types.specs.Headcount.{Headcount, shared_in, beside_in, several_in}
use Rattle.audit_types.specs.Form.{set_row, InSpan}
use Rattle.sum_basis.specs.Basis.{Echelon, unit_row}
use Rattle.sum_basis.specs.Growth.{GrowsTo, GrowsWide, SpansAfter, SpansGuarded}
use Rattle.sum_basis.specs.Ties.{TieSomeBut}
use Rattle.sum_basis.specs.declared.sparse.FreeEntry.{FreeEntry}
use Rattle.sum_basis.specs.declared.Prospect.{Prospect}
use Rattle.sum_basis.specs.declared.Prospect.TheVariants as prospect

-- the row of the set lies in the span with the unit row of some row that isn't one of several people, and the set has another row
pub record SpansBeside (form : Echelon) (several set : List ℕ) : Type 0 where
  pub own : ℕ
  pub below : own < form.n
  pub single : has_row several own ≡ false
  pub row : ℕ
  pub inside : has_row set row ≡ true
  pub other : row ≢ own
  pub spanned : InSpan (form.rows ++ unit_row form.n own ∷ []) (set_row form.n set)

-- that of one of these sets does
abbrev pub SpansOneBeside : Echelon → List ℕ → List (List ℕ) → Type 0
SpansOneBeside form several sets = (set : List ℕ) × Contains sets set × SpansBeside form several set

-- what the form tells somebody who knows the number of a row that isn't one of several people: that of another row, unless it is one beside which
-- nothing is guarded, or the total of one of these sets
abbrev pub TellsAsker : Echelon → List ℕ → List ℕ → List (List ℕ) → Type 0
TellsAsker form beside several sets = TieSomeBut beside several form.rows ⊎ SpansOneBeside form several sets

-- what the form tells somebody: what it spans, and, if people in the table ask, what it tells one of them
abbrev pub TellsSome : Echelon → Headcount → List (List ℕ) → Type 0
TellsSome form people sets =
    SpansGuarded form (shared_in people) sets ⊎ ((0 < people.own) × TellsAsker form (beside_in people) (several_in people) sets)

-- the unit row of some row that isn't among these lies in the span of the form with what it left of another row, and not in that of the form
abbrev pub SpansNewAfter : Echelon → Option (Vec FreeEntry Global) → List ℕ → Type 0
SpansNewAfter form left but =
    (i : ℕ) × (i < form.n) × (has_row but i ≡ false) × SpansAfter form left (unit_row form.n i) × ¬ (InSpan form.rows (unit_row form.n i))

-- of which rows one may be an asker's own, if she isn't to know a set's total by it alone: the row is none of several people, and the set has another one
abbrev pub AreNotAsking : ℕ → List ℕ → List ℕ → List ℕ → Type 0
AreNotAsking n several set but =
    (q : ℕ) → q < n → (has_row but q ≡ false) ↔ ((has_row several q ≡ false) × ((row : ℕ) × (has_row set row ≡ true) × (row ≢ q)))

-- what is told of the form with a new row, if these people ask
abbrev pub ForeseesAmong : Echelon → List ℤ → Headcount → List (List ℕ) → Prospect → Type 0
ForeseesAmong old row people sets prospect.Wide = GrowsWide old row
ForeseesAmong old row people sets prospect.Fixing = (new : Echelon) × GrowsTo old row new × TellsSome new people sets
ForeseesAmong old row people sets prospect.Open = (new : Echelon) × GrowsTo old row new × ¬ (TellsSome new people sets)
