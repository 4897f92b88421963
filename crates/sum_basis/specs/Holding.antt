-- What a basis keeps of the set that was weighed last, and of sets that are to stay out of its span.
use Rattle.std.specs.Prelude.{◌≡◌, ℕ, ℤ, pos, List, Option, None, Some, Vec, IfSome}
use Rattle.std.specs.declared.alloc.Global.{Global}
use Rattle.audit_types.specs.Form.{set_row, InSpan}
use Rattle.sum_basis.specs.Basis.{Echelon}
use Rattle.sum_basis.specs.Growth.{IsLeft}
use Rattle.sum_basis.specs.Keys.{AreColumnKeys}
use Rattle.sum_basis.specs.Reach.{AreCounts}
use Rattle.sum_basis.specs.declared.basis.Held.{Held}
use Rattle.sum_basis.specs.declared.column_keys.ColumnKeys.{ColumnKeys}
use Rattle.sum_basis.specs.declared.keeping.KeptSet.{KeptSet}
use Rattle.sum_basis.specs.declared.sparse.FreeEntry.{FreeEntry}
use Rattle.sum_basis.specs.declared.form.Left.TheVariants.{Entries}
use Rattle.sum_basis.specs.Sparse.{entry_at}

-- the list is what the form leaves of a row, and if there is none, the row lies in the span
abbrev pub LeavesList : Echelon → List ℤ → Option (Vec FreeEntry Global) → Type 0
LeavesList form row None = InSpan form.rows row
LeavesList form row (Some list) = IsLeft form row (Entries list)

-- a held list is what the form leaves of the row of its set
abbrev pub IsHeld : Echelon → Option Held → Type 0
IsHeld form held = IfSome held (λ h. LeavesList form (set_row form.n h.rows.list) h.list)

-- a list kept with a set of the form's columns is what the form leaves of its row
abbrev pub IsKeptOf : Echelon → KeptSet → Type 0
IsKeptOf form kept = (kept.rows.n ≡ form.n) × IfSome kept.list (λ list. IsLeft form (set_row form.n kept.rows.list) (Entries list))

-- kept counts are those of the form
abbrev pub AreKeptCounts : Echelon → Option (Vec ℕ Global) → Type 0
AreKeptCounts form counts = IfSome counts (λ c. AreCounts form.n form.rows c.items)

-- a list kept with a set has 0 at the place
abbrev pub IsKeptWithout : ℕ → KeptSet → Type 0
IsKeptWithout place kept = IfSome kept.list (λ list. entry_at list.items place ≡ pos 0)

-- kept keys are those of the form's columns
abbrev pub AreKeptKeys : Echelon → Option ColumnKeys → Type 0
AreKeptKeys form keys = IfSome keys (AreColumnKeys form)
