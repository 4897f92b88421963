-- When the form with a new row is wide, and when it is narrow.
use Rattle.std.proofs.Common.{ℕ, ◌≤◌, ℤ, List}
use Rattle.audit_types.specs.Form.{IsPrimitive, IsNarrow, IsLeastCommonMultiple, pivot_entries}
use Rattle.sum_basis.specs.Elimination.{IsWithin, IsFormWithin, IsZeroAtPivots}
use Rattle.sum_basis.specs.Growth.{ClearsWide, GrowsWide}
use Rattle.sum_basis.specs.Basis.{Echelon}
use Rattle.sum_basis.proofs.Sizes.{within_more}
use Rattle.sum_basis.proofs.Clearing.{cleared_all}
use Rattle.sum_basis.proofs.Placing.{placed, parts_placed}
use Rattle.sum_basis.proofs.Growing.{placed_is_reduced}

module _ (form : Echelon) (new : List ℤ) (f : IsFormWithin form.width form.n form.rows) (p : IsPrimitive form.n new) (z : IsZeroAtPivots form.rows new) where
  -- the new row itself is a row of the form
  pub new_too_large : (limit : ℕ) → form.width ≤ limit → ¬ (IsWithin limit new) → GrowsWide form new
  new_too_large limit most large =
      let rest = cleared_all form.n new form.rows p f.primitive z in (
        placed new rest.0,
        placed_is_reduced form.n form.rows rest.0 new f.primitive f.echelon p z rest.1,
        λ narrow. large (within_more form.width limit new most (parts_placed (IsWithin form.width) new rest.0 narrow.entries).0),
      )

  -- so is each row that was cleared
  pub row_too_large : ClearsWide form.n form.width form.rows new → GrowsWide form new
  row_too_large w = (
    placed new w.rows,
    placed_is_reduced form.n form.rows w.rows new f.primitive f.echelon p z w.cleared,
    λ narrow. w.wide (parts_placed (IsWithin form.width) new w.rows narrow.entries).1,
  )

-- entries and a common multiple within a width make a form narrow
pub is_narrow : (n width m : ℕ) (form : List (List ℤ)) → IsFormWithin width n form → IsLeastCommonMultiple (pivot_entries form) m → m ≤ width →
    IsNarrow width form
is_narrow n width m form f least small = record { entries = f.entries; common = m; common_is = least; common_small = small }
