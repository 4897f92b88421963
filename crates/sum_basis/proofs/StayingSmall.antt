-- Rows that stay small when they are cleared: those of a form that is narrow with the new row.
use Rattle.std.proofs.Common.{ℕ, suc, ◌<◌, ◌≤◌, ◌^◌, ℤ, List, [], ◌∷◌, ◌++◌, length, get_or, arith, inl, inr}
use Rattle.std.specs.List.{AllByRecursion}
use Rattle.audit_types.specs.Form.{IsPrimitive, IsReducedForm}
use Rattle.audit_types.specs.ListLaws.{all-weaker}
use Rattle.sum_basis.specs.Basis.{Echelon}
use Rattle.sum_basis.specs.Elimination.{IsWithin, IsSmall, IsSmallForm, IsZeroAtPivots, StaysSmall}
use Rattle.sum_basis.specs.Growth.{GrowsTo, GrowsWide, IsNewRow}
use Rattle.sum_basis.proofs.Clearing.{cleared_all}
use Rattle.sum_basis.proofs.Exactness.{other_row}
use Rattle.sum_basis.proofs.GrownForms.{of_own}
use Rattle.sum_basis.proofs.Growing.{placed_is_reduced}
use Rattle.sum_basis.proofs.NarrowOrWide.{narrow_or_not}
use Rattle.sum_basis.proofs.Placing.{placed}
use Rattle.sum_basis.proofs.RowsWith.{made_among}
use Rattle.sum_basis.proofs.Sizes.{within_more}

-- what holds of each row by its place holds of all
by_place : (P : List ℤ → Type 0) (rows : List (List ℤ)) → ((k : ℕ) → k < length rows → P (get_or rows k [])) → AllByRecursion P rows
by_place P [] h = tt
by_place P (r ∷ rows) h = (h 0 (omega arith), by_place P rows (λ k l. h (suc k) (omega arith)))

-- a cleared row is a row of the form with the new row
pub stay_small : (n : ℕ) (rows grown : List (List ℤ)) (new : List ℤ) → IsSmallForm n rows → IsPrimitive n new → IsZeroAtPivots rows new →
    IsReducedForm n (rows ++ new ∷ []) grown → AllByRecursion IsSmall grown → AllByRecursion (StaysSmall n new) rows
stay_small n rows grown new form p zeros reduced small =
    by_place (StaysSmall n new) rows
    (λ k l made is. of_own IsSmall grown made small (made_among n new p rows grown form.primitive form.echelon zeros reduced k made l is))

-- rows within a width are small
within_width : (width : ℕ) (rows : List (List ℤ)) → width ≤ 2 ^ 56 → AllByRecursion (IsWithin width) rows → AllByRecursion IsSmall rows
within_width width rows most all = all-weaker (IsWithin width) IsSmall (λ row. within_more width (2 ^ 56) row most) rows all

-- with a row with which the form isn't wide they do
pub small_if_not_wide : (old : Echelon) (new : List ℤ) → IsSmallForm old.n old.rows → IsPrimitive old.n new → IsZeroAtPivots old.rows new →
    old.width ≤ 2 ^ 56 → ¬ (GrowsWide old new) → AllByRecursion (StaysSmall old.n new) old.rows
small_if_not_wide old new form p zeros most other =
    let rest = cleared_all old.n new old.rows p form.primitive zeros in
    let grown = placed new rest.0 in
    let reduced = placed_is_reduced old.n old.rows rest.0 new form.primitive form.echelon p zeros rest.1 in
    elim (narrow_or_not old.width old.n (old.rows ++ new ∷ []) grown reduced) [
      | inl narrow ↦ stay_small old.n old.rows grown new form p zeros reduced (within_width old.width grown most narrow.entries)
      | inr wide ↦ absurd (other (grown, reduced, wide))
    ]

-- and with one with which it is known to be narrow
pub small_if_grown : (old new : Echelon) (v made : List ℤ) → IsSmallForm old.n old.rows → old.width ≤ 2 ^ 56 → IsNewRow old v made → GrowsTo old v new →
    AllByRecursion (StaysSmall old.n made) old.rows
small_if_grown old new v made form most row grown =
    stay_small old.n old.rows new.rows made form row.primitive row.zeros (other_row old.n old.rows new.rows v made row.back row.there grown.reduced)
    (within_width old.width new.rows most grown.narrow.entries)
