-- One row of a form with a new row: the new row, or a row of the form cleared at its pivot.
use Rattle.std.proofs.Common.{◌≡◌, ℕ, zero, suc, ◌<◌, ℤ, List, [], ◌∷◌, ◌++◌, length, get_or, refl, subst, arith, inl, inr}
use Rattle.std.specs.List.{AllByRecursion}
use Rattle.audit_types.specs.Form.{IsPrimitive, IsEchelon, IsReducedForm}
use Rattle.sum_basis.specs.Basis.{Echelon}
use Rattle.sum_basis.specs.Elimination.{IsZeroAtPivots, IsCleared, AreCleared}
use Rattle.sum_basis.specs.Growth.{Foresees, GrowsWide, IsNewRow}
use Rattle.sum_basis.specs.RowsWith.{IsRowGrown, IsRowWith}
use Rattle.sum_basis.specs.Sparse.{row_of}
use Rattle.sum_basis.specs.declared.Prospect.{Prospect}
use Rattle.sum_basis.specs.declared.Prospect.TheVariants as prospect
use Rattle.sum_basis.specs.declared.row_with.RowWith.{RowWith}
use Rattle.sum_basis.specs.declared.row_with.RowWith.TheVariants.{Wide, Nothing, Row}
use Rattle.sum_basis.specs.declared.sparse.FreeEntry.{FreeEntry}
use Rattle.sum_basis.specs.Ties.{IsRowOf}
use Rattle.sum_basis.proofs.Clearing.{cleared, cleared_all}
use Rattle.sum_basis.proofs.Exactness.{of_rows, other_row}
use Rattle.sum_basis.proofs.FormsAreUnique.{forms_are_unique}
use Rattle.sum_basis.proofs.Growing.{placed_is_reduced}
use Rattle.sum_basis.proofs.GrownForms.{all_own, of_own, grown_is}
use Rattle.sum_basis.proofs.Joining.{not_wide}
use Rattle.sum_basis.proofs.Placing.{placed, parts_placed}

module _ (n : ℕ) (new : List ℤ) (p : IsPrimitive n new) where
  -- all rows cleared, of which one is the row that was made
  with_made : (rows : List (List ℤ)) (k : ℕ) (made : List ℤ) → AllByRecursion (IsPrimitive n) rows → IsZeroAtPivots rows new → k < length rows →
      IsCleared n new (get_or rows k []) made → (all : List (List ℤ)) × AreCleared n new rows all × IsRowOf made all
  with_made [] k made q z l is = absurd (omega arith)
  with_made (r ∷ rows) zero made q z l is = let rest = cleared_all n new rows p q.1 z.1 in (made ∷ rest.0, (is, rest.1), inl refl)
  with_made (r ∷ rows) (suc k) made q z l is =
      let first = cleared n new r p q.0 z.0 in
      let rest = with_made rows k made q.1 z.1 (omega arith) is in
      (first.0 ∷ rest.0, (first.1, rest.1), inr rest.2)

  module _ (rows grown : List (List ℤ)) (q : AllByRecursion (IsPrimitive n) rows) (h : IsEchelon rows) (z : IsZeroAtPivots rows new)
      (reduced : IsReducedForm n (rows ++ new ∷ []) grown) where
    -- the new row is one of the form with it
    pub new_among : IsRowOf new grown
    new_among = (grown_is n new p rows grown q h z reduced).new_row

    -- and so is a row that was cleared
    pub made_among : (k : ℕ) (made : List ℤ) → k < length rows → IsCleared n new (get_or rows k []) made → IsRowOf made grown
    made_among k made l is =
        let all = with_made rows k made q z l is in
        let with_new = placed new all.0 in
        let parts = parts_placed (λ r. IsRowOf r with_new) new all.0 (all_own with_new) in
        let same = forms_are_unique n (rows ++ new ∷ []) with_new grown (placed_is_reduced n rows all.0 new q h p z all.1) reduced in
        subst (IsRowOf made) same (of_own (λ r. IsRowOf r with_new) all.0 made parts.1 all.2)

-- what is told of a list holds of the row that left it, if the form with the row is narrow
pub row_of_form : (old : Echelon) (v : List ℤ) (list : List FreeEntry) (p : Prospect) (place : ℕ) (told : RowWith) → Foresees old v p → ¬ (p ≡ prospect.Wide) →
    IsNewRow old v (row_of old.n list) → IsRowGrown old.n old.rows (row_of old.n list) place told → IsRowWith old v place told
row_of_form old v list p place Wide foreseen other left is = absurd is
row_of_form old v list p place Nothing foreseen other left is = tt
row_of_form old v list p place (Row row) foreseen other left is =
    let new = not_wide old v p foreseen other in (
      new.0,
      new.1,
      is new.0.rows (other_row old.n old.rows new.0.rows v (row_of old.n list) left.back left.there new.1.reduced),
      λ rows r. of_rows old.n rows old.rows new.0.rows v r new.1.reduced,
    )

-- a row with which the form isn't narrow
pub wide_row : (old : Echelon) (v : List ℤ) (place : ℕ) → GrowsWide old v → IsRowWith old v place Wide
wide_row old v place wide = λ rows r. (wide.0, of_rows old.n rows old.rows wide.0 v r wide.1, wide.2)
