-- Rows whose bounds are sure: cleared by a new row, each stays within the width.
use Rattle.std.proofs.Common.{ℕ, zero, suc, ◌+◌, ◌*◌, ◌≤◌, ℤ, List, [], ◌∷◌, drop, get_or, refl}
use Rattle.std.specs.Prelude.{unsigned_abs}
use Rattle.std.specs.List.{AllByRecursion}
use Rattle.audit_types.specs.Form.{IsPrimitive}
use Rattle.sum_basis.specs.declared.sparse.FreeEntry.{FreeEntry}
use Rattle.sum_basis.specs.declared.sparse.SparseRow.{SparseRow}
use Rattle.sum_basis.specs.Elimination.{IsWithin, IsZeroAtPivots, AreCleared}
use Rattle.sum_basis.specs.Sparse.{row_of, rows_of, IsKept, IsNew}
use Rattle.sum_basis.proofs.ListContents.{none}
use Rattle.sum_basis.proofs.KeptRows.{nothing_at}
use Rattle.sum_basis.proofs.BoundedRows.{within_limit, stays_within}

module _ (n width : ℕ) (new : List FreeEntry) (is_new : IsNew n new) (most : ℕ) (all : AllByRecursion (λ (e : FreeEntry). unsigned_abs e.value ≤ most) new)
    (sure : ℕ) (enough : sure * (unsigned_abs (get_or new 0 none).value + most) ≤ width) where
  -- those from a place on
  pub rest_stays_within : (k : ℕ) (rows : List SparseRow) → AllByRecursion (IsKept n) rows → AllByRecursion (IsPrimitive n) (rows_of n rows)
      → AllByRecursion (IsWithin width) (rows_of n rows) → IsZeroAtPivots (rows_of n rows) (row_of n new) → AllByRecursion (λ r. r.most ≤ sure) rows
      → (made : List (List ℤ)) × AreCleared n (row_of n new) (drop k (rows_of n rows)) made × AllByRecursion (IsWithin width) made
  rest_stays_within zero [] kept primitive within zeros bounded = ([], tt, tt)
  rest_stays_within (suc k) [] kept primitive within zeros bounded = ([], tt, tt)
  rest_stays_within (suc k) (r ∷ rows) kept primitive within zeros bounded = rest_stays_within k rows kept.1 primitive.1 within.1 zeros.1 bounded.1
  rest_stays_within zero (r ∷ rows) kept primitive within zeros bounded =
      let first = stays_within n r new kept.0 primitive.0 is_new (nothing_at n r new kept.0 is_new zeros.0) most all
      (get_or new 0 none).value refl width within.0
      (within_limit width (unsigned_abs (get_or new 0 none).value) most sure r.most bounded.0 enough) in
      let rest = rest_stays_within zero rows kept.1 primitive.1 within.1 zeros.1 bounded.1 in
      (first.0 ∷ rest.0, (first.1, rest.1), (first.2, rest.2))
