-- The steps to the canonical direction of a row.
use Rattle.std.specs.Prelude.{◌≡◌, ◌≢◌, ℕ, ℤ, pos, neg_ℤ, ◌*ℤ◌, ◌<ℤ◌, false, List, map, length}
use Rattle.std.specs.List.{AllByRecursion}
use Rattle.audit_types.specs.Truth.{number_at}
use Rattle.audit_types.specs.Form.{pivot, pivot_entry, IsPrimitive, IsEchelon, IsContent}
use Rattle.audit_types.specs.Direction.{is_pivot, IsSmall}

-- reduced rows over n columns in the order of their pivots
pub record IsForm (n : ℕ) (form : List (List ℤ)) : Type 0 where
  pub primitive : AllByRecursion (IsPrimitive n) form
  pub echelon : IsEchelon form

-- the number at the row's pivot makes the dot product with the row 0, if `common` stands at the free column
abbrev pub Solves : List ℤ → ℤ → ℕ → List ℤ → Type 0
Solves d common free row = number_at d (pivot row) *ℤ pivot_entry row ≡ neg_ℤ (number_at row free *ℤ common)

-- `common` at the free column, 0 at the other free ones, and at each pivot what solves its row
pub record IsSolvedWith (n : ℕ) (common : ℤ) (form : List (List ℤ)) (free : ℕ) (d : List ℤ) : Type 0 where
  pub one_each : length d ≡ n
  pub at_free : number_at d free ≡ common
  pub solves : AllByRecursion (Solves d common free) form
  pub elsewhere : (j : ℕ) → is_pivot form j ≡ false → j ≢ free → number_at d j ≡ pos 0
  pub small : IsSmall d

-- the same with some positive number at the free column
abbrev pub IsSolved : ℕ → List (List ℤ) → ℕ → List ℤ → Type 0
IsSolved n form free d = (common : ℤ) × (pos 0 <ℤ common) × IsSolvedWith n common form free d

-- the old numbers are a multiple of the new ones, which have content 1 and are positive at the row
pub record IsDivided (old : List ℤ) (row : ℕ) (new : List ℤ) : Type 0 where
  pub factor : ℤ
  pub is_multiple : old ≡ map (λ x. factor *ℤ x) new
  pub content : IsContent new 1
  pub positive : pos 0 <ℤ number_at new row
