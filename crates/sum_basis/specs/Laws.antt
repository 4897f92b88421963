-- The laws of reduced forms.
use Rattle.std.specs.Prelude.{◌≡◌, ℕ, ℤ, List, [], ◌∷◌, ◌++◌, length, ◌⊎◌}
use Rattle.std.specs.List.{AllByRecursion}
use Rattle.audit_types.specs.Form.{set_row, InSpan, IsReducedForm, Reduced, HasNarrowForm, HasWideForm}

-- every list of rows has a reduced form
abbrev pub EveryRowSpaceHasAForm : Type 0
EveryRowSpaceHasAForm = (n : ℕ) (rows : List (List ℤ)) → AllByRecursion (λ r. length r ≡ n) rows → (form : List (List ℤ)) × IsReducedForm n rows form

-- and only one
abbrev pub FormsAreUnique : Type 0
FormsAreUnique = (n : ℕ) (rows form other : List (List ℤ)) → IsReducedForm n rows form → IsReducedForm n rows other → form ≡ other

-- a row in the span leaves it as it is
abbrev pub SpanKeepsForm : Type 0
SpanKeepsForm = (n : ℕ) (rows form : List (List ℤ)) (row : List ℤ) → IsReducedForm n rows form → InSpan rows row → IsReducedForm n (rows ++ row ∷ []) form

-- the form of the form's rows with the row of one set more is that of the sets with it
abbrev pub OneMoreSet : Type 0
OneMoreSet = (n : ℕ) (sets : List (List ℕ)) (rows : List ℕ) (form new : List (List ℤ)) → Reduced n sets form → IsReducedForm n (form ++ set_row n rows ∷ []) new → Reduced n (sets ++ rows ∷ []) new

-- so sets have one reduced form
abbrev pub SetsHaveOneForm : Type 0
SetsHaveOneForm = (n : ℕ) (sets : List (List ℕ)) → (form : List (List ℤ)) × Reduced n sets form × ((other : List (List ℤ)) → Reduced n sets other → other ≡ form)

-- the form of any sets is narrow or wide, and not both
abbrev pub NarrowOrWide : Type 0
NarrowOrWide = (width n : ℕ) (sets : List (List ℕ)) → (HasNarrowForm width n sets ⊎ HasWideForm width n sets) × (HasNarrowForm width n sets → HasWideForm width n sets → ⊥)
