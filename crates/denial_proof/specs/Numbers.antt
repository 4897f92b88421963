-- The numbers that a marked form gives for a target.
use Rattle.std.specs.Prelude.{◌≡◌, ℕ, suc, Option, ◌+◌, ◌*◌, ◌<◌, ◌≤◌, ◌^◌, ℤ, pos, ◌*ℤ◌, ◌<ℤ◌, cond, List, [], ◌∷◌, map, length, unsigned_abs}
use Rattle.std.specs.List.{AllByRecursion}
use Rattle.sum_basis.specs.Limits.{most_columns}
use Rattle.audit_types.specs.Truth.{number_at, is_zero}
use Rattle.audit_types.specs.Form.{set_row, combined, pivot, pivot_entry, IsContent}
use Rattle.audit_types.specs.declared.records.Answered.{Answered}
use Rattle.audit_types.specs.declared.records.Asked.{Asked}
use Rattle.sum_basis.specs.Basis.{Echelon}
use Rattle.sum_basis.specs.Elimination.{IsSmall}
use Rattle.denial_proof.specs.declared.proof_parts.Term.{Term}
use Rattle.denial_proof.specs.Kept.{AreMarks}
use Rattle.denial_proof.specs.Weights.{own_rows}

-- how often each row of a form is taken, so that `common` times the target's row comes out at its pivots
abbrev pub AreTaken : ℤ → (ℕ → ℤ) → List (List ℤ) → List ℤ → Type 0
AreTaken common f [] taken = taken ≡ []
AreTaken common f (row ∷ form) [] = ⊥
AreTaken common f (row ∷ form) (c ∷ taken) = (c *ℤ pivot_entry row ≡ common *ℤ f (pivot row)) × AreTaken common f form taken

-- a row is taken at most 2 ^ 56 times
abbrev pub IsTakenSmall : ℤ → Type 0
IsTakenSmall c = unsigned_abs c ≤ 2 ^ 56

-- a list over its content, which is positive
pub record IsDivided (old new : List ℤ) : Type 0 where
  pub factor : ℤ
  pub positive : pos 0 <ℤ factor
  pub is_multiple : old ≡ map (λ x. factor *ℤ x) new
  pub content : IsContent new 1

-- what a form's rows, each as often as it is taken, have at the m marks after n columns
pub record AreRead (form : List (List ℤ)) (target : List ℤ) (n m : ℕ) (common : ℤ) (numbers : List ℤ) : Type 0 where
  pub taken : List ℤ
  pub are_taken : AreTaken common (number_at target) form taken
  pub small : AllByRecursion IsTakenSmall taken
  pub one_each : length numbers ≡ m
  pub exact : (k : ℕ) → k < m → number_at numbers k ≡ combined taken form (n + k)

-- a number, and after it those of the first marks
pub record AreReadSoFar (common : ℤ) (f : ℕ → ℤ) (mark : ℕ) (numbers : List ℤ) : Type 0 where
  pub one_each : length numbers ≡ mark + 1
  pub first : number_at numbers 0 ≡ common
  pub exact : (k : ℕ) → k < mark → number_at numbers (k + 1) ≡ f k
  pub small : AllByRecursion (λ x. unsigned_abs x ≤ 2 ^ 112 * most_columns) numbers

-- the common multiple and these numbers after it, all over their greatest common divisor
pub record AreMultipliers (form : List (List ℤ)) (target : List ℤ) (n m : ℕ) (list : List ℤ) : Type 0 where
  pub common : ℤ
  pub numbers : List ℤ
  pub positive : pos 0 <ℤ common
  pub small : unsigned_abs common ≤ 2 ^ 56
  pub read : AreRead form target n m common numbers
  pub divided : IsDivided (common ∷ numbers) list

-- a term for each place whose number isn't 0
abbrev pub terms_of : List ℕ → List ℤ → List Term
terms_of [] numbers = []
terms_of (place ∷ places) [] = []
terms_of (place ∷ places) (x ∷ numbers) = cond (is_zero x) (terms_of places numbers) (record { place = place; times = x } ∷ terms_of places numbers)

-- the sets, each as often as its number says, come to a row `times` times, and the numbers have no common divisor
pub record ComeTo (n : ℕ) (sets : List (List ℕ)) (target : List ℤ) (times : ℤ) (numbers : List ℤ) : Type 0 where
  pub positive : pos 0 <ℤ times
  pub one_each : length numbers ≡ length sets
  pub add_up : (j : ℕ) → j < n → combined numbers (map (set_row n) sets) j ≡ times *ℤ number_at target j
  pub content : IsContent (times ∷ numbers) 1

-- numbers for a target that are read off the form of all marked rows of a question
pub record AreNumbersFor (n : ℕ) (history : List Answered) (asked : Asked) (more : ℕ) (own : Option ℕ) (places : List ℕ) (target : List ℤ) (numbers : List ℤ) : Type 0 where
  pub form : Echelon
  pub marks : AreMarks n history asked more own places form
  pub small : AllByRecursion IsSmall form.rows
  pub are : AreMultipliers form.rows target n (length places + suc (length (own_rows own))) numbers
