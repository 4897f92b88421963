-- The bounds of a form: how large its entries may be, and how many rows a change of the numbers may need that leaves every sum as it is.
--
-- A free column is the pivot of no row of the form. The directions that are 0 at all free columns but one are multiples of one another, so at
-- which rows they aren't 0 is a fact of the form alone.
use Rattle.std.specs.Prelude.{◌≡◌, ◌≢◌, ◌≤◌, ℕ, ℤ, pos, false, not, List, [], count_by}
use Rattle.audit_types.specs.Truth.{is_zero, number_at}
use Rattle.audit_types.specs.Form.{IsNarrow}
use Rattle.audit_types.specs.Direction.{IsDirection, is_pivot}
use Rattle.audit_types.specs.Column.{Known, IsGuarded}

-- how many of the numbers aren't 0
abbrev pub extent : List ℤ → ℕ
extent d = count_by (λ x. not (is_zero x)) d

-- the value changes along a direction of the sets that is 0 at all free columns of their form but one, and other than 0 at so many rows at most
pub record Changes (n : ℕ) (sets : List (List ℕ)) (form : List (List ℤ)) (most : ℕ) (value : List ℤ → ℤ) : Type 0 where
  pub direction : List ℤ
  pub still : IsDirection n sets direction
  pub column : ℕ
  pub only : (i : ℕ) → is_pivot form i ≡ false → i ≢ column → number_at direction i ≡ pos 0
  pub near : extent direction ≤ most
  pub changed : value direction ≢ pos 0

-- the form of the sets is narrow, and whatever is guarded and changes along such a direction does so along one of at most `reach` rows
pub record IsWithinBounds (known : Known) (sets : List (List ℕ)) (form : List (List ℤ)) : Type 0 where
  pub narrow : IsNarrow known.width form
  pub near : (value : List ℤ → ℤ) → IsGuarded known [] value → Changes known.n sets form known.n value → Changes known.n sets form known.reach value
