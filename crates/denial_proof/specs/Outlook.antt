-- What the answers before a question say of each answer to it: below which numbers one takes all extreme rows of some answer, or all but
-- few, and up to which rows of the set can reach one.
use Rattle.std.specs.Prelude.{◌≡◌, ◌≢◌, ◌⊎◌, ℕ, ◌^◌, ℤ, pos, neg_ℤ, ◌<ℤ◌, ◌≤ℤ◌, Bool, true, cond, List, [], Option, Some, None}
use Rattle.std.specs.Int.{int_max}
use Rattle.std.specs.List.{AllByRecursion}
use Rattle.audit_types.specs.Rows.{has_row}
use Rattle.audit_types.specs.Headcount.{Headcount, AreFew}
use Rattle.audit_types.specs.Column.{Answer, IsOneOf}
use Rattle.audit_types.specs.Extremes.{upper_bound, extremes}
use Rattle.max_bounds.specs.Kept.{rows_at_least}
use Rattle.max_bounds.specs.Outside.{outside}
use Rattle.denial_proof.specs.declared.outlook.Left.{Left}
use Rattle.denial_proof.specs.declared.outlook.Left.TheVariants.{Nothing, Few, More}
use Rattle.denial_proof.specs.declared.outlook.Holding.{Holding}
use Rattle.denial_proof.specs.declared.outlook.Reach.{Reach}
use Rattle.denial_proof.specs.declared.outlook.Outlook.{Outlook}

-- a number above all candidates, and one below them
abbrev pub above_all : ℤ
above_all = pos (2 ^ 64)

abbrev pub below_all : ℤ
below_all = neg_ℤ (pos (2 ^ 64))

-- how high a row with this bound can be
abbrev pub reach_of : Option ℤ → ℤ
reach_of None = above_all
reach_of (Some b) = b

-- what is left of rows
abbrev pub IsLeft : Headcount → List ℕ → Left → Type 0
IsLeft people rows Nothing = rows ≡ []
IsLeft people rows Few = rows ≢ []
IsLeft people rows More = ¬ (AreFew people [] rows)

-- all extreme rows of an answer lie in the set
abbrev pub IsHeldWhole : List Answer → List ℕ → Answer → Type 0
IsHeldWhole answers rows a = outside rows (extremes answers a) ≡ []

-- extreme rows of an answer that are more than few are outside the set
abbrev pub HasMoreOutside : List Answer → Headcount → List ℕ → Answer → Type 0
HasMoreOutside answers people rows a = ¬ (AreFew people [] (outside rows (extremes answers a)))

-- with one answer more, of whose extreme rows this is left
abbrev pub HoldsAfter : Holding → Left → ℤ → Holding → Type 0
HoldsAfter old Nothing answer new = (new.whole ≡ int_max old.whole answer) × (new.stranded ≡ int_max old.stranded answer)
HoldsAfter old Few answer new = (new.whole ≡ old.whole) × (new.stranded ≡ int_max old.stranded answer)
HoldsAfter old More answer new = new ≡ old

-- `whole` is the greatest of the answers seen that the set holds whole, and every one above `stranded` has more than few extreme rows outside
pub record IsHolding (answers : List Answer) (people : Headcount) (rows : List ℕ) (seen : List Answer) (holding : Holding) : Type 0 where
  pub whole : (holding.whole ≡ below_all) ⊎ ((a : Answer) × IsOneOf a answers × IsHeldWhole answers rows a × (a.value ≡ holding.whole))
  pub greatest : AllByRecursion (λ a. (¬ (IsHeldWhole answers rows a)) ⊎ (a.value ≤ℤ holding.whole)) seen
  pub others : AllByRecursion (λ a. HasMoreOutside answers people rows a ⊎ (a.value ≤ℤ holding.stranded)) seen

-- with one row more, which can be this high, and by whether more than few can
abbrev pub ReachesAfter : Reach → ℤ → Bool → Reach → Type 0
ReachesAfter old height are_many new = (new.top ≡ int_max old.top height) × (new.many ≡ cond are_many height old.many)

-- no row of the set can be above `top`, which some row can reach, and more than few can reach `many`
pub record IsReach (answers : List Answer) (people : Headcount) (rows : List ℕ) (reach : Reach) : Type 0 where
  pub top : (r : ℕ) → has_row rows r ≡ true → reach_of (upper_bound answers r) ≤ℤ reach.top
  pub reached : (reach.top ≡ below_all) ⊎ ((r : ℕ) × (has_row rows r ≡ true) × (reach.top ≤ℤ reach_of (upper_bound answers r)))
  pub many : (reach.many ≤ℤ below_all) ⊎ (¬ (AreFew people [] (rows_at_least (upper_bound answers) reach.many rows)))

-- what the answers say of a question on these rows
pub record IsOutlook (answers : List Answer) (people : Headcount) (rows : List ℕ) (outlook : Outlook) : Type 0 where
  pub holding : IsHolding answers people rows answers outlook.holding
  pub reach : IsReach answers people rows outlook.reach

-- an answer that the outlook doesn't rule out
pub record MayLeaveFew (outlook : Outlook) (x : ℤ) : Type 0 where
  pub whole : outlook.holding.whole ≤ℤ x
  pub reached : x ≤ℤ outlook.reach.top
  pub few : (x <ℤ outlook.holding.stranded) ⊎ (outlook.reach.many <ℤ x)
