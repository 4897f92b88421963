-- What one who knows a number of the column, as her own, can work out of answered sums.
use Rattle.std.specs.Prelude.{◌≡◌, ◌≢◌, ◌↔◌, ◌⊎◌, ℕ, ◌<◌, ℤ, pos, List, [], map, All}
use Rattle.std.specs.List.{AllByRecursion}
use Rattle.audit_types.specs.Rows.{AreRows}
use Rattle.audit_types.specs.Headcount.{Headcount, CountPeople, shared_in, beside_in, several_in}
use Rattle.audit_types.specs.Truth.{number_at}
use Rattle.audit_types.specs.Column.{Answer, Agrees, known_sum, guarding, with_bounds}
use Rattle.audit_types.specs.Form.{set_row, Reduced}
use Rattle.audit_types.specs.Direction.{IsDirection}
use Rattle.audit_types.specs.Judgement.{PinSomeNumber, SpanSomeGroup}
use Rattle.sum_basis.specs.Growth.{HasOwnUnit, SpansOneOf}
use Rattle.sum_basis.specs.Asking.{SpansOneBeside}
use Rattle.sum_basis.specs.Ties.{Ties, ShowsTie, TieSomeBut}
use Rattle.sum_audit.specs.Sets.{sets_of}

-- whoever knows the number of row q knows that of row i: each direction that is 0 at q is 0 at i. A q past the table knows nothing
abbrev pub IsStillFor : ℕ → List (List ℕ) → ℕ → ℕ → Type 0
IsStillFor n sets q i = (d : List ℤ) → IsDirection n sets d → number_at d q ≡ pos 0 → number_at d i ≡ pos 0

-- that is so exactly if their span ties i to q
abbrev pub StillByTies : Type 0
StillByTies =
    (n : ℕ) (sets : List (List ℕ)) (q i : ℕ) → AllByRecursion (AreRows n) sets → i < n → q ≢ i →
    IsStillFor n sets q i ↔ Ties (map (set_row n) sets) i q

-- another list of whole numbers gives the same answers, has the same number at q, and another one at i
pub record IsOpenFor (n : ℕ) (answers : List Answer) (w : List ℤ) (q i : ℕ) : Type 0 where
  pub other : List ℤ
  pub agrees : Agrees (known_sum n answers) other
  pub same : number_at other q ≡ number_at w q
  pub differs : number_at other i ≢ number_at w i

-- whatever the numbers are, row i is tied to q, or its number is open to one who knows that of q
abbrev pub TiedOrOpen : Type 0
TiedOrOpen =
    (n : ℕ) (answers : List Answer) (w : List ℤ) (q i : ℕ) → AllByRecursion (AreRows n) (sets_of answers) → Agrees (known_sum n answers) w → i < n → q ≢ i →
    Ties (map (set_row n) (sets_of answers)) i q ⊎ IsOpenFor n answers w q i

-- and not both: if it is tied, all lists that give the answers and have one number at q have one number at i
abbrev pub TiesTell : Type 0
TiesTell =
    (n : ℕ) (answers : List Answer) (q i : ℕ) (w v : List ℤ) → AllByRecursion (AreRows n) (sets_of answers) → i < n → q ≢ i →
    Ties (map (set_row n) (sets_of answers)) i q → Agrees (known_sum n answers) w → Agrees (known_sum n answers) v → number_at v q ≡ number_at w q →
    number_at v i ≡ number_at w i

-- if the reduced form shows no tie, each number is open to whoever knows any one other
abbrev pub OpenByForm : Type 0
OpenByForm =
    (n : ℕ) (answers : List Answer) (form : List (List ℤ)) (w : List ℤ) (q i : ℕ) → AllByRecursion (AreRows n) (sets_of answers) →
    Reduced n (sets_of answers) form → ¬ (ShowsTie form) → Agrees (known_sum n answers) w → i < n → q ≢ i → IsOpenFor n answers w q i

-- the sets pin a number that is guarded from some asker exactly if the unit row of a row that isn't shared lies in the span of their form, or, if
-- people in the table ask, it ties a row beside which something is guarded to another one of one person
abbrev pub PinsByForm : Type 0
PinsByForm =
    (n width reach : ℕ) (answers : List Answer) (people : Headcount) (groups : List (List ℕ)) (sets : List (List ℕ)) (form : List (List ℤ)) →
    CountPeople n people → AllByRecursion (AreRows n) sets → Reduced n sets form →
    PinSomeNumber (with_bounds (guarding (known_sum n answers) people groups) width reach) sets
    ↔ (HasOwnUnit (record { n = n; width = width; rows = form }) (shared_in people)
    ⊎ ((0 < people.own) × TieSomeBut (beside_in people) (several_in people) form))

-- they span a group with the numbers of some asker exactly if its row lies in the span of their form, or, if people in the table ask, in that with
-- the unit row of a row of one person, and the group has another row
abbrev pub GroupsByForm : Type 0
GroupsByForm =
    (n width reach : ℕ) (answers : List Answer) (people : Headcount) (groups : List (List ℕ)) (sets : List (List ℕ)) (form : List (List ℤ)) →
    CountPeople n people → All (λ g. g ≢ []) groups → Reduced n sets form →
    SpanSomeGroup (with_bounds (guarding (known_sum n answers) people groups) width reach) sets
    ↔ (SpansOneOf (record { n = n; width = width; rows = form }) groups
    ⊎ ((0 < people.own) × SpansOneBeside (record { n = n; width = width; rows = form }) (several_in people) groups))
