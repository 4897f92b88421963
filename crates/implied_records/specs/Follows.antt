-- When the answer to a question follows from those before it.
use Rattle.std.specs.Prelude.{◌≡◌, ◌≢◌, ◌↔◌, ℕ, ℤ, true, List, [], map, Option, Some, None}
use Rattle.std.specs.Int.{int_max}
use Rattle.audit_types.specs.declared.shapes.Kind.{Kind}
use Rattle.audit_types.specs.declared.shapes.Kind.TheVariants.{Sum, Max}
use Rattle.audit_types.specs.Rows.{AreRows, has_row}
use Rattle.audit_types.specs.Form.{set_row, InSpan}
use Rattle.audit_types.specs.Column.{Known, Answer, IsPossible, IsWellFormed}
use Rattle.audit_types.specs.Extremes.{upper_bound}
use Rattle.max_bounds.specs.Outside.{HasExtremesWithin}
use Rattle.implied_records.specs.Kept.{IsBounded, IsImplied}

-- the higher of a bound and the highest one so far
abbrev pub higher_of : Option ℤ → ℤ → ℤ
higher_of None bound = bound
higher_of (Some highest) bound = int_max highest bound

-- each row of the set has a bound, none above the value, and one has the value for its bound
pub record IsHighestBound (answers : List Answer) (rows : List ℕ) (value : ℤ) : Type 0 where
  pub bounded : IsBounded answers rows value
  pub row : ℕ
  pub inside : has_row rows row ≡ true
  pub has_it : upper_bound answers row ≡ Some value

-- the maximum over the rows has to be this number: it is their highest bound, and an earlier answer of the same number has all its
-- extreme rows among them
pub record IsForcedOver (answers : List Answer) (rows : List ℕ) (value : ℤ) : Type 0 where
  pub highest : IsHighestBound answers rows value
  pub reached : HasExtremesWithin answers rows value

-- it has to be some number
abbrev pub IsForcedToOne : List Answer → List ℕ → Type 0
IsForcedToOne answers rows = (value : ℤ) × IsForcedOver answers rows value

-- the answer follows: of a sum the row of its set lies in the span of those before it, a maximum is forced
abbrev pub FollowsFrom : Kind → ℕ → List Answer → List ℕ → Type 0
FollowsFrom Sum n answers rows = InSpan (map (set_row n) (map (λ a. a.rows) answers)) (set_row n rows)
FollowsFrom Max n answers rows = IsForcedToOne answers rows

-- the answer to the question on these rows follows from what is known of its column
abbrev pub Follows : Known → List ℕ → Type 0
Follows known rows = FollowsFrom known.kind known.n known.answers rows

-- every list that gives the answers gives this question one and the same
abbrev pub IsTold : Known → List ℕ → Type 0
IsTold known rows = (value : ℤ) × IsImplied known (record { rows = rows; value = value })

-- if some list gives the answers, an answer follows from them exactly if all such lists give it
abbrev pub FollowsIfTold : Type 0
FollowsIfTold =
    (known : Known) (rows : List ℕ) → IsWellFormed known → AreRows known.n rows → rows ≢ [] → IsPossible known → Follows known rows ↔ IsTold known rows
