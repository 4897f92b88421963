-- The least lone row of consistent maxima is the least row that they fix.
use Rattle.std.proofs.Common.{◌≡◌, ℕ, ◌<◌, List, [], ap, ◌∙◌, subst, Option, Some, None}
use Rattle.audit_types.specs.Rows.{has_row}
use Rattle.audit_types.specs.Headcount.{Headcount, Counted}
use Rattle.audit_types.specs.Column.{Answer, Known, IsWellFormed, known_max, guarding, with_bounds}
use Rattle.audit_types.specs.Extremes.{IsConsistent, IsLone, IsLeastLone}
use Rattle.max_bounds.specs.Maxima.{Maxima}
use Rattle.max_audit.specs.Laws.{IsFixed, IsLeastFixed}
use Rattle.max_audit.specs.Columns.{IsMaxColumn}
use Rattle.audit_types.specs.RowLaws.{has_first}
use Rattle.max_audit.proofs.OtherRowsAreFree.{extreme_below, fixed_by_lone_rows, possible_by_extremes}

-- a lone row is a row of the table
lone_below : (n : ℕ) (answers : List Answer) (r : ℕ) → IsWellFormed (known_max n answers) → IsLone answers r → r < n
lone_below n answers r well (a, one, only) = extreme_below n answers well a one r (ap (λ l. has_row l r) only ∙ has_first r [])

-- what answers fix they fix whatever is guarded
fixed_at : (n : ℕ) (answers : List Answer) (people : Headcount) (width reach i : ℕ) → IsFixed (known_max n answers) i →
    IsFixed (with_bounds (guarding (known_max n answers) people []) width reach) i
fixed_at n answers people width reach i fixed =
    λ w v one other. fixed w v (record { one_each = one.one_each; same = one.same }) (record { one_each = other.one_each; same = other.same })

-- and back
fixed_from : (n : ℕ) (answers : List Answer) (people : Headcount) (width reach i : ℕ) →
    IsFixed (with_bounds (guarding (known_max n answers) people []) width reach) i → IsFixed (known_max n answers) i
fixed_from n answers people width reach i fixed =
    λ w v one other. fixed w v (record { one_each = one.one_each; same = one.same }) (record { one_each = other.one_each; same = other.same })

-- the least lone row is the least row that is fixed
least_fixed_by : (n : ℕ) (answers : List Answer) (least : Option ℕ) → IsWellFormed (known_max n answers) → IsConsistent answers →
    IsLeastLone answers least → IsLeastFixed (known_max n answers) least
least_fixed_by n answers None well consistent none = λ i fixed.
    none i ((fixed_by_lone_rows n answers i well ((possible_by_extremes n answers well).1 consistent) fixed.0).0 fixed.1)
least_fixed_by n answers (Some r) well consistent (lone, least) =
    let possible = (possible_by_extremes n answers well).1 consistent in
    let below = lone_below n answers r well lone in (
      (below, (fixed_by_lone_rows n answers r well possible below).1 lone),
      λ j less fixed. least j less ((fixed_by_lone_rows n answers j well possible fixed.0).0 fixed.1),
    )

-- whatever is guarded
least_fixed_among : (n : ℕ) (answers : List Answer) (people : Headcount) (width reach : ℕ) (least : Option ℕ) → IsLeastFixed (known_max n answers) least →
    IsLeastFixed (with_bounds (guarding (known_max n answers) people []) width reach) least
least_fixed_among n answers people width reach None none = λ i fixed. none i (fixed.0, fixed_from n answers people width reach i fixed.1)
least_fixed_among n answers people width reach (Some r) ((below, fixed), before) = (
  (below, fixed_at n answers people width reach r fixed),
  λ j less fixed. before j less (fixed.0, fixed_from n answers people width reach j fixed.1),
)

-- so of a column, whatever is guarded of it
pub least_fixed : (people : Counted) (maxima : Maxima) (width reach : ℕ) → IsMaxColumn people maxima → (known : Known) →
    with_bounds (guarding (known_max people.n maxima.answers) people.people []) width reach ≡ known → (least : Option ℕ) → IsLeastLone maxima.answers least →
    IsConsistent known.answers → IsLeastFixed known least
least_fixed people maxima width reach is known view least lone =
    subst (λ k. IsConsistent k.answers → IsLeastFixed k least) view (λ consistent.
    least_fixed_among people.n maxima.answers people.people width reach least (least_fixed_by people.n maxima.answers least is.formed consistent lone))
