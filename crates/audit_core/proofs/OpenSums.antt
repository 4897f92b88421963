-- A legal history leaves the numbers and the protected totals of each column of sums open within ranges, for each asker.
--
-- Other numbers that give the answers, and her own, differ in what is guarded, so a direction changes it that is 0 where she knows a number; and so
-- a small one does. Some times this direction, one way and the other, keep all answers, and each number in its range that lies far enough inside.
use Rattle.std.proofs.Common.{◌≡◌, ◌≢◌, ℕ, ◌*◌, ◌<◌, ◌≤◌, ℤ, pos, List, [], ◌∷◌, map, length, refl, sym, ap, ◌∙◌, subst, arith, inl, inr}
use Rattle.std.specs.Prelude.{◌+ℤ◌, ◌*ℤ◌, neg_ℤ, ◌≤ℤ◌, unsigned_abs, All}
use Rattle.std.specs.List.{AllByRecursion, range_with_len}
use Rattle.std.proofs.lemmas.Int.{ints}
use Rattle.std.proofs.lemmas.List.{take_all, length-map}
use Rattle.std.proofs.lemmas.List.Elements.{All-contains}
use Rattle.std.proofs.Math.IntN.{+ℤ_idr, *ℤ-zero}
use Rattle.audit_types.specs.declared.records.Answered.{Answered}
use Rattle.audit_types.specs.declared.shapes.Kind.{Kind}
use Rattle.audit_types.specs.declared.shapes.Kind.TheVariants.{Sum}
use Rattle.audit_types.specs.Rows.{AreRows}
use Rattle.audit_types.specs.Shapes.{columns}
use Rattle.audit_types.specs.Truth.{truth, number_at, sum_over}
use Rattle.audit_types.specs.Column.{Known, Answer, Agrees, AreOwn, AreSameAt, IsGuarded, number, greatest, total, IsWellFormed, known_sum}
use Rattle.audit_types.specs.Direction.{IsDirection}
use Rattle.audit_types.specs.Form.{set_row, Reduced}
use Rattle.audit_types.specs.Extents.{places_from, length-places_from}
use Rattle.audit_types.specs.Reach.{extent, IsWithinBounds}
use Rattle.audit_types.specs.History.{Table, AreSecrets, AreProtected, IsLegal, answers_of, known_of, list_of}
use Rattle.audit_types.specs.ListLaws.{all-map}
use Rattle.audit_types.specs.Numbers.{size_negated}
use Rattle.audit_types.specs.PrimitiveLines.{times, number_at-times}
use Rattle.audit_types.specs.Totals.{product-set_row, product-span, products_from_sums}
use Rattle.sum_audit.specs.Laws.{IsNearFor, SpannedOrMovedBySmall, StillOrMovedBySmall}
use Rattle.sum_audit.specs.Shifts.{moved_by, difference, length-difference, sum_over-difference, zero_between, length-moved_by, moved_gives, zero_sums_times}
use Rattle.sum_audit.specs.Singles.{same_moved, zero_at_own}
use Rattle.audit_core.specs.Ranges.{AreInside, AreNear, most_change}
use Rattle.audit_core.specs.Laws.{HasNumbers}
use Rattle.audit_core.proofs.Twins.{ColumnLaws, group_rows, agree, agree_with, well_formed, other_here}
use Rattle.audit_core.proofs.NarrowFronts.{legal_is_within_bounds}
use Rattle.audit_core.proofs.MovedWithin.{raises, lowers, near, sum_moved}
use Rattle.audit_core.proofs.ProtectedGroups.{sum_or_max}

-- the answers of a column, by its kind
pub by_kind : (kind other : Kind) → kind ≡ other → (w : List ℤ) (answers : List Answer) → AllByRecursion (λ a. truth kind w a.rows ≡ a.value) answers →
    AllByRecursion (λ a. truth other w a.rows ≡ a.value) answers
by_kind kind other same w answers gives = subst (λ k. AllByRecursion (λ a. truth k w a.rows ≡ a.value) answers) same gives

-- what is guarded of sums is the total of a set: of a group, or of one row
record IsTotalOf (n : ℕ) (value : List ℤ → ℤ) : Type 0 where
  set : List ℕ
  rows : AreRows n set
  is : (w : List ℤ) → value w ≡ sum_over w set

total_of : (known : Known) (own : List ℕ) → known.kind ≡ Sum → All (AreRows known.n) known.groups → {value : List ℤ → ℤ} → IsGuarded known own value →
    IsTotalOf known.n value
total_of known own sums groups (number row below other few) =
    record { set = row ∷ []; rows = (omega arith, below, tt); is = λ w. sym (+ℤ_idr (number_at w row)) }
total_of known own sums groups (greatest rows maxima are some others few) = absurd (sum_or_max known.kind sums maxima)
total_of known own sums groups (total group row one inside other) =
    record { set = group; rows = All-contains (AreRows known.n) known.groups group groups one; is = λ w. refl }

-- what is 0 at some rows is so however often it is taken
zeros_often : (often : ℤ) (d : List ℤ) (own : List ℕ) → AllByRecursion (λ q. number_at d q ≡ pos 0) own →
    AllByRecursion (λ q. number_at (times often d) q ≡ pos 0) own
zeros_often often d [] zeros = tt
zeros_often often d (q ∷ own) zeros = (number_at-times often d q ∙ ap (λ z. often *ℤ z) zeros.0 ∙ *ℤ-zero often, zeros_often often d own zeros.1)

-- a direction that changes the total of a set, small enough, and 0 at the own rows of an asker; if she has none, of no more rows than the reach
record Moves (known : Known) (hers set : List ℕ) : Type 0 where
  direction : List ℤ
  still : IsDirection known.n (map (λ a. a.rows) known.answers) direction
  zeros : AllByRecursion (λ q. number_at direction q ≡ pos 0) hers
  size : (r : ℕ) → unsigned_abs (number_at direction r) ≤ most_change known.width hers
  near : hers ≡ [] → extent direction ≤ known.reach
  changes : sum_over direction set ≢ pos 0

module _ (laws : ColumnLaws) (small : SpannedOrMovedBySmall) (beside : StillOrMovedBySmall) (table : Table) (history : List Answered) (column : ℕ)
    (secrets : AreSecrets table.setting.shape table.secrets) (protected : AreProtected table.setting.shape table.setting.protected)
    (legal : IsLegal table history) (below : column < columns table.setting.shape) where
  abbrev known : Known
  known = known_of table.setting history column

  abbrev own : List ℤ
  own = list_of table.secrets column

  agrees : Agrees known own
  agrees = agree laws table secrets protected history legal column below

  well : IsWellFormed known
  well = well_formed laws table secrets protected history legal column

  -- other numbers of the column that give its answers
  pub may_have : (Is : List ℤ → Type 0) (v : List ℤ) → Agrees known v → Is v → HasNumbers table history column Is
  may_have Is v gives is = record {
    numbers = v;
    one_each = gives.one_each;
    agree = agree_with laws table secrets protected history legal column v below gives;
    is = is;
  }

  module _ (sums : known.kind ≡ Sum) where
    abbrev sets : List (List ℕ)
    sets = map (λ a. a.rows) known.answers

    are_rows : AllByRecursion (AreRows known.n) (map (λ (a : Answer). a.rows) known.answers)
    are_rows = all-map (λ a. a.rows) (AreRows known.n) known.answers well.are_rows

    as_sum : (w : List ℤ) → Agrees known w → Agrees (known_sum known.n known.answers) w
    as_sum w gives = record { one_each = gives.one_each; same = by_kind known.kind Sum sums w known.answers gives.same }

    -- the form of all its sets
    bounded : (form : List (List ℤ)) × Reduced known.n sets form × IsWithinBounds known sets form
    bounded = subst (λ h. (form : List (List ℤ)) × Reduced known.n (map (λ a. a.rows) (answers_of column h)) form ×
        IsWithinBounds known (map (λ a. a.rows) (answers_of column h)) form)
        (take_all (length history) history (omega arith)) (legal_is_within_bounds table history column (length history) protected legal sums (omega arith))

    module _ (hers : List ℕ) (are_hers : AreOwn known hers) {value : List ℤ → ℤ} (guarded : IsGuarded known hers value) where
      abbrev whole : IsTotalOf known.n value
      whole = total_of known hers sums (group_rows laws table secrets protected column) guarded

      -- what is between the column's own list and another one that gives the answers, and her own numbers
      between : (d : List ℤ) × IsDirection known.n sets d × AllByRecursion (λ q. number_at d q ≡ pos 0) hers × (sum_over d whole.set ≢ pos 0)
      between =
          let other = other_here laws table secrets protected history legal column below hers are_hers guarded in
          let first = as_sum other.other other.agrees in
          let second = as_sum own agrees in (
            difference other.other own,
            record {
              one_each = length-difference known.n other.other own first.one_each second.one_each;
              zero_sums = zero_between other.other own known.answers first.same second.same;
            },
            zero_at_own other.other own hers other.same,
            λ none.
                let here = whole.is other.other in
                let there = whole.is own in
                let apart = sum_over-difference other.other own whole.set in
                other.differs (omega (arith, ints, none, here, there, apart)),
          )

      module _ (moves : Moves known hers whole.set) (low high : ℕ → ℤ) (k : ℕ) (inside : AreInside low high 0 own (range_with_len 0 known.n))
          (far : AreInside low high (k * most_change known.width hers) own (places_from 0 moves.direction)) where
        abbrev most : ℕ
        most = most_change known.width hers

        up : (often : ℤ) × (unsigned_abs often ≡ k) × (pos k ≤ℤ (often *ℤ sum_over moves.direction whole.set))
        up = raises k (sum_over moves.direction whole.set) moves.changes

        abbrev moved : ℤ → List ℤ
        moved often = moved_by (times often moves.direction) own

        gives : (often : ℤ) → Agrees known (moved often)
        gives often =
            let direction = moves.still in
            record {
              one_each =
                  length-moved_by known.n (times often moves.direction) own (length-map moves.direction (λ x. often *ℤ x) ∙ direction.one_each) agrees.one_each;
              same = by_kind Sum known.kind (sym sums) (moved often) known.answers
                  (moved_gives (times often moves.direction) own known.answers (as_sum own agrees).same
                  (zero_sums_times often moves.direction known.answers direction.zero_sums));
            }

        same : (often : ℤ) → AreSameAt hers own (moved often)
        same often = same_moved (times often moves.direction) own hers (zeros_often often moves.direction hers moves.zeros)

        higher : HasNumbers table history column
            (λ v. AreNear low high k own (range_with_len 0 known.n) v × AreSameAt hers own v × ((value own +ℤ pos k) ≤ℤ value v))
        higher =
            let often = up.0 in
            let sum = sum_moved known.n most k own moves.direction often moves.size up.1 whole.set in
            let more = up.2 in
            let before = whole.is own in
            let after = whole.is (moved often) in
            may_have _ (moved often) (gives often)
            (near known.n most k own moves.direction often moves.size up.1 low high inside far, same often, omega (arith, ints))

        lower : HasNumbers table history column
            (λ v. AreNear low high k own (range_with_len 0 known.n) v × AreSameAt hers own v × ((value v +ℤ pos k) ≤ℤ value own))
        lower =
            let often = neg_ℤ up.0 in
            let size = size_negated up.0 ∙ up.1 in
            let sum = sum_moved known.n most k own moves.direction often moves.size size whole.set in
            let less = lowers k up.0 (sum_over moves.direction whole.set) up.2 in
            let before = whole.is own in
            let after = whole.is (moved often) in
            may_have _ (moved often) (gives often)
            (near known.n most k own moves.direction often moves.size size low high inside far, same often, omega (arith, ints))

    -- ---- the small direction

    module _ {value : List ℤ → ℤ} (guarded : IsGuarded known [] value) where
      abbrev total_set : IsTotalOf known.n value
      total_set = whole [] (tt, omega arith, tt) guarded

      -- the total is within reach as what is guarded is
      near_total : IsNearFor known.n sets bounded.0 known.reach (λ w. sum_over w total_set.set)
      near_total c =
          let near = bounded.2.near value guarded
          (record {
            direction = c.direction;
            still = c.still;
            column = c.column;
            only = c.only;
            near = c.near;
            changed = λ e. c.changed (sym (total_set.is c.direction) ∙ e);
          }) in
          record {
            direction = near.direction;
            still = near.still;
            column = near.column;
            only = near.only;
            near = near.near;
            changed = λ e. near.changed (total_set.is near.direction ∙ e);
          }

      -- for one who knows none
      moves_for_none : Moves known [] total_set.set
      moves_for_none = elim (small known.width known.reach known.n sets bounded.0 total_set.set are_rows total_set.rows bounded.1 bounded.2.narrow near_total) [
        | inr found ↦ record {
          direction = found.0;
          still = found.1;
          zeros = tt;
          size = found.2.size;
          near = λ none. found.2.near;
          changes = found.3;
        }
        | inl span ↦
            let d = between [] (tt, omega arith, tt) guarded in
            absurd (d.3 (sym (product-set_row d.0 known.n total_set.set total_set.rows)
            ∙ product-span (number_at d.0) known.n (map (set_row known.n) sets) (set_row known.n total_set.set)
            (products_from_sums known.n d.0 sets are_rows d.1.zero_sums) span))
      ]

    -- for one who knows one
    moves_for_one : (q : ℕ) (are_hers : AreOwn known (q ∷ [])) {value : List ℤ → ℤ} (guarded : IsGuarded known (q ∷ []) value) →
        Moves known (q ∷ []) (whole (q ∷ []) are_hers guarded).set
    moves_for_one q are_hers guarded =
        let total_set = whole (q ∷ []) are_hers guarded in
        elim (beside known.width known.n sets bounded.0 total_set.set q are_rows total_set.rows are_hers.0.1 bounded.1 bounded.2.narrow) [
          | inr found ↦ record {
            direction = found.0;
            still = found.1;
            zeros = (found.2, tt);
            size = found.3;
            near = λ none. let clash : length (q ∷ []) ≡ 0 = ap length none in absurd (omega (arith, clash));
            changes = found.4;
          }
          | inl follows ↦ let d = between (q ∷ []) are_hers guarded in absurd (d.3 (follows d.0 d.1 d.2.0))
        ]

    moves_for : (hers : List ℕ) (are_hers : AreOwn known hers) {value : List ℤ → ℤ} (guarded : IsGuarded known hers value) →
        Moves known hers (whole hers are_hers guarded).set
    moves_for [] are_hers guarded = moves_for_none guarded
    moves_for (q ∷ []) are_hers guarded = moves_for_one q are_hers guarded
    moves_for (q ∷ r ∷ hers) are_hers guarded = absurd (omega (arith, are_hers.1, protected.2.own))

    -- so what is guarded against her may be more, and less
    pub open_sums : (hers : List ℕ) (value : List ℤ → ℤ) → AreOwn known hers → IsGuarded known hers value →
        (rows : List ℕ) × (hers ≡ [] → length rows ≤ known.reach) × ((low high : ℕ → ℤ) (k : ℕ) →
        AreInside low high 0 own (range_with_len 0 known.n) → AreInside low high (k * most_change known.width hers) own rows →
        HasNumbers table history column (λ v. AreNear low high k own (range_with_len 0 known.n) v × AreSameAt hers own v × ((value own +ℤ pos k) ≤ℤ value v))
        × HasNumbers table history column (λ v. AreNear low high k own (range_with_len 0 known.n) v × AreSameAt hers own v × ((value v +ℤ pos k) ≤ℤ value own)))
    open_sums hers value are_hers guarded =
        let moves = moves_for hers are_hers guarded in (
          places_from 0 moves.direction,
          λ none. let near = moves.near none in let all = length-places_from 0 moves.direction in omega (arith, near, all),
          λ low high k inside far. (higher hers are_hers guarded moves low high k inside far, lower hers are_hers guarded moves low high k inside far),
        )
