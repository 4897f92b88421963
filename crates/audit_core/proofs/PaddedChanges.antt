-- Over more rows what changed along a direction of a form does so along one of no more rows; and what reads a new row changes along the
-- direction of that row alone, since no set has it.
use Rattle.std.proofs.Common.{◌≡◌, ◌≢◌, ℕ, ◌+◌, ◌<◌, ◌≤◌, ◌||◌, ◌==◌, ℤ, pos, List, [], ◌∷◌, map, length, take, replicate, refl, sym, ap, ◌∙◌, arith, inl, inr, length-append, length-take}
use Rattle.std.specs.Prelude.{slice_set}
use Rattle.std.specs.List.{AllByRecursion}
use Rattle.std.proofs.lemmas.Bool.{cases_lt}
use Rattle.std.proofs.lemmas.List.{get_or-take, get_or_past, get_or-set_other, length-set, length-replicate}
use Rattle.audit_types.specs.Rows.{AreRows}
use Rattle.audit_types.specs.Truth.{number_at, sum_over}
use Rattle.audit_types.specs.Column.{Known, IsGuarded, number, greatest, total}
use Rattle.audit_types.specs.Form.{pivot}
use Rattle.audit_types.specs.Direction.{IsDirection, is_pivot}
use Rattle.audit_types.specs.Extents.{extent_less, extent_one, sum_over_zeros}
use Rattle.audit_types.specs.Reach.{extent, Changes}
use Rattle.audit_core.proofs.PaddedForms.{padded, number_at-padded, zeros_at, HasPivots, same_pivot}
use Rattle.audit_types.specs.GreatestLaws.{bound_and_reached, same_sum}
use Rattle.audit_core.proofs.MoreRows.{ReadsFirst, ReadsNew}

-- a column is a pivot of the longer form exactly if it was one
is_pivot-padded : (k : ℕ) (form : List (List ℤ)) → HasPivots form → (i : ℕ) → is_pivot (map (padded k) form) i ≡ is_pivot form i
is_pivot-padded k [] some i = refl
is_pivot-padded k (row ∷ form) some i =
    ap (λ p. (p == i) || is_pivot (map (padded k) form) i) (same_pivot k row some.0) ∙ ap (λ b. (pivot row == i) || b) (is_pivot-padded k form some.1 i)

-- numbers that are the same below m have the same sums
zero_sums_alike : (m : ℕ) (w v : List ℤ) → ((r : ℕ) → r < m → number_at w r ≡ number_at v r) → (sets : List (List ℕ)) → AllByRecursion (AreRows m) sets →
    AllByRecursion (λ s. sum_over w s ≡ pos 0) sets → AllByRecursion (λ s. sum_over v s ≡ pos 0) sets
zero_sums_alike m w v same [] are zeros = tt
zero_sums_alike m w v same (s ∷ sets) are zeros = (sym (same_sum w v m same 0 s are.0) ∙ zeros.0, zero_sums_alike m w v same sets are.1 zeros.1)

sums_of_zeros : (n : ℕ) (sets : List (List ℕ)) → AllByRecursion (λ s. sum_over (replicate n (pos 0)) s ≡ pos 0) sets
sums_of_zeros n [] = tt
sums_of_zeros n (s ∷ sets) = (sum_over_zeros (replicate n (pos 0)) s (zeros_at n), sums_of_zeros n sets)

module _ (m k : ℕ) (sets : List (List ℕ)) (are : AllByRecursion (AreRows m) sets) (form : List (List ℤ)) (pivots : HasPivots form) where
  still_longer : (d : List ℤ) → IsDirection m sets d → IsDirection (m + k) sets (padded k d)
  still_longer d direction = record {
    one_each = length-append d (replicate k (pos 0)) ∙ omega (arith, direction.one_each, length-replicate k (pos 0));
    zero_sums = zero_sums_alike m d (padded k d) (λ r l. sym (number_at-padded k d r)) sets are direction.zero_sums;
  }

  still_shorter : (d : List ℤ) → IsDirection (m + k) sets d → IsDirection m sets (take m d)
  still_shorter d direction = record {
    one_each = omega (arith, length-take m d, direction.one_each);
    zero_sums = zero_sums_alike m d (take m d) (λ r l. sym (get_or-take m d r (pos 0) l)) sets are direction.zero_sums;
  }

  module _ (value : List ℤ → ℤ) (reads : ReadsFirst m value) where
    pub changes_longer : (most : ℕ) → Changes m sets form most value → Changes (m + k) sets (map (padded k) form) most value
    changes_longer most c = record {
      direction = padded k c.direction;
      still = still_longer c.direction c.still;
      column = c.column;
      only = λ i free other. number_at-padded k c.direction i ∙ c.only i (sym (is_pivot-padded k form pivots i) ∙ free) other;
      near =
          let less = extent_less c.direction (padded k c.direction) (λ i zero. number_at-padded k c.direction i ∙ zero) in
          let near = c.near in omega arith;
      changed = λ e. c.changed (reads c.direction (padded k c.direction) (λ r l. sym (number_at-padded k c.direction r)) ∙ e);
    }

    -- what the first numbers of a direction are at a row
    first_of : (d : List ℤ) → length d ≡ m + k → (i : ℕ) → number_at d i ≡ pos 0 → number_at (take m d) i ≡ pos 0
    first_of d all i zero = elim (cases_lt i m) [
      | inl below ↦ get_or-take m d i (pos 0) below ∙ zero
      | inr past ↦ get_or_past (take m d) i (pos 0) (omega (arith, length-take m d, all, past))
    ]

    pub changes_shorter : (most less : ℕ) → ((d : List ℤ) → length d ≡ m → extent d ≤ most → extent d ≤ less) →
        Changes (m + k) sets (map (padded k) form) most value → Changes m sets form less value
    changes_shorter most less few c = record {
      direction = take m c.direction;
      still = still_shorter c.direction c.still;
      column = c.column;
      only = λ i free other. first_of c.direction c.still.one_each i (c.only i (is_pivot-padded k form pivots i ∙ free) other);
      near = few (take m c.direction) (omega (arith, length-take m c.direction, c.still.one_each))
          (let fewer = extent_less c.direction (take m c.direction) (first_of c.direction c.still.one_each) in let near = c.near in omega arith);
      changed = λ e. c.changed (reads c.direction (take m c.direction) (λ r l. sym (get_or-take m c.direction r (pos 0) l)) ∙ e);
    }

-- of zeros what is guarded is 0
pub zero_of_zeros : (known : Known) {value : List ℤ → ℤ} → IsGuarded known [] value → (d : List ℤ) → ((i : ℕ) → number_at d i ≡ pos 0) → value d ≡ pos 0
zero_of_zeros known (number row below other alone) d none = none row
zero_of_zeros known (greatest rows maxima are some others few) d none =
    let reached = (bound_and_reached d rows some).1 in sym reached.2 ∙ none reached.0
zero_of_zeros known (total group row one inside other) d none = sum_over_zeros d group none

-- what reads a new row changes along the direction of that row alone
pub new_changes : (m n most : ℕ) (sets : List (List ℕ)) (form : List (List ℤ)) (value : List ℤ → ℤ) → AllByRecursion (AreRows m) sets → ReadsNew m n [] value →
    value (replicate n (pos 0)) ≡ pos 0 → 0 < most → Changes n sets form most value
new_changes m n most sets form value are new none some =
    let zeros = replicate n (pos 0) in
    let all = length-replicate n (pos 0) in
    let change = new.changes zeros (omega (arith, all, new.below)) in
    let one = change.0 in
    let d = slice_set zeros new.row one in
    let elsewhere : (i : ℕ) → i ≢ new.row → number_at d i ≡ pos 0 = λ i other. get_or-set_other zeros new.row i one (pos 0) other ∙ zeros_at n i in
    record {
      direction = d;
      still = record {
        one_each = length-set zeros new.row one ∙ all;
        zero_sums = zero_sums_alike m zeros d
            (λ r l. zeros_at n r ∙ sym (elsewhere r (λ e. omega (arith, e, l, new.new)))) sets are (sums_of_zeros n sets);
      };
      column = new.row;
      only = λ i free other. elsewhere i other;
      near = let most = extent_one d new.row elsewhere in omega arith;
      changed = λ e. change.1 (e ∙ sym none);
    }
