-- What the bounds of two rows tell of the one, cleared at the other's pivot.
use Rattle.std.proofs.Common.{◌≡◌, ◌≢◌, ◌↔◌, ℕ, ◌+◌, ◌*◌, ◌<◌, ◌≤◌, ◌^◌, Bool, ℤ, pos, List, [], ◌∷◌, length, map, get_or, refl, sym, ap, ◌∙◌, arith, inl, inr, IsTrue}
use Rattle.std.specs.Prelude.{◌+ℤ◌, ◌-ℤ◌, ◌*ℤ◌, neg_ℤ, unsigned_abs}
use Rattle.std.specs.List.{AllByRecursion}
use Rattle.std.proofs.lemmas.Int.{ints, unsigned_abs-mul}
use Rattle.std.proofs.lemmas.Bool.{cases_eq}
use Rattle.std.proofs.Math.Nat.{mul-le-mul_left, mul-le-mul_right}
use Rattle.std.proofs.Math.IntN.{*ℤ-zero}
use Rattle.audit_types.specs.Truth.{number_at}
use Rattle.audit_types.specs.Form.{IsPrimitive, pivot, pivot_entry}
use Rattle.audit_types.specs.PrimitiveLines.{number_at-times}
use Rattle.audit_types.specs.Products.{neg-times, product_not_zero, size_of_factor}
use Rattle.audit_types.specs.Numbers.{zero_or_not, positive_not_zero}
use Rattle.audit_types.specs.RowNumbers.{some_entry, all_by_number}
use Rattle.sum_basis.specs.declared.sparse.FreeEntry.{FreeEntry}
use Rattle.sum_basis.specs.declared.sparse.SparseRow.{SparseRow}
use Rattle.sum_basis.specs.Elimination.{IsWithin, IsCleared, IsLone}
use Rattle.sum_basis.specs.Sparse.{entry_at, row_of, IsListed, entries_of, IsKept, IsNew, scaled}
use Rattle.sum_basis.specs.CombinedRows.{length-combine}
use Rattle.sum_basis.proofs.Reduction.{primitive_exists}
use Rattle.sum_basis.proofs.Clearing.{cleared_from, leads_combination}
use Rattle.sum_basis.proofs.SparseRows.{here, elsewhere, no_entry, zero_below, number_at-row_of, length-row_of, listed_from}
use Rattle.sum_basis.proofs.SparseMultiples.{kept_pivot}
use Rattle.sum_basis.proofs.ListContents.{none, entry_at-scaled}
use Rattle.sum_basis.proofs.ClearedLists.{is_led, combined_rows, combined_rows_at}
use Rattle.sum_basis.proofs.Merges.{scaled_listed}
use Rattle.sum_basis.proofs.Parallels.{same_listed, same_length}
use Rattle.sum_basis.proofs.KeptRows.{stands_earlier, cleared_as_it_is, lone_list}

-- what a row adds is within the limit, if its bound is sure
pub within_limit : (limit by most sure bound : ℕ) → bound ≤ sure → sure * (by + most) ≤ limit → by * bound + bound * most ≤ limit
within_limit limit by most sure bound less enough =
    let part = mul-le-mul_right (by + most) less in omega arith

-- bounds that are at most one are at most any greater one
pub bounded_by_more : (bound more : ℕ) → bound ≤ more → (rows : List SparseRow) → AllByRecursion (λ r. r.most ≤ bound) rows →
    AllByRecursion (λ r. r.most ≤ more) rows
bounded_by_more bound more less [] all = tt
bounded_by_more bound more less (r ∷ rows) all = let first = all.0 in (omega arith, bounded_by_more bound more less rows all.1)

-- a list has nothing above its bound
pub bounded_at : (from n most : ℕ) (es : List FreeEntry) → IsListed from n es → AllByRecursion (λ (e : FreeEntry). unsigned_abs e.value ≤ most) es → (j : ℕ) →
    unsigned_abs (entry_at es j) ≤ most
bounded_at from n most [] h all j = omega arith
bounded_at from n most (e ∷ es) h all j = elim (cases_eq e.place j) [
  | inl same ↦
      let first = here e j same in
      let rest = zero_below (e.place + 1) n es j h.3 (omega arith) in
      let sum : entry_at (e ∷ es) j ≡ e.value = omega (arith, ints) in
      rw sum all.0
  | inr other ↦
      let first = elsewhere e j other in
      let sum : entry_at (e ∷ es) j ≡ entry_at es j = omega (arith, ints) in
      rw sum (bounded_at (e.place + 1) n most es h.3 all.1 j)
]

-- the first entry of a new row is small, also as the code has it
pub first_small : (n : ℕ) (new : List FreeEntry) (by : ℤ) → IsNew n new → by ≡ (get_or new 0 none).value → unsigned_abs by ≤ 2 ^ 56
first_small n new by is e = rw e (is_led n new is).small

module _ (n : ℕ) (r : SparseRow) (new : List FreeEntry) (kept : IsKept n r) (primitive : IsPrimitive n (row_of n (entries_of r))) (is_new : IsNew n new)
    (nothing : entry_at new r.pivot ≡ pos 0) (before : r.pivot < (get_or new 0 none).place)
    (by times : ℤ) (by_is : by ≡ (get_or new 0 none).value) (times_is : times ≡ entry_at r.free.items (get_or new 0 none).place) where
  -- a row on the line of the combination, as it is cleared
  pub record IsOnLine (made : List ℤ) : Type 0 where
    pub over : ℤ
    pub not_zero : over ≢ pos 0
    pub line : (j : ℕ) → over *ℤ number_at made j ≡ by *ℤ entry_at (entries_of r) j +ℤ neg_ℤ times *ℤ entry_at new j
    pub cleared : IsCleared n (row_of n new) (row_of n (entries_of r)) made

  row_pivot : pivot (row_of n (entries_of r)) ≡ r.pivot
  row_pivot = kept_pivot n r kept

  combination : List ℤ
  combination = combined_rows n r new kept is_new before by times by_is times_is

  -- there is one
  pub on_line : (made : List ℤ) × IsOnLine made
  on_line =
      let x = pivot_entry (row_of n new) in
      let row = row_of n (entries_of r) in
      let y = number_at row (pivot (row_of n new)) in
      let zero_there : number_at (row_of n new) (pivot row) ≡ pos 0 = ap (number_at (row_of n new)) row_pivot ∙ number_at-row_of 0 n new is_new.listed r.pivot
      ∙ nothing in
      let leads = leads_combination n (row_of n new) row is_new.primitive primitive zero_there in
      let made = primitive_exists n (combined_rows n r new kept is_new before by times by_is times_is)
      (length-combine n x row y (row_of n new) (length-row_of n (entries_of r)) (length-row_of n new))
      (some_entry (combined_rows n r new kept is_new before by times by_is times_is) (pivot row) leads) in
      let at_new = (is_led n new is_new).at_pivot in
      let at_row = row_pivot in (
        made.0,
        record {
          over = made.1;
          not_zero = made.2;
          line =
              λ j. sym (number_at-times made.1 made.0 j) ∙ sym (ap (λ l. number_at l j) made.3)
              ∙ combined_rows_at n r new kept is_new before by times by_is times_is j;
          cleared = cleared_from n (row_of n new) row made.0 made.1 is_new.primitive primitive zero_there (omega arith) made.2 made.3 made.4;
        },
      )

  module _ (made : List ℤ) (l : IsOnLine made) where
    made_pivot : pivot made ≡ r.pivot
    made_pivot = l.cleared.same_pivot ∙ row_pivot

    -- its entries are within what the bounds allow
    pub within_bounds : (most limit : ℕ) → AllByRecursion (λ (e : FreeEntry). unsigned_abs e.value ≤ most) new →
        unsigned_abs by * r.most + unsigned_abs times * most ≤ limit → AllByRecursion (λ x. unsigned_abs x ≤ limit) made
    within_bounds most limit all enough = all_by_number (λ x. unsigned_abs x ≤ limit) made at
      where
        at : (j : ℕ) → unsigned_abs (number_at made j) ≤ limit
        at j =
            let here = l.line j in
            let least = size_of_factor l.over (number_at made j) l.not_zero in
            let one = unsigned_abs-mul by (entry_at (entries_of r) j) in
            let two = unsigned_abs-mul times (entry_at new j) in
            let first = mul-le-mul_left (unsigned_abs by) (bounded_at 0 n r.most (entries_of r) kept.listed kept.bounded j) in
            let second = mul-le-mul_left (unsigned_abs times) (bounded_at 0 n most new is_new.listed all j) in
            let minus = neg-times times (entry_at new j) in
            omega (arith, ints)

    -- after the pivot the combination is that of the lists
    after_pivot : (j : ℕ) → j ≢ r.pivot → l.over *ℤ number_at made j ≡ by *ℤ entry_at r.free.items j -ℤ times *ℤ entry_at new j
    after_pivot j other =
        let first = elsewhere (record { place = r.pivot; value = r.head }) j (λ same. other (sym same)) in
        let whole : entry_at (entries_of r) j ≡ entry_at r.free.items j = omega (arith, ints) in
        let there = ap (λ z. by *ℤ z) whole in
        let minus = neg-times times (entry_at new j) in
        let at = l.line j in
        omega (arith, ints)

    -- it is lone exactly if the two lists are parallel
    pub lone_by_parallel : by ≢ pos 0 → times ≢ pos 0 → (map (scaled by) r.free.items ≡ map (scaled times) new) ↔ IsLone made
    lone_by_parallel p q = (
      λ same j other. elim (zero_or_not (number_at made j)) [
        | inl z ↦ z
        | inr some ↦
            let at = after_pivot j (λ e. other (e ∙ sym made_pivot)) in
            let one = entry_at-scaled by r.free.items j in
            let two = entry_at-scaled times new j in
            let both = ap (λ es. entry_at es j) same in
            absurd (product_not_zero l.over (number_at made j) l.not_zero some (omega (arith, ints)))
      ],
      λ lone.
          let listed = listed_from (r.pivot + 1) 0 n r.free.items (omega arith) kept.listed.3 in
          same_listed 0 n (map (scaled by) r.free.items) (map (scaled times) new) (scaled_listed by 0 n r.free.items p listed)
          (scaled_listed times 0 n new q is_new.listed) (λ j.
          entry_at-scaled by r.free.items j ∙ alike lone j ∙ sym (entry_at-scaled times new j)),
    )
      where
        alike : IsLone made → (j : ℕ) → by *ℤ entry_at r.free.items j ≡ times *ℤ entry_at new j
        alike lone j = elim (cases_eq j r.pivot) [
          | inl same ↦ ap (λ z. by *ℤ z) (zero_below (r.pivot + 1) n r.free.items j kept.listed.3 (omega arith)) ∙ *ℤ-zero by ∙ sym (*ℤ-zero times)
              ∙ ap (λ z. times *ℤ z) (sym ((is_led n new is_new).before j (omega arith)))
          | inr other ↦
              let at = after_pivot j other in
              let gone = ap (λ z. l.over *ℤ z) (lone j (λ e. other (e ∙ made_pivot))) ∙ *ℤ-zero l.over in
              omega (arith, ints)
        ]

module _ (n : ℕ) (r : SparseRow) (new : List FreeEntry) (kept : IsKept n r) (primitive : IsPrimitive n (row_of n (entries_of r))) (is_new : IsNew n new)
    (nothing : entry_at new r.pivot ≡ pos 0)
    (most : ℕ) (all : AllByRecursion (λ (e : FreeEntry). unsigned_abs e.value ≤ most) new) (by : ℤ) (by_is : by ≡ (get_or new 0 none).value) (width : ℕ) where
  -- a row that the bounds show to be within the width, and whether it is lone
  pub by_bounds : (times : ℤ) (b : Bool) → times ≡ entry_at r.free.items (get_or new 0 none).place → times ≢ pos 0
      → unsigned_abs by * r.most + unsigned_abs times * most ≤ width → IsTrue b ↔ (map (scaled by) r.free.items ≡ map (scaled times) new)
      → (made : List ℤ) × IsCleared n (row_of n new) (row_of n (entries_of r)) made × (IsWithin width made × (IsTrue b ↔ IsLone made))
  by_bounds times b is some enough told =
      let before = stands_earlier n r new kept is_new (λ z. some (is ∙ z)) in
      let line = on_line n r new kept primitive is_new nothing before by times by_is is in
      let first = is_led n new is_new in
      let by_some = λ (z : by ≡ pos 0). positive_not_zero _ is_new.primitive.leading (first.pivot_entry_is ∙ sym by_is ∙ z) in
      let lone = lone_by_parallel n r new kept primitive is_new nothing before by times by_is is line.0 line.1 by_some some in (
        line.0,
        line.1.cleared,
        (
          within_bounds n r new kept primitive is_new nothing before by times by_is is line.0 line.1 most width all enough,
          (λ yes. lone.0 (told.0 yes), λ is_lone. told.1 (lone.1 is_lone)),
        ),
      )

  -- if its list has another length than the new one, it is lone exactly if it was
  pub by_length : (b : Bool) → IsWithin width (row_of n (entries_of r)) → length r.free.items ≢ length new → unsigned_abs by * r.most + r.most * most ≤ width
      → IsTrue b ↔ (length r.free.items ≡ 0)
      → (made : List ℤ) × IsCleared n (row_of n new) (row_of n (entries_of r)) made × (IsWithin width made × (IsTrue b ↔ IsLone made))
  by_length b within other enough empty =
      let place = (get_or new 0 none).place in
      let times = entry_at r.free.items place in
      elim (zero_or_not times) [
        | inl z ↦
            let lone = lone_list n (record { place = r.pivot; value = r.head }) r.free.items kept.listed in (
              row_of n (entries_of r),
              cleared_as_it_is n r new kept is_new nothing primitive z,
              (within, (λ yes. lone.0 (empty.0 yes), λ is_lone. empty.1 (lone.1 is_lone))),
            )
        | inr some ↦
            let bound = bounded_at (r.pivot + 1) n r.most r.free.items kept.listed.3 kept.bounded.1 place in
            let part = mul-le-mul_right most bound in
            by_bounds times b refl some (omega arith)
            (λ yes. absurd (some (no_entry r.free.items place (empty.0 yes))), λ same. absurd (other (same_length by times r.free.items new same)))
      ]

  -- if the bound suffices, it is within the width
  pub stays_within : IsWithin width (row_of n (entries_of r)) → unsigned_abs by * r.most + r.most * most ≤ width
      → (made : List ℤ) × IsCleared n (row_of n new) (row_of n (entries_of r)) made × IsWithin width made
  stays_within within enough =
      let place = (get_or new 0 none).place in
      let times = entry_at r.free.items place in
      elim (zero_or_not times) [
        | inl z ↦ (row_of n (entries_of r), cleared_as_it_is n r new kept is_new nothing primitive z, within)
        | inr some ↦
            let line = on_line n r new kept primitive is_new nothing (stands_earlier n r new kept is_new some) by times by_is refl in
            let part = mul-le-mul_right most (bounded_at (r.pivot + 1) n r.most r.free.items kept.listed.3 kept.bounded.1 place) in (
              line.0,
              line.1.cleared,
              within_bounds n r new kept primitive is_new nothing (stands_earlier n r new kept is_new some) by times by_is refl line.0 line.1 most
                  width all (omega arith),
            )
      ]
