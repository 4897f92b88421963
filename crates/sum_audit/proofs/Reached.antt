-- What is within reach of a form by its rows is so by the sets that it is the form of, and the other way round.
--
-- A direction of the sets is one of the form's rows. If it is 0 at all free columns but one, and changes a number or a total, it isn't 0 at
-- that column, and the column is free: otherwise it would be 0 everywhere.
use Rattle.std.proofs.Common.{◌≡◌, ◌≢◌, ℕ, Bool, true, false, ℤ, pos, List, [], ◌∷◌, map, refl, sym, ap, ◌∙◌, arith, inl, inr}
use Rattle.std.specs.Prelude.{◌↔◌, All}
use Rattle.std.specs.List.{AllByRecursion}
use Rattle.std.proofs.lemmas.Bool.{cases_eq, cases_lt, true≢false}
use Rattle.std.proofs.lemmas.List.{get_or_past}
use Rattle.std.proofs.lemmas.List.Elements.{All-contains}
use Rattle.audit_types.specs.Rows.{AreRows, has_row}
use Rattle.audit_types.specs.Headcount.{CountPeople, AreFew, shared_in}
use Rattle.audit_types.specs.HeadcountLaws.{few_by_rows}
use Rattle.audit_types.specs.declared.shapes.Kind.TheVariants.{Sum}
use Rattle.sum_audit.proofs.DangerousByPins.{sum_not_max}
use Rattle.audit_types.specs.Truth.{number_at, sum_over}
use Rattle.audit_types.specs.Column.{Known, IsGuarded, number, greatest, total}
use Rattle.audit_types.specs.Form.{set_row, Reduced, IsNarrow}
use Rattle.audit_types.specs.Direction.{IsDirection, is_pivot}
use Rattle.audit_types.specs.Extents.{zero_by_free, sum_over_zeros}
use Rattle.audit_types.specs.OutsiderLaws.{some_row}
use Rattle.audit_types.specs.Reach.{Changes, IsWithinBounds}
use Rattle.audit_types.specs.Totals.{product, products_from_sums, products_in_span, sums_from_products}
use Rattle.sum_basis.specs.Reach.{IsAlong, ReachesAll}
use Rattle.sum_basis.specs.Reach as by_form

module _ (n : ℕ) (sets : List (List ℕ)) (form : List (List ℤ)) (are : AllByRecursion (AreRows n) sets) (reduced : Reduced n sets form) where
  -- the products of the form's rows with a direction are 0
  pub products_are_zero : (d : List ℤ) → IsDirection n sets d → AllByRecursion (λ row. product row (number_at d) n ≡ pos 0) form
  products_are_zero d direction =
      products_in_span n (number_at d) (map (set_row n) sets) form (products_from_sums n d sets are direction.zero_sums) reduced.within

  -- a direction that is 0 at all free columns is 0
  pub nothing_moves : (d : List ℤ) → IsDirection n sets d → ((i : ℕ) → is_pivot form i ≡ false → number_at d i ≡ pos 0) → (i : ℕ) → number_at d i ≡ pos 0
  nothing_moves d direction free i = elim (cases_lt i n) [
    | inl below ↦ zero_by_free n form (number_at d) (λ k l e. free k e) reduced.primitive reduced.echelon (products_are_zero d direction) i below
    | inr past ↦ get_or_past d i (pos 0) (let all = direction.one_each in omega arith)
  ]

  module _ (most : ℕ) (value : List ℤ → ℤ) where
    pub to_sets : by_form.Changes n form most value → Changes n sets form most value
    to_sets c = record {
      direction = c.direction;
      still = record {
        one_each = c.along.one_each;
        zero_sums = sums_from_products n c.direction sets are
            (products_in_span n (number_at c.direction) form (map (set_row n) sets) c.along.zeros reduced.spans);
      };
      column = c.column;
      only = c.along.only;
      near = c.near;
      changed = c.changed;
    }

    -- of zeros the value is 0
    module _ (none : (d : List ℤ) → ((i : ℕ) → number_at d i ≡ pos 0) → value d ≡ pos 0) where
      module _ (c : Changes n sets form most value) where
        some_free : ¬ ((i : ℕ) → is_pivot form i ≡ false → number_at c.direction i ≡ pos 0)
        some_free all = c.changed (none c.direction (nothing_moves c.direction c.still all))

        pub is_free : is_pivot form c.column ≡ false
        is_free = go (is_pivot form c.column) refl
          where
            go : (b : Bool) → is_pivot form c.column ≡ b → is_pivot form c.column ≡ false
            go true e = absurd (some_free (λ i free. c.only i free (λ same. true≢false (sym e ∙ ap (is_pivot form) (sym same) ∙ free))))
            go false e = e

        pub some_there : number_at c.direction c.column ≢ pos 0
        some_there e = some_free (λ i free. elim (cases_eq i c.column) [ inl same ↦ ap (number_at c.direction) same ∙ e | inr other ↦ c.only i free other ])

      pub to_form : Changes n sets form most value → by_form.Changes n form most value
      to_form c = record {
        column = c.column;
        direction = c.direction;
        along = record {
          one_each = c.still.one_each;
          zeros = products_are_zero c.direction c.still;
          free = is_free c;
          some = some_there c;
          only = c.only;
        };
        near = c.near;
        changed = c.changed;
      }

module _ (known : Known) (sums : known.kind ≡ Sum) (count : CountPeople known.n known.people) (sets : List (List ℕ)) (form : List (List ℤ))
    (are : AllByRecursion (AreRows known.n) sets) (reduced : Reduced known.n sets form) where
  -- a row's number is guarded against one who knows none exactly if the row isn't shared
  few_alone : (row : ℕ) → AreFew known.people [] (row ∷ []) ↔ (has_row (shared_in known.people) row ≡ false)
  few_alone row = few_by_rows known.n known.people count [] row (omega arith)

  within_reach : ReachesAll known.n known.reach (shared_in known.people) known.groups form → {value : List ℤ → ℤ} → IsGuarded known [] value →
      Changes known.n sets form known.n value → Changes known.n sets form known.reach value
  within_reach all (number row below other few) changes =
      to_sets known.n sets form are reduced known.reach (λ w. number_at w row) (all.numbers row below ((few_alone row).0 few)
      (to_form known.n sets form are reduced known.n (λ w. number_at w row) (λ d none. none row) changes))
  within_reach all (greatest rows maxima is some others few) changes = absurd (sum_not_max (sym sums ∙ maxima))
  within_reach all (total group row one inside other) changes =
      to_sets known.n sets form are reduced known.reach (λ w. sum_over w group) (all.totals group one
      (to_form known.n sets form are reduced known.n (λ w. sum_over w group) (λ d none. sum_over_zeros d group none) changes))

  reaches_all : All (λ g. g ≢ []) known.groups →
      ((value : List ℤ → ℤ) → IsGuarded known [] value → Changes known.n sets form known.n value → Changes known.n sets form known.reach value) →
      ReachesAll known.n known.reach (shared_in known.people) known.groups form
  reaches_all some near = record {
    numbers = λ i below alone changes.
        to_form known.n sets form are reduced known.reach (λ w. number_at w i) (λ d none. none i)
        (near (λ w. number_at w i) (number i below refl ((few_alone i).1 alone)) (to_sets known.n sets form are reduced known.n (λ w. number_at w i) changes));
    totals = λ set one changes.
        let row = some_row set (All-contains (λ g. g ≢ []) known.groups set some one) in
        to_form known.n sets form are reduced known.reach (λ w. sum_over w set) (λ d none. sum_over_zeros d set none)
        (near (λ w. sum_over w set) (total set row.0 one row.1 refl) (to_sets known.n sets form are reduced known.n (λ w. sum_over w set) changes));
  }

  -- a narrow form is within the bounds exactly if all that is guarded is within reach of it
  pub within_bounds : IsNarrow known.width form → ReachesAll known.n known.reach (shared_in known.people) known.groups form → IsWithinBounds known sets form
  within_bounds narrow all = record { narrow = narrow; near = λ value guarded changes. within_reach all guarded changes }

  pub out_of_bounds : All (λ g. g ≢ []) known.groups → ¬ (ReachesAll known.n known.reach (shared_in known.people) known.groups form) →
      ¬ (IsWithinBounds known sets form)
  out_of_bounds some far within = far (reaches_all some within.near)
