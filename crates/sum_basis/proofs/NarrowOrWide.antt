-- The form of any sets is narrow or wide, and not both.
use Rattle.std.proofs.Common.{ℕ, ◌≤◌, ℤ, List, [], ◌∷◌, map, subst, inl, inr, ◌⊎◌, arith}
use Rattle.std.specs.Prelude.{unsigned_abs}
use Rattle.std.specs.List.{AllByRecursion}
use Rattle.std.proofs.lemmas.Bool.{cases_lt}
use Rattle.audit_types.specs.Form.{IsReducedForm, IsNarrow, HasNarrowForm, HasWideForm, set_row, pivot_entries}
use Rattle.audit_types.specs.RowNumbers.{lengths_of_sets}
use Rattle.sum_basis.specs.Laws.{NarrowOrWide, SetsHaveOneForm}
use Rattle.sum_basis.proofs.FormsAreUnique.{forms_are_unique, leads_from}
use Rattle.sum_basis.proofs.EveryRowSpaceHasAForm.{every_row_space_has_a_form}
use Rattle.sum_basis.proofs.LeastMultiples.{least_exists, least_unique, entries_positive}

module _ {X : Type 0} (P : X → Type 0) (decide : (x : X) → P x ⊎ ¬ (P x)) where
  -- a test that is decided of one item is decided of all
  all_or_not : (xs : List X) → AllByRecursion P xs ⊎ ¬ (AllByRecursion P xs)
  all_or_not [] = inl tt
  all_or_not (x ∷ xs) = elim (decide x) [
    | inl here ↦ elim (all_or_not xs) [ inl rest ↦ inl (here, rest) | inr other ↦ inr (λ all. other all.1) ]
    | inr other ↦ inr (λ all. other all.0)
  ]

-- whether a number is small is decided
small_or_not : (width : ℕ) (x : ℤ) → (unsigned_abs x ≤ width) ⊎ ¬ (unsigned_abs x ≤ width)
small_or_not width x = elim (cases_lt width (unsigned_abs x)) [ inl more ↦ inr (λ small. omega arith) | inr small ↦ inl small ]

-- whether a form is narrow is decided
pub narrow_or_not : (width n : ℕ) (rows form : List (List ℤ)) → IsReducedForm n rows form → IsNarrow width form ⊎ ¬ (IsNarrow width form)
narrow_or_not width n rows form r =
    elim (all_or_not (AllByRecursion (λ x. unsigned_abs x ≤ width)) (all_or_not (λ x. unsigned_abs x ≤ width) (small_or_not width)) form) [
      | inr large ↦ inr (λ narrow. large narrow.entries)
      | inl small ↦
          let least = least_exists (pivot_entries form) (entries_positive form (leads_from n form r.primitive)) in
          elim (cases_lt width least.0) [
            | inl more ↦ inr (λ narrow. let same = least_unique (pivot_entries form) narrow.common least.0 narrow.common_is least.2 in
                let within = narrow.common_small in omega arith)
            | inr within ↦ inl (record { entries = small; common = least.0; common_is = least.2; common_small = within })
          ]
    ]

-- there is a form, and it is narrow or not
one_of_them : (width n : ℕ) (sets : List (List ℕ)) → HasNarrowForm width n sets ⊎ HasWideForm width n sets
one_of_them width n sets =
    let form = every_row_space_has_a_form n (map (set_row n) sets) (lengths_of_sets n sets) in
    elim (narrow_or_not width n (map (set_row n) sets) form.0 form.1) [
      | inl narrow ↦ inl (record { form = form.0; reduced = form.1; narrow = narrow })
      | inr wide ↦ inr (record { form = form.0; reduced = form.1; wide = wide })
    ]

-- it cannot be both, since there is only one
pub narrow_or_wide : NarrowOrWide
narrow_or_wide width n sets = (
  one_of_them width n sets,
  λ narrow wide. wide.wide (subst (IsNarrow width) (forms_are_unique n (map (set_row n) sets) narrow.form wide.form narrow.reduced wide.reduced) narrow.narrow),
)

-- there is one form, and no other
pub sets_have_one_form : SetsHaveOneForm
sets_have_one_form n sets =
    let form = every_row_space_has_a_form n (map (set_row n) sets) (lengths_of_sets n sets) in
    (form.0, form.1, λ other reduced. forms_are_unique n (map (set_row n) sets) other form.0 reduced form.1)
