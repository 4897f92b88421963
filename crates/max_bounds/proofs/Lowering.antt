-- An array of bounds, lowered row by row and answer by answer.
use Rattle.std.proofs.Common.{◌≡◌, ℕ, zero, suc, ◌<◌, ◌≤◌, ℤ, Bool, true, false, cond, ◌==◌, List, [], ◌∷◌, ◌++◌, length, refl, sym, ap, ◌∙◌, arith, inl, inr, Option, Some, None, get_or, set, replicate, get_or-set_same, get_or-set_other, length-set}
use Rattle.std.specs.List.{AllByRecursion}
use Rattle.std.proofs.lemmas.Int.{ints, clamps}
use Rattle.std.proofs.lemmas.Bool.{cases_eq, eq-eqb, ne_eqb}
use Rattle.audit_types.specs.Limits.{most_rows}
use Rattle.audit_types.specs.Rows.{has_row, AreRows}
use Rattle.audit_types.specs.Column.{Answer}
use Rattle.audit_types.specs.Extremes.{least_of, upper_bound}
use Rattle.max_bounds.specs.Reaching.{bound_at, bound_with}
use Rattle.max_bounds.specs.BoundLaws.{upper_bound-push}
use Rattle.audit_types.specs.FilteredRows.{rows_within}

-- a walk that lowers the bounds of the rows of an answer: what is left to do leads from here to the end
pub record IsLowering (answer : ℤ) (rows : List ℕ) (before : List (Option ℤ)) (rest : List ℕ) (bounds : List (Option ℤ)) : Type 0 where
  pub size : length bounds ≡ most_rows
  pub within : AllByRecursion (λ q. q < most_rows) rest
  pub lowered : (r : ℕ) → bound_with rest answer r (bound_at bounds r) ≡ bound_with rows answer r (bound_at before r)

-- at first all is left to do
pub lowering_begins : (answer : ℤ) (n : ℕ) (rows : List ℕ) (bounds : List (Option ℤ)) → length bounds ≡ most_rows → AreRows n rows → n ≤ most_rows →
    IsLowering answer rows bounds rows bounds
lowering_begins answer n rows bounds size are most = record { size = size; within = rows_within 0 n most_rows rows most are; lowered = λ r. refl }

-- a bound that is lowered stays so
lowered_again : (a : ℤ) (o : Option ℤ) (has : Bool) → cond has (Some (least_of a (Some (least_of a o)))) (Some (least_of a o)) ≡ Some (least_of a o)
lowered_again a o false = refl
lowered_again a None true = ap Some (omega (arith, ints, clamps))
lowered_again a (Some b) true = ap Some (omega (arith, ints, clamps))

-- what lowering one row does to each row
row_lowered : (a : ℤ) (q r : ℕ) (rest : List ℕ) (bounds : List (Option ℤ)) → q < length bounds →
    bound_with rest a r (bound_at (set bounds q (Some (least_of a (get_or bounds q None)))) r) ≡ bound_with (q ∷ rest) a r (bound_at bounds r)
row_lowered a q r rest bounds below = elim (cases_eq q r) [
  | inl same ↦
      let at : bound_at (set bounds q (Some (least_of a (get_or bounds q None)))) r ≡ Some (least_of a (bound_at bounds r)) =
      ap (bound_at (set bounds q (Some (least_of a (get_or bounds q None))))) (sym same)
      ∙ get_or-set_same bounds q (Some (least_of a (get_or bounds q None))) None below ∙ ap (λ k. Some (least_of a (get_or bounds k None))) same in
      let here : (q == r) ≡ true = eq-eqb q r same in
      rw (at, here) (lowered_again a (bound_at bounds r) (has_row rest r))
  | inr apart ↦
      let at : bound_at (set bounds q (Some (least_of a (get_or bounds q None)))) r ≡ bound_at bounds r =
      get_or-set_other bounds q r (Some (least_of a (get_or bounds q None))) None (λ e. apart (sym e)) in
      let there : (q == r) ≡ false = ne_eqb q r apart in
      rw (at, there) refl
]

-- one row lowered
pub lowering_step : (answer : ℤ) (rows : List ℕ) (before : List (Option ℤ)) (q : ℕ) (rest : List ℕ) (bounds : List (Option ℤ)) →
    IsLowering answer rows before (q ∷ rest) bounds → IsLowering answer rows before rest (set bounds q (Some (least_of answer (get_or bounds q None))))
lowering_step answer rows before q rest bounds h = record {
  size = length-set bounds q (Some (least_of answer (get_or bounds q None))) ∙ h.size;
  within = h.within.1;
  lowered = λ r. row_lowered answer q r rest bounds (omega (arith, h.within.0, h.size)) ∙ h.lowered r;
}

-- at the end the array has the bounds with the answer
pub lowering_ends : (answer : ℤ) (rows : List ℕ) (before bounds : List (Option ℤ)) → IsLowering answer rows before [] bounds → (r : ℕ) →
    bound_at bounds r ≡ bound_with rows answer r (bound_at before r)
lowering_ends answer rows before bounds h = h.lowered

-- an array of bounds: that of each row in these answers
pub record AreBounds (answers : List Answer) (bounds : List (Option ℤ)) : Type 0 where
  pub each : (r : ℕ) → bound_at bounds r ≡ upper_bound answers r

-- an array of no bounds has none
no_bound : (k r : ℕ) → bound_at (replicate k None) r ≡ None
no_bound zero r = refl
no_bound (suc k) zero = refl
no_bound (suc k) (suc r) = no_bound k r

-- no answers, no bounds
pub AreBounds-none : (k : ℕ) → AreBounds [] (replicate k None)
AreBounds-none k = record { each = no_bound k }

-- one answer more
pub AreBounds-push : (answers : List Answer) (x : Answer) (bounds after : List (Option ℤ)) → AreBounds answers bounds →
    ((r : ℕ) → bound_at after r ≡ bound_with x.rows x.value r (bound_at bounds r)) → AreBounds (answers ++ x ∷ []) after
AreBounds-push answers x bounds after h lowered = record {
  each = λ r. lowered r ∙ ap (bound_with x.rows x.value r) (h.each r) ∙ sym (upper_bound-push answers x r);
}
