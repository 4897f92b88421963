-- A form with one row more: the rows before its place cleared, the row, and the others as they are.
use Rattle.std.proofs.Common.{◌≡◌, ◌≢◌, ℕ, zero, suc, ◌<◌, ◌≤◌, Bool, true, false, cond, ℤ, pos, List, [], ◌∷◌, ◌++◌, length, take, drop, get_or, refl, sym, ap, ◌∙◌, arith}
use Rattle.std.specs.Prelude.{nat_lt}
use Rattle.std.specs.List.{AllByRecursion}
use Rattle.std.proofs.lemmas.Bool.{ltb-true, ltb-false}
use Rattle.audit_types.specs.Truth.{number_at}
use Rattle.audit_types.specs.Form.{InSpan, IsPrimitive, IsEchelon, StandsBefore, IsReducedForm, pivot, pivot_entry}
use Rattle.audit_types.specs.ListLaws.{all-push, all-front}
use Rattle.audit_types.specs.Numbers.{positive_not_zero}
use Rattle.sum_basis.specs.Elimination.{IsZeroAtPivots, AreCleared}
use Rattle.sum_basis.specs.Spans.{own}
use Rattle.sum_basis.proofs.FormsAreUnique.{leads_from}
use Rattle.sum_basis.proofs.Clearing.{still_echelon, still_zero, primitives, zeros_there, spans_there, spans_back}
use Rattle.sum_basis.proofs.Placing.{placed, all_placed, parts_placed, placed_echelon}

-- with all rows cleared and the new one in its place, the rows are the reduced form
pub placed_is_reduced : (n : ℕ) (form cleared : List (List ℤ)) (new : List ℤ) → AllByRecursion (IsPrimitive n) form → IsEchelon form → IsPrimitive n new →
    IsZeroAtPivots form new → AreCleared n new form cleared → IsReducedForm n (form ++ new ∷ []) (placed new cleared)
placed_is_reduced n form cleared new p h q z all =
    let rows = form ++ new ∷ [] in
    let parts = all-front (InSpan rows) form new (own rows) in
    let inside = parts_placed (InSpan (placed new cleared)) new cleared (own (placed new cleared)) in
    record {
      primitive = all_placed (IsPrimitive n) new cleared q (primitives n new form cleared all);
      echelon =
          placed_echelon new cleared (still_echelon n new form cleared all z h) (leads_from n cleared (primitives n new form cleared all))
          (still_zero n new form cleared all z) (zeros_there n new form cleared all);
      within = all_placed (InSpan rows) new cleared parts.1 (spans_there rows n new form cleared all parts.1 parts.0);
      spans = all-push (InSpan (placed new cleared)) form new (spans_back (placed new cleared) n new form cleared all inside.0 inside.1) inside.0;
    }

-- between rows with earlier pivots and rows with later ones the new row is placed
pub placed_is : (new : List ℤ) (before after : List (List ℤ)) → AllByRecursion (λ row. pivot row < pivot new) before →
    AllByRecursion (λ row. pivot new < pivot row) after → placed new (before ++ after) ≡ before ++ new ∷ after
placed_is new [] [] h k = refl
placed_is new [] (row ∷ after) h k = go (nat_lt (pivot new) (pivot row)) refl
  where
    go : (b : Bool) → nat_lt (pivot new) (pivot row) ≡ b → cond b (new ∷ row ∷ after) (row ∷ placed new after) ≡ new ∷ row ∷ after
    go true e = refl
    go false e = absurd (let later = k.0 in let other = ltb-false (pivot new) (pivot row) e in omega arith)
placed_is new (row ∷ before) after h k = go (nat_lt (pivot new) (pivot row)) refl (placed_is new before after h.1 k)
  where
    go : (b : Bool) → nat_lt (pivot new) (pivot row) ≡ b → placed new (before ++ after) ≡ before ++ new ∷ after →
        cond b (new ∷ row ∷ (before ++ after)) (row ∷ placed new (before ++ after)) ≡ row ∷ (before ++ new ∷ after)
    go true e rest = absurd (let sooner = h.0 in let other = ltb-true (pivot new) (pivot row) e in omega arith)
    go false e rest = ap (λ l. row ∷ l) rest

-- a row at whose pivot the new row is 0 has another pivot
apart : (n : ℕ) (new row : List ℤ) → IsPrimitive n new → number_at new (pivot row) ≡ pos 0 → pivot row ≢ pivot new
apart n new row p z e = positive_not_zero (pivot_entry new) p.leading (ap (number_at new) (sym e) ∙ z)

-- the rows in front of the place have their pivots before the new one
pub before_place : (n : ℕ) (new : List ℤ) (form : List (List ℤ)) (k : ℕ) → IsPrimitive n new → IsZeroAtPivots form new →
    AllByRecursion (λ row. pivot row ≤ pivot new) (take k form) → AllByRecursion (λ row. pivot row < pivot new) (take k form)
before_place n new [] zero p z h = tt
before_place n new [] (suc k) p z h = tt
before_place n new (row ∷ form) zero p z h = tt
before_place n new (row ∷ form) (suc k) p z h = let other = apart n new row p z.0 in let most = h.0 in (omega arith, before_place n new form k p z.1 h.1)

-- rows after a later row are later
later_rows : (at_pivot : ℕ) (row : List ℤ) (form : List (List ℤ)) → at_pivot < pivot row → AllByRecursion (StandsBefore row) form →
    AllByRecursion (λ other. at_pivot < pivot other) form
later_rows at_pivot row [] h k = tt
later_rows at_pivot row (other ∷ form) h k = let order = k.0.0 in (omega arith, later_rows at_pivot row form h k.1)

-- the rows from the place on have later pivots
pub after_place : (at_pivot : ℕ) (form : List (List ℤ)) (k : ℕ) → IsEchelon form → (k < length form → at_pivot < pivot (get_or form k [])) →
    AllByRecursion (λ row. at_pivot < pivot row) (drop k form)
after_place at_pivot [] zero e h = tt
after_place at_pivot [] (suc k) e h = tt
after_place at_pivot (row ∷ form) zero e h = let here = h (omega arith) in (here, later_rows at_pivot row form here e.0)
after_place at_pivot (row ∷ form) (suc k) e h = after_place at_pivot form k e.1 (λ l. h (omega arith))
