-- Which unit rows lie in the span of a form with a new row: those at the pivots of rows that are alone once they are cleared, and that of the new row,
-- if it is alone.
use Rattle.std.proofs.Common.{◌≡◌, ◌≢◌, ◌↔◌, ℕ, ◌<◌, ◌≤◌, false, ℤ, List, [], ◌∷◌, ◌++◌, length, get_or, refl, sym, ap, ◌∙◌, subst, arith, inl, inr}
use Rattle.std.specs.Prelude.{Option, None, Some}
use Rattle.std.proofs.lemmas.Bool.{cases_eq, cases_lt}
use Rattle.std.proofs.lemmas.List.Elements.{All-from_recursion}
use Rattle.audit_types.specs.Form.{InSpan, IsPrimitive, IsReducedForm, pivot}
use Rattle.audit_types.specs.FormRows.{pivot_below}
use Rattle.audit_types.specs.Rows.{has_row, IsLeast}
use Rattle.sum_basis.specs.Basis.{unit_row}
use Rattle.sum_basis.specs.Elimination.{IsLone, IsSmallForm, IsZeroAtPivots}
use Rattle.sum_basis.specs.RowsWith.{IsPinned, IsPinnedPivot}
use Rattle.sum_basis.specs.Spans.{own, span_trans}
use Rattle.sum_basis.proofs.FormsAreUnique.{in_span_at}
use Rattle.sum_basis.proofs.OwnRows.{pivot_or_none, at_new_pivot, lone_in_form}
use Rattle.sum_basis.proofs.OwnUnits.{pivots_ascend}
use Rattle.sum_basis.proofs.RowsWith.{new_among}
use Rattle.sum_basis.proofs.UnitRowsInSpan.{unit_in_span}

-- the unit row at none of the first k pivots that isn't shared lies in the span
abbrev pub NoneBefore : ℕ → List (List ℤ) → List ℕ → List (List ℤ) → ℕ → Type 0
NoneBefore n rows shared grown k = (j : ℕ) → j < k → has_row shared (pivot (get_or rows j [])) ≡ false → ¬
    (InSpan grown (unit_row n (pivot (get_or rows j []))))

module _ (n : ℕ) (rows : List (List ℤ)) (new : List ℤ) (shared : List ℕ) (f : IsSmallForm n rows) (p : IsPrimitive n new) (z : IsZeroAtPivots rows new)
    (grown : List (List ℤ)) (reduced : IsReducedForm n (rows ++ new ∷ []) grown) (g : IsSmallForm n grown) where
  -- the span of the rows and the new one is that of the form with it
  pub spanned_in_grown : (u : List ℤ) → InSpan (rows ++ new ∷ []) u → InSpan grown u
  spanned_in_grown u span = span_trans grown (rows ++ new ∷ []) u reduced.spans span

  pub still_none : (k : ℕ) → NoneBefore n rows shared (rows ++ new ∷ []) k → NoneBefore n rows shared grown k
  still_none k none j before mine span = none j before mine (span_trans (rows ++ new ∷ []) grown (unit_row n (pivot (get_or rows j []))) reduced.within span)

  -- the new row's pivot's unit row lies in it exactly if the row is alone
  pub new_if_alone : InSpan grown (unit_row n (pivot new)) ↔ IsLone new
  new_if_alone =
      let among = new_among n new p rows grown f.primitive f.echelon z reduced in (
        λ span. lone_in_form n grown new g among (pivot_below n new p) span,
        λ lone. unit_in_span n grown new p (in_span_at grown grown new (own grown) among) lone,
      )

  -- if none before the next pivot does, that at it is the least, if it does
  pub first_one : (k : ℕ) → k < length rows → NoneBefore n rows shared grown k → has_row shared (pivot (get_or rows k [])) ≡ false →
      InSpan grown (unit_row n (pivot (get_or rows k []))) → IsLeast (IsPinnedPivot n rows grown shared) (Some (pivot (get_or rows k [])))
  first_one k l before mine span = (
    record {
      pinned = record {
        within = pivot_below n (get_or rows k []) (All-from_recursion (IsPrimitive n) rows f.primitive k [] l);
        spanned = span;
        own = mine;
      };
      k = k;
      is_row = l;
      at_pivot = refl;
    },
    λ i less found.
        let sooner : found.k < k = elim (cases_lt found.k k) [
          | inl is ↦ is
          | inr later ↦ elim (cases_eq found.k k) [
            | inl same ↦ let at = found.at_pivot in let here = ap (λ (x : ℕ). pivot (get_or rows x [])) same in absurd (omega arith)
            | inr other ↦
                let order = pivots_ascend rows k found.k f.echelon (omega arith) found.is_row in let at = found.at_pivot in absurd (omega arith)
          ]
        ] in
        before found.k sooner (ap (has_row shared) found.at_pivot ∙ found.pinned.own)
        (subst (λ (q : ℕ). InSpan grown (unit_row n q)) (sym found.at_pivot) found.pinned.spanned),
  )

  -- and in the end there is none
  pub none_of_pivots : (k : ℕ) → length rows ≤ k → NoneBefore n rows shared grown k → IsLeast (IsPinnedPivot n rows grown shared) None
  none_of_pivots k past before = λ i found.
      before found.k (let l = found.is_row in omega arith) (ap (has_row shared) found.at_pivot ∙ found.pinned.own)
      (subst (λ (q : ℕ). InSpan grown (unit_row n q)) (sym found.at_pivot) found.pinned.spanned)

  -- a unit row of the span is that of a pivot of the rows, or of the new row
  module _ (i : ℕ) (pinned : IsPinned n grown shared i) where
    of_pivot : i ≢ pivot new → IsPinnedPivot n rows grown shared i
    of_pivot other = elim (pivot_or_none rows i) [
      | inl found ↦ record { pinned = pinned; k = found.0; is_row = found.1; at_pivot = found.2 }
      | inr apart ↦ absurd (other (sym (at_new_pivot n i rows new f z p pinned.within apart
          (span_trans (rows ++ new ∷ []) grown (unit_row n i) reduced.within pinned.spanned))))
    ]

  -- if that at the new row's pivot doesn't, or is shared, the least at the rows' pivots is the least of all
  pub without_new : (found : Option ℕ) → ¬ (IsPinned n grown shared (pivot new)) → IsLeast (IsPinnedPivot n rows grown shared) found →
      IsLeast (IsPinned n grown shared) found
  without_new None not_new least = λ i pinned. least i (of_pivot i pinned (λ same. not_new (subst (IsPinned n grown shared) same pinned)))
  without_new (Some k) not_new least = (
    least.0.pinned,
    λ i less pinned. least.1 i less (of_pivot i pinned (λ same. not_new (subst (IsPinned n grown shared) same pinned))),
  )

  -- and else the lesser of it and of that at the new row's pivot
  pub with_new_later : (k : ℕ) → k < pivot new → IsLeast (IsPinnedPivot n rows grown shared) (Some k) → IsLeast (IsPinned n grown shared) (Some k)
  with_new_later k less least = (least.0.pinned, λ i sooner pinned. least.1 i sooner (of_pivot i pinned (λ same. omega arith)))

  pub with_new_first : (k : ℕ) → pivot new ≤ k → IsPinned n grown shared (pivot new) → IsLeast (IsPinnedPivot n rows grown shared) (Some k) →
      IsLeast (IsPinned n grown shared) (Some (pivot new))
  with_new_first k past is least = (is, λ i less pinned. least.1 i (omega arith) (of_pivot i pinned (λ same. omega arith)))

  pub with_new_alone : IsPinned n grown shared (pivot new) → IsLeast (IsPinnedPivot n rows grown shared) None →
      IsLeast (IsPinned n grown shared) (Some (pivot new))
  with_new_alone is least = (is, λ i less pinned. least i (of_pivot i pinned (λ same. omega arith)))

  -- the new row's is one if the row is alone and its pivot isn't shared
  pub new_pinned : IsLone new → has_row shared (pivot new) ≡ false → IsPinned n grown shared (pivot new)
  new_pinned lone mine = record { within = pivot_below n new p; spanned = new_if_alone.1 lone; own = mine }
