-- Every row space has a reduced form.
use Rattle.std.proofs.Common.{◌≡◌, ℕ, Bool, true, false, ℤ, pos, List, [], ◌∷◌, length, refl, sym, subst}
use Rattle.std.specs.List.{AllByRecursion, list_all}
use Rattle.audit_types.specs.Truth.{number_at, is_zero}
use Rattle.audit_types.specs.Form.{InSpan, IsPrimitive, IsEchelon}
use Rattle.audit_types.specs.RowNumbers.{all_zeros_at}
use Rattle.audit_types.specs.FormRows.{lengths_of_form}
use Rattle.sum_basis.specs.Spans.{in_span_from, spans_same, spans_zero, span_trans_all, own, one_more_all, first_own}
use Rattle.sum_basis.proofs.FormsAreUnique.{leads_from}
use Rattle.sum_basis.proofs.Reduction.{span_line, reduced_by, length-reduced, reduced_zeros, span_reduced, span_unreduced, primitive_exists}
use Rattle.sum_basis.specs.Laws.{EveryRowSpaceHasAForm}
use Rattle.sum_basis.proofs.Clearing.{cleared_all, still_echelon, still_zero, primitives, zeros_there, spans_there, spans_back, span_times, still_zero_at}
use Rattle.sum_basis.proofs.Placing.{placed, all_placed, parts_placed, placed_echelon}

-- a form with one row more
record HasOneMore (n : ℕ) (form : List (List ℤ)) (v : List ℤ) : Type 0 where
  grown : List (List ℤ)
  primitive : AllByRecursion (IsPrimitive n) grown
  echelon : IsEchelon grown
  within : AllByRecursion (InSpan (v ∷ form)) grown
  has_row : InSpan grown v
  has_form : AllByRecursion (InSpan grown) form

-- each row can be added to a form
grow : (n : ℕ) (form : List (List ℤ)) (v : List ℤ) → AllByRecursion (IsPrimitive n) form → IsEchelon form → length v ≡ n → HasOneMore n form v
grow n form v p h e = go (list_all is_zero u) refl
  where
    u : List ℤ
    u = reduced_by form v

    go : (b : Bool) → list_all is_zero u ≡ b → HasOneMore n form v
    go true zero_row = record {
      grown = form;
      primitive = p;
      echelon = h;
      within = one_more_all v form form (own form);
      has_row =
          span_unreduced form form v (own form) (leads_from n form p)
          (in_span_from form u (spans_same form (λ j. pos 0) (number_at u) (λ j. sym (all_zeros_at u j zero_row)) (spans_zero form)));
      has_form = own form;
    }
    go false some =
        let made = primitive_exists n u (length-reduced n form v (lengths_of_form n form p) e) some in
        let new = made.0 in
        let zeros = still_zero_at form u new made.1 made.2 made.3 (reduced_zeros form v h) in
        let rest = cleared_all n new form made.4 p zeros in
        let rows = rest.0 in
        let new_within : InSpan (v ∷ form) new = span_line (v ∷ form) made.1 new made.2
        (subst (InSpan (v ∷ form)) made.3 (span_reduced (v ∷ form) form v (one_more_all v form form (own form)) (first_own v form))) in
        let result = placed new rows in
        let inside = parts_placed (InSpan result) new rows (own result) in
        let has_form = spans_back result n new form rows rest.1 inside.0 inside.1 in
        record {
          grown = result;
          primitive = all_placed (IsPrimitive n) new rows made.4 (primitives n new form rows rest.1);
          echelon =
              placed_echelon new rows (still_echelon n new form rows rest.1 zeros h) (leads_from n rows (primitives n new form rows rest.1))
              (still_zero n new form rows rest.1 zeros) (zeros_there n new form rows rest.1);
          within =
              all_placed (InSpan (v ∷ form)) new rows new_within
              (spans_there (v ∷ form) n new form rows rest.1 new_within (one_more_all v form form (own form)));
          has_row = span_unreduced result form v has_form (leads_from n form p) (subst (InSpan result) (sym made.3) (span_times result made.1 new inside.0));
          has_form = has_form;
        }

-- so, one row after the other, each list of rows has a form
pub every_row_space_has_a_form : EveryRowSpaceHasAForm
every_row_space_has_a_form n [] h = ([], record { primitive = tt; echelon = tt; within = tt; spans = tt })
every_row_space_has_a_form n (v ∷ rows) h =
    let before = every_row_space_has_a_form n rows h.1 in
    let next = grow n before.0 v before.1.primitive before.1.echelon h.0 in (
      next.grown,
      record {
        primitive = next.primitive;
        echelon = next.echelon;
        within = span_trans_all (v ∷ rows) (v ∷ before.0) next.grown (first_own v rows, one_more_all v rows before.0 before.1.within) next.within;
        spans = (next.has_row, span_trans_all next.grown before.0 rows next.has_form before.1.spans);
      },
    )
