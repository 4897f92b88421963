-- Rows cleared at the pivot of a new row.
use Rattle.std.proofs.Common.{◌≡◌, ◌≢◌, ℕ, ◌<◌, ℤ, pos, List, [], ◌∷◌, refl, sym, ap, ◌∙◌, subst, arith, inl, inr}
use Rattle.std.specs.Int.{◌∣◌}
use Rattle.std.specs.Prelude.{◌+ℤ◌, ◌*ℤ◌, neg_ℤ, unsigned_abs}
use Rattle.std.specs.List.{AllByRecursion}
use Rattle.std.proofs.lemmas.Int.{ints, unsigned_abs-mul}
use Rattle.std.proofs.Math.Nat.{dvd-mul_left}
use Rattle.std.proofs.lemmas.Bool.{cases_order}
use Rattle.std.proofs.Math.IntN.{+ℤ_idr, *ℤ_comm, *ℤ-zero}
use Rattle.audit_types.specs.Truth.{number_at}
use Rattle.audit_types.specs.Form.{InSpan, IsPrimitive, IsEchelon, StandsBefore, pivot, pivot_entry}
use Rattle.sum_basis.specs.Elimination.{IsCleared, AreCleared}
use Rattle.audit_types.specs.PrimitiveLines.{number_at-times, times}
use Rattle.audit_types.specs.Products.{neg-times, product_not_zero}
use Rattle.audit_types.specs.Numbers.{zero_or_not, positive_not_zero}
use Rattle.audit_types.specs.RowNumbers.{some_entry}
use Rattle.audit_types.specs.FormRows.{zero_before}
use Rattle.sum_basis.specs.Spans.{spans_from, in_span_from, spans_same, spans_times, ZeroAtPivots}
use Rattle.sum_basis.specs.Combination.{combine}
use Rattle.sum_basis.specs.CombinedRows.{number_at-combine, length-combine}
use Rattle.sum_basis.proofs.FormsAreUnique.{pivot_is}
use Rattle.sum_basis.proofs.Reduction.{span_combine, span_uncombine, span_line, primitive_exists}

-- a row on the line of another is 0 where the other is
pub line_zero : (row : List ℤ) (by : ℤ) (new : List ℤ) (j : ℕ) → by ≢ pos 0 → row ≡ times by new → number_at row j ≡ pos 0 → number_at new j ≡ pos 0
line_zero row by new j n is e = elim (zero_or_not (number_at new j)) [
  | inl z ↦ z
  | inr some ↦ absurd (product_not_zero by (number_at new j) n some (sym (number_at-times by new j) ∙ sym (ap (λ r. number_at r j) is) ∙ e))
]

-- and not 0 where the other is not
line_some : (row : List ℤ) (by : ℤ) (new : List ℤ) (j : ℕ) → row ≡ times by new → number_at row j ≢ pos 0 → number_at new j ≢ pos 0
line_some row by new j is some e = some (ap (λ r. number_at r j) is ∙ number_at-times by new j ∙ ap (λ z. by *ℤ z) e ∙ *ℤ-zero by)

-- what stands on the line of a row that is 0 at the pivots is 0 there too
pub still_zero_at : (form : List (List ℤ)) (old made : List ℤ) (by : ℤ) → by ≢ pos 0 → old ≡ times by made → ZeroAtPivots (number_at old) form →
    ZeroAtPivots (number_at made) form
still_zero_at [] old made by n is z = tt
still_zero_at (row ∷ form) old made by n is z = (line_zero old by made (pivot row) n is z.0, still_zero_at form old made by n is z.1)

-- multiples of a row in the span lie in the span
pub span_times : (rows : List (List ℤ)) (by : ℤ) (new : List ℤ) → InSpan rows new → InSpan rows (times by new)
span_times rows by new p =
    in_span_from rows (times by new)
    (spans_same rows (λ j. by *ℤ number_at new j) (number_at (times by new)) (λ j. sym (number_at-times by new j))
    (spans_times rows by (number_at new) (spans_from rows new p)))

-- a combination of zeros is 0
at_both_zero : (x y f g : ℤ) → f ≡ pos 0 → g ≡ pos 0 → x *ℤ f +ℤ y *ℤ g ≡ pos 0
at_both_zero x y f g p q =
    ap (λ z. x *ℤ z +ℤ y *ℤ g) p ∙ ap (λ z. x *ℤ pos 0 +ℤ y *ℤ z) q ∙ ap (λ z. z +ℤ y *ℤ pos 0) (*ℤ-zero x) ∙ ap (λ z. pos 0 +ℤ z) (*ℤ-zero y)

-- a row that isn't 0 at the new pivot has the earlier pivot, if the new row is 0 at its own
pub comes_first : (n : ℕ) (new row : List ℤ) → IsPrimitive n new → number_at new (pivot row) ≡ pos 0 → number_at row (pivot new) ≢ pos 0 → pivot row < pivot new
comes_first n new row p e some = elim (cases_order (pivot row) (pivot new)) [
  | inl same ↦ absurd (positive_not_zero (pivot_entry new) p.leading (ap (number_at new) (sym same) ∙ e))
  | inr other ↦ elim other [ inl lt ↦ lt | inr gt ↦ absurd (some (zero_before row (pivot new) gt)) ]
]

-- what the combination has at the pivot
head_of_combination : (x : ℤ) (row : List ℤ) (y : ℤ) (new : List ℤ) → number_at new (pivot row) ≡ pos 0 →
    number_at (combine x row y new) (pivot row) ≡ x *ℤ pivot_entry row
head_of_combination x row y new e =
    number_at-combine x row y new (pivot row) ∙ ap (λ z. x *ℤ pivot_entry row +ℤ neg_ℤ y *ℤ z) e ∙ ap (λ z. x *ℤ pivot_entry row +ℤ z) (*ℤ-zero (neg_ℤ y))
    ∙ +ℤ_idr (x *ℤ pivot_entry row)

-- the combination keeps the pivot
pub leads_combination : (n : ℕ) (new row : List ℤ) → IsPrimitive n new → IsPrimitive n row → number_at new (pivot row) ≡ pos 0 →
    number_at (combine (pivot_entry new) row (number_at row (pivot new)) new) (pivot row) ≢ pos 0
leads_combination n new row p q e z =
    let x = pivot_entry new in
    let y = number_at row (pivot new) in
    product_not_zero x (pivot_entry row) (positive_not_zero x p.leading) (positive_not_zero (pivot_entry row) q.leading)
    (sym (head_of_combination x row y new e) ∙ z)

-- a row combined with the new one and made primitive is cleared
pub cleared_from : (n : ℕ) (new row made : List ℤ) (by : ℤ) → IsPrimitive n new → IsPrimitive n row → number_at new (pivot row) ≡ pos 0 → pivot row < pivot new
    → by ≢ pos 0
    → combine (pivot_entry new) row (number_at row (pivot new)) new ≡ times by made → IsPrimitive n made → IsCleared n new row made
cleared_from n new row made by p q e first n_zero line primitive = record {
  same_pivot = same;
  primitive = primitive;
  zero_there = line_zero c by made (pivot new) n_zero line gone;
  head =
      subst (λ m. unsigned_abs (pivot_entry made) ∣ m) (sym (unsigned_abs-mul by (pivot_entry made)) ∙ ap unsigned_abs heads
      ∙ unsigned_abs-mul x (pivot_entry row)) (dvd-mul_left (unsigned_abs (pivot_entry made)) (unsigned_abs by));
  keeps = λ j h k. line_zero c by made j n_zero line (number_at-combine x row y new j ∙ at_both_zero x (neg_ℤ y) (number_at row j) (number_at new j) h k);
  back = λ span h k. span_uncombine span x row y new p.leading (subst (InSpan span) (sym line) (span_times span by made h)) k;
  there = λ span h k. span_line span by made n_zero (subst (InSpan span) line (span_combine span x row y new h k));
}
  where
    x : ℤ
    x = pivot_entry new

    y : ℤ
    y = number_at row (pivot new)

    c : List ℤ
    c = combine x row y new

    before : (j : ℕ) → j < pivot row → number_at c j ≡ pos 0
    before j h =
        number_at-combine x row y new j ∙ at_both_zero x (neg_ℤ y) (number_at row j) (number_at new j) (zero_before row j h) (zero_before new j (omega arith))

    same : pivot made ≡ pivot row
    same =
        pivot_is made (pivot row) (λ j h. line_zero c by made j n_zero line (before j h))
        (line_some c by made (pivot row) line (leads_combination n new row p q e))

    heads : by *ℤ pivot_entry made ≡ x *ℤ pivot_entry row
    heads =
        sym (number_at-times by made (pivot made)) ∙ sym (ap (λ l. number_at l (pivot made)) line) ∙ ap (number_at c) same ∙ head_of_combination x row y new e

    gone : number_at c (pivot new) ≡ pos 0
    gone =
        let turned = *ℤ_comm x y in
        let minus = neg-times y x in
        let at_new = number_at-combine x row y new (pivot new) in
        omega (arith, ints)

-- a row that is 0 there is cleared as it is
pub cleared_already : (n : ℕ) (new row : List ℤ) → IsPrimitive n row → number_at row (pivot new) ≡ pos 0 → IsCleared n new row row
cleared_already n new row q z =
    record {
      same_pivot = refl;
      primitive = q;
      zero_there = z;
      head = dvd-mul_left (unsigned_abs (pivot_entry row)) (unsigned_abs (pivot_entry new));
      keeps = λ j h k. h;
      back = λ span h k. h;
      there = λ span h k. h;
    }

-- each row can be cleared
pub cleared : (n : ℕ) (new row : List ℤ) → IsPrimitive n new → IsPrimitive n row → number_at new (pivot row) ≡ pos 0 →
    (made : List ℤ) × IsCleared n new row made
cleared n new row p q e =
    elim (zero_or_not (number_at row (pivot new))) [
      | inl z ↦ (row, cleared_already n new row q z)
      | inr some ↦
          let x = pivot_entry new in
          let y = number_at row (pivot new) in
          let made = primitive_exists n (combine x row y new) (length-combine n x row y new q.one_each p.one_each)
          (some_entry (combine x row y new) (pivot row) (leads_combination n new row p q e)) in
          (made.0, cleared_from n new row made.0 made.1 p q e (comes_first n new row p e some) made.2 made.3 made.4)
    ]

-- all rows of a form can be cleared
pub cleared_all : (n : ℕ) (new : List ℤ) (rows : List (List ℤ)) → IsPrimitive n new → AllByRecursion (IsPrimitive n) rows → ZeroAtPivots (number_at new) rows →
    (rows' : List (List ℤ)) × AreCleared n new rows rows'
cleared_all n new [] p q e = ([], tt)
cleared_all n new (r ∷ rows) p q e =
    let first = cleared n new r p q.0 e.0 in
    let rest = cleared_all n new rows p q.1 e.1 in
    (first.0 ∷ rest.0, (first.1, rest.1))

-- cleared rows stand in the order that they stood in
still_before : (n : ℕ) (new r r' : List ℤ) (rows rows' : List (List ℤ)) → IsCleared n new r r' → number_at new (pivot r) ≡ pos 0 → AreCleared n new rows rows' →
    ZeroAtPivots (number_at new) rows → AllByRecursion (StandsBefore r) rows → AllByRecursion (StandsBefore r') rows'
still_before n new r r' [] [] c e all z h = tt
still_before n new r r' [] (s ∷ ss) c e all z h = absurd all
still_before n new r r' (q ∷ rows) [] c e all z h = absurd all
still_before n new r r' (q ∷ rows) (s ∷ ss) c e all z h =
    let one = c.same_pivot in let two = all.0.same_pivot in let order = h.0.0 in (
      (omega arith, ap (number_at r') two ∙ c.keeps (pivot q) h.0.1 z.0, ap (number_at s) one ∙ all.0.keeps (pivot r) h.0.2 e),
      still_before n new r r' rows ss c e all.1 z.1 h.1,
    )

-- cleared rows are in echelon form again
pub still_echelon : (n : ℕ) (new : List ℤ) (rows rows' : List (List ℤ)) → AreCleared n new rows rows' → ZeroAtPivots (number_at new) rows → IsEchelon rows →
    IsEchelon rows'
still_echelon n new [] [] all z h = tt
still_echelon n new [] (s ∷ ss) all z h = absurd all
still_echelon n new (r ∷ rows) [] all z h = absurd all
still_echelon n new (r ∷ rows) (s ∷ ss) all z h = (still_before n new r s rows ss all.0 z.0 all.1 z.1 h.0, still_echelon n new rows ss all.1 z.1 h.1)

-- what is 0 at the pivots of the rows is 0 at those of the cleared rows
pub zeros_stay : (f : ℕ → ℤ) (n : ℕ) (new : List ℤ) (rows rows' : List (List ℤ)) → AreCleared n new rows rows' → ZeroAtPivots f rows → ZeroAtPivots f rows'
zeros_stay f n new [] [] all z = tt
zeros_stay f n new [] (s ∷ ss) all z = absurd all
zeros_stay f n new (r ∷ rows) [] all z = absurd all
zeros_stay f n new (r ∷ rows) (s ∷ ss) all z = (ap f all.0.same_pivot ∙ z.0, zeros_stay f n new rows ss all.1 z.1)

-- so is the new row
pub still_zero : (n : ℕ) (new : List ℤ) (rows rows' : List (List ℤ)) → AreCleared n new rows rows' → ZeroAtPivots (number_at new) rows →
    ZeroAtPivots (number_at new) rows'
still_zero n new = zeros_stay (number_at new) n new

-- cleared rows are primitive
pub primitives : (n : ℕ) (new : List ℤ) (rows rows' : List (List ℤ)) → AreCleared n new rows rows' → AllByRecursion (IsPrimitive n) rows'
primitives n new [] [] all = tt
primitives n new [] (s ∷ ss) all = absurd all
primitives n new (r ∷ rows) [] all = absurd all
primitives n new (r ∷ rows) (s ∷ ss) all = (all.0.primitive, primitives n new rows ss all.1)

-- cleared rows are 0 at the new pivot
pub zeros_there : (n : ℕ) (new : List ℤ) (rows rows' : List (List ℤ)) → AreCleared n new rows rows' →
    AllByRecursion (λ r. number_at r (pivot new) ≡ pos 0) rows'
zeros_there n new [] [] all = tt
zeros_there n new [] (s ∷ ss) all = absurd all
zeros_there n new (r ∷ rows) [] all = absurd all
zeros_there n new (r ∷ rows) (s ∷ ss) all = (all.0.zero_there, zeros_there n new rows ss all.1)

-- a space with the rows and the new one has the cleared rows
pub spans_there : (span : List (List ℤ)) (n : ℕ) (new : List ℤ) (rows rows' : List (List ℤ)) → AreCleared n new rows rows' → InSpan span new →
    AllByRecursion (InSpan span) rows → AllByRecursion (InSpan span) rows'
spans_there span n new [] [] all p h = tt
spans_there span n new [] (s ∷ ss) all p h = absurd all
spans_there span n new (r ∷ rows) [] all p h = absurd all
spans_there span n new (r ∷ rows) (s ∷ ss) all p h = (all.0.there span h.0 p, spans_there span n new rows ss all.1 p h.1)

-- a space with the cleared rows and the new one has the rows
pub spans_back : (span : List (List ℤ)) (n : ℕ) (new : List ℤ) (rows rows' : List (List ℤ)) → AreCleared n new rows rows' → InSpan span new →
    AllByRecursion (InSpan span) rows' → AllByRecursion (InSpan span) rows
spans_back span n new [] [] all p h = tt
spans_back span n new [] (s ∷ ss) all p h = absurd all
spans_back span n new (r ∷ rows) [] all p h = absurd all
spans_back span n new (r ∷ rows) (s ∷ ss) all p h = (all.0.back span h.0 p, spans_back span n new rows ss all.1 p h.1)
