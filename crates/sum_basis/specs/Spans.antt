-- Facts on row spaces, column by column.
use Rattle.std.proofs.Common.{◌≡◌, ℕ, ◌*◌, ◌<◌, ℤ, pos, List, [], ◌∷◌, refl, sym, ap, ◌∙◌, arith}
use Rattle.std.specs.Prelude.{◌+ℤ◌, ◌*ℤ◌, ◌<ℤ◌}
use Rattle.std.specs.List.{AllByRecursion}
use Rattle.std.proofs.lemmas.Int.{ints}
use Rattle.std.proofs.Math.IntN.{+ℤ_idl, +ℤ_idr, *ℤ_comm, zero-*ℤ, *ℤ-zero}
use Rattle.audit_types.specs.Truth.{number_at}
use Rattle.audit_types.specs.Form.{combined, InSpan, pivot, pivot_entry, IsEchelon}
use Rattle.sum_basis.specs.Combination.{both}
use Rattle.audit_types.specs.Products.{add-times, times-add, times_assoc, zero_factor}
use Rattle.audit_types.specs.PrimitiveLines.{times}
use Rattle.audit_types.specs.FormRows.{later_zero}
use Rattle.std.proofs.Math.Nat.{mul-pos}

-- combinations with the sums of coefficients
pub combined-both : (a b : List ℤ) (rows : List (List ℤ)) (j : ℕ) → combined (both a b) rows j ≡ combined a rows j +ℤ combined b rows j
combined-both [] b rows j = sym (+ℤ_idl (combined b rows j))
combined-both (x ∷ a) [] rows j = sym (+ℤ_idr (combined (x ∷ a) rows j))
combined-both (x ∷ a) (y ∷ b) [] j = refl
combined-both (x ∷ a) (y ∷ b) (row ∷ rows) j =
    let first = add-times x y (number_at row j) in
    let rest = combined-both a b rows j in
    omega (arith, ints)

-- combinations with multiples of the coefficients
pub combined-times : (k : ℤ) (a : List ℤ) (rows : List (List ℤ)) (j : ℕ) → combined (times k a) rows j ≡ k *ℤ combined a rows j
combined-times k [] rows j = sym (*ℤ-zero k)
combined-times k (x ∷ a) [] j = sym (*ℤ-zero k)
combined-times k (x ∷ a) (row ∷ rows) j =
    let first = times_assoc k x (number_at row j) in
    let rest = combined-times k a rows j in
    let whole = times-add k (x *ℤ number_at row j) (combined a rows j) in
    omega (arith, ints)

-- rows that are 0 at a column have combinations that are 0 there
pub combined_zero : (a : List ℤ) (rows : List (List ℤ)) (j : ℕ) → AllByRecursion (λ row. number_at row j ≡ pos 0) rows → combined a rows j ≡ pos 0
combined_zero [] rows j h = refl
combined_zero (x ∷ a) [] j h = refl
combined_zero (x ∷ a) (row ∷ rows) j h =
    let first = ap (λ z. x *ℤ z) h.0 ∙ *ℤ-zero x in
    let rest = combined_zero a rows j h.1 in
    omega (arith, ints)

-- a function of columns is 0 at all pivots
abbrev pub ZeroAtPivots : (ℕ → ℤ) → List (List ℤ) → Type 0
ZeroAtPivots f rows = AllByRecursion (λ row. f (pivot row) ≡ pos 0) rows

-- the first row is left out if its coefficient is 0
without_first : (c : ℤ) (row : List ℤ) (cs : List ℤ) (rows others : List (List ℤ)) → c ≡ pos 0 → ZeroAtPivots (λ j. c *ℤ number_at row j +ℤ combined cs rows j) others → ZeroAtPivots (λ j. combined cs rows j) others
without_first c row cs rows [] none h = tt
without_first c row cs rows (other ∷ others) none h =
    let first = ap (λ z. z *ℤ number_at row (pivot other)) none ∙ zero-*ℤ (number_at row (pivot other)) in
    let here = h.0 in
    (omega (arith, ints), without_first c row cs rows others none h.1)

-- a combination of a form that is 0 at all its pivots is 0
pub combination_zero : (cs : List ℤ) (rows : List (List ℤ)) → IsEchelon rows → AllByRecursion (λ row. pos 0 <ℤ pivot_entry row) rows → ZeroAtPivots (combined cs rows) rows → (j : ℕ) → combined cs rows j ≡ pos 0
combination_zero [] rows echelon leading zeros j = refl
combination_zero (c ∷ cs) [] echelon leading zeros j = refl
combination_zero (c ∷ cs) (row ∷ rows) echelon leading zeros j =
    let others = combined_zero cs rows (pivot row) (later_zero row rows echelon.0) in
    let here = zeros.0 in
    let product : c *ℤ pivot_entry row ≡ pos 0 = omega (arith, ints) in
    let none = zero_factor c (pivot_entry row) product leading.0 in
    let first = ap (λ z. z *ℤ number_at row j) none ∙ zero-*ℤ (number_at row j) in
    let rest = combination_zero cs rows echelon.1 leading.1 (without_first c row cs rows rows none zeros.1) j in
    omega (arith, ints)

-- a positive multiple of the function of columns is a combination of the rows
pub record Spans (rows : List (List ℤ)) (f : ℕ → ℤ) : Type 0 where
  pub multiple : ℕ
  pub positive : 0 < multiple
  pub coefficients : List ℤ
  pub is : (j : ℕ) → pos multiple *ℤ f j ≡ combined coefficients rows j

-- a row in the span, as a function of columns
pub spans_from : (rows : List (List ℤ)) (row : List ℤ) → InSpan rows row → Spans rows (number_at row)
spans_from rows row h = record { multiple = h.multiple; positive = h.positive; coefficients = h.coefficients; is = h.is }

-- and back
pub in_span_from : (rows : List (List ℤ)) (row : List ℤ) → Spans rows (number_at row) → InSpan rows row
in_span_from rows row h = record { multiple = h.multiple; positive = h.positive; coefficients = h.coefficients; is = h.is }

module _ (rows : List (List ℤ)) where
  -- equal functions lie in the same spans
  pub spans_same : (f g : ℕ → ℤ) → ((j : ℕ) → f j ≡ g j) → Spans rows f → Spans rows g
  spans_same f g e h = record { multiple = h.multiple; positive = h.positive; coefficients = h.coefficients; is = λ j. ap (λ z. pos h.multiple *ℤ z) (sym (e j)) ∙ h.is j }

  -- zeros lie in each span
  pub spans_zero : Spans rows (λ j. pos 0)
  spans_zero = record { multiple = 1; positive = omega arith; coefficients = []; is = λ j. *ℤ-zero (pos 1) }

  -- so do multiples of what does
  pub spans_times : (k : ℤ) (f : ℕ → ℤ) → Spans rows f → Spans rows (λ j. k *ℤ f j)
  spans_times k f h = record {
    multiple = h.multiple;
    positive = h.positive;
    coefficients = times k h.coefficients;
    is = λ j. sym (times_assoc (pos h.multiple) k (f j)) ∙ ap (λ z. z *ℤ f j) (*ℤ_comm (pos h.multiple) k) ∙ times_assoc k (pos h.multiple) (f j)
        ∙ ap (λ z. k *ℤ z) (h.is j) ∙ sym (combined-times k h.coefficients rows j);
  }

  -- and sums
  pub spans_add : (f g : ℕ → ℤ) → Spans rows f → Spans rows g → Spans rows (λ j. f j +ℤ g j)
  spans_add f g p q = record {
    multiple = p.multiple * q.multiple;
    positive = mul-pos p.positive q.positive;
    coefficients = both (times (pos q.multiple) p.coefficients) (times (pos p.multiple) q.coefficients);
    is = λ j.
        let left = ap (λ z. z *ℤ f j) (*ℤ_comm (pos p.multiple) (pos q.multiple)) ∙ times_assoc (pos q.multiple) (pos p.multiple) (f j) ∙ ap (λ z. pos q.multiple *ℤ z) (p.is j) ∙ sym (combined-times (pos q.multiple) p.coefficients rows j) in
        let right = times_assoc (pos p.multiple) (pos q.multiple) (g j) ∙ ap (λ z. pos p.multiple *ℤ z) (q.is j) ∙ sym (combined-times (pos p.multiple) q.coefficients rows j) in
        times-add (pos (p.multiple * q.multiple)) (f j) (g j)
        ∙ ap (λ z. z +ℤ pos (p.multiple * q.multiple) *ℤ g j) left ∙ ap (λ z. combined (times (pos q.multiple) p.coefficients) rows j +ℤ z) right
        ∙ sym (combined-both (times (pos q.multiple) p.coefficients) (times (pos p.multiple) q.coefficients) rows j);
  }

  -- and what has a positive multiple in the span
  pub spans_down : (k : ℕ) (f : ℕ → ℤ) → 0 < k → Spans rows (λ j. pos k *ℤ f j) → Spans rows f
  spans_down k f h p = record {
    multiple = p.multiple * k;
    positive = mul-pos p.positive h;
    coefficients = p.coefficients;
    is = λ j. times_assoc (pos p.multiple) (pos k) (f j) ∙ p.is j;
  }

  -- and combinations of rows in the span
  pub spans_combined : (cs : List ℤ) (others : List (List ℤ)) → AllByRecursion (InSpan rows) others → Spans rows (combined cs others)
  spans_combined [] others h = spans_zero
  spans_combined (c ∷ cs) [] h = spans_zero
  spans_combined (c ∷ cs) (row ∷ others) h =
      spans_add (λ j. c *ℤ number_at row j) (combined cs others) (spans_times c (number_at row) (spans_from rows row h.0)) (spans_combined cs others h.1)

-- what lies in the span of rows that lie in the span, lies in the span
pub span_trans : (rows others : List (List ℤ)) (row : List ℤ) → AllByRecursion (InSpan rows) others → InSpan others row → InSpan rows row
span_trans rows others row h span =
    in_span_from rows row (spans_down rows span.multiple (number_at row) span.positive
    (spans_same rows (combined span.coefficients others) (λ j. pos span.multiple *ℤ number_at row j) (λ j. sym (span.is j)) (spans_combined rows span.coefficients others h)))

-- of all rows too
pub span_trans_all : (rows others more : List (List ℤ)) → AllByRecursion (InSpan rows) others → AllByRecursion (InSpan others) more → AllByRecursion (InSpan rows) more
span_trans_all rows others [] h k = tt
span_trans_all rows others (row ∷ more) h k = (span_trans rows others row h k.0, span_trans_all rows others more h k.1)

-- multiples are 0 where a function is
zeros_of : (m : ℤ) (f g : ℕ → ℤ) (rows : List (List ℤ)) → ((j : ℕ) → m *ℤ f j ≡ g j) → ZeroAtPivots f rows → ZeroAtPivots g rows
zeros_of m f g [] is h = tt
zeros_of m f g (row ∷ rows) is h = (sym (is (pivot row)) ∙ ap (λ z. m *ℤ z) h.0 ∙ *ℤ-zero m, zeros_of m f g rows is h.1)

-- what lies in the span and is 0 at all pivots is 0
pub span_zero : (rows : List (List ℤ)) (f : ℕ → ℤ) → IsEchelon rows → AllByRecursion (λ r. pos 0 <ℤ pivot_entry r) rows → Spans rows f → ZeroAtPivots f rows → (j : ℕ) → f j ≡ pos 0
span_zero rows f echelon leading span zeros j =
    let none = combination_zero span.coefficients rows echelon leading (zeros_of (pos span.multiple) f (combined span.coefficients rows) rows span.is zeros) j in
    zero_factor (f j) (pos span.multiple) (*ℤ_comm (f j) (pos span.multiple) ∙ span.is j ∙ none) (let some = span.positive in omega (arith, ints))

-- the first row lies in the span of the rows
pub first_own : (row : List ℤ) (rows : List (List ℤ)) → InSpan (row ∷ rows) row
first_own row rows = record { multiple = 1; positive = omega arith; coefficients = pos 1 ∷ []; is = λ j. sym (+ℤ_idr (pos 1 *ℤ number_at row j)) }

-- a span with one row more has what the span had
pub one_more : (row : List ℤ) (rows : List (List ℤ)) (other : List ℤ) → InSpan rows other → InSpan (row ∷ rows) other
one_more row rows other h = record {
  multiple = h.multiple;
  positive = h.positive;
  coefficients = pos 0 ∷ h.coefficients;
  is = λ j. h.is j ∙ sym (ap (λ z. z +ℤ combined h.coefficients rows j) (zero-*ℤ (number_at row j)) ∙ +ℤ_idl (combined h.coefficients rows j));
}

-- of all rows too
pub one_more_all : (row : List ℤ) (rows others : List (List ℤ)) → AllByRecursion (InSpan rows) others → AllByRecursion (InSpan (row ∷ rows)) others
one_more_all row rows [] h = tt
one_more_all row rows (other ∷ others) h = (one_more row rows other h.0, one_more_all row rows others h.1)

-- rows lie in their own span
pub own : (rows : List (List ℤ)) → AllByRecursion (InSpan rows) rows
own [] = tt
own (row ∷ rows) = (first_own row rows, one_more_all row rows rows (own rows))
