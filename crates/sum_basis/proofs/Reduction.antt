-- A row reduced by a form, and the primitive row of its line.
use Rattle.std.proofs.Common.{◌≡◌, ◌≢◌, ℕ, zero, suc, ◌*◌, false, ℤ, pos, negsuc, List, [], ◌∷◌, length, map, refl, sym, ap, ◌∙◌, subst, arith}
use Rattle.std.specs.Prelude.{◌+ℤ◌, ◌*ℤ◌, neg_ℤ, ◌<ℤ◌, unsigned_abs, int_div}
use Rattle.std.specs.Int.{◌∣◌}
use Rattle.std.specs.List.{AllByRecursion, list_all}
use Rattle.std.proofs.lemmas.Int.{ints}
use Rattle.std.proofs.lemmas.List.{length-map}
use Rattle.std.proofs.lemmas.Bool.{MatchBool-at_false, true≢false}
use Rattle.std.proofs.Math.IntN.{*ℤ_comm, *ℤ-zero, pos-*ℤ-pos, negsuc-*ℤ-negsuc}
use Rattle.audit_types.specs.Truth.{number_at, is_zero}
use Rattle.audit_types.specs.Form.{InSpan, IsContent, IsPrimitive, IsEchelon, pivot, pivot_entry}
use Rattle.int_rows.specs.Primitive.{IsSignedContent}
use Rattle.int_rows.specs.Exact.{exact}
use Rattle.int_rows.specs.PrimitiveLaws.{made_primitive, zeros_from}
use Rattle.audit_types.specs.PrimitiveLines.{number_at-times, scaled_content, times}
use Rattle.audit_types.specs.Products.{times_assoc, neg-times}
use Rattle.audit_types.specs.Numbers.{size_above, positive_is}
use Rattle.audit_types.specs.FormRows.{later_zero}
use Rattle.sum_basis.specs.Spans.{spans_from, in_span_from, spans_same, spans_times, spans_add, spans_down, ZeroAtPivots}
use Rattle.sum_basis.specs.Combination.{combine}
use Rattle.sum_basis.specs.CombinedRows.{number_at-combine, length-combine}
use Rattle.std.proofs.Math.Nat.{mul-pos}

-- combinations of rows in the span lie in the span
pub span_combine : (rows : List (List ℤ)) (x : ℤ) (f : List ℤ) (y : ℤ) (g : List ℤ) → InSpan rows f → InSpan rows g → InSpan rows (combine x f y g)
span_combine rows x f y g p q = in_span_from rows (combine x f y g)
    (spans_same rows (λ j. x *ℤ number_at f j +ℤ neg_ℤ y *ℤ number_at g j) (number_at (combine x f y g)) (λ j. sym (number_at-combine x f y g j))
    (spans_add rows (λ j. x *ℤ number_at f j) (λ j. neg_ℤ y *ℤ number_at g j) (spans_times rows x (number_at f) (spans_from rows f p))
    (spans_times rows (neg_ℤ y) (number_at g) (spans_from rows g q))))

-- back from the combination to its first row
pub span_uncombine : (rows : List (List ℤ)) (x : ℤ) (f : List ℤ) (y : ℤ) (g : List ℤ) → pos 0 <ℤ x → InSpan rows (combine x f y g) → InSpan rows g →
    InSpan rows f
span_uncombine rows x f y g h p q =
    let m = positive_is x h in
    in_span_from rows f (spans_down rows m.0 (number_at f) m.2
    (spans_same rows (λ j. number_at (combine x f y g) j +ℤ y *ℤ number_at g j) (λ j. pos m.0 *ℤ number_at f j)
    (λ j. let c = number_at-combine x f y g j in let minus = neg-times y (number_at g j) in
    let left : number_at (combine x f y g) j +ℤ y *ℤ number_at g j ≡ x *ℤ number_at f j = omega (arith, ints) in left ∙ ap (λ z. z *ℤ number_at f j) m.1)
    (spans_add rows (number_at (combine x f y g)) (λ j. y *ℤ number_at g j) (spans_from rows (combine x f y g) p)
    (spans_times rows y (number_at g) (spans_from rows g q)))))

-- a square is the square of the size
square : (b : ℤ) → b *ℤ b ≡ pos (unsigned_abs b * unsigned_abs b)
square (pos m) = pos-*ℤ-pos m m
square (negsuc m) = negsuc-*ℤ-negsuc m m

-- a row of a line lies in the span with any multiple of it that is not 0
pub span_line : (rows : List (List ℤ)) (by : ℤ) (new : List ℤ) → by ≢ pos 0 → InSpan rows (times by new) → InSpan rows new
span_line rows by new n p =
    in_span_from rows new (spans_down rows (unsigned_abs by * unsigned_abs by) (number_at new) (mul-pos (size_above by n) (size_above by n))
    (spans_same rows (λ j. by *ℤ number_at (times by new) j) (λ j. pos (unsigned_abs by * unsigned_abs by) *ℤ number_at new j)
    (λ j. ap (λ z. by *ℤ z) (number_at-times by new j) ∙ sym (times_assoc by by (number_at new j)) ∙ ap (λ z. z *ℤ number_at new j) (square by))
    (spans_times rows by (number_at (times by new)) (spans_from rows (times by new) p))))

-- the row less what the form has at its pivots
abbrev pub reduced_by : List (List ℤ) → List ℤ → List ℤ
reduced_by [] v = v
reduced_by (r ∷ rows) v = reduced_by rows (combine (pivot_entry r) v (number_at v (pivot r)) r)

-- reducing keeps the length
pub length-reduced : (n : ℕ) (rows : List (List ℤ)) (v : List ℤ) → AllByRecursion (λ r. length r ≡ n) rows → length v ≡ n → length (reduced_by rows v) ≡ n
length-reduced n [] v h e = e
length-reduced n (r ∷ rows) v h e =
    length-reduced n rows (combine (pivot_entry r) v (number_at v (pivot r)) r) h.1 (length-combine n (pivot_entry r) v (number_at v (pivot r)) r e h.0)

-- reducing keeps zeros where the form has zeros
stays_zero : (rows : List (List ℤ)) (v : List ℤ) (j : ℕ) → AllByRecursion (λ r. number_at r j ≡ pos 0) rows → number_at v j ≡ pos 0 →
    number_at (reduced_by rows v) j ≡ pos 0
stays_zero [] v j h e = e
stays_zero (r ∷ rows) v j h e = stays_zero rows (combine (pivot_entry r) v (number_at v (pivot r)) r) j h.1
    (number_at-combine (pivot_entry r) v (number_at v (pivot r)) r j ∙ ap (λ z. pivot_entry r *ℤ z +ℤ neg_ℤ (number_at v (pivot r)) *ℤ number_at r j) e
    ∙ ap (λ z. pivot_entry r *ℤ pos 0 +ℤ neg_ℤ (number_at v (pivot r)) *ℤ z) h.0
    ∙ ap (λ z. z +ℤ neg_ℤ (number_at v (pivot r)) *ℤ pos 0) (*ℤ-zero (pivot_entry r)) ∙ ap (λ z. pos 0 +ℤ z) (*ℤ-zero (neg_ℤ (number_at v (pivot r)))))

-- the reduced row is 0 at all pivots
pub reduced_zeros : (rows : List (List ℤ)) (v : List ℤ) → IsEchelon rows → ZeroAtPivots (number_at (reduced_by rows v)) rows
reduced_zeros [] v h = tt
reduced_zeros (r ∷ rows) v h =
    let turned = *ℤ_comm (pivot_entry r) (number_at v (pivot r)) in
    let minus = neg-times (number_at v (pivot r)) (pivot_entry r) in
    let here = number_at-combine (pivot_entry r) v (number_at v (pivot r)) r (pivot r) in
    let first : number_at (combine (pivot_entry r) v (number_at v (pivot r)) r) (pivot r) ≡ pos 0 = omega (arith, ints) in (
      stays_zero rows (combine (pivot_entry r) v (number_at v (pivot r)) r) (pivot r) (later_zero r rows h.0) first,
      reduced_zeros rows (combine (pivot_entry r) v (number_at v (pivot r)) r) h.1,
    )

-- what is reduced lies in a space with the form and the row
pub span_reduced : (span rows : List (List ℤ)) (v : List ℤ) → AllByRecursion (InSpan span) rows → InSpan span v → InSpan span (reduced_by rows v)
span_reduced span [] v h p = p
span_reduced span (r ∷ rows) v h p =
    span_reduced span rows (combine (pivot_entry r) v (number_at v (pivot r)) r) h.1 (span_combine span (pivot_entry r) v (number_at v (pivot r)) r p h.0)

-- and the row in a space with the form and what is reduced
pub span_unreduced : (span rows : List (List ℤ)) (v : List ℤ) → AllByRecursion (InSpan span) rows → AllByRecursion (λ r. pos 0 <ℤ pivot_entry r) rows →
    InSpan span (reduced_by rows v) → InSpan span v
span_unreduced span [] v h l p = p
span_unreduced span (r ∷ rows) v h l p =
    span_uncombine span (pivot_entry r) v (number_at v (pivot r)) r l.0
    (span_unreduced span rows (combine (pivot_entry r) v (number_at v (pivot r)) r) h.1 l.1 p) h.0

-- a content with the sign of the pivot entry
signed : (row : List ℤ) (g : ℕ) → IsContent row g → (z : ℤ) → pivot_entry row ≡ z → (by : ℤ) × IsSignedContent row by × (unsigned_abs by ≡ g)
signed row g content (pos m) e = (pos g, record { content = content; negative = λ h. absurd (omega (arith, ints)); positive = λ h. omega (arith, ints) }, refl)
signed row zero content (negsuc m) e = (pos zero, record { content = content; negative = λ h. omega (arith, ints); positive = λ h. omega (arith, ints) }, refl)
signed row (suc g) content (negsuc m) e =
    (negsuc g, record { content = content; negative = λ h. omega (arith, ints); positive = λ h. absurd (omega (arith, ints)) }, refl)

-- a row over a common divisor of its entries
divided : (by : ℤ) (row : List ℤ) → AllByRecursion (λ x. unsigned_abs by ∣ unsigned_abs x) row → row ≡ times by (map (λ x. int_div x by) row)
divided by [] h = refl
divided by (x ∷ row) h = ap (λ y. y ∷ row) (exact x by h.0) ∙ ap (λ l. (by *ℤ int_div x by) ∷ l) (divided by row h.1)

-- a row that is not all zeros is a multiple of a primitive one
pub primitive_exists : (n : ℕ) (row : List ℤ) → length row ≡ n → list_all is_zero row ≡ false →
    (new : List ℤ) × (by : ℤ) × (by ≢ pos 0) × (row ≡ times by new) × IsPrimitive n new
primitive_exists n row e some =
    let any = scaled_content (pos 1) (omega arith) row in
    let sign = signed row any.0 any.1 (pivot_entry row) refl in
    let by = sign.0 in
    let not_zero : by ≢ pos 0 = λ z.
    true≢false (sym (zeros_from row (subst (λ g. AllByRecursion (λ x. g ∣ unsigned_abs x) row) (ap unsigned_abs z) sign.1.content.divides)) ∙ some) in
    let new = map (λ x. int_div x by) row in
    let is = divided by row sign.1.content.divides in
    let made = made_primitive row new by not_zero sign.1 is in
    let parts = MatchBool-at_false (new ≡ row) (IsContent new 1 × (pos 0 <ℤ pivot_entry new)) some made.primitive in
    (new, by, not_zero, is, record { one_each = length-map row (λ x. int_div x by) ∙ e; content = parts.0; leading = parts.1 })
