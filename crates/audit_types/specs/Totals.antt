-- Facts on totals of the values of a function below n, and on the products of a row with numbers.
use Rattle.std.proofs.Common.{◌≡◌, ◌≢◌, ℕ, zero, suc, ◌+◌, ◌<◌, Bool, true, false, cond, ◌||◌, ◌==◌, ℤ, pos, ◌+ℤ◌, ◌*ℤ◌, List, [], ◌∷◌, ◌++◌, length, map, refl, sym, ap, ◌∙◌, arith, inl, inr}
use Rattle.std.specs.List.{AllByRecursion}
use Rattle.std.proofs.lemmas.Int.{ints}
use Rattle.std.proofs.lemmas.Bool.{cases_eq, eq-eqb, ne_eqb, eqb-true}
use Rattle.std.proofs.Math.IntN.{zero-*ℤ, *ℤ-zero, *ℤ_comm}
use Rattle.audit_types.specs.Rows.{has_row, AreRows, AscendsFrom}
use Rattle.audit_types.specs.RowLaws.{ascends_more}
use Rattle.audit_types.specs.Truth.{number_at, sum_over}
use Rattle.audit_types.specs.Form.{set_row, combined, InSpan}
use Rattle.audit_types.specs.RowNumbers.{number_at-set_row}
use Rattle.audit_types.specs.Products.{add-times, times-add, times_assoc, swapped, zero_factor}

-- the sum of the values below n
abbrev pub total : (ℕ → ℤ) → ℕ → ℤ
total f zero = pos 0
total f (suc n) = total f n +ℤ f n

-- values that agree have one total
pub total-agree : (f g : ℕ → ℤ) (n : ℕ) → ((j : ℕ) → j < n → f j ≡ g j) → total f n ≡ total g n
total-agree f g zero h = refl
total-agree f g (suc n) h =
    let front : total f n ≡ total g n = total-agree f g n (λ j l. h j (omega arith)) in
    let last : f n ≡ g n = h n (omega arith) in
    cc

-- zeros have the total 0
pub total-zero : (f : ℕ → ℤ) (n : ℕ) → ((j : ℕ) → j < n → f j ≡ pos 0) → total f n ≡ pos 0
total-zero f zero h = refl
total-zero f (suc n) h =
    let front : total f n ≡ pos 0 = total-zero f n (λ j l. h j (omega arith)) in
    let last : f n ≡ pos 0 = h n (omega arith) in
    omega (arith, ints)

-- the total of sums
pub total-add : (f g : ℕ → ℤ) (n : ℕ) → total (λ j. f j +ℤ g j) n ≡ total f n +ℤ total g n
total-add f g zero = refl
total-add f g (suc n) = let front = total-add f g n in omega (arith, ints)

-- the total of multiples
pub total-times : (k : ℤ) (f : ℕ → ℤ) (n : ℕ) → total (λ j. k *ℤ f j) n ≡ k *ℤ total f n
total-times k f zero = sym (*ℤ-zero k)
total-times k f (suc n) = let front = total-times k f n in let last = times-add k (total f n) (f n) in omega (arith, ints)

-- if only one value isn't 0, the total is that value
pub total-single : (f : ℕ → ℤ) (n p : ℕ) → p < n → ((j : ℕ) → j < n → j ≢ p → f j ≡ pos 0) → total f n ≡ f p
total-single f zero p l h = absurd (omega arith)
total-single f (suc n) p l h = elim (cases_eq p n) [
  | inl last ↦
      let front : total f n ≡ pos 0 = total-zero f n (λ j m. h j (omega arith) (λ e. omega arith)) in
      let same : f p ≡ f n = ap f last in
      omega (arith, ints)
  | inr earlier ↦
      let front : total f n ≡ f p = total-single f n p (omega arith) (λ j m e. h j (omega arith) e) in
      let last : f n ≡ pos 0 = h n (omega arith) (λ e. earlier (sym e)) in
      omega (arith, ints)
]

-- the products of a row with numbers, added up
abbrev pub product : List ℤ → (ℕ → ℤ) → ℕ → ℤ
product row x n = total (λ j. number_at row j *ℤ x j) n

-- the products of a combination
pub product-combined_with : (row : List ℤ) (a : ℤ) (f : ℕ → ℤ) (b : ℤ) (g : ℕ → ℤ) (n : ℕ) →
    product row (λ i. a *ℤ f i +ℤ b *ℤ g i) n ≡ a *ℤ product row f n +ℤ b *ℤ product row g n
product-combined_with row a f b g n =
    total-agree (λ i. number_at row i *ℤ (a *ℤ f i +ℤ b *ℤ g i)) (λ i. a *ℤ (number_at row i *ℤ f i) +ℤ b *ℤ (number_at row i *ℤ g i)) n
    (λ i l. times-add (number_at row i) (a *ℤ f i) (b *ℤ g i) ∙ ap (λ z. z +ℤ number_at row i *ℤ (b *ℤ g i)) (swapped (number_at row i) a (f i))
    ∙ ap (λ z. a *ℤ (number_at row i *ℤ f i) +ℤ z) (swapped (number_at row i) b (g i)))
    ∙ total-add (λ i. a *ℤ (number_at row i *ℤ f i)) (λ i. b *ℤ (number_at row i *ℤ g i)) n
    ∙ ap (λ z. z +ℤ total (λ i. b *ℤ (number_at row i *ℤ g i)) n) (total-times a (λ i. number_at row i *ℤ f i) n)
    ∙ ap (λ z. a *ℤ product row f n +ℤ z) (total-times b (λ i. number_at row i *ℤ g i) n)

-- one or zero times a number
chosen : (b : Bool) (x : ℤ) → cond b (pos 1) (pos 0) *ℤ x ≡ cond b x (pos 0)
chosen true x = omega (arith, ints)
chosen false x = zero-*ℤ x

-- a choice of two that are apart is the sum of the choices
one_or_rest : (here rest : Bool) (x : ℤ) → (here ≡ true → rest ≡ false) → cond (here || rest) x (pos 0) ≡ cond here x (pos 0) +ℤ cond rest x (pos 0)
one_or_rest true true x apart = absurd (let no = apart refl in cc)
one_or_rest true false x apart = omega (arith, ints)
one_or_rest false rest x apart = omega (arith, ints)

-- what is chosen
picked : (b : Bool) (x : ℤ) → b ≡ true → cond b x (pos 0) ≡ x
picked true x e = refl
picked false x e = absurd cc

-- what is not chosen
left_out : (b : Bool) (x : ℤ) → b ≡ false → cond b x (pos 0) ≡ pos 0
left_out false x e = refl
left_out true x e = absurd cc

-- a row is before the next one
below_next : (r j : ℕ) → (r == j) ≡ true → j < r + 1
below_next r j e = let same = eqb-true r j e in omega arith

-- the total of the numbers over ascending rows is their sum
over_rows : (d : List ℤ) (n low : ℕ) (rows : List ℕ) → AscendsFrom low n rows → total (λ j. cond (has_row rows j) (number_at d j) (pos 0)) n ≡ sum_over d rows
over_rows d n low [] h = total-zero _ n (λ j l. refl)
over_rows d n low (r ∷ rows) h =
    let split = total-agree (λ j. cond ((r == j) || has_row rows j) (number_at d j) (pos 0)) (λ j. cond (r == j) (number_at d j) (pos 0) +ℤ cond (has_row rows j) (number_at d j) (pos 0)) n
    (λ j l. one_or_rest (r == j) (has_row rows j) (number_at d j) (λ e. ascends_more (r + 1) n rows h.2 j (below_next r j e))) in
    let apart = total-add (λ j. cond (r == j) (number_at d j) (pos 0)) (λ j. cond (has_row rows j) (number_at d j) (pos 0)) n in
    let first = total-single (λ j. cond (r == j) (number_at d j) (pos 0)) n r h.1 (λ j l other. left_out (r == j) (number_at d j) (ne_eqb r j (λ e. other (sym e)))) in
    let own = picked (r == r) (number_at d r) (eq-eqb r r refl) in
    let rest = over_rows d n (r + 1) rows h.2 in
    omega (arith, ints)

-- the row of a set times numbers is their sum over the set
pub product-set_row : (d : List ℤ) (n : ℕ) (rows : List ℕ) → AreRows n rows → product (set_row n rows) (number_at d) n ≡ sum_over d rows
product-set_row d n rows h =
    total-agree (λ j. number_at (set_row n rows) j *ℤ number_at d j) (λ j. cond (has_row rows j) (number_at d j) (pos 0)) n
    (λ j l. ap (λ z. z *ℤ number_at d j) (number_at-set_row n rows j l) ∙ chosen (has_row rows j) (number_at d j))
    ∙ over_rows d n 0 rows h

-- rows whose products are 0 combine to a row whose product is 0
pub product-combined : (x : ℕ → ℤ) (n : ℕ) (cs : List ℤ) (rows : List (List ℤ)) → AllByRecursion (λ row. product row x n ≡ pos 0) rows → total (λ j. combined cs rows j *ℤ x j) n ≡ pos 0
product-combined x n [] rows h = total-zero _ n (λ j l. zero-*ℤ (x j))
product-combined x n (c ∷ cs) [] h = total-zero _ n (λ j l. zero-*ℤ (x j))
product-combined x n (c ∷ cs) (row ∷ rows) h =
    let split = total-agree (λ j. (c *ℤ number_at row j +ℤ combined cs rows j) *ℤ x j) (λ j. c *ℤ (number_at row j *ℤ x j) +ℤ combined cs rows j *ℤ x j) n
    (λ j l. add-times (c *ℤ number_at row j) (combined cs rows j) (x j) ∙ ap (λ z. z +ℤ combined cs rows j *ℤ x j) (times_assoc c (number_at row j) (x j))) in
    let apart = total-add (λ j. c *ℤ (number_at row j *ℤ x j)) (λ j. combined cs rows j *ℤ x j) n in
    let first = total-times c (λ j. number_at row j *ℤ x j) n ∙ ap (λ z. c *ℤ z) h.0 ∙ *ℤ-zero c in
    let rest = product-combined x n cs rows h.1 in
    omega (arith, ints)

-- and so does each row of their span
pub product-span : (x : ℕ → ℤ) (n : ℕ) (rows : List (List ℤ)) (row : List ℤ) → AllByRecursion (λ r. product r x n ≡ pos 0) rows → InSpan rows row → product row x n ≡ pos 0
product-span x n rows row h span =
    let whole = total-agree (λ j. pos span.multiple *ℤ (number_at row j *ℤ x j)) (λ j. combined span.coefficients rows j *ℤ x j) n
    (λ j l. sym (times_assoc (pos span.multiple) (number_at row j) (x j)) ∙ ap (λ z. z *ℤ x j) (span.is j)) in
    let none : pos span.multiple *ℤ product row x n ≡ pos 0 = sym (total-times (pos span.multiple) (λ j. number_at row j *ℤ x j) n) ∙ whole ∙ product-combined x n span.coefficients rows h in
    let some = span.positive in
    zero_factor (product row x n) (pos span.multiple) (*ℤ_comm (product row x n) (pos span.multiple) ∙ none) (omega (arith, ints))

-- the products of all rows of the span are 0 too
pub products_in_span : (n : ℕ) (x : ℕ → ℤ) (rows some : List (List ℤ)) → AllByRecursion (λ r. product r x n ≡ pos 0) rows → AllByRecursion (InSpan rows) some →
    AllByRecursion (λ r. product r x n ≡ pos 0) some
products_in_span n x rows [] zeros spans = tt
products_in_span n x rows (r ∷ some) zeros spans = (product-span x n rows r zeros spans.0, products_in_span n x rows some zeros spans.1)

-- numbers with the sum 0 over each set have the product 0 with its row
pub products_from_sums : (n : ℕ) (d : List ℤ) (sets : List (List ℕ)) → AllByRecursion (AreRows n) sets → AllByRecursion (λ s. sum_over d s ≡ pos 0) sets →
    AllByRecursion (λ row. product row (number_at d) n ≡ pos 0) (map (set_row n) sets)
products_from_sums n d [] are zeros = tt
products_from_sums n d (s ∷ sets) are zeros = (product-set_row d n s are.0 ∙ zeros.0, products_from_sums n d sets are.1 zeros.1)

-- and back
pub sums_from_products : (n : ℕ) (d : List ℤ) (sets : List (List ℕ)) → AllByRecursion (AreRows n) sets → AllByRecursion (λ row. product row (number_at d) n ≡ pos 0) (map (set_row n) sets) →
    AllByRecursion (λ s. sum_over d s ≡ pos 0) sets
sums_from_products n d [] are zeros = tt
sums_from_products n d (s ∷ sets) are zeros = (sym (product-set_row d n s are.0) ∙ zeros.0, sums_from_products n d sets are.1 zeros.1)

-- ---- combinations of rows

-- of no rows
pub combined-none : (a : List ℤ) (j : ℕ) → combined a [] j ≡ pos 0
combined-none [] j = refl
combined-none (c ∷ a) j = refl

-- of one row more
pub combined-push : (a : List ℤ) (rows : List (List ℤ)) (row : List ℤ) (j : ℕ) → combined a (rows ++ row ∷ []) j
    ≡ combined a rows j +ℤ number_at a (length rows) *ℤ number_at row j
combined-push [] rows row j = let none = zero-*ℤ (number_at row j) in omega (arith, ints)
combined-push (c ∷ a) [] row j = let none = combined-none a j in omega (arith, ints)
combined-push (c ∷ a) (r ∷ rows) row j = let rest = combined-push a rows row j in omega (arith, ints)
