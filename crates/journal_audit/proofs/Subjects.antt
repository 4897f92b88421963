-- The subjects of a report, one column and one row at a time.
use Rattle.std.proofs.Common.{◌≡◌, ℕ, zero, suc, ◌+◌, ◌-◌, ◌<◌, ◌≤◌, List, [], ◌∷◌, ◌++◌, sym, ap, ◌∙◌, arith, append_assoc, map, add-zero, zero-add, add-one}
use Rattle.std.specs.List.{flat_map, range_with_len}
use Rattle.std.proofs.lemmas.List.{append-nil, map-append}
use Rattle.std.proofs.lemmas.Grind.{flat_map-append}
use Rattle.audit_types.specs.declared.shapes.Shape.{Shape}
use Rattle.audit_types.specs.Shapes.{kind_at}
use Rattle.journal_audit.specs.Reports.{Subject, row_of, subjects_of, subjects_before}

-- the first rows of a column of sums
abbrev pub rows_before : ℕ → ℕ → List Subject
rows_before column count = map (row_of column) (range_with_len 0 count)

-- numbers in order, one more
range_more : (a n : ℕ) → range_with_len a (n + 1) ≡ range_with_len a n ++ (a + n) ∷ []
range_more a zero = ap (λ k. k ∷ []) (sym (add-zero a))
range_more a (suc n) =
    ap (range_with_len a) (add-one (suc n))
    ∙ ap (λ l. a ∷ l) (ap (range_with_len (a + 1)) (sym (add-one n)) ∙ range_more (a + 1) n ∙ ap (λ k. range_with_len (a + 1) n ++ k ∷ []) (omega arith))

-- what is about the first of something, one more
first_more : (f : ℕ → List Subject) (count : ℕ) → flat_map f (range_with_len 0 (count + 1)) ≡ flat_map f (range_with_len 0 count) ++ f count
first_more f count =
    ap (flat_map f) (range_more 0 count) ∙ flat_map-append f (range_with_len 0 count) ((0 + count) ∷ [])
    ∙ ap (λ k. flat_map f (range_with_len 0 count) ++ flat_map f (k ∷ [])) (zero-add count)
    ∙ ap (λ l. flat_map f (range_with_len 0 count) ++ l) (append-nil (f count))

-- one row more
pub rows_before-more : (column count : ℕ) → rows_before column (count + 1) ≡ rows_before column count ++ row_of column count ∷ []
rows_before-more column count =
    ap (map (row_of column)) (range_more 0 count) ∙ map-append (row_of column) (range_with_len 0 count) ((0 + count) ∷ [])
    ∙ ap (λ k. rows_before column count ++ row_of column k ∷ []) (zero-add count)

-- one column more
pub subjects_before-more : (shape : Shape) (count : ℕ) →
    subjects_before shape (count + 1) ≡ subjects_before shape count ++ subjects_of shape count (kind_at shape count)
subjects_before-more shape count = first_more (λ column. subjects_of shape column (kind_at shape column)) count

-- what stands after the first of something that grows
after_first : (f : ℕ → List Subject) → ((n : ℕ) → (more : List Subject) × (f (n + 1) ≡ f n ++ more)) → (n m : ℕ) →
    (others : List Subject) × (f (n + m) ≡ f n ++ others)
after_first f grows n zero = ([], ap f (add-zero n) ∙ sym (append-nil (f n)))
after_first f grows n (suc m) =
    let so_far = after_first f grows n m in
    let one = grows (n + m) in
    let count : n + suc m ≡ n + m + 1 = omega arith in
    (so_far.0 ++ one.0, ap f count ∙ one.1 ∙ ap (λ l. l ++ one.0) so_far.1 ∙ append_assoc (f n) so_far.0 one.0)

-- rows after the first ones
pub rows_after : (column n m : ℕ) → n ≤ m → (others : List Subject) × (rows_before column m ≡ rows_before column n ++ others)
rows_after column n m le =
    let count : n + (m - n) ≡ m = omega (arith, le) in
    let all = after_first (rows_before column) (λ k. (row_of column k ∷ [], rows_before-more column k)) n (m - n) in
    (all.0, ap (rows_before column) (sym count) ∙ all.1)

-- columns after the first ones
pub columns_after : (shape : Shape) (n m : ℕ) → n ≤ m →
    (others : List Subject) × (subjects_before shape m ≡ subjects_before shape n ++ others)
columns_after shape n m le =
    let count : n + (m - n) ≡ m = omega (arith, le) in
    let all = after_first (subjects_before shape)
    (λ k. (subjects_of shape k (kind_at shape k), subjects_before-more shape k)) n (m - n) in
    (all.0, ap (subjects_before shape) (sym count) ∙ all.1)

-- a column among all columns
pub column_among : (shape : Shape) (column count : ℕ) → column < count →
    (others : List Subject) × (subjects_before shape count
    ≡ subjects_before shape column ++ subjects_of shape column (kind_at shape column) ++ others)
column_among shape column count below =
    let rest = columns_after shape (column + 1) count (omega (arith, below)) in
    (rest.0, rest.1 ∙ ap (λ l. l ++ rest.0) (subjects_before-more shape column))
