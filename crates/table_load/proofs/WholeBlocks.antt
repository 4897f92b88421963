-- Sums and greatest numbers over sets, a block of rows at a time.
use Rattle.std.proofs.Common.{◌≡◌, ◌≢◌, ℕ, zero, suc, ◌+◌, ◌*◌, ◌/◌, ◌<◌, ◌≤◌, ◌^◌, Bool, true, false, cond, not, ◌&&◌, ◌||◌, ◌==◌, List, [], ◌∷◌, ◌++◌, map, get_or, refl, sym, ap, ◌∙◌, arith, inl, inr}
use Rattle.std.specs.Prelude.{ℤ, pos, neg_ℤ, ◌+ℤ◌, unsigned_abs, nat_lt}
use Rattle.std.specs.List.{fold}
use Rattle.std.specs.Int.{int_max}
use Rattle.std.proofs.Math.Bool.{and-false, or-false}
use Rattle.std.proofs.lemmas.Int.{ints, clamps}
use Rattle.std.proofs.lemmas.List.{map-append}
use Rattle.std.proofs.lemmas.List.Sums.{fold-append}
use Rattle.std.proofs.lemmas.Bool.{cases_lt, cases_eq, eq-eqb, ne_eqb, lt-ltb, le-ltb, true≢false}
use Rattle.audit_types.specs.Limits.{most_rows, most_answer}
use Rattle.audit_types.specs.Rows.{has_row, rows_that, with_row, AreRows}
use Rattle.audit_types.specs.RowLaws.{rows_that_agree, rows_that_none, rows-again, has-rows_that, AreRows-rows_that, none_above, length-rows}
use Rattle.audit_types.specs.Truth.{number_at, sum_over, greatest_over}
use Rattle.audit_types.specs.declared.shapes.Kind.TheVariants.{Sum}
use Rattle.audit_types.specs.SumLaws.{sum_over-append}
use Rattle.table_load.specs.Cells.{AreNumbers}
use Rattle.table_load.specs.Kept.{block_rows, AreBlocks}
use Rattle.table_load.proofs.AnswerSizes.{sum_small}
use Rattle.table_load.proofs.SetSums.{number_small}

-- the rows of a list that are not in a block
abbrev pub rows_left : ℕ → List ℕ → ℕ → List ℕ
rows_left n rows block = rows_that (λ r. has_row rows r && not (r / 64 == block)) n

-- what passes is what passes a second test too, and what doesn't
sum_split : (w : List ℤ) (p q : ℕ → Bool) (n : ℕ) →
    sum_over w (rows_that p n) ≡ sum_over w (rows_that (λ r. p r && q r) n) +ℤ sum_over w (rows_that (λ r. p r && not (q r)) n)
unfolding rows_that
sum_split w p q zero = omega (arith, ints)
sum_split w p q (suc n) =
    let front = sum_split w p q n in
    let all = sum_over-append w (rows_that p n) (cond (p n) (n ∷ []) []) in
    let both = sum_over-append w (rows_that (λ r. p r && q r) n) (cond (p n && q n) (n ∷ []) []) in
    let alone = sum_over-append w (rows_that (λ r. p r && not (q r)) n) (cond (p n && not (q n)) (n ∷ []) []) in
    let last = one (p n) (q n) in
    omega (arith, ints)
  where
    one : (a b : Bool) → sum_over w (cond a (n ∷ []) []) ≡ sum_over w (cond (a && b) (n ∷ []) []) +ℤ sum_over w (cond (a && not b) (n ∷ []) [])
    one true true = omega (arith, ints)
    one true false = omega (arith, ints)
    one false b = omega (arith, ints)

-- a number that is taken first or last
fold_late : (b x : ℤ) (l : List ℤ) → fold int_max (int_max b x) l ≡ int_max (fold int_max b l) x
fold_late b x [] = refl
fold_late b x (y ∷ l) =
    let turned : int_max (int_max b x) y ≡ int_max (int_max b y) x = omega (arith, ints, clamps) in
    ap (λ z. fold int_max z l) turned ∙ fold_late (int_max b y) x l

-- the greatest of what passes is that of what passes a second test too, and of what doesn't
greatest_split : (f : ℕ → ℤ) (a : ℤ) (p q : ℕ → Bool) (n : ℕ) →
    fold int_max a (map f (rows_that p n)) ≡ fold int_max (fold int_max a (map f (rows_that (λ r. p r && q r) n))) (map f (rows_that (λ r. p r && not (q r)) n))
unfolding rows_that
greatest_split f a p q zero = refl
greatest_split f a p q (suc n) =
    joined a (rows_that p n) (cond (p n) (n ∷ []) [])
    ∙ ap (λ z. fold int_max z (map f (cond (p n) (n ∷ []) []))) (greatest_split f a p q n)
    ∙ one (p n) (q n) (fold int_max a (map f (rows_that (λ r. p r && q r) n))) (map f (rows_that (λ r. p r && not (q r)) n))
    ∙ sym
    (ap (λ z. fold int_max z (map f (rows_that (λ r. p r && not (q r)) n ++ cond (p n && not (q n)) (n ∷ []) [])))
    (joined a (rows_that (λ r. p r && q r) n) (cond (p n && q n) (n ∷ []) []))
    ∙ joined (fold int_max (fold int_max a (map f (rows_that (λ r. p r && q r) n))) (map f (cond (p n && q n) (n ∷ []) [])))
    (rows_that (λ r. p r && not (q r)) n) (cond (p n && not (q n)) (n ∷ []) []))
  where
    joined : (b : ℤ) (xs ys : List ℕ) → fold int_max b (map f (xs ++ ys)) ≡ fold int_max (fold int_max b (map f xs)) (map f ys)
    joined b xs ys = ap (fold int_max b) (map-append f xs ys) ∙ fold-append int_max b (map f xs) (map f ys)

    one : (c d : Bool) (z : ℤ) (l : List ℤ) → fold int_max (fold int_max z l) (map f (cond c (n ∷ []) []))
        ≡ fold int_max (fold int_max (fold int_max z (map f (cond (c && d) (n ∷ []) []))) l) (map f (cond (c && not d) (n ∷ []) []))
    one true true z l = sym (fold_late z (f n) l)
    one true false z l = refl
    one false d z l = refl

-- if a set has a block, its rows in the block are the block's
block_is : (n : ℕ) (rows : List ℕ) (block : ℕ) → ((r : ℕ) → r / 64 ≡ block → has_row rows r ≡ true) →
    rows_that (λ r. has_row rows r && (r / 64 == block)) n ≡ block_rows n block
block_is n rows block whole = rows_that_agree _ _ n (λ r l. elim (cases_eq (r / 64) block) [
  | inl here ↦ ap (λ b. b && (r / 64 == block)) (whole r here)
  | inr other ↦ rw (ne_eqb (r / 64) block other) (and-false (has_row rows r))
])

module _ (n : ℕ) (w : List ℤ) (rows : List ℕ) (block : ℕ) (are : AreRows n rows) (whole : (r : ℕ) → r / 64 ≡ block → has_row rows r ≡ true) where
  -- a sum over a set is that over a block and that over the rows that are left
  pub sum_taken : sum_over w rows ≡ sum_over w (block_rows n block) +ℤ sum_over w (rows_left n rows block)
  sum_taken =
      ap (sum_over w) (sym (rows-again n rows are)) ∙ sum_split w (has_row rows) (λ r. r / 64 == block) n
      ∙ ap (λ l. sum_over w l +ℤ sum_over w (rows_left n rows block)) (block_is n rows block whole)

  -- and so is the greatest number
  pub greatest_taken : (a : ℤ) →
      fold int_max a (map (number_at w) rows) ≡ fold int_max (fold int_max a (map (number_at w) (block_rows n block)))
      (map (number_at w) (rows_left n rows block))
  greatest_taken a =
      ap (λ l. fold int_max a (map (number_at w) l)) (sym (rows-again n rows are)) ∙ greatest_split (number_at w) a (has_row rows) (λ r. r / 64 == block) n
      ∙ ap (λ l. fold int_max (fold int_max a (map (number_at w) l)) (map (number_at w) (rows_left n rows block))) (block_is n rows block whole)

-- a number and the greatest over some rows
pub greatest_joined : (a : ℤ) (w : List ℤ) (rows : List ℕ) → rows ≢ [] → fold int_max a (map (number_at w) rows) ≡ int_max a (greatest_over w rows)
greatest_joined a w [] some = absurd (some refl)
greatest_joined a w (r ∷ rows) some =
    let turned : (x y : ℤ) → int_max x y ≡ int_max y x = λ x y. omega (arith, ints, clamps) in
    let late = fold_late (number_at w r) a (map (number_at w) rows) in
    ap (λ z. fold int_max z (map (number_at w) rows)) (turned a (number_at w r)) ∙ late ∙ turned (greatest_over w (r ∷ rows)) a

-- the greatest over some rows, looked for from the least number on
pub greatest_from_least : (n : ℕ) (w : List ℤ) (rows : List ℕ) → AreNumbers n w → AreRows n rows → rows ≢ [] →
    fold int_max (neg_ℤ (pos (2 ^ 63))) (map (number_at w) rows) ≡ greatest_over w rows
greatest_from_least n w [] numbers are some = absurd (some refl)
greatest_from_least n w (r ∷ rows) numbers are some =
    let small : unsigned_abs (number_at w r) ≤ 10 ^ 12 = number_small n w r numbers are.1 in
    let first : int_max (neg_ℤ (pos (2 ^ 63))) (number_at w r) ≡ number_at w r = omega (arith, ints, clamps) in
    ap (λ z. fold int_max z (map (number_at w) rows)) first

-- the rows of a block that are below a row
abbrev pub rows_below : ℕ → ℕ → ℕ → List ℕ
rows_below n block row = rows_that (λ r. (r / 64 == block) && nat_lt r row) n

-- none is below its first
pub none_below : (n block : ℕ) → rows_below n block (64 * block) ≡ []
none_below n block = rows_that_none _ n (λ r l. elim (cases_eq (r / 64) block) [
  | inl here ↦ rw (eq-eqb (r / 64) block here) (le-ltb r (64 * block) (omega arith))
  | inr other ↦ rw (ne_eqb (r / 64) block other) refl
])

-- and with the next row they are those below the one after it
pub next_below : (n block row : ℕ) (rows : List ℕ) → 64 * block ≤ row → row < 64 * block + 64 → rows ≡ rows_below n block row →
    with_row n rows row ≡ rows_below n block (row + 1)
next_below n block row rows from to are = rows_that_agree _ _ n (λ r l.
    ap (λ b. b || (r == row)) (ap (λ xs. has_row xs r) are ∙ has-rows_that (λ q. (q / 64 == block) && nat_lt q row) n r l) ∙ elim (cases_eq r row) [
      | inl same ↦
          let here : r / 64 ≡ block = omega arith in
          rw (eq-eqb r row same, eq-eqb (r / 64) block here, le-ltb r row (omega arith), lt-ltb r (row + 1) (omega arith)) refl
      | inr other ↦ rw (ne_eqb r row other) (or-false ((r / 64 == block) && nat_lt r row) ∙ ap (λ b. (r / 64 == block) && b) (elim (cases_lt r row) [
        | inl before ↦ lt-ltb r row before ∙ sym (lt-ltb r (row + 1) (omega arith))
        | inr behind ↦ le-ltb r row behind ∙ sym (le-ltb r (row + 1) (omega arith))
      ]))
    ])

-- all are below the first of the next block
pub all_below : (n block row : ℕ) → 64 * block + 64 ≤ row → rows_below n block row ≡ block_rows n block
all_below n block row end = rows_that_agree _ _ n (λ r l. elim (cases_eq (r / 64) block) [
  | inl here ↦ rw (eq-eqb (r / 64) block here) (lt-ltb r row (omega arith))
  | inr other ↦ rw (ne_eqb (r / 64) block other) refl
])

-- a block that the table has whole has a row
pub some_row : (n block : ℕ) → 64 * block + 64 ≤ n → block_rows n block ≢ []
some_row n block whole none =
    let there : has_row (block_rows n block) (64 * block) ≡ true = has-rows_that (λ r. r / 64 == block) n (64 * block) (omega arith)
    ∙ eq-eqb (64 * block / 64) block (omega arith) in
    true≢false (sym there ∙ ap (λ l. has_row l (64 * block)) none)

-- a block that a set has whole is one that the table has whole
pub block_within : (n : ℕ) (rows : List ℕ) (block : ℕ) → AreRows n rows → ((r : ℕ) → r / 64 ≡ block → has_row rows r ≡ true) → 64 * block + 64 ≤ n
block_within n rows block are whole = elim (cases_lt (64 * block + 63) n) [
  | inl below ↦ omega arith
  | inr past ↦ absurd (true≢false (sym (whole (64 * block + 63) (omega arith)) ∙ none_above 0 n rows are (64 * block + 63) past))
]

-- the sum over a block is small
pub block_small : (n : ℕ) (w blocks : List ℤ) (block : ℕ) → n ≤ most_rows → AreNumbers n w → AreBlocks Sum n w blocks → 64 * block + 64 ≤ n →
    unsigned_abs (get_or blocks block (pos 0)) ≤ most_answer
block_small n w blocks block most are sums whole =
    let rows = AreRows-rows_that (λ r. r / 64 == block) n in
    let small = sum_small n 0 w (block_rows n block) are rows in
    let few = length-rows n (block_rows n block) rows in
    let is = sums block whole in
    omega (arith, ints, small, few, is)

-- the sum over any rows is
pub rows_small : (n : ℕ) (w : List ℤ) (rows : List ℕ) → n ≤ most_rows → AreNumbers n w → AreRows n rows → unsigned_abs (sum_over w rows) ≤ most_answer
rows_small n w rows most numbers are =
    let small = sum_small n 0 w rows numbers are in
    let few = length-rows n rows are in
    omega (arith, small, few)

module _ (n : ℕ) (w : List ℤ) (rows after : List ℕ) (block : ℕ) (value : ℤ) (are : AreRows n rows)
    (whole : (r : ℕ) → r / 64 ≡ block → has_row rows r ≡ true) (left : after ≡ rows_left n rows block) where
  -- the sum so far takes a block's
  pub sum_step : (sum : ℤ) → value ≡ sum_over w (block_rows n block) → (sum +ℤ value) +ℤ sum_over w after ≡ sum +ℤ sum_over w rows
  sum_step sum is =
      let taken = sum_taken n w rows block are whole in
      let rest = ap (sum_over w) left in
      omega (arith, ints, taken, rest, is)

  -- the greatest number so far takes a block's
  pub greatest_step : (a : ℤ) → value ≡ greatest_over w (block_rows n block) →
      fold int_max (int_max a value) (map (number_at w) after) ≡ fold int_max a (map (number_at w) rows)
  greatest_step a is =
      ap (λ l. fold int_max (int_max a value) (map (number_at w) l)) left
      ∙ ap (λ z. fold int_max z (map (number_at w) (rows_left n rows block)))
      (ap (int_max a) is ∙ sym (greatest_joined a w (block_rows n block) (some_row n block (block_within n rows block are whole))))
      ∙ sym (greatest_taken n w rows block are whole a)

-- rows stay rows as blocks go
pub are_left : (n : ℕ) (rows after : List ℕ) (block : ℕ) (taken : Bool) → AreRows n rows → after ≡ cond taken (rows_left n rows block) rows → AreRows n after
are_left n rows after block true are left = rw left (AreRows-rows_that (λ r. has_row rows r && not (r / 64 == block)) n)
are_left n rows after block false are left = rw left are
