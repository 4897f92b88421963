-- Rows of zeros and ones, and what short rows leave of them.
use Rattle.std.proofs.Common.{◌≡◌, ◌≢◌, ◌⊎◌, ℕ, ◌+◌, ◌<◌, ◌≤◌, Bool, true, false, cond, ◌||◌, ℤ, pos, List, [], ◌∷◌, ◌++◌, length, set, refl, sym, ap, ◌∙◌, arith, inl, inr, append-nil}
use Rattle.std.specs.Prelude.{◌<ℤ◌, unsigned_abs}
use Rattle.std.specs.Int.{◌∣◌}
use Rattle.std.specs.List.{AllByRecursion}
use Rattle.std.proofs.lemmas.Int.{ints}
use Rattle.std.proofs.lemmas.Bool.{cases_eq, cases_lt, ne_eqb}
use Rattle.std.proofs.lemmas.List.{get_or-set_same, get_or-set_other, get_or_past}
use Rattle.std.proofs.lemmas.Nat.Gcd.{le_of_dvd}
use Rattle.audit_types.specs.Truth.{number_at}
use Rattle.audit_types.specs.Form.{set_row, pivot_entries}
use Rattle.audit_types.specs.ListLaws.{all-weaker}
use Rattle.audit_types.specs.Products.{neg-times, one-times}
use Rattle.audit_types.specs.RowNumbers.{number_at-set_row, length-set_row}
use Rattle.audit_types.specs.Rows.{has_row}
use Rattle.audit_types.specs.WalkLaws.{has_more, has-last}
use Rattle.sum_basis.specs.Combination.{combine}
use Rattle.sum_basis.specs.CombinedRows.{number_at-combine}
use Rattle.sum_basis.specs.Elimination.{IsShortForm}
use Rattle.sum_basis.specs.Limits.{most_short}
use Rattle.sum_basis.specs.Sparse.{row_of, rows_of, entries_of, IsKept, IsShortRow}
use Rattle.sum_basis.specs.declared.sparse.FreeEntry.{FreeEntry}
use Rattle.sum_basis.specs.declared.sparse.SparseRow.{SparseRow}
use Rattle.sum_basis.proofs.SetRows.{all_written}
use Rattle.sum_basis.proofs.Sizes.{within_at}
use Rattle.sum_basis.proofs.SparseRows.{listed_from, pivot_entry-row_of, row_within, values_within}

-- another row is there if it was
has_other : (rows : List ℕ) (r k : ℕ) → r ≢ k → has_row (rows ++ r ∷ []) k ≡ has_row rows k
has_other rows r k other = has_more rows r k ∙ ap (λ b. has_row rows k || (b || false)) (ne_eqb r k other) ∙ nothing_more (has_row rows k)
  where
    nothing_more : (b : Bool) → (b || (false || false)) ≡ b
    nothing_more true = refl
    nothing_more false = refl

-- 1 is written for one row more
pub one_more_one : (row : List ℤ) (rows : List ℕ) (r : ℕ) → r < length row → ((k : ℕ) → number_at row k ≡ cond (has_row rows k) (pos 1) (pos 0)) → (k : ℕ) →
    number_at (set row r (pos 1)) k ≡ cond (has_row (rows ++ r ∷ []) k) (pos 1) (pos 0)
one_more_one row rows r inside done k = elim (cases_eq k r) [
  | inl e ↦ rw e (get_or-set_same row r (pos 1) (pos 0) inside ∙ sym (ap (λ b. cond b (pos 1) (pos 0)) (has-last rows r)))
  | inr other ↦ get_or-set_other row r k (pos 1) (pos 0) other ∙ done k ∙ sym (ap (λ b. cond b (pos 1) (pos 0)) (has_other rows r k (λ e. other (sym e))))
]

-- when it is for all, the row is that of the set
pub all_ones : (n : ℕ) (walked left rows : List ℕ) (row : List ℤ) → length row ≡ n → walked ++ left ≡ rows → left ≡ [] →
    ((k : ℕ) → number_at row k ≡ cond (has_row walked k) (pos 1) (pos 0)) → row ≡ set_row n rows
all_ones n walked left rows row long together none done =
    let all : walked ≡ rows = sym (append-nil walked) ∙ ap (λ l. walked ++ l) (sym none) ∙ together in
    all_written n rows row n long (omega arith) (record { done = λ k h. done k ∙ ap (λ l. cond (has_row l k) (pos 1) (pos 0)) all })

-- its numbers are 0 and 1
pub bit_of : (n : ℕ) (rows : List ℕ) (j : ℕ) → (number_at (set_row n rows) j ≡ pos 0) ⊎ (number_at (set_row n rows) j ≡ pos 1)
bit_of n rows j = elim (cases_lt j n) [
  | inl lt ↦ rw (number_at-set_row n rows j lt) (bit (has_row rows j))
  | inr le ↦ inl (get_or_past (set_row n rows) j (pos 0) (let all = length-set_row n rows in omega arith))
]
  where
    bit : (b : Bool) → (cond b (pos 1) (pos 0) ≡ pos 0) ⊎ (cond b (pos 1) (pos 0) ≡ pos 1)
    bit true = inr refl
    bit false = inl refl

-- taken once, a short row changes no number by more than its greatest entry
pub near_after : (n : ℕ) (r : SparseRow) (old new : List ℤ) → IsKept n r → IsShortRow r → length old ≡ n
    → new ≡ combine (pos 1) (set old r.pivot (pos 0)) (pos 1) (row_of n r.free.items) → (j : ℕ) →
    unsigned_abs (number_at new j) ≤ unsigned_abs (number_at old j) + most_short
near_after n r old new kept short long e j =
    let row = row_of n r.free.items in
    let is = ap (λ l. number_at l j) e ∙ number_at-combine (pos 1) (set old r.pivot (pos 0)) (pos 1) row j in
    let once = one-times (number_at (set old r.pivot (pos 0)) j) in
    let minus = neg-times (pos 1) (number_at row j) in
    let other = one-times (number_at row j) in
    let listed = listed_from (r.pivot + 1) 0 n r.free.items (omega arith) kept.listed.3 in
    let small = within_at most_short row j (row_within most_short n r.free.items listed short.1) in
    let before = at_most j in
    omega (arith, ints)
  where
    at_most : (k : ℕ) → unsigned_abs (number_at (set old r.pivot (pos 0)) k) ≤ unsigned_abs (number_at old k)
    at_most k = elim (cases_eq k r.pivot) [
      | inl e ↦
          let inside = kept.listed.1 in
          rw (ap (number_at (set old r.pivot (pos 0))) e ∙ get_or-set_same old r.pivot (pos 0) (pos 0) (omega arith)) (omega arith)
      | inr apart ↦ rw (get_or-set_other old r.pivot k (pos 0) (pos 0) apart) (omega arith)
    ]

-- the kept rows of a short form are short
pub short_rows : (n : ℕ) (rows : List SparseRow) → AllByRecursion (IsKept n) rows → IsShortForm (rows_of n rows) → AllByRecursion IsShortRow rows
short_rows n [] kept short = tt
short_rows n (r ∷ rows) kept short = (
  (
    sym (pivot_entry-row_of 0 n (record { place = r.pivot; value = r.head }) r.free.items kept.0.listed) ∙ short.0.0,
    (values_within most_short n (entries_of r) kept.0.listed short.0.1).1,
  ),
  short_rows n rows kept.1 short.1,
)

-- a positive number that divides 1 is 1
one : (h : ℤ) → pos 0 <ℤ h → unsigned_abs h ∣ 1 → h ≡ pos 1
one h positive divides = let at_most = le_of_dvd (omega arith) divides in omega (arith, ints)

-- a form is short whose common multiple is 1, if no row has a bound above that of a short entry
pub short_form : (n : ℕ) (rows : List SparseRow) (greatest : ℕ) → AllByRecursion (IsKept n) rows → AllByRecursion (λ x. x ∣ 1) (pivot_entries (rows_of n rows))
    → AllByRecursion (λ r. r.most ≤ greatest) rows → greatest ≤ most_short → IsShortForm (rows_of n rows)
short_form n [] greatest kept divides bounded less = tt
short_form n (r ∷ rows) greatest kept divides bounded less =
    let head = pivot_entry-row_of 0 n (record { place = r.pivot; value = r.head }) r.free.items kept.0.listed in
    let most = bounded.0 in (
      (
        head ∙ one r.head kept.0.leading (rw (sym head) divides.0),
        row_within most_short n (entries_of r) kept.0.listed
            (all-weaker (λ (e : FreeEntry). unsigned_abs e.value ≤ r.most) (λ (e : FreeEntry). unsigned_abs e.value ≤ most_short) (λ e h. omega arith)
            (entries_of r) kept.0.bounded),
      ),
      short_form n rows greatest kept.1 divides.1 bounded.1 less,
    )
