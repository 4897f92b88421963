-- Rows of zeros and ones.
use Rattle.std.proofs.Common.{◌≡◌, ℕ, zero, suc, ◌+◌, ◌*◌, ◌<◌, ◌≤◌, ◌^◌, Bool, true, false, cond, ℤ, pos, List, [], ◌∷◌, length, set, sym, ap, ◌∙◌, arith, inl, inr}
use Rattle.std.specs.Prelude.{◌*ℤ◌, unsigned_abs}
use Rattle.std.specs.Int.{◌∣◌}
use Rattle.std.specs.List.{AllByRecursion}
use Rattle.std.proofs.Common.{map, get_or, length-set}
use Rattle.std.proofs.lemmas.List.{get_or-map, get_or-set_same, get_or-set_other, length-map, get_or_past}
use Rattle.std.proofs.lemmas.Bool.{cases_eq, cases_lt}
use Rattle.std.proofs.lemmas.Int.{unsigned_abs-mul}
use Rattle.std.proofs.Math.Nat.{dvd-mul_right_of_dvd}
use Rattle.std.proofs.Math.IntN.{*ℤ-zero}
use Rattle.audit_types.specs.Rows.{has_row}
use Rattle.audit_types.specs.Truth.{number_at}
use Rattle.audit_types.specs.Form.{set_row, pivot, pivot_entry, pivot_entries}
use Rattle.sum_basis.specs.Elimination.{IsSmall}
use Rattle.audit_types.specs.PrimitiveLines.{same_rows, number_at-times, times}
use Rattle.audit_types.specs.RowNumbers.{number_at-set_row, length-set_row, all_by_number}

-- the entries below j are written
pub record IsPartlyWritten (n : ℕ) (rows : List ℕ) (row : List ℤ) (j : ℕ) : Type 0 where
  pub done : (k : ℕ) → k < j → number_at row k ≡ cond (has_row rows k) (pos 1) (pos 0)

-- when all are, the row is that of the set
pub all_written : (n : ℕ) (rows : List ℕ) (row : List ℤ) (j : ℕ) → length row ≡ n → n ≤ j → IsPartlyWritten n rows row j → row ≡ set_row n rows
all_written n rows row j l past so_far = same_rows row (set_row n rows) (l ∙ sym (length-set_row n rows)) entry
  where
    entry : (k : ℕ) → number_at row k ≡ number_at (set_row n rows) k
    entry k = elim (cases_lt k n) [
      | inl lt ↦ so_far.done k (omega arith) ∙ sym (number_at-set_row n rows k lt)
      | inr le ↦ get_or_past row k (pos 0) (omega arith) ∙ sym (get_or_past (set_row n rows) k (pos 0) (let all = length-set_row n rows in omega arith))
    ]

-- the entries below j are multiplied, and those from j on as they were
pub record IsPartlyMultiplied (old row : List ℤ) (multiple : ℤ) (j : ℕ) : Type 0 where
  pub done : (k : ℕ) → k < j → number_at row k ≡ multiple *ℤ number_at old k
  pub left : (k : ℕ) → j ≤ k → number_at row k ≡ number_at old k

-- one entry more is multiplied
pub one_more_multiplied : (old row : List ℤ) (multiple : ℤ) (j : ℕ) (v : ℤ) → j < length row → IsPartlyMultiplied old row multiple j →
    v ≡ multiple *ℤ number_at row j → IsPartlyMultiplied old (set row j v) multiple (j + 1)
one_more_multiplied old row multiple j v inside so_far is = record {
  done = λ k h. elim (cases_eq k j) [
    | inl e ↦ rw e (get_or-set_same row j v (pos 0) inside ∙ is ∙ ap (λ z. multiple *ℤ z) (so_far.left j (omega arith)))
    | inr other ↦ get_or-set_other row j k v (pos 0) other ∙ so_far.done k (omega arith)
  ];
  left = λ k h. get_or-set_other row j k v (pos 0) (λ e. omega arith) ∙ so_far.left k (omega arith);
}

-- when all are, the row is the multiple
pub all_multiplied : (old row : List ℤ) (multiple : ℤ) (j : ℕ) → length row ≡ length old → length old ≤ j → IsPartlyMultiplied old row multiple j →
    row ≡ times multiple old
all_multiplied old row multiple j l past so_far = same_rows row (times multiple old) (l ∙ sym (length-map old (λ x. multiple *ℤ x))) entry
  where
    entry : (k : ℕ) → number_at row k ≡ number_at (times multiple old) k
    entry k = elim (cases_lt k (length old)) [
      | inl lt ↦ so_far.done k (omega arith) ∙ sym (number_at-times multiple old k)
      | inr le ↦ get_or_past row k (pos 0) (omega arith)
          ∙ sym (number_at-times multiple old k ∙ ap (λ z. multiple *ℤ z) (get_or_past old k (pos 0) le) ∙ *ℤ-zero multiple)
    ]

-- a product with 0 or 1 is no greater than the factor
product_at_most : (m b limit : ℕ) → m ≤ limit → b ≤ 1 → m * b ≤ limit
product_at_most m zero limit p q = omega arith
product_at_most m (suc zero) limit p q = omega arith
product_at_most m (suc (suc b)) limit p q = absurd (omega arith)

-- a small multiple of a row of zeros and ones has small entries
pub multiple_small : (row : List ℤ) (multiple : ℤ) → ((j : ℕ) → unsigned_abs (number_at row j) ≤ 1) → unsigned_abs multiple ≤ 2 ^ 56 →
    IsSmall (times multiple row)
multiple_small row multiple bits h = all_by_number (λ x. unsigned_abs x ≤ 2 ^ 56) (times multiple row)
    (λ j. rw (number_at-times multiple row j, unsigned_abs-mul multiple (number_at row j))
    (product_at_most (unsigned_abs multiple) (unsigned_abs (number_at row j)) (2 ^ 56) h (bits j)))

-- its entries are at most 1
pub bit_small : (n : ℕ) (rows : List ℕ) (j : ℕ) → unsigned_abs (number_at (set_row n rows) j) ≤ 1
bit_small n rows j = elim (cases_lt j n) [
  | inl lt ↦ rw (number_at-set_row n rows j lt) (bit (has_row rows j))
  | inr le ↦ rw (get_or_past (set_row n rows) j (pos 0) (let all = length-set_row n rows in omega arith)) (omega arith)
]
  where
    bit : (b : Bool) → unsigned_abs (cond b (pos 1) (pos 0)) ≤ 1
    bit true = omega arith
    bit false = omega arith

-- the pivot entries divide a multiple of their common multiple
pub entries_divide : (form : List (List ℤ)) (v : List ℤ) (multiple : ℤ) → AllByRecursion (λ x. x ∣ unsigned_abs multiple) (pivot_entries form) →
    AllByRecursion (λ r. unsigned_abs (pivot_entry r) ∣ unsigned_abs (number_at (times multiple v) (pivot r))) form
entries_divide [] v multiple h = tt
entries_divide (row ∷ form) v multiple h = (
  rw (number_at-times multiple v (pivot row), unsigned_abs-mul multiple (number_at v (pivot row)))
      (dvd-mul_right_of_dvd (unsigned_abs (pivot_entry row)) h.0 (unsigned_abs (number_at v (pivot row)))),
  entries_divide form v multiple h.1,
)

-- a row that is that of a set has zeros and ones
pub set_bits : (n : ℕ) (rows : List ℕ) (row : List ℤ) → row ≡ set_row n rows → (j : ℕ) → unsigned_abs (number_at row j) ≤ 1
set_bits n rows row e j = rw e (bit_small n rows j)

-- the bits below j are written
pub record ArePartlyWritten (bits : List ℕ) (row : List ℤ) (j : ℕ) : Type 0 where
  pub same_length : length row ≡ length bits
  pub done : (k : ℕ) → k < j → number_at row k ≡ number_at (map pos bits) k

-- one bit more is written
pub one_more_bit : (bits : List ℕ) (row : List ℤ) (j : ℕ) (v : ℤ) → j < length row → ArePartlyWritten bits row j → v ≡ pos (get_or bits j 0) →
    ArePartlyWritten bits (set row j v) (j + 1)
one_more_bit bits row j v inside part is = record {
  same_length = length-set row j v ∙ part.same_length;
  done = λ k h. elim (cases_eq k j) [
    | inl e ↦ rw e (get_or-set_same row j v (pos 0) inside ∙ is
        ∙ sym (get_or-map (λ (b : ℕ). pos b) bits j 0 (pos 0) (let same = part.same_length in omega arith)))
    | inr other ↦ get_or-set_other row j k v (pos 0) other ∙ part.done k (omega arith)
  ];
}

-- when all are, the row is theirs
pub all_bits : (bits : List ℕ) (row : List ℤ) (j : ℕ) → length row ≤ j → ArePartlyWritten bits row j → row ≡ map pos bits
all_bits bits row j past part = same_rows row (map pos bits) (part.same_length ∙ sym (length-map bits (λ (b : ℕ). pos b))) (λ k. elim (cases_lt k j) [
  | inl lt ↦ part.done k lt
  | inr le ↦ get_or_past row k (pos 0) (omega arith)
      ∙ sym (get_or_past (map pos bits) k (pos 0) (let all = length-map bits (λ (b : ℕ). pos b) in let same = part.same_length in omega arith))
])

-- bits are at most 1
pub bits_small : (bits : List ℕ) (row : List ℤ) → row ≡ map pos bits → AllByRecursion (λ b. b ≤ 1) bits → (j : ℕ) → unsigned_abs (number_at row j) ≤ 1
bits_small bits row e h j = rw e (at bits j h)
  where
    at : (xs : List ℕ) (k : ℕ) → AllByRecursion (λ b. b ≤ 1) xs → unsigned_abs (number_at (map pos xs) k) ≤ 1
    at [] k g = omega arith
    at (x ∷ xs) zero g = g.0
    at (x ∷ xs) (suc k) g = at xs k g.1
