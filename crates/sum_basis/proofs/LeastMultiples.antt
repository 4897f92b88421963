-- Least common multiples of lists of numbers.
use Rattle.sum_basis.specs.declared.sparse.SparseRow.{SparseRow}
use Rattle.std.proofs.lemmas.List.{map-append}
use Rattle.std.proofs.Common.{◌≡◌, ℕ, zero, suc, ◌<◌, ◌+◌, ◌*◌, ◌/◌, ℤ, pos, negsuc, List, [], ◌∷◌, ◌++◌, ◌≤◌, ◌^◌, length, map, take, get_or, refl, sym, ap, arith, subst}
use Rattle.std.specs.Prelude.{◌<ℤ◌, unsigned_abs}
use Rattle.std.specs.Int.{◌∣◌}
use Rattle.std.specs.List.{AllByRecursion}
use Rattle.std.proofs.lemmas.Int.{ints}
use Rattle.std.proofs.lemmas.List.{take_more}
use Rattle.std.proofs.lemmas.Nat.Gcd.{dvd_trans, dvd_antisymm, le_of_dvd}
use Rattle.std.proofs.Math.Nat.{one-dvd, eq-zero_of_zero-dvd, dvd-mul_left, dvd-mul_right, mul-pos}
use Rattle.audit_types.specs.Form.{IsLeastCommonMultiple, pivot_entry, pivot_entries}
use Rattle.audit_types.specs.PrimitiveLines.{scaled_gcd}
use Rattle.audit_types.specs.ListLaws.{all-push, all-front, all-weaker, all-take}
use Rattle.audit_types.specs.Numbers.{size_positive}
use Rattle.int_rows.specs.Multiples.{least_multiple}

-- of no numbers it is 1
pub least-nil : IsLeastCommonMultiple [] 1
least-nil = record { multiple = tt; least = λ k all. one-dvd k }

-- with one number more it is that of the multiple and the number
pub least-push : (xs : List ℕ) (x m n : ℕ) → IsLeastCommonMultiple xs m → IsLeastCommonMultiple (m ∷ x ∷ []) n → IsLeastCommonMultiple (xs ++ x ∷ []) n
least-push xs x m n first both = record {
  multiple = all-push (λ y. y ∣ n) xs x (all-weaker (λ y. y ∣ m) (λ y. y ∣ n) (λ y h. dvd_trans y h both.multiple.0) xs first.multiple) both.multiple.1.0;
  least = λ k all. let parts = all-front (λ y. y ∣ k) xs x all in both.least k (first.least k parts.0, (parts.1, tt));
}

-- the least common multiple of numbers that are not 0 is not 0
pub least_positive : (a b m : ℕ) → 0 < a → 0 < b → IsLeastCommonMultiple (a ∷ b ∷ []) m → 0 < m
least_positive a b (suc m) p q is = omega arith
least_positive a b zero p q is =
    let product = mul-pos p q in
    let none : a * b ≡ 0 = eq-zero_of_zero-dvd (is.least (a * b) (dvd-mul_right a b, (dvd-mul_left b a, tt))) in
    absurd (omega arith)

-- two numbers have one
least_of_two : (a b : ℕ) → 0 < a → 0 < b → (m : ℕ) × (0 < m) × IsLeastCommonMultiple (a ∷ b ∷ []) m
least_of_two a b p q =
    let any = scaled_gcd 1 (omega arith) (suc b) a b (omega arith) in
    let is = least_multiple a b any.0 p any.1 in
    (a / any.0 * b, least_positive a b (a / any.0 * b) p q is, is)

-- with one number in front it is that of the number and the multiple
least-cons : (x : ℕ) (xs : List ℕ) (m n : ℕ) → IsLeastCommonMultiple xs m → IsLeastCommonMultiple (x ∷ m ∷ []) n → IsLeastCommonMultiple (x ∷ xs) n
least-cons x xs m n rest both = record {
  multiple = (both.multiple.0, all-weaker (λ y. y ∣ m) (λ y. y ∣ n) (λ y h. dvd_trans y h both.multiple.1.0) xs rest.multiple);
  least = λ k all. both.least k (all.0, (rest.least k all.1, tt));
}

-- numbers that are not 0 have a least common multiple
pub least_exists : (xs : List ℕ) → AllByRecursion (λ x. 0 < x) xs → (m : ℕ) × (0 < m) × IsLeastCommonMultiple xs m
least_exists [] h = (1, omega arith, least-nil)
least_exists (x ∷ xs) h =
    let rest = least_exists xs h.1 in
    let both = least_of_two x rest.0 h.0 rest.1 in
    (both.0, both.1, least-cons x xs rest.0 both.0 rest.2 both.2)

-- there is only one
pub least_unique : (xs : List ℕ) (m n : ℕ) → IsLeastCommonMultiple xs m → IsLeastCommonMultiple xs n → m ≡ n
least_unique xs m n p q = dvd_antisymm (p.least n q.multiple) (q.least m p.multiple)

-- a positive number is its size
pub positive_size : (z : ℤ) → pos 0 <ℤ z → z ≡ pos (unsigned_abs z)
positive_size (pos n) h = refl
positive_size (negsuc n) h = absurd (omega (arith, ints))

-- positive pivot entries have sizes above 0
pub entries_positive : (rows : List (List ℤ)) → AllByRecursion (λ r. pos 0 <ℤ pivot_entry r) rows → AllByRecursion (λ x. 0 < x) (pivot_entries rows)
entries_positive [] h = tt
entries_positive (row ∷ rows) h = (size_positive (pivot_entry row) h.0, entries_positive rows h.1)

-- the pivot entries of the first k rows are the first k
pub pivot_entries-take : (rows : List (List ℤ)) (k : ℕ) → pivot_entries (take k rows) ≡ take k (pivot_entries rows)
pivot_entries-take [] zero = refl
pivot_entries-take [] (suc k) = refl
pivot_entries-take (row ∷ rows) zero = refl
pivot_entries-take (row ∷ rows) (suc k) = ap (λ l. unsigned_abs (pivot_entry row) ∷ l) (pivot_entries-take rows k)

-- one row more has one pivot entry more
pub pivot_entries-push : (rows : List (List ℤ)) (row : List ℤ) → pivot_entries (rows ++ row ∷ []) ≡ pivot_entries rows ++ unsigned_abs (pivot_entry row) ∷ []
pivot_entries-push [] row = refl
pivot_entries-push (r ∷ rows) row = ap (λ l. unsigned_abs (pivot_entry r) ∷ l) (pivot_entries-push rows row)

-- the multiple of all is no smaller than that of the first ones
pub passes : (rows : List (List ℤ)) (k m limit : ℕ) → AllByRecursion (λ r. pos 0 <ℤ pivot_entry r) rows →
    IsLeastCommonMultiple (pivot_entries (take k rows)) m → limit < m → (all : ℕ) × IsLeastCommonMultiple (pivot_entries rows) all × (limit < all)
passes rows k m limit leading first more =
    let all = least_exists (pivot_entries rows) (entries_positive rows leading) in
    let divides : m ∣ all.0 = first.least all.0 (subst (AllByRecursion (λ x. x ∣ all.0)) (sym (pivot_entries-take rows k))
    (all-take (λ x. x ∣ all.0) k (pivot_entries rows) all.2.multiple)) in
    let most = le_of_dvd all.1 divides in
    (all.0, all.2, omega arith)

-- the pivot entries of kept rows
abbrev pub heads : List SparseRow → List ℕ
heads rows = map (λ r. unsigned_abs r.head) rows

-- the first k + 1 of them
pub one_more_head : (rows : List SparseRow) (k : ℕ) (r : SparseRow) (m n : ℕ) → k < length rows → r ≡ get_or rows k r →
    IsLeastCommonMultiple (heads (take k rows)) m → IsLeastCommonMultiple (m ∷ unsigned_abs r.head ∷ []) n → IsLeastCommonMultiple (heads (take (k + 1) rows)) n
one_more_head rows k r m n h is first both =
    rw (take_more rows k r h, map-append (λ (x : SparseRow). unsigned_abs x.head) (take k rows) (get_or rows k r ∷ []))
    (least-push (heads (take k rows)) (unsigned_abs (get_or rows k r).head) m n first
    (subst (λ (x : SparseRow). IsLeastCommonMultiple (m ∷ unsigned_abs x.head ∷ []) n) is both))

-- they are above 0
pub heads_positive : (rows : List SparseRow) → AllByRecursion (λ r. (pos 0 <ℤ r.head) × (unsigned_abs r.head ≤ 2 ^ 56)) rows →
    AllByRecursion (λ x. 0 < x) (heads rows)
heads_positive [] h = tt
heads_positive (r ∷ rows) h = (size_positive r.head h.0.0, heads_positive rows h.1)

-- the multiple of all of them is no smaller than that of the first ones
pub passes_list : (rows : List SparseRow) (k m limit : ℕ) → AllByRecursion (λ x. 0 < x) (heads rows) → IsLeastCommonMultiple (heads (take k rows)) m →
    limit < m → (all : ℕ) × IsLeastCommonMultiple (heads rows) all × (limit < all)
passes_list rows k m limit positive first more =
    let all = least_exists (heads rows) positive in
    let divides : m ∣ all.0 = first.least all.0 (taken all.0 rows k all.2.multiple) in
    let most = le_of_dvd all.1 divides in
    (all.0, all.2, omega arith)
  where
    taken : (d : ℕ) (xs : List SparseRow) (i : ℕ) → AllByRecursion (λ x. x ∣ d) (heads xs) → AllByRecursion (λ x. x ∣ d) (heads (take i xs))
    taken d [] zero h = tt
    taken d [] (suc i) h = tt
    taken d (x ∷ xs) zero h = tt
    taken d (x ∷ xs) (suc i) h = (h.0, taken d xs i h.1)
