-- The numbers at the pivots, written one after another.
use Rattle.std.proofs.Common.{◌≡◌, ◌≢◌, ℕ, zero, suc, ◌+◌, ◌*◌, ◌/◌, ◌^◌, ◌<◌, ◌≤◌, Bool, true, false, ◌||◌, ◌==◌, ℤ, pos, negsuc, List, [], ◌∷◌, ◌++◌, length, get_or, set, take, refl, sym, ap, ◌∙◌, subst, arith, to_z, of_z}
use Rattle.std.specs.Prelude.{◌*ℤ◌, ◌-ℤ◌, neg_ℤ, ◌<ℤ◌, unsigned_abs, FitsSigned}
use Rattle.std.specs.Int.{w128, ◌∣◌}
use Rattle.std.specs.List.{AllByRecursion}
use Rattle.std.proofs.Math.Nat.{mul-le-mul}
use Rattle.std.proofs.Math.IntN.{pos-*ℤ-pos}
use Rattle.std.proofs.lemmas.Bool.{eq-eqb, or_parts}
use Rattle.std.proofs.lemmas.Int.{ints, to_z-of_z, to_z_pos, unsigned_abs-mul, fits_signed_from_abs}
use Rattle.std.proofs.lemmas.List.{get_or-set_same, get_or-set_other, take_more, length-set}
use Rattle.std.proofs.lemmas.Nat.{div-add-mod'}
use Rattle.std.proofs.lemmas.Nat.Gcd.{mod-eq-zero_of_dvd}
use Rattle.audit_types.specs.Truth.{number_at}
use Rattle.audit_types.specs.Form.{pivot, pivot_entry, pivot_entries}
use Rattle.audit_types.specs.Direction.{is_pivot}
use Rattle.audit_types.specs.Products.{neg-times, times_assoc}
use Rattle.audit_types.specs.Numbers.{zero_less}
use Rattle.audit_types.specs.ListLaws.{all-push, all-set}
use Rattle.audit_types.specs.RowNumbers.{all_by_number}
use Rattle.witness_build.specs.Directions.{IsForm, Solves, IsSolvedWith}
use Rattle.witness_build.proofs.FormRows.{is_pivot_at, other_pivots, is_pivot-more}

-- how often the pivot entry goes into the common multiple
pub record IsQuotient (common pivot_entry : ℤ) (times : ℕ) : Type 0 where
  pub product : pos times *ℤ pivot_entry ≡ common
  pub small : times ≤ 2 ^ 56

pub quotient : (common lead : ℤ) (a b : ℕ) → pos 0 <ℤ common → pos 0 <ℤ lead → unsigned_abs common ≤ 2 ^ 56 → unsigned_abs lead ∣ unsigned_abs common →
    a ≡ unsigned_abs common → b ≡ unsigned_abs lead → IsQuotient common lead (a / b)
quotient (pos m) (pos p) a b h k small divides e f = subst (λ x. IsQuotient (pos m) (pos p) (x / b)) (sym e)
    (subst (λ y. IsQuotient (pos m) (pos p) (m / y)) (sym f) (record {
      product =
          let whole = div-add-mod' m p in
          let none = mod-eq-zero_of_dvd p divides in
          pos-*ℤ-pos (m / p) p ∙ ap pos (omega arith);
      small =
          let whole = div-add-mod' m p in
          let positive : 0 < p = omega (arith, ints) in
          at_most (m / p) p m (omega arith) positive small;
    }))
  where
    at_most : (q p m : ℕ) → q * p ≤ m → 0 < p → m ≤ 2 ^ 56 → q ≤ 2 ^ 56
    at_most q zero m l h s = absurd (omega arith)
    at_most q (suc p) m l h s = omega arith
quotient (negsuc m) lead a b h k small divides e f = absurd (omega (arith, ints))
quotient (pos m) (negsuc p) a b h k small divides e f = absurd (omega (arith, ints))

-- what the code writes at a pivot
pub record IsSolution (entry lead common : ℤ) (x : ℤ) : Type 0 where
  pub exact : x *ℤ lead ≡ neg_ℤ (entry *ℤ common)
  pub small : unsigned_abs x ≤ 2 ^ 112

module _ (entry : ℤ) (times : ℕ) (fits : FitsSigned w128 entry) (small : unsigned_abs entry ≤ 2 ^ 56) (few : times ≤ 2 ^ 56) where
  size : unsigned_abs (entry *ℤ pos times) ≤ 2 ^ 112
  size = rw (unsigned_abs-mul entry (pos times)) (mul-le-mul {n₂ = 2 ^ 56} {m₂ = 2 ^ 56} small few)

  product_is : to_z w128 (of_z w128 entry) *ℤ to_z w128 times ≡ entry *ℤ pos times
  product_is = ap (λ z. z *ℤ to_z w128 times) (to_z-of_z w128 entry fits) ∙ ap (λ z. entry *ℤ z) (to_z_pos w128 times (omega arith))

  pub product_fits : FitsSigned w128 (to_z w128 (of_z w128 entry) *ℤ to_z w128 times)
  product_fits = rw product_is (fits_signed_from_abs w128 (entry *ℤ pos times) (let s = size in omega arith))

  product_read : to_z w128 (of_z w128 (to_z w128 (of_z w128 entry) *ℤ to_z w128 times)) ≡ entry *ℤ pos times
  product_read = to_z-of_z w128 (to_z w128 (of_z w128 entry) *ℤ to_z w128 times) product_fits ∙ product_is

  size_turned : (z : ℤ) → unsigned_abs z ≤ 2 ^ 112 → unsigned_abs (pos 0 -ℤ z) ≤ 2 ^ 112
  size_turned z h = omega (arith, ints)

  pub turned_fits : FitsSigned w128 (pos 0 -ℤ to_z w128 (of_z w128 (to_z w128 (of_z w128 entry) *ℤ to_z w128 times)))
  turned_fits = rw product_read (fits_signed_from_abs w128 (pos 0 -ℤ entry *ℤ pos times) (let s = size_turned (entry *ℤ pos times) size in omega arith))

  turned_is : to_z w128 (of_z w128 (pos 0 -ℤ to_z w128 (of_z w128 (to_z w128 (of_z w128 entry) *ℤ to_z w128 times)))) ≡ pos 0 -ℤ entry *ℤ pos times
  turned_is = to_z-of_z w128 (pos 0 -ℤ to_z w128 (of_z w128 (to_z w128 (of_z w128 entry) *ℤ to_z w128 times))) turned_fits ∙ ap (λ z. pos 0 -ℤ z) product_read

  solution_at : (lead common : ℤ) → IsQuotient common lead times → IsSolution entry lead common (pos 0 -ℤ entry *ℤ pos times)
  solution_at lead common q = record {
    exact =
        ap (λ z. z *ℤ lead) (zero_less (entry *ℤ pos times)) ∙ neg-times (entry *ℤ pos times) lead
        ∙ ap neg_ℤ (times_assoc entry (pos times) lead ∙ ap (λ z. entry *ℤ z) q.product);
    small = size_turned (entry *ℤ pos times) size;
  }

  pub solution_is : (lead common : ℤ) → IsQuotient common lead times →
      IsSolution entry lead common (to_z w128 (of_z w128 (pos 0 -ℤ to_z w128 (of_z w128 (to_z w128 (of_z w128 entry) *ℤ to_z w128 times)))))
  solution_is lead common q = rw turned_is (solution_at lead common q)

-- the pivot entry of a row divides a common multiple
pub divides_at : (form : List (List ℤ)) (m k : ℕ) → AllByRecursion (λ x. x ∣ m) (pivot_entries form) → k < length form →
    unsigned_abs (pivot_entry (get_or form k [])) ∣ m
divides_at [] m k h l = absurd (omega arith)
divides_at (row ∷ rows) m zero h l = h.0
divides_at (row ∷ rows) m (suc k) h l = divides_at rows m k h.1 (omega arith)

-- with the common multiple at the free column alone, no row is solved yet
pub solving_begins : (n : ℕ) (common : ℤ) (free : ℕ) (d : List ℤ) → length d ≡ n → ((j : ℕ) → number_at d j ≡ pos 0) → free < n → unsigned_abs common ≤ 2 ^ 56 →
    IsSolvedWith n common [] free (set d free common)
solving_begins n common free d e zeros below small = record {
  one_each = length-set d free common ∙ e;
  at_free = get_or-set_same d free common (pos 0) (omega arith);
  solves = tt;
  elsewhere = λ j none other. get_or-set_other d free j common (pos 0) other ∙ zeros j;
  small =
      all-set (λ y. unsigned_abs y ≤ 2 ^ 112) d free common (all_by_number (λ y. unsigned_abs y ≤ 2 ^ 112) d
      (λ j. let none = ap unsigned_abs (zeros j) in omega arith)) (omega arith);
}

still_solves : (d : List ℤ) (common : ℤ) (free p : ℕ) (x : ℤ) (rows : List (List ℤ)) → AllByRecursion (λ r. pivot r ≢ p) rows →
    AllByRecursion (Solves d common free) rows → AllByRecursion (Solves (set d p x) common free) rows
still_solves d common free p x [] h k = tt
still_solves d common free p x (r ∷ rows) h k =
    (ap (λ z. z *ℤ pivot_entry r) (get_or-set_other d p (pivot r) x (pos 0) h.0) ∙ k.0, still_solves d common free p x rows h.1 k.1)

-- one row more is solved
solved_more : (n : ℕ) (common : ℤ) (rows : List (List ℤ)) (row : List ℤ) (free p : ℕ) (d : List ℤ) (x : ℤ) → p ≡ pivot row → p < n → free ≢ p →
    AllByRecursion (λ r. pivot r ≢ p) rows → IsSolvedWith n common rows free d → IsSolution (number_at row free) (pivot_entry row) common x →
    IsSolvedWith n common (rows ++ row ∷ []) free (set d p x)
solved_more n common rows row free p d x e below apart others so_far is = record {
  one_each = length-set d p x ∙ so_far.one_each;
  at_free = get_or-set_other d p free x (pos 0) apart ∙ so_far.at_free;
  solves = all-push (Solves (set d p x) common free) rows row (still_solves d common free p x rows others so_far.solves)
      (ap (λ z. z *ℤ pivot_entry row) (ap (number_at (set d p x)) (sym e) ∙ get_or-set_same d p x (pos 0) (let long = so_far.one_each in omega arith))
      ∙ is.exact);
  elsewhere = λ j none other.
      let neither = sym (is_pivot-more rows row j) ∙ none in
      let here = (or_parts (pivot row == j) false (or_parts (is_pivot rows j) (pivot row == j || false) neither).1).0 in
      get_or-set_other d p j x (pos 0) (λ same. absurd (different (pivot row == j) here (eq-eqb (pivot row) j (sym e ∙ sym same))))
      ∙ so_far.elsewhere j (or_parts (is_pivot rows j) (pivot row == j || false) neither).0 other;
  small = all-set (λ y. unsigned_abs y ≤ 2 ^ 112) d p x so_far.small is.small;
}
  where
    different : (b : Bool) → b ≡ false → b ≡ true → ⊥
    different true f t = cc
    different false f t = cc

pub row_solved : (n : ℕ) (common : ℤ) (form : List (List ℤ)) (k free p : ℕ) (d : List ℤ) (x : ℤ) → IsForm n form → k < length form →
    is_pivot form free ≡ false → p ≡ pivot (get_or form k []) → p < n → IsSolvedWith n common (take k form) free d →
    IsSolution (number_at (get_or form k []) free) (pivot_entry (get_or form k [])) common x → IsSolvedWith n common (take (k + 1) form) free (set d p x)
row_solved n common form k free p d x h l none e below so_far is =
    subst (λ rows. IsSolvedWith n common rows free (set d p x)) (sym (take_more form k [] l))
    (solved_more n common (take k form) (get_or form k []) free p d x e below apart
    (subst (λ q. AllByRecursion (λ r. pivot r ≢ q) (take k form)) (sym e) (other_pivots form k h.echelon l)) so_far is)
  where
    apart : free ≢ p
    apart same = let there = is_pivot_at form k l in let at_free : is_pivot form free ≡ true = ap (is_pivot form) (same ∙ e) ∙ there in absurd cc

pub common_small : (x : ℤ) (m : ℕ) → x ≡ pos m → m ≤ 2 ^ 56 → unsigned_abs x ≤ 2 ^ 56
common_small x m e h = let size = ap unsigned_abs e in omega arith

pub common_positive : (x : ℤ) (m : ℕ) → FitsSigned w128 x → x ≡ pos m → 0 < m → pos 0 <ℤ to_z w128 (of_z w128 x)
common_positive x m fits e h = rw (to_z-of_z w128 x fits) (omega (arith, ints))

pub divides_of : (form : List (List ℤ)) (k p m : ℕ) (x y : ℤ) → FitsSigned w128 x → FitsSigned w128 y → x ≡ number_at (get_or form k []) p →
    p ≡ pivot (get_or form k []) → y ≡ pos m → AllByRecursion (λ z. z ∣ m) (pivot_entries form) → k < length form →
    unsigned_abs (to_z w128 (of_z w128 x)) ∣ unsigned_abs (to_z w128 (of_z w128 y))
divides_of form k p m x y fx fy ex e ey all l =
    let entry = ap unsigned_abs (to_z-of_z w128 x fx ∙ ex ∙ ap (number_at (get_or form k [])) e) in
    let common = ap unsigned_abs (to_z-of_z w128 y fy ∙ ey) in
    subst (λ u. u ∣ unsigned_abs (to_z w128 (of_z w128 y))) (sym entry)
    (subst (λ v. unsigned_abs (pivot_entry (get_or form k [])) ∣ v) (sym common) (divides_at form m k all l))

-- the solution as the code reads it
pub solution_read : (row : List ℤ) (free p : ℕ) (x e l common : ℤ) → FitsSigned w128 x → FitsSigned w128 e → FitsSigned w128 l →
    x *ℤ to_z w128 (of_z w128 l) ≡ neg_ℤ (to_z w128 (of_z w128 e) *ℤ common) → unsigned_abs x ≤ 2 ^ 112 → e ≡ number_at row free → l ≡ number_at row p →
    p ≡ pivot row →
    IsSolution (number_at row free) (pivot_entry row) common (to_z w128 (of_z w128 x))
solution_read row free p x e l common fx fe fl exact small entry lead at =
    let first = to_z-of_z w128 e fe ∙ entry in
    let second = to_z-of_z w128 l fl ∙ lead ∙ ap (number_at row) at in
    rw (to_z-of_z w128 x fx) (record {
      exact = ap (λ z. x *ℤ z) (sym second) ∙ exact ∙ ap (λ z. neg_ℤ (z *ℤ common)) first;
      small = small;
    })

take_past : (form : List (List ℤ)) (k : ℕ) → length form ≤ k → take k form ≡ form
take_past [] zero h = refl
take_past [] (suc k) h = refl
take_past (row ∷ rows) zero h = absurd (omega arith)
take_past (row ∷ rows) (suc k) h = ap (λ l. row ∷ l) (take_past rows k (omega arith))

-- after the last row all are solved
pub all_solved : (n : ℕ) (common : ℤ) (form : List (List ℤ)) (k free : ℕ) (d : List ℤ) → length form ≤ k → IsSolvedWith n common (take k form) free d →
    IsSolvedWith n common form free d
all_solved n common form k free d h so_far = subst (λ rows. IsSolvedWith n common rows free d) (take_past form k h) so_far
