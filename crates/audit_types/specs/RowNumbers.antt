-- Facts on the numbers of a row: of zeros, of a row with its signs turned, and of the row of a set.
use Rattle.std.proofs.Common.{◌≡◌, ◌≢◌, ℕ, zero, suc, ◌<◌, true, false, cond, ℤ, pos, List, [], ◌∷◌, map, length, refl, arith}
use Rattle.std.specs.Prelude.{neg_ℤ}
use Rattle.std.specs.List.{AllByRecursion, list_all}
use Rattle.std.proofs.lemmas.Bool.{and_parts, false_from_ne_true}
use Rattle.std.proofs.lemmas.List.FromFn.{length-map-range_with_len, get_or-map-range_with_len}
use Rattle.audit_types.specs.Rows.{has_row}
use Rattle.audit_types.specs.Truth.{number_at, is_zero}
use Rattle.audit_types.specs.Form.{set_row}
use Rattle.audit_types.specs.Numbers.{zero_from_test}

-- what holds of the number at each place holds of each entry
pub all_by_number : (P : ℤ → Type 0) (xs : List ℤ) → ((j : ℕ) → P (number_at xs j)) → AllByRecursion P xs
all_by_number P [] h = tt
all_by_number P (x ∷ xs) h = (h 0, all_by_number P xs (λ j. h (suc j)))

-- a row that is all zeros is 0 at each place
pub all_zeros_at : (xs : List ℤ) (j : ℕ) → list_all is_zero xs ≡ true → number_at xs j ≡ pos 0
all_zeros_at [] j h = refl
all_zeros_at (x ∷ xs) zero h = zero_from_test x (and_parts (is_zero x) (list_all is_zero xs) h).0
all_zeros_at (x ∷ xs) (suc j) h = all_zeros_at xs j (and_parts (is_zero x) (list_all is_zero xs) h).1

-- a row with an entry that is not 0 is not all zeros
pub some_entry : (xs : List ℤ) (j : ℕ) → number_at xs j ≢ pos 0 → list_all is_zero xs ≡ false
some_entry xs j h = false_from_ne_true (list_all is_zero xs) (λ e. h (all_zeros_at xs j e))

-- a row with its signs turned
pub number_at-negated : (xs : List ℤ) (j : ℕ) → number_at (map neg_ℤ xs) j ≡ neg_ℤ (number_at xs j)
number_at-negated [] j = refl
number_at-negated (x ∷ xs) zero = refl
number_at-negated (x ∷ xs) (suc j) = number_at-negated xs j

-- the row of a set has 1 at its rows and 0 elsewhere
pub number_at-set_row : (n : ℕ) (rows : List ℕ) (j : ℕ) → j < n → number_at (set_row n rows) j ≡ cond (has_row rows j) (pos 1) (pos 0)
number_at-set_row n rows j h = get_or-map-range_with_len (λ r. cond (has_row rows r) (pos 1) (pos 0)) 0 n j j (pos 0) h (omega arith)

-- it has n entries
pub length-set_row : (n : ℕ) (rows : List ℕ) → length (set_row n rows) ≡ n
length-set_row n rows = length-map-range_with_len (λ r. cond (has_row rows r) (pos 1) (pos 0)) 0 n

-- and so have the rows of all sets
pub lengths_of_sets : (n : ℕ) (sets : List (List ℕ)) → AllByRecursion (λ r. length r ≡ n) (map (set_row n) sets)
lengths_of_sets n [] = tt
lengths_of_sets n (s ∷ sets) = (length-set_row n s, lengths_of_sets n sets)
