-- The first free column of a row.
use Rattle.std.proofs.Common.{◌≡◌, ◌≢◌, ℕ, zero, suc, ◌+◌, ◌<◌, ◌≤◌, Bool, true, false, cond, ◌||◌, ℤ, pos, List, [], ◌∷◌, length, sym, ap, ◌∙◌, arith, refl}
use Rattle.std.proofs.lemmas.Bool.{or_parts}
use Rattle.audit_types.specs.Truth.{number_at, is_zero}
use Rattle.audit_types.specs.Direction.{is_pivot, first_free}
use Rattle.audit_types.specs.Numbers.{not_zero_from_test}

-- the first free column is not before the place where the search begins
not_before : (form : List (List ℤ)) (row : List ℤ) (j : ℕ) → j ≤ first_free form row j
not_before form [] j = omega arith
not_before form (x ∷ row) j = at_least (is_pivot form j || is_zero x) j (first_free form row (j + 1)) (not_before form row (j + 1))
  where
    at_least : (b : Bool) (j later : ℕ) → j + 1 ≤ later → j ≤ cond b later j
    at_least true j later h = omega arith
    at_least false j later h = omega arith

-- the row is not 0 at its first free column, if it has one
pub first_free_entry : (form : List (List ℤ)) (row : List ℤ) (j k : ℕ) → first_free form row j ≡ j + k → k < length row → number_at row k ≢ pos 0
first_free_entry form [] j k e l = absurd (omega arith)
first_free_entry form (x ∷ row) j k e l =
    by_test (is_pivot form j || is_zero x) refl (λ m later inside. first_free_entry form row (j + 1) m later inside) k e l
  where
    passed : (m : ℕ) → first_free form row (j + 1) ≡ j + m → m < length (x ∷ row) →
        ((i : ℕ) → first_free form row (j + 1) ≡ j + 1 + i → i < length row → number_at row i ≢ pos 0) → number_at (x ∷ row) m ≢ pos 0
    passed zero e l rest = let after = not_before form row (j + 1) in absurd (omega arith)
    passed (suc m) e l rest = rest m (e ∙ omega arith) (omega arith)

    stopped : (m : ℕ) → j ≡ j + m → is_zero x ≡ false → number_at (x ∷ row) m ≢ pos 0
    stopped zero e some = not_zero_from_test x some
    stopped (suc m) e some = absurd (omega arith)

    by_test : (b : Bool) → (is_pivot form j || is_zero x) ≡ b →
        ((i : ℕ) → first_free form row (j + 1) ≡ j + 1 + i → i < length row → number_at row i ≢ pos 0) →
        (m : ℕ) → cond (is_pivot form j || is_zero x) (first_free form row (j + 1)) j ≡ j + m → m < length (x ∷ row) → number_at (x ∷ row) m ≢ pos 0
    by_test true test rest m e l = passed m (ap (λ t. cond t (first_free form row (j + 1)) j) (sym test) ∙ e) l rest
    by_test false test rest m e l = stopped m (ap (λ t. cond t (first_free form row (j + 1)) j) (sym test) ∙ e) (or_parts (is_pivot form j) (is_zero x) test).1
