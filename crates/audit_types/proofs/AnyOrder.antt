-- Rows that are added one after another make the set that has them all.
use Rattle.std.proofs.Common.{◌≡◌, ℕ, Bool, false, ◌||◌, ◌==◌, List, [], ◌∷◌, refl, sym, ap, ◌∙◌, arith}
use Rattle.std.proofs.lemmas.Bool.{true≢false}
use Rattle.std.proofs.lemmas.Bool.Decides.{nat_tests}
use Rattle.audit_types.specs.Rows.{has_row, with_row, rows_that}
use Rattle.audit_types.specs.RowLaws.{rows_that_agree, has-rows_that, has_first}
use Rattle.audit_types.specs.Laws.{with_rows}

-- one row added
one_more : (a : Bool) (r q : ℕ) → (a || (q == r)) ≡ (a || ((r == q) || false))
one_more a r q = grind (arith, nat_tests)

-- a row added before others
more : (a b : Bool) (r q : ℕ) → ((a || (q == r)) || b) ≡ (a || ((r == q) || b))
more a b r q = grind (arith, nat_tests)

-- the set has its own rows and those that were added
with_rows-is : (n : ℕ) (set : List ℕ) (r : ℕ) (rows : List ℕ) → with_rows n set (r ∷ rows) ≡ rows_that (λ q. has_row set q || has_row (r ∷ rows) q) n
with_rows-is n set r [] = rows_that_agree _ _ n (λ q l. one_more (has_row set q) r q)
with_rows-is n set r (x ∷ rows) =
    with_rows-is n (with_row n set r) x rows
    ∙ rows_that_agree _ _ n
    (λ q l. ap (λ b. b || has_row (x ∷ rows) q) (has-rows_that (λ p. has_row set p || (p == r)) n q l) ∙ more (has_row set q) (has_row (x ∷ rows) q) r q)

-- the same rows make the same set
pub same_set : (n : ℕ) (set xs ys : List ℕ) → ((r : ℕ) → has_row xs r ≡ has_row ys r) → with_rows n set xs ≡ with_rows n set ys
same_set n set [] [] h = refl
same_set n set [] (y ∷ ys) h = absurd (true≢false (sym (has_first y ys) ∙ sym (h y)))
same_set n set (x ∷ xs) [] h = absurd (true≢false (sym (has_first x xs) ∙ h x))
same_set n set (x ∷ xs) (y ∷ ys) h =
    with_rows-is n set x xs ∙ rows_that_agree _ _ n (λ q l. ap (λ b. has_row set q || b) (h q)) ∙ sym (with_rows-is n set y ys)
