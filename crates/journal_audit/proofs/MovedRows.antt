-- The numbers of a direction that aren't 0, one number more.
use Rattle.std.proofs.Common.{◌≡◌, ◌≢◌, ℕ, suc, ◌+◌, ◌<◌, ℤ, pos, Bool, true, false, cond, List, [], ◌∷◌, ◌++◌, length, get_or, take, sym, ap, ◌∙◌, add-zero, arith}
use Rattle.std.proofs.lemmas.List.{append-nil, take_more, length-take-le}
use Rattle.audit_types.specs.Truth.{is_zero}
use Rattle.audit_types.specs.Numbers.{test_of_not_zero}
use Rattle.line_wire.specs.CommaLists.{at_place}
use Rattle.journal_audit.specs.Texts.{moved_rows}

cond_tail : (b : Bool) (head : List ℕ) (rest more tail : List (List ℕ)) → rest ≡ more ++ tail → cond b rest (head ∷ rest) ≡ cond b more (head ∷ more) ++ tail
cond_tail true head rest more tail same = same
cond_tail false head rest more tail same = ap (λ l. head ∷ l) same

-- the numbers that aren't 0, one number more
moved_rows-snoc : (row : ℕ) (xs : List ℤ) (x : ℤ) → moved_rows row (xs ++ x ∷ []) ≡ moved_rows row xs ++ cond (is_zero x) [] (at_place (row + length xs) x ∷ [])
moved_rows-snoc row [] x = ap (λ r. cond (is_zero x) [] (at_place r x ∷ [])) (sym (add-zero row))
moved_rows-snoc row (y ∷ xs) x =
    let places : row + 1 + length xs ≡ row + suc (length xs) = omega arith in
    cond_tail (is_zero y) (at_place row y) (moved_rows (row + 1) (xs ++ x ∷ [])) (moved_rows (row + 1) xs)
    (cond (is_zero x) [] (at_place (row + suc (length xs)) x ∷ []))
    (moved_rows-snoc (row + 1) xs x ∙ ap (λ r. moved_rows (row + 1) xs ++ cond (is_zero x) [] (at_place r x ∷ [])) places)

moved_more : (d : List ℤ) (i : ℕ) → i < length d →
    moved_rows 0 (take (i + 1) d) ≡ moved_rows 0 (take i d) ++ cond (is_zero (get_or d i (pos 0))) [] (at_place i (get_or d i (pos 0)) ∷ [])
moved_more d i below =
    let x = get_or d i (pos 0) in
    let place : 0 + length (take i d) ≡ i = omega (arith, length-take-le i d (omega arith)) in
    ap (moved_rows 0) (take_more d i (pos 0) below) ∙ moved_rows-snoc 0 (take i d) x
    ∙ ap (λ r. moved_rows 0 (take i d) ++ cond (is_zero x) [] (at_place r x ∷ [])) place

-- a number that isn't 0 adds its text
pub moved_by : (d : List ℤ) (i : ℕ) → i < length d → get_or d i (pos 0) ≢ pos 0 →
    moved_rows 0 (take (i + 1) d) ≡ moved_rows 0 (take i d) ++ at_place i (get_or d i (pos 0)) ∷ []
moved_by d i below other =
    moved_more d i below ∙ ap (λ b. moved_rows 0 (take i d) ++ cond b [] (at_place i (get_or d i (pos 0)) ∷ [])) (test_of_not_zero (get_or d i (pos 0)) other)

-- and 0 adds none
pub not_moved_by : (d : List ℤ) (i : ℕ) → i < length d → get_or d i (pos 0) ≡ pos 0 → moved_rows 0 (take (i + 1) d) ≡ moved_rows 0 (take i d)
not_moved_by d i below zero_here =
    moved_more d i below ∙ ap (λ x. moved_rows 0 (take i d) ++ cond (is_zero x) [] (at_place i x ∷ [])) zero_here ∙ append-nil (moved_rows 0 (take i d))
