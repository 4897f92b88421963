-- Sums and greatest numbers over the rows of a set.
use Rattle.std.proofs.Common.{◌≡◌, ℕ, ◌^◌, ◌<◌, ◌≤◌, true, List, length, map, get_or, sym, ap, ◌∙◌, arith, subst, Vec, Global}
use Rattle.std.specs.Prelude.{ℤ, pos, unsigned_abs, nat_lt}
use Rattle.std.specs.List.{AllByRecursion}
use Rattle.std.proofs.lemmas.Bool.{ltb-false, not-true}
use Rattle.audit_types.specs.Truth.{number_at}
use Rattle.audit_types.specs.ListLaws.{all-get_or, all-unmap}
use Rattle.table_load.specs.Numerals.{in_range}
use Rattle.table_load.specs.Cells.{AreNumbers}

-- a number in range has a size of at most 10 ^ 12
pub size_in_range : (z : ℤ) → in_range z ≡ true → unsigned_abs z ≤ 10 ^ 12
size_in_range z within = ltb-false (10 ^ 12) (unsigned_abs z) (not-true (nat_lt (10 ^ 12) (unsigned_abs z)) within)

-- each number of a column has a size of at most 10 ^ 12
pub number_small : (n : ℕ) (list : List ℤ) (row : ℕ) → AreNumbers n list → row < n → unsigned_abs (number_at list row) ≤ 10 ^ 12
number_small n list row are within =
    size_in_range (get_or list row (pos 0)) (all-get_or (λ z. in_range z ≡ true) list row (pos 0) are.within (omega (arith, are.one_each, within)))

-- the list of a secret column is one of numbers in range
pub column_are_numbers : (lists : List (Vec ℤ Global)) (column n m : ℕ) (v : Vec ℤ Global) (list : List ℤ)
    → AllByRecursion (AreNumbers n) (map (λ w. w.items) lists) → column < length lists
    → v ≡ get_or lists column v → list ≡ v.items → m ≡ n → AreNumbers m list
column_are_numbers lists column n m v list all within is items same =
    let here = all-get_or (λ w. AreNumbers n w.items) lists column v (all-unmap (λ w. w.items) (AreNumbers n) lists all) within in
    subst (λ k. AreNumbers k list) (sym same) (let P : List ℤ → Type 0 = AreNumbers n in subst P (sym (items ∙ ap (λ x. x.items) is)) here)
