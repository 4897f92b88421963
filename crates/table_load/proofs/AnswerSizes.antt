-- How large the answers over secrets can be.
use Rattle.std.proofs.Common.{ℕ, ◌+◌, ◌*◌, ◌^◌, ◌<◌, ◌≤◌, List, [], ◌∷◌, length, map, refl, arith}
use Rattle.std.specs.Prelude.{ℤ, ◌≢◌, unsigned_abs}
use Rattle.std.specs.Int.{int_max}
use Rattle.std.specs.List.{fold}
use Rattle.std.proofs.lemmas.Int.{ints}
use Rattle.audit_types.specs.Limits.{most_answer}
use Rattle.audit_types.specs.Rows.{AreRows, AscendsFrom}
use Rattle.audit_types.specs.RowLaws.{length-rows}
use Rattle.audit_types.specs.Shapes.{columns}
use Rattle.audit_types.specs.Truth.{number_at, sum_over, greatest_over}
use Rattle.audit_types.specs.History.{list_of}
use Rattle.audit_types.specs.ListLaws.{all-get_or}
use Rattle.table_load.specs.Cells.{SecretView, IsSecret, AreNumbers}
use Rattle.table_load.proofs.SetSums.{number_small}

-- a sum over so many rows
pub sum_small : (n low : ℕ) (list : List ℤ) (rows : List ℕ) → AreNumbers n list → AscendsFrom low n rows →
    unsigned_abs (sum_over list rows) ≤ 10 ^ 12 * length rows
sum_small n low list [] are ascends = omega (arith, ints)
sum_small n low list (r ∷ rows) are ascends =
    let first = number_small n list r are ascends.1 in
    let others = sum_small n (r + 1) list rows are ascends.2 in
    omega (arith, ints, first, others)

-- the greater of two small numbers is small
greater_small : (y z : ℤ) → unsigned_abs y ≤ 10 ^ 12 → unsigned_abs z ≤ 10 ^ 12 → unsigned_abs (int_max y z) ≤ 10 ^ 12
greater_small y z one other = grind (arith, ints)

-- the greatest of numbers, and of one at hand
greatest_small : (n low : ℕ) (list : List ℤ) (z : ℤ) (rows : List ℕ) → AreNumbers n list → AscendsFrom low n rows → unsigned_abs z ≤ 10 ^ 12 →
    unsigned_abs (fold int_max z (map (number_at list) rows)) ≤ 10 ^ 12
greatest_small n low list z [] are ascends small = small
greatest_small n low list z (r ∷ rows) are ascends small =
    let first = number_small n list r are ascends.1 in
    greatest_small n (r + 1) list (int_max z (number_at list r)) rows are ascends.2 (greater_small z (number_at list r) small first)

-- the list of a secret column
numbers_of : (s : SecretView) (column : ℕ) → IsSecret s → column < columns s.shape → AreNumbers s.shape.rows (list_of s.lists column)
numbers_of s column is below = all-get_or (AreNumbers s.shape.rows) s.lists column [] is.numbers (omega (arith, below, is.one_each))

pub sums_small : (s : SecretView) (column : ℕ) (rows : List ℕ) → IsSecret s → column < columns s.shape → AreRows s.shape.rows rows →
    unsigned_abs (sum_over (list_of s.lists column) rows) ≤ most_answer
sums_small s column rows is below are =
    let small = sum_small s.shape.rows 0 (list_of s.lists column) rows (numbers_of s column is below) are in
    let few = length-rows s.shape.rows rows are in
    omega (arith, small, few, is.shape.at_most)

pub maxima_small : (s : SecretView) (column : ℕ) (rows : List ℕ) → IsSecret s → column < columns s.shape → AreRows s.shape.rows rows → rows ≢ [] →
    unsigned_abs (greatest_over (list_of s.lists column) rows) ≤ 10 ^ 12
maxima_small s column [] is below are some = absurd (some refl)
maxima_small s column (r ∷ rows) is below are some =
    let numbers = numbers_of s column is below in
    greatest_small s.shape.rows (r + 1) (list_of s.lists column) (number_at (list_of s.lists column) r) rows numbers are.2
    (number_small s.shape.rows (list_of s.lists column) r numbers are.1)
