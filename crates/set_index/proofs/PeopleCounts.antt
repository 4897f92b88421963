-- How many people stand behind rows, row by row.
use Rattle.std.proofs.Common.{◌≡◌, ℕ, zero, suc, ◌^◌, ◌<◌, ◌≤◌, true, List, [], ◌∷◌, length, map, refl, ap, arith, to_z, of_z, w64, SFits}
use Rattle.std.specs.Prelude.{ℤ, pos, ◌<ℤ◌, unsigned_abs, nat_lt, Option, Some, None, option_map, unwrap_or}
use Rattle.std.specs.List.{AllByRecursion}
use Rattle.std.proofs.lemmas.Int.{ints, to_z-of_z}
use Rattle.std.proofs.lemmas.List.{length-map}
use Rattle.std.proofs.lemmas.Bool.{ltb-false, not-true}
use Rattle.audit_types.specs.ListLaws.{all-get_or}
use Rattle.audit_types.specs.Headcount.{count_at, people_behind}
use Rattle.audit_types.specs.Truth.{number_at}
use Rattle.table_load.specs.Numerals.{in_range}
use Rattle.table_load.specs.Cells.{Cells, hidden, numbers, texts, numbers_of, cells_at, counts_of, PublicView, IsPublic, AreNumbers, HasNumbers}
use Rattle.table_load.specs.SchemaFits.{numbers_there}
use Rattle.schema_json.specs.Columns.{Column, people_place}

-- the count of a row is the size of its number
pub count_is : (list : List ℤ) (row : ℕ) → row < length list → count_at (map unsigned_abs list) row ≡ unsigned_abs (number_at list row)
count_is [] row below = absurd (omega (arith, below))
count_is (z ∷ list) zero below = refl
count_is (z ∷ list) (suc row) below = count_is list row (omega (arith, below))

-- what a number of people is: from 1 to 10 ^ 12
pub record IsCount (z : ℤ) : Type 0 where
  pub above : pos 0 <ℤ z
  pub at_most : unsigned_abs z ≤ 10 ^ 12

-- each row stands for such a number of them
pub count_there : (n : ℕ) (list : List ℤ) (row : ℕ) → AreNumbers n list → AllByRecursion (λ z. pos 0 <ℤ z) list → row < n → IsCount (number_at list row)
count_there n list row are above below =
    let within : row < length list = omega (arith, are.one_each, below) in
    let z = number_at list row in
    record {
      above = all-get_or (λ x. pos 0 <ℤ x) list row (pos 0) above within;
      at_most = ltb-false (10 ^ 12) (unsigned_abs z)
          (not-true (nat_lt (10 ^ 12) (unsigned_abs z)) (all-get_or (λ x. in_range x ≡ true) list row (pos 0) are.within within));
    }

-- so reading it as an unsigned number gives the count
pub count_read : (z : ℤ) → IsCount z → unsigned_abs (to_z w64 (of_z w64 z)) ≡ unsigned_abs z
count_read z is =
    let fits : SFits w64 z = omega (arith, ints, is.above, is.at_most) in
    ap unsigned_abs (to_z-of_z w64 z fits)

-- without counts each row is one person
pub one_each : (rows : List ℕ) → people_behind [] rows ≡ length rows
one_each [] = refl
one_each (row ∷ rows) = omega (arith, one_each rows)

-- a table has no more counts than rows
pub counts_few : (columns : List Column) (p : PublicView) → IsPublic p → length (counts_of columns p) ≤ p.rows
counts_few columns p is = by (people_place columns)
  where
    few : (cells : Cells) → (HasNumbers cells → AreNumbers p.rows (numbers_of cells)) → length (numbers_of cells) ≤ p.rows
    few hidden are = omega arith
    few (numbers xs) are = omega (arith, (are tt).one_each)
    few (texts ts) are = omega arith

    by : (place : Option ℕ) → length (unwrap_or (option_map (λ k. map unsigned_abs (numbers_of (cells_at p k))) place) []) ≤ p.rows
    by None = omega arith
    by (Some k) = omega (arith, few (cells_at p k) (numbers_there p k is), length-map (numbers_of (cells_at p k)) unsigned_abs)
