-- What contracts see of a walk over the rows of a set.
use Rattle.std.specs.Prelude.{ℕ, ◌/◌, ◌%◌, ◌^◌, ◌<◌, ◌≤◌, Bool, cond, ◌&&◌, ◌==◌, nat_lt, List, length}
use Rattle.std.specs.Int.{bit_at}
use Rattle.audit_types.specs.Limits.{most_rows, most_words}
use Rattle.audit_types.specs.Rows.{rows_that}
use Rattle.audit_types.specs.Words.{has_bit}
use Rattle.audit_types.specs.declared.row_iter.Spot.{Spot}
use Rattle.audit_types.specs.declared.row_iter.RowIter.TheInside.{Inside}

-- whether a row is still to come: by the bits that are left of the word at the spot, and by the words after it
abbrev pub is_left : List ℕ → Spot → ℕ → Bool
is_left words spot r = cond (r / 64 == spot.place) (bit_at spot.word (r % 64) == 1) (nat_lt spot.place (r / 64) && has_bit words r)

-- the rows from a spot on
abbrev pub rows_from : List ℕ → Spot → List ℕ
rows_from words spot = rows_that (is_left words spot) most_rows

-- the rows that are still to come
abbrev pub rows_left : Inside → List ℕ
rows_left a = rows_from a.words.now a.spot

-- words of a set, and a spot among them
pub record IsWalk (a : Inside) : Type 0 where
  pub at_most : length a.words.now ≤ most_words
  pub within : a.spot.place < length a.words.now
  pub fits : a.spot.word < 2 ^ 64
