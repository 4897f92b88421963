-- Many sets of rows in one list of words: each has as many as the rows of its table take.
use Rattle.std.specs.Prelude.{◌≡◌, ℕ, ◌*◌, ◌/◌, ◌<◌, ◌≤◌, false, List, map, length, take, drop, vec_capacity}
use Rattle.std.specs.List.{range_with_len}
use Rattle.audit_types.specs.Limits.{most_rows}
use Rattle.audit_types.specs.Rows.{Rows, rows_that}
use Rattle.audit_types.specs.Words.{has_bit, words_over}
use Rattle.audit_types.specs.RowSets.{ListOfRows}
use Rattle.audit_types.specs.declared.row_sets.RowSets.TheInside.{Inside}

-- the words of the set at a place
abbrev pub words_at : ℕ → List ℕ → ℕ → List ℕ
words_at width words k = take width (drop (k * width) words)

-- and its rows
abbrev pub set_at : ℕ → List ℕ → ℕ → Rows
set_at n words k = record { n = n; list = rows_that (has_bit (words_at (words_over n) words k)) n }

-- the sets of so many, from their words
abbrev pub sets_at : ℕ → List ℕ → ℕ → List Rows
sets_at n words len = map (set_at n words) (range_with_len 0 len)

-- the list of sets
abbrev pub sets_of : Inside → ListOfRows
sets_of a = record { n = a.n; list = sets_at a.n a.words.items a.len; capacity = vec_capacity a.words / words_over a.n }

-- the words of so many sets, none of them with a bit from n on
pub record ArePackedWords (n len : ℕ) (words : List ℕ) : Type 0 where
  pub some : 0 < n
  pub at_most : n ≤ most_rows
  pub long : length words ≡ len * words_over n
  pub none_above : (k r : ℕ) → k < len → n ≤ r → has_bit (words_at (words_over n) words k) r ≡ false

-- what is true of the fields of every list
abbrev pub ArePacked : Inside → Type 0
ArePacked a = ArePackedWords a.n a.len a.words.items
