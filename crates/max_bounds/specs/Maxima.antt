-- The answered maxima of a column, as contracts see them.
use Rattle.std.specs.Prelude.{ℕ, ◌++◌, ◌<◌, ℤ, pos, List, [], ◌∷◌, map, length, slice_index_or}
use Rattle.audit_types.specs.RowSets.{no_rows}
use Rattle.audit_types.specs.Column.{Answer}
use Rattle.max_bounds.specs.declared.answered.AnsweredMax.{AnsweredMax}

-- a number of rows, and the answers in order
pub record Maxima : Type 0 where
  pub n : ℕ
  pub answers : List Answer

-- the rows and the value of an answered maximum
abbrev pub answer_of : AnsweredMax → Answer
answer_of a = record { rows = a.rows.list; value = a.answer }

-- the answers that a list of answered maxima stands for
abbrev pub answers_of : List AnsweredMax → List Answer
answers_of pairs = map answer_of pairs

-- the answers with one more after them
abbrev pub and_answer : List Answer → List ℕ → ℤ → List Answer
and_answer answers rows value = answers ++ record { rows = rows; value = value } ∷ []

-- answered maxima of a table of n rows, in order, and how many of them there is room for
pub record ListOfMaxima : Type 0 where
  pub n : ℕ
  pub items : List AnsweredMax
  pub capacity : ℕ

-- an answer of no rows
abbrev pub no_pair : AnsweredMax
no_pair = record { answer = pos 0; rows = no_rows }

-- the answered maximum at a place, and that of no rows past the last
abbrev pub pair_at : List AnsweredMax → ℕ → AnsweredMax
pair_at pairs k = slice_index_or pairs k no_pair

-- there is room for one answered maximum more
abbrev pub HasSpace : ListOfMaxima → Type 0
HasSpace maxima = length maxima.items < maxima.capacity
