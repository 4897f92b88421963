-- Sets of rows and their answers, each in a list of its own.
use Rattle.std.specs.Prelude.{◌≡◌, ℤ, List, [], ◌∷◌, length, min, vec_capacity}
use Rattle.audit_types.specs.Rows.{Rows}
use Rattle.max_bounds.specs.Maxima.{ListOfMaxima}
use Rattle.max_bounds.specs.declared.answered.AnsweredMax.{AnsweredMax}
use Rattle.max_bounds.specs.declared.answered_maxima.AnsweredMaxima.TheInside.{Inside}

-- each set with its answer
abbrev pub paired : List ℤ → List Rows → List AnsweredMax
paired [] sets = []
paired (answer ∷ answers) [] = []
paired (answer ∷ answers) (rows ∷ sets) = record { answer = answer; rows = rows } ∷ paired answers sets

-- the list of both
abbrev pub maxima_of : Inside → ListOfMaxima
maxima_of a = record { n = a.sets.n; items = paired a.answers.items a.sets.list; capacity = min a.sets.capacity (vec_capacity a.answers) }

-- there is an answer for each set
abbrev pub ArePaired : Inside → Type 0
ArePaired a = length a.answers.items ≡ length a.sets.list
