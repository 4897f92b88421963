-- The answered maxima of a column, as contracts see them.
use Rattle.std.specs.Prelude.{◌≡◌}
use Rattle.audit_types.specs.Headcount.{Counted}
use Rattle.audit_types.specs.Column.{IsWellFormed, known_max}
use Rattle.max_bounds.specs.Maxima.{Maxima}

-- what is true of the fields of every column of maxima: the sets of its answers are over the rows of its people, and none is empty
pub record IsMaxColumn (people : Counted) (maxima : Maxima) : Type 0 where
  pub same_n : maxima.n ≡ people.n
  pub formed : IsWellFormed (known_max people.n maxima.answers)
