-- Pairs of lists that show a row of a column of maxima to be free.
use Rattle.std.specs.Prelude.{◌≡◌, ◌≢◌, ℕ, ℤ, List, [], ◌∷◌, Option, Some, None}
use Rattle.std.specs.Int.{int_max}
use Rattle.std.specs.List.{AllByRecursion}
use Rattle.audit_types.specs.Truth.{number_at, greatest_over}
use Rattle.audit_types.specs.Column.{Known, Answer, Agrees}

-- two lists that agree with what is known of a column, each answer over some rows, and that differ at a row
pub record ShowsFree (known : Known) (row : ℕ) (lo hi : List ℤ) : Type 0 where
  pub lo_agrees : Agrees known lo
  pub hi_agrees : Agrees known hi
  pub some : AllByRecursion (λ a. a.rows ≢ []) known.answers
  pub differ : number_at lo row ≢ number_at hi row

-- the greater of a number and the greatest so far
abbrev pub greater_of : Option ℤ → ℤ → ℤ
greater_of None x = x
greater_of (Some g) x = int_max g x

-- the greatest number over a set, if it has a row
abbrev pub greatest_of : List ℤ → List ℕ → Option ℤ
greatest_of w [] = None
greatest_of w (r ∷ rows) = Some (greatest_over w (r ∷ rows))

-- the set has a row, and the greatest number over it is the answer
pub record IsAnswerOf (w : List ℤ) (a : Answer) : Type 0 where
  pub some : a.rows ≢ []
  pub same : greatest_over w a.rows ≡ a.value
