-- The answered sums of a column, as contracts see them.
use Rattle.std.specs.Prelude.{◌≡◌, ℕ, ◌<◌, List, All}
use Rattle.std.specs.List.{AllByRecursion}
use Rattle.audit_types.specs.Rows.{Rows, AreRows, IsRowsOf}
use Rattle.audit_types.specs.Headcount.{Counted}
use Rattle.audit_types.specs.Column.{Answer}
use Rattle.audit_types.specs.Form.{Reduced}
use Rattle.sum_basis.specs.Basis.{Echelon}
use Rattle.sum_audit.specs.Sets.{sets_of}
use Rattle.sum_audit.specs.declared.answered.AnsweredSum.{AnsweredSum}

-- the rows and the value of an answered sum
abbrev pub answer_of : AnsweredSum → Answer
answer_of a = record { rows = a.rows.list; value = a.answer }

-- what is true of the fields of every column of sums: the sets of its answers and of its protected groups are over its rows, the basis is the
-- reduced form of the first, and the reach isn't 0
pub record IsSumColumn (people : Counted) (apart : List Rows) (reach : ℕ) (basis : Echelon) (answers : List Answer) : Type 0 where
  pub some_reach : 0 < reach
  pub same_n : basis.n ≡ people.n
  pub groups_are_rows : All (IsRowsOf people.n) apart
  pub are_rows : AllByRecursion (AreRows people.n) (sets_of answers)
  pub form : Reduced people.n (sets_of answers) basis.rows
