-- The audited columns of a table, as contracts see them.
use Rattle.std.specs.Prelude.{List}
use Rattle.audit_types.specs.declared.records.Answered.{Answered}
use Rattle.audit_types.specs.History.{Setting}

-- what a decision may read of a table, and the records of what was answered, in order
pub record Audited : Type 0 where
  pub setting : Setting
  pub history : List Answered
