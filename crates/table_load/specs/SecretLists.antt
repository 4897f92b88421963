-- The lists of a table's secrets have the lengths that its shape asks for.
use Rattle.std.specs.Prelude.{◌≡◌, length}
use Rattle.audit_types.specs.History.{AreSecrets}
use Rattle.audit_types.specs.ListLaws.{all-weaker}
use Rattle.table_load.specs.Cells.{SecretView, IsSecret, AreNumbers}

-- the secrets of a table are a list for each column, with a number for each row
pub are_secrets : (s : SecretView) → IsSecret s → AreSecrets s.shape s.lists
are_secrets s is = record { one_each = is.one_each; numbers = all-weaker (AreNumbers s.shape.rows) (λ w. length w ≡ s.shape.rows) (λ w are. are.one_each) s.lists is.numbers }
