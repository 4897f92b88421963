use Rattle.std.proofs.Common.{map}
use Rattle.audit_types.specs.Form.{set_row}
use Rattle.sum_basis.proofs.Exactness.{more_sets, of_rows}
use Rattle.sum_basis.proofs.laws.one_more_set.Goals as goal

pub returns : goal.returns
returns c = λ n sets rows form new reduced grown. more_sets n sets rows new (of_rows n (map (set_row n) sets) form new (set_row n rows) reduced grown)
