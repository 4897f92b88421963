use Rattle.std.proofs.Common.{sym}
use Rattle.sum_basis.proofs.SparseRows.{own_value}
use Rattle.sum_basis.proofs.over_divisor.entry_to_try.Goals as goal

pub returns-then-at-entries : goal.returns-then-at-entries
returns-then-at-entries c = sym (own_value 0 65536 c.args.entries.now _ _ c.requires c.if-at-entries.true)
