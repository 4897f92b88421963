use Rattle.sum_basis.proofs.SetRows.{set_bits}
use Rattle.sum_basis.proofs.keeping.settle.Goals as goal

pub settle-requires-clause-bits : goal.settle-requires-clause-bits
settle-requires-clause-bits c = set_bits c.args.kept.now.rows.n c.args.kept.now.rows.list c.write_set.new.row c.write_set.ensures
