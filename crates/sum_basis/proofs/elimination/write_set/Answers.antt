use Rattle.std.proofs.Common.{◌∙◌, arith}
use Rattle.sum_basis.proofs.SetRows.{all_written}
use Rattle.sum_basis.proofs.elimination.write_set.Goals as goal

pub returns : goal.returns
returns c = all_written _ _ _ c.loop-j.j (c.loop-j.auto.row ∙ c.requires) (omega arith) c.loop-j.invariant
