use Rattle.std.proofs.Common.{rules}
use Rattle.auditor_top.proofs.WholeFiles.{own_table_fault}
use Rattle.auditor_top.proofs.files.public_in.Goals as goal

pub returns-in-Err-clause-means : goal.returns-in-Err-clause-means
returns-in-Err-clause-means c = own_table_fault c.in-Err.fault _ (search rules) c.in-Err.ensures.public
