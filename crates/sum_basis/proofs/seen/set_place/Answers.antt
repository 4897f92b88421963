use Rattle.std.proofs.Common.{arith}
use Rattle.audit_types.specs.WordLaws.{has_bit-set}
use Rattle.sum_basis.proofs.seen.set_place.Goals as goal

pub returns : goal.returns
returns c = λ r. has_bit-set c.args.words.now c.args.place r (omega arith)
