use Rattle.std.proofs.Common.{arith}
use Rattle.std.proofs.lemmas.Int.{ints}
use Rattle.int_rows.specs.ContentLaws.{size_is}
use Rattle.sum_basis.proofs.primitive_list.size_of.Goals as goal

pub returns : goal.returns
returns c = let size = size_is c.args.x c.unsigned_abs.result c.ranges.x c.unsigned_abs.ensures.value in omega (arith, ints)
