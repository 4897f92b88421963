use Rattle.std.proofs.Common.{rules}
use Rattle.std.proofs.lemmas.Int.{to_z-of_z}
use Rattle.std.specs.Prelude.{FitsSigned}
use Rattle.std.specs.Int.{w128}
use Rattle.sum_basis.proofs.MergedNumbers.{passed}
use Rattle.sum_basis.proofs.parallel.are_alike.Goals as goal

pub product-requires-clause-x : goal.product-requires-clause-x
product-requires-clause-x c = rw (to_z-of_z w128 c.args.by c.ranges.by) c.requires.by

pub product-requires-then-first-second-clause-x : goal.product-requires-then-first-second-clause-x
product-requires-then-first-second-clause-x c = rw (to_z-of_z w128 c.args.times c.ranges.times) c.requires.times

pub product-requires-clause-y : goal.product-requires-clause-y
product-requires-clause-y c =
    let value : FitsSigned w128 c.number.result = search rules in
    rw (passed c.number.result c.args.first.value value c.number.ensures) c.requires.first

pub product-requires-then-first-second-clause-y : goal.product-requires-then-first-second-clause-y
product-requires-then-first-second-clause-y c =
    let value : FitsSigned w128 c.number-then-first-second.result = search rules in
    rw (passed c.number-then-first-second.result c.args.second.value value c.number-then-first-second.ensures) c.requires.second
