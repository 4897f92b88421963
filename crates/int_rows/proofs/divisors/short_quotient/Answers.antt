use Rattle.int_rows.specs.Exact.{divided_short}
use Rattle.int_rows.proofs.divisors.short_quotient.Goals as goal

pub returns : goal.returns
returns c = divided_short c.args.multiple c.args.of c.requires.not_zero c.ranges.multiple c.ranges.of c.requires.size c.requires.divides
