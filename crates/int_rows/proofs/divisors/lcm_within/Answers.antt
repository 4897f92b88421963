use Rattle.std.proofs.Common.{rules}
use Rattle.int_rows.proofs.divisors.lcm_within.Goals as goal

pub returns-then-multiple-unsigned_abs : goal.returns-then-multiple-unsigned_abs
returns-then-multiple-unsigned_abs c = search rules
