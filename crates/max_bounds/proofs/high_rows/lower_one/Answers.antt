use Rattle.std.proofs.Common.{refl, arith, rules, SFits}
use Rattle.std.specs.Prelude.{◌<ℤ◌}
use Rattle.std.specs.Int.{w64}
use Rattle.std.proofs.lemmas.Int.{ints}
use Rattle.max_bounds.proofs.HighRows.{low_leave}
use Rattle.max_bounds.proofs.high_rows.lower_one.Goals as goal

pub returns-then-high-answer-clause-high : goal.returns-then-high-answer-clause-high
returns-then-high-answer-clause-high c = λ bound rows flipped low is.
    let fits : SFits w64 c.args.high.now.cut = search rules in
    let higher : c.args.answer <ℤ c.args.high.now.cut = omega (arith, ints) in
    low_leave c.args.others.now.n bound c.args.high.now _ c.args.answer c.args.others.now.list rows c.and_with.ensures.n refl c.and_with.ensures.both flipped
    higher low is
