use Rattle.std.proofs.Common.{arith}
use Rattle.sum_basis.proofs.Moving.{counts_few}
use Rattle.sum_basis.proofs.counting.count_grown.Goals as goal

pub tally-requires-clause-few : goal.tally-requires-clause-few
tally-requires-clause-few c = λ j.
    let few = counts_few c.args.form.now.n c.args.form.now.rows c.args.counts.now c.requires.before j in
    omega (arith, c.rank.ensures.at_most, c.columns.ensures.at_most)
