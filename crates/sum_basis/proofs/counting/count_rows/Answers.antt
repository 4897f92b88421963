use Rattle.std.proofs.Common.{[], ◌∙◌, arith}
use Rattle.sum_basis.specs.Sparse.{entry_at}
use Rattle.sum_basis.proofs.Reaching.{more_counts, all_counts}
use Rattle.sum_basis.proofs.SmallEntries.{one_at_most}
use Rattle.sum_basis.proofs.WithinReach.{grown_by_none}
use Rattle.sum_basis.proofs.counting.count_rows.Goals as goal

pub loop-k-preserved : goal.loop-k-preserved
loop-k-preserved c =
    let form = c.args.form.now in
    let f = c.columns.ensures.form in
    record {
      long = c.tally.ensures.length ∙ c.loop-k.invariant.long;
      few = λ j.
          let step = c.tally.ensures.counted j in
          let most = one_at_most (entry_at c.free.result.now j) in
          let before = c.loop-k.invariant.few j in
          omega arith;
      counted =
          more_counts form.n form.rows [] form.rows (grown_by_none form.n form.rows f.primitive f.echelon) c.loop-k.k c.loop-k.counts _ c.free.result.now
          (omega (arith, c.rank-k-end.ensures.rank)) c.free.ensures c.tally.ensures.counted c.loop-k.invariant.counted;
    }

pub returns : goal.returns
returns c =
    let form = c.args.form.now in
    let f = c.columns.ensures.form in
    record {
      counted =
          all_counts form.n form.rows [] form.rows (grown_by_none form.n form.rows f.primitive f.echelon) c.loop-k.k c.loop-k.counts
          (let ends = c.loop-k-test.false in omega (arith, c.rank-k-end.ensures.rank)) c.loop-k.invariant.long c.loop-k.invariant.counted;
    }
