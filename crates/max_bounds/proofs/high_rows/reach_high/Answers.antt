use Rattle.std.proofs.Common.{arith, sym, subst}
use Rattle.std.specs.Int.{w64}
use Rattle.std.proofs.lemmas.Int.{to_z-of_z}
use Rattle.audit_types.specs.ListLaws.{all-get_or}
use Rattle.max_bounds.specs.Reaching.{bound_at}
use Rattle.max_bounds.specs.Kept.{IsHigh}
use Rattle.max_bounds.proofs.high_rows.reach_high.Goals as goal

pub reach-requires-clause-reaches : goal.reach-requires-clause-reaches
reach-requires-clause-reaches c = grind arith

pub returns-then-kept-answer : goal.returns-then-kept-answer
returns-then-kept-answer c =
    let same = to_z-of_z w64 c.args.answer c.ranges.answer in
    let reached = c.reach.ensures in
    record {
      extremes_n = reached.extremes_n;
      falling_n = reached.falling_n;
      extremes = rw same at reached.extremes;
      falling = rw same at reached.falling;
      settled = rw same at reached.settled;
    }

pub returns : goal.returns
returns c =
    let same = to_z-of_z w64 c.args.answer c.ranges.answer in
    let reached = c.reach-2.ensures in
    record {
      extremes_n = reached.extremes_n;
      falling_n = reached.falling_n;
      extremes = rw same at reached.extremes;
      falling = rw same at reached.falling;
      settled = rw same at reached.settled;
    }

pub reach-requires-clause-high : goal.reach-requires-clause-high
reach-requires-clause-high c =
    subst (IsHigh c.args.rows.now.n (bound_at c.args.upper.now)) (sym c.kept-item.is)
    (all-get_or (IsHigh c.args.rows.now.n (bound_at c.args.upper.now)) c.args.high.now c.loop-kept.kept-index c.kept-item.result c.requires.high
    c.loop-kept-test.true)
