use Rattle.std.proofs.Common.{◌≡◌, ℕ, subst, arith}
use Rattle.std.specs.Int.{w128}
use Rattle.std.proofs.lemmas.Int.{to_z-of_z}
use Rattle.max_bounds.specs.Maxima.{and_answer}
use Rattle.denial_proof.proofs.FirstPairs.{AreHeightsSoFar, heights_end}
use Rattle.denial_proof.proofs.maxima.heights.Goals as goal

pub returns : goal.returns
returns c =
    let answers = and_answer c.args.bounds.now.answers c.args.rows.now.list c.args.answer in
    let far = rw (to_z-of_z w128 c.args.answer c.ranges.answer) at c.loop-row.invariant in
    let end = c.n-row-end.ensures.exact in
    let all : c.loop-row.row ≡ c.args.bounds.now.n = omega arith in
    heights_end c.args.bounds.now.n answers c.loop-row.list.items (subst (λ (k : ℕ). AreHeightsSoFar answers k c.loop-row.list.items) all far)
