use Rattle.std.proofs.Common.{Some, arith}
use Rattle.denial_proof.specs.declared.proof_parts.Target.TheVariants.{Row}
use Rattle.denial_proof.specs.Canonical.{Tells}
use Rattle.denial_proof.proofs.FirstTargets.{first_beside, pair_first}
use Rattle.denial_proof.proofs.targets.first_pair.Goals as goal

pub returns-in-Some-clause-some : goal.returns-in-Some-clause-some
returns-in-Some-clause-some c =
    let protected = c.args.protected.now in
    let rows = c.args.basis.now.rows in
    let least = rw c.in-Some.is at c.in_ok-own.ensures in
    pair_first c.args.n protected c.args.column rows c.requires.no_row c.loop-row.row c.in-Some.own
    (first_beside (λ i p. Tells c.args.n protected c.args.column rows (Some p) (Row i)) c.loop-row.row c.in-Some.own c.loop-row.invariant least)

pub returns-clause-none : goal.returns-clause-none
returns-clause-none c = λ i p tells. c.loop-row.invariant i (let below = tells.is_target.0 in omega arith) p tells
