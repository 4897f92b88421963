use Rattle.std.proofs.Common.{sym, arith}
use Rattle.std.proofs.lemmas.Bool.{true≢false}
use Rattle.audit_types.specs.WalkLaws.{row_within}
use Rattle.denial_proof.proofs.totals.has_other.Goals as goal

pub returns : goal.returns
returns c = (
  λ yes. absurd (true≢false (sym yes)),
  λ hit.
      let below = row_within c.args.group.now.n c.args.group.now.list hit.0 c.n-row-end.ensures.are_rows hit.1 in
      absurd (c.loop-row.invariant hit.0 (omega arith) (hit.1, hit.2)),
)
