use Rattle.std.proofs.Common.{◌∙◌, ap, arith}
use Rattle.audit_types.specs.Rows.{with_row}
use Rattle.denial_proof.proofs.FewWalks.{with_one}
use Rattle.denial_proof.proofs.few_rows.one_row.Goals as goal

pub returns-clause-some : goal.returns-clause-some
returns-clause-some c =
    let below = c.if-row-n.false in
    let n = c.new-rows.ensures.n in (
      omega (arith, below),
      c.add.ensures.n ∙ n,
      c.add.ensures.added ∙ ap (λ k. with_row k c.new-rows.result.list c.args.row) n ∙ ap (λ rows. with_row c.args.n rows c.args.row) c.new-rows.ensures.empty
          ∙ with_one c.args.n c.args.row (omega (arith, below)),
    )
