use Rattle.std.proofs.Common.{◌∙◌, ap, arith}
use Rattle.audit_types.specs.Rows.{with_row}
use Rattle.denial_proof.proofs.FewWalks.{with_two}
use Rattle.denial_proof.proofs.few_rows.two_rows.Goals as goal

pub returns-clause-some : goal.returns-clause-some
returns-clause-some c =
    let row = c.in_ok-rows.ensures.some.0 in
    let n = c.in_ok-rows.ensures.some.1 in
    let list = c.in_ok-rows.ensures.some.2 in
    let own = c.if-own-n.false in
    let apart = c.if-row-own.false in (
      (row, omega (arith, own), apart),
      c.add.ensures.n ∙ n,
      c.add.ensures.added ∙ ap (λ k. with_row k c.in_ok-rows.rows.list c.args.own) n ∙ ap (λ rows. with_row c.args.n rows c.args.own) list
          ∙ with_two c.args.n c.args.row c.args.own row (omega (arith, own)) apart,
    )
