use Rattle.std.proofs.Common.{ap, ◌∙◌}
use Rattle.audit_types.specs.Rows.{with_row}
use Rattle.denial_proof.proofs.FewWalks.{with_one}
use Rattle.denial_proof.proofs.targets.only_row.Goals as goal

pub returns-clause-rows : goal.returns-clause-rows
returns-clause-rows c =
    c.add.ensures.added ∙ ap (λ n. with_row n c.new-rows.result.list c.args.row) c.new-rows.ensures.n
    ∙ ap (λ l. with_row c.args.n l c.args.row) c.new-rows.ensures.empty
    ∙ with_one c.args.n c.args.row c.requires.row
