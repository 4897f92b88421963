use Rattle.std.proofs.Common.{sym, ◌∙◌}
use Rattle.audit_types.specs.HeadcountLaws.{few_by_rows}
use Rattle.denial_proof.specs.Weights.{own_rows}
use Rattle.denial_proof.proofs.Tests.{same_test, opposite}
use Rattle.denial_proof.proofs.totals.is_few.Goals as goal

pub returns : goal.returns
returns c =
    let people = c.args.people.now in
    let few = few_by_rows people.n people.people c.n.ensures.counted (own_rows c.args.own) c.args.row c.requires.own in
    let same = same_test c.is_open.result _ c.is_open.ensures in
    let other = opposite c.is_open.result in
    (λ yes. few.1 (sym same ∙ other.0 yes), λ are. other.1 (same ∙ few.0 are))
