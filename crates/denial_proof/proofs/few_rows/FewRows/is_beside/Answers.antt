use Rattle.std.proofs.Common.{◌∙◌, sym, subst}
use Rattle.denial_proof.specs.FewRows.{IsBeside}
use Rattle.denial_proof.proofs.FewNames.{beside_from, beside_test}
use Rattle.denial_proof.proofs.few_rows.FewRows.is_beside.Goals as goal

pub returns-in-Beside : goal.returns-in-Beside
returns-in-Beside c =
    let people = c.args.people.now.people in
    let n = c.args.people.now.n in
    let count = c.n.ensures.counted in (
      λ yes. subst (IsBeside people) (sym c.in-Beside.is) (beside_from n people count c.in-Beside.row c.in-Beside.own (sym c.is_beside.ensures ∙ yes)),
      λ beside. c.is_beside.ensures ∙ beside_test n people count c.in-Beside.row c.in-Beside.own (subst (IsBeside people) c.in-Beside.is beside),
    )
