use Rattle.std.proofs.Common.{rules, sym}
use Rattle.std.proofs.lemmas.Bool.{true≢false}
use Rattle.audit_types.specs.declared.records.Verdict.TheVariants.{Released, DeniedWide}
use Rattle.audit_types.specs.History.{known_of}
use Rattle.audit_types.specs.Judgement.{IsJudgement}
use Rattle.audit_core.specs.OneDecision.{one_judgement}
use Rattle.audit_core.proofs.replaying.is_released.Goals as goal

pub returns-in-DeniedWide-clause-judged : goal.returns-in-DeniedWide-clause-judged
returns-in-DeniedWide-clause-judged c =
    let known = known_of c.args.core.now.setting c.args.core.now.history c.args.asked.now.column in
    let wide : IsJudgement known c.args.asked.now.rows.list DeniedWide = search rules in (
      λ no. absurd (true≢false (sym no)),
      λ is. let same = one_judgement c.sets_have_one_form.ensures known c.args.asked.now.rows.list Released DeniedWide is wide in absurd cc,
    )
