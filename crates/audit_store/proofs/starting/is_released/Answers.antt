use Rattle.std.proofs.Common.{rules}
use Rattle.audit_types.specs.declared.records.Verdict.TheVariants.{Released, DeniedWide}
use Rattle.audit_types.specs.History.{known_of}
use Rattle.audit_types.specs.Judgement.{IsDecision, IsJudgement}
use Rattle.audit_core.specs.OneDecision.{one_decision, one_judgement}
use Rattle.audit_store.proofs.starting.is_released.Goals as goal

pub returns-in-DeniedUnsafe-clause-yes : goal.returns-in-DeniedUnsafe-clause-yes
returns-in-DeniedUnsafe-clause-yes c = λ is. let none : ⊥ = cc in absurd none

pub returns-in-DeniedWide-clause-no : goal.returns-in-DeniedWide-clause-no
returns-in-DeniedWide-clause-no c = λ told released.
    let known = known_of c.args.core.now.setting c.args.core.now.history c.args.answered.now.column in
    let wide : IsDecision known c.args.answered.now.rows.list DeniedWide = search rules in
    let same = one_decision c.sets_have_one_form.ensures known c.args.answered.now.rows.list Released DeniedWide released wide in
    let none : ⊥ = cc in none

pub returns-in-DeniedWide-clause-judged : goal.returns-in-DeniedWide-clause-judged
returns-in-DeniedWide-clause-judged c = λ told released.
    let known = known_of c.args.core.now.setting c.args.core.now.history c.args.answered.now.column in
    let wide : IsJudgement known c.args.answered.now.rows.list DeniedWide = search rules in
    let same = one_judgement c.sets_have_one_form.ensures known c.args.answered.now.rows.list Released DeniedWide released wide in
    let none : ⊥ = cc in none
