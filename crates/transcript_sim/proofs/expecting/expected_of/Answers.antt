use Rattle.std.proofs.Common.{rules, tests, ℕ, ◌<◌, ◌≤◌, List, length, refl, sym, subst, inl, inr}
use Rattle.std.proofs.lemmas.Result.{IfOk-from_err}
use Rattle.audit_types.specs.History.{Setting, FitsShape, IsJudgementAfter}
use Rattle.audit_types.specs.declared.records.Asked.{Asked}
use Rattle.audit_types.specs.declared.records.Answered.{Answered}
use Rattle.audit_types.specs.declared.records.Verdict.{Verdict}
use Rattle.audit_types.specs.declared.records.Verdict.TheVariants.{Released, DeniedUnsafe, DeniedWide}
use Rattle.audit_types.specs.Limits.{most_records}
use Rattle.audit_core.specs.Audited.{Audited}
use Rattle.line_wire.specs.declared.question.Take.{Take}
use Rattle.line_wire.specs.declared.reply.Reply.TheVariants as reply
use Rattle.question_plan.specs.declared.planning.Plan.{Plan}
use Rattle.question_plan.specs.Plans.{CanBeServed}
use Rattle.transcript_sim.specs.declared.expecting.Expected.{Expected}
use Rattle.transcript_sim.specs.declared.expecting.Expected.TheVariants.{Only}
use Rattle.transcript_sim.specs.Steps.{CanBeTaken}
use Rattle.transcript_sim.specs.Verdicts.{CalledBy, CallsFor}
use Rattle.transcript_sim.proofs.expecting.expected_of.Goals as goal

-- an answer that the judgement releases may be taken
taken_if_released : (setting : Setting) (history : List Answered) (take : Take) (people : ℕ) (asked : Asked) (verdict : Verdict)
    → FitsShape setting.shape asked.column asked.rows → IsJudgementAfter setting history asked.column asked.rows.list verdict
    → (expected : Expected) → CalledBy setting history take people asked verdict expected → CanBeTaken setting history expected
taken_if_released setting history take people asked Released fits judged expected called =
    subst (CanBeTaken setting history) (sym called.expected_is) (fits, judged.0)
taken_if_released setting history take people asked DeniedUnsafe fits judged expected called = subst (CanBeTaken setting history) (sym called) tt
taken_if_released setting history take people asked DeniedWide fits judged expected called = subst (CanBeTaken setting history) (sym called) tt

pub returns-in-Ready : goal.returns-in-Ready
returns-in-Ready c = record {
  calls = subst (λ (plan : Plan). CallsFor c.args.core.now.setting c.args.core.now.history plan (Only c.in-Ready.reply)) (sym c.in-Ready.is) refl;
  can = tt;
  same = refl;
}

pub returns-in-Ask : goal.returns-in-Ask
returns-in-Ask c = record {
  calls =
      let full : most_records ≤ length c.args.core.now.history = search (rules, tests) in
      subst (λ (plan : Plan). CallsFor c.args.core.now.setting c.args.core.now.history plan (Only reply.Full)) (sym c.in-Ask.is) (inl (full, refl));
  can = tt;
  same = refl;
}

pub returns-in_err-verdict-in-Ask-2 : goal.returns-in_err-verdict-in-Ask-2
returns-in_err-verdict-in-Ask-2 c = record {
  calls = IfOk-from_err _ _ c.from_residual.ensures.0;
  can = IfOk-from_err _ _ c.from_residual.ensures.0;
  same = c.weigh.ensures.same;
}

pub called_by-requires : goal.called_by-requires
called_by-requires c =
    let fits = subst (λ (plan : Plan). CanBeServed c.args.core.now.setting.shape plan) c.in-Ask.is c.requires in
    subst (λ (a : Audited). FitsShape a.setting.shape c.in-Ask.asked.column c.in-Ask.asked.rows) (sym c.weigh.ensures.same) fits.fits

pub returns-in_ok-verdict-in-Ask-2 : goal.returns-in_ok-verdict-in-Ask-2
returns-in_ok-verdict-in-Ask-2 c =
    let called = subst (λ (a : Audited). CalledBy a.setting a.history c.in-Ask.take c.in-Ask.people c.in-Ask.asked
    c.in_ok-verdict-in-Ask-2.verdict c.called_by.result)
    c.weigh.ensures.same c.called_by.ensures in
    record {
      calls =
          let room : length c.args.core.now.history < most_records = search (rules, tests) in
          let judged = c.in_ok-verdict-in-Ask-2.ensures.judged in
          subst (λ (plan : Plan). CallsFor c.args.core.now.setting c.args.core.now.history plan c.called_by.result) (sym c.in-Ask.is)
          (inr (record { room = room; verdict = c.in_ok-verdict-in-Ask-2.verdict; judged = judged; called = called }));
      can =
          let fits = subst (λ (plan : Plan). CanBeServed c.args.core.now.setting.shape plan) c.in-Ask.is c.requires in
          taken_if_released c.args.core.now.setting c.args.core.now.history c.in-Ask.take c.in-Ask.people c.in-Ask.asked
          c.in_ok-verdict-in-Ask-2.verdict fits.fits c.in_ok-verdict-in-Ask-2.ensures.judged c.called_by.result called;
      same = c.weigh.ensures.same;
    }
