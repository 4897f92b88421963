use Rattle.std.proofs.Common.{rules, tests, ◌<◌, length, OnOk, Result, Ok, Err, subst, sym, inr}
use Rattle.audit_types.specs.Limits.{most_records}
use Rattle.question_plan.specs.declared.planning.Plan.{Plan}
use Rattle.certificate_lines.specs.Explained.{IsLineOf}
use Rattle.certificate_lines.proofs.deciding.write_line.Goals as goal

on_ok : {E P Q : Type 0} (r : Result (Unit {0}) E) → (P → Q) → OnOk r P → OnOk r Q
on_ok (Ok done) to is = to is
on_ok (Err e) to is = tt

pub write_verdict-requires-clause-decided : goal.write_verdict-requires-clause-decided
write_verdict-requires-clause-decided c =
    let legal = c.requires.legal in
    c.in_ok-verdict-in-Ask-2.ensures.decided
    (c.true_answers.ensures.legal (record { setting = c.args.core.now.setting; secrets = legal.secrets }) c.args.core.now.history legal.are_secrets legal.legal)

pub returns-in_ok-verdict-in-Ask-2-clause-line : goal.returns-in_ok-verdict-in-Ask-2-clause-line
returns-in_ok-verdict-in-Ask-2-clause-line c =
    let room : length c.args.core.now.history < most_records = search (rules, tests) in
    let legal = c.requires.legal in
    let setting = c.args.core.now.setting in
    let history = c.args.core.now.history in
    let decided =
    c.in_ok-verdict-in-Ask-2.ensures.decided
    (c.true_answers.ensures.legal (record { setting = setting; secrets = legal.secrets }) history legal.are_secrets legal.legal) in
    on_ok c.write_verdict.result
    (λ line_for. subst (λ (plan : Plan). IsLineOf setting history plan c.write_verdict.new.line.items) (sym c.in-Ask-2.is)
    (inr (record { room = room; verdict = c.in_ok-verdict-in-Ask-2.verdict; decided = decided; line_for = line_for })))
    c.write_verdict.ensures.line
