use Rattle.std.proofs.Common.{rules, List, [], ◌∷◌, ◌++◌, sym, ap, subst, ◌∙◌, FitsSigned, to_z, of_z, append-nil}
use Rattle.std.specs.Int.{w64}
use Rattle.std.proofs.Math.Facts.{to_z-of_z}
use Rattle.audit_types.specs.declared.records.Answered.{Answered}
use Rattle.audit_types.specs.History.{IsLegal}
use Rattle.audit_core.specs.Audited.{Audited}
use Rattle.audit_core.specs.declared.outcome.Outcome.{Outcome}
use Rattle.audit_core.specs.Outcomes.{IsOutcome}
use Rattle.table_load.specs.Cells.{SecretView}
use Rattle.table_load.specs.Database.{secret_table}
use Rattle.audit_store.specs.declared.sealed.Sealed.{Sealed}
use Rattle.audit_store.proofs.asking.decide.Goals as goal

pub returns-in_ok-take-in-Answer-clause-legal : goal.returns-in_ok-take-in-Answer-clause-legal
returns-in_ok-take-in-Answer-clause-legal c =
    let table = secret_table c.args.sealed.now.secret c.args.sealed.now.core.setting.protected in
    let history = c.args.sealed.now.core.history in
    let asked = c.args.asked.now in
    let in_range : FitsSigned w64 c.in-Answer.answer = search rules in
    let r : Answered = record { column = asked.column; rows = asked.rows; answer = to_z w64 (of_z w64 c.in-Answer.answer) } in
    let outcome = subst (λ (o : Outcome). IsOutcome table history asked o) c.in-Answer.is c.in_ok-answer.ensures.outcome in
    let grown = ap (λ (a : Audited). a.history) c.in_ok-take-in-Answer.ensures.ok
    ∙ ap (λ (s : Sealed SecretView). s.core.history ++ r ∷ []) c.in_ok-answer.ensures.same in
    let more = c.released_records.ensures table history r c.requires.legal outcome.0 (record {
      fits = c.requires.fits;
      true_answer = to_z-of_z in_range ∙ outcome.2;
      released = outcome.1;
    }) in
    subst (λ (h : List Answered). IsLegal table h) (sym grown) more

pub returns-in-Full-clause-outcome : goal.returns-in-Full-clause-outcome
returns-in-Full-clause-outcome c =
    subst (λ (o : Outcome). IsOutcome (secret_table c.args.sealed.now.secret c.args.sealed.now.core.setting.protected) c.args.sealed.now.core.history
    c.args.asked.now o) c.in-Full.is c.in_ok-answer.ensures.outcome

pub returns-in-Full-clause-history : goal.returns-in-Full-clause-history
returns-in-Full-clause-history c = ap (λ (s : Sealed SecretView). s.core.history) c.in_ok-answer.ensures.same ∙ sym (append-nil c.args.sealed.now.core.history)

-- ---- no record is made

pub returns-in-Denied-clause-outcome : goal.returns-in-Denied-clause-outcome
returns-in-Denied-clause-outcome c = subst (λ (o : Outcome). IsOutcome
    (secret_table c.args.sealed.now.secret c.args.sealed.now.core.setting.protected) c.args.sealed.now.core.history c.args.asked.now o) c.in-Denied.is
    c.in_ok-answer.ensures.outcome

pub returns-in-Denied-clause-history : goal.returns-in-Denied-clause-history
returns-in-Denied-clause-history c = ap (λ (s : Sealed SecretView). s.core.history) c.in_ok-answer.ensures.same
    ∙ sym (append-nil c.args.sealed.now.core.history)

pub returns-in-Denied-clause-legal : goal.returns-in-Denied-clause-legal
returns-in-Denied-clause-legal c = subst (λ (h : List Answered). IsLegal (secret_table c.args.sealed.now.secret c.args.sealed.now.core.setting.protected) h)
    (sym (ap (λ (s : Sealed SecretView). s.core.history) c.in_ok-answer.ensures.same)) c.requires.legal

pub returns-in-Denied-clause-kept : goal.returns-in-Denied-clause-kept
returns-in-Denied-clause-kept c = tt

pub returns-in-Denied-clause-setting : goal.returns-in-Denied-clause-setting
returns-in-Denied-clause-setting c = ap (λ (s : Sealed SecretView). s.core.setting) c.in_ok-answer.ensures.same

pub returns-in-Full-clause-legal : goal.returns-in-Full-clause-legal
returns-in-Full-clause-legal c = subst (λ (h : List Answered). IsLegal (secret_table c.args.sealed.now.secret c.args.sealed.now.core.setting.protected) h)
    (sym (ap (λ (s : Sealed SecretView). s.core.history) c.in_ok-answer.ensures.same)) c.requires.legal

pub returns-in-Full-clause-kept : goal.returns-in-Full-clause-kept
returns-in-Full-clause-kept c = tt

pub returns-in-Full-clause-setting : goal.returns-in-Full-clause-setting
returns-in-Full-clause-setting c = ap (λ (s : Sealed SecretView). s.core.setting) c.in_ok-answer.ensures.same
