use Rattle.std.proofs.Common.{List, [], inl, inr, refl, subst, arith}
use Rattle.audit_types.specs.Column.{number}
use Rattle.audit_types.specs.History.{list_of}
use Rattle.audit_types.specs.Truth.{number_at}
use Rattle.table_load.specs.Database.{table_in}
use Rattle.audit_session.specs.Lives.{Run, IsLife, over_all, history_over}
use Rattle.audit_session.proofs.HiddenLives.{leads_alike, from_run, rows_to, differs_or, agree_own}
use Rattle.audit_session.proofs.HiddenPeople.{hides_each_person}
use Rattle.audit_session.proofs.laws.hidden.Goals as goal

pub returns-clause-agreeing : goal.returns-clause-agreeing
returns-clause-agreeing c = leads_alike c.one_reading.ensures c.answered_lines.ensures c.lives.ensures.legal

pub returns-clause-hide : goal.returns-clause-hide
returns-clause-hide c = λ base runs last database numbers life column own value below are_own guarded.
    let lead = leads_alike c.one_reading.ensures c.answered_lines.ensures c.lives.ensures.legal base runs last in
    let are = c.lists_of_secrets.ensures last.base.secret numbers in
    let found = (c.lives.ensures.keep base runs last database are life).undisclosed column own value below are_own guarded in
    record { lists = found.twin; are_secrets = found.are_secrets; life = lead found.twin life found.agree; same = found.same; differs = found.differs }

-- of the other number and the last one, one isn't that which stood there
pub returns-clause-stood : goal.returns-clause-stood
returns-clause-stood c = λ base runs last database numbers life before after run column row is below few within.
    let lead = leads_alike c.one_reading.ensures c.answered_lines.ensures c.lives.ensures.legal base runs last in
    let are = c.lists_of_secrets.ensures last.base.secret numbers in
    let own = last.base.secret.lists in
    let legal = c.lives.ensures.legal base runs last life in
    let rows = rows_to run.left after last (from_run (over_all base []) before after run last (subst (λ (list : List Run). IsLife base list last) is life)) in
    let found = (c.lives.ensures.keep base runs last database are life).undisclosed column [] (λ w. number_at w row) below (tt, omega arith, tt)
    (number row (omega (arith, rows, within)) refl few) in
    elim (differs_or (number_at (list_of found.twin column) row) (number_at (list_of own column) row)
    (number_at (list_of run.left.base.secret.lists column) row) found.differs) [
      | inl other ↦ record { lists = found.twin; are_secrets = found.are_secrets; life = lead found.twin life found.agree; same = λ c. tt; differs = other }
      | inr last_one ↦ record {
        lists = own;
        are_secrets = are;
        life = lead own life (agree_own (table_in last.base) (history_over last.base last) are legal);
        same = λ c. tt;
        differs = last_one;
      }
    ]

pub returns-clause-people : goal.returns-clause-people
returns-clause-people c = λ base runs last database lines numbers life.
    let lead = leads_alike c.one_reading.ensures c.answered_lines.ensures c.lives.ensures.legal base runs last in
    let are = c.lists_of_secrets.ensures last.base.secret numbers in
    let kept = c.lives.ensures.keep base runs last database are life in
    hides_each_person c.people_behind_lines.ensures.differ base runs last database lines are
    (lead last.base.secret.lists life (agree_own (table_in last.base) (history_over last.base last) are (c.lives.ensures.legal base runs last life)))
    (λ column row below within few.
    let found = kept.undisclosed column [] (λ w. number_at w row) below (tt, omega arith, tt) (number row within refl few) in
    record { others = found.twin; are_secrets = found.are_secrets; still = lead found.twin life found.agree; differs = found.differs })
