use Rattle.std.proofs.Common.{[]}
use Rattle.table_load.specs.Database.{table_in}
use Rattle.audit_session.specs.Lives.{over_all, history_over}
use Rattle.audit_session.proofs.GrowingLives.{last_stands, all_kept, fresh_stands}
use Rattle.audit_session.proofs.laws.lives.Goals as goal

pub returns-clause-keep : goal.returns-clause-keep
returns-clause-keep c = λ base runs last database are life.
    let one = c.one_reading.ensures in
    let keep = c.answered_lines.ensures in
    let begun = fresh_stands one keep base in
    let stands = last_stands one keep (over_all base []) runs last begun life in
    record {
      legal = stands.legal;
      undisclosed = c.legal_histories.ensures (table_in last.base) (history_over last.base last) are database.protected stands.legal;
      kept = all_kept one keep (over_all base []) runs last begun life;
    }

pub returns-clause-legal : goal.returns-clause-legal
returns-clause-legal c = λ base runs last life.
    let one = c.one_reading.ensures in
    let keep = c.answered_lines.ensures in (last_stands one keep (over_all base []) runs last (fresh_stands one keep base) life).legal
