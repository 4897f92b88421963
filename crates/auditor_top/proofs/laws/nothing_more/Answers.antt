use Rattle.std.proofs.Common.{◌≡◌, refl, length, map, sym, subst, take, get_or, arith}
use Rattle.std.proofs.lemmas.List.{take_all}
use Rattle.std.proofs.lemmas.List.Folds.{map_fixed}
use Rattle.audit_types.specs.ListLaws.{all-get_or}
use Rattle.audit_types.specs.History.{Secrets, AreSecrets}
use Rattle.table_load.specs.Database.{IsDatabase, table_in}
use Rattle.audit_session.specs.Hidden.{with_secrets, run_with, standing_with}
use Rattle.auditor_top.specs.declared.status.Status.TheVariants.{Done}
use Rattle.auditor_top.specs.Ends.{audit_over, people_over}
use Rattle.audit_session.specs.HistoryFacts.{rows_of_legal}
use Rattle.auditor_top.proofs.OneReport.{one_report}
use Rattle.auditor_top.proofs.ShownAlike.{twins_alike}
use Rattle.auditor_top.proofs.laws.nothing_more.Goals as goal

pub returns-clause-alike : goal.returns-clause-alike
returns-clause-alike c = twins_alike

pub returns-clause-one : goal.returns-clause-one
returns-clause-one c = λ base other history before after sent twins legal here there.
    one_report c.forms_are_unique.ensures c.canonical_direction.ensures (audit_over base history) (rows_of_legal (table_in base) history legal)
    (people_over base) before after sent here (((twins_alike base other history twins).report Done before sent).1 there)

pub returns-clause-lives : goal.returns-clause-lives
returns-clause-lives c = λ schema table base runs last column own value files life below are_own guarded.
    let database = c.sound_files.ensures.database schema table last.base files in
    let numbers = c.sound_files.ensures.secret schema table last.base files in
    let twin = c.hidden.ensures.hide base runs last database numbers life column own value below are_own guarded in
    let shape = last.base.secret.shape in
    let there : IsDatabase (with_secrets twin.lists last.base) = record { schema = database.schema; shape = database.shape; protected = database.protected } in
    let whole = map_fixed (take shape.rows) twin.lists (λ k d lt. take_all shape.rows (get_or twin.lists k d)
    (omega (arith, all-get_or (λ w. length w ≡ shape.rows) twin.lists k d twin.are_secrets.numbers lt))) in
    let are : AreSecrets shape (map (take shape.rows) twin.lists) = subst (λ (lists : Secrets). AreSecrets shape lists) (sym whole) twin.are_secrets in
    record {
      twin = twin;
      keeps = c.lives.ensures.keep (with_secrets twin.lists base) (map (run_with twin.lists) runs) (standing_with twin.lists last) there are
          twin.life;
      alike = λ at. twins_alike at.base (with_secrets twin.lists at.base) at.history (refl, refl);
    }
