use Rattle.std.proofs.Common.{[]}
use Rattle.audit_session.specs.Lives.{over_all}
use Rattle.auditor_top.proofs.OneRunMore.{lead_push}
use Rattle.auditor_top.proofs.NextRuns.{serves_next}
use Rattle.auditor_top.proofs.laws.lives.Goals as goal

pub returns-clause-keep : goal.returns-clause-keep
returns-clause-keep c = λ schema table base runs last files life.
    c.lives.ensures.keep base runs last (c.sound_files.ensures.database schema table last.base files)
    (c.lists_of_secrets.ensures last.base.secret (c.sound_files.ensures.secret schema table last.base files)) life

pub returns-clause-go_on : goal.returns-clause-go_on
returns-clause-go_on c = λ schema table image base now runs last files life follows numbers keeps rows stands.
    serves_next c.lives.ensures.legal c.followers.ensures schema table image base now runs last files (c.sound_files.ensures.database schema table now files)
    (c.lists_of_secrets.ensures now.secret (c.sound_files.ensures.secret schema table now files)) life follows numbers keeps rows stands

pub returns-clause-longer : goal.returns-clause-longer
returns-clause-longer c = λ schema table base runs at run files life goes.
    let numbers = c.sound_files.ensures.secret schema table run.left.base files in
    let database = c.sound_files.ensures.database schema table run.left.base files in
    let longer = lead_push (over_all base []) runs at run life (goes database) in
    record {
      life = longer;
      keeps = c.lives.ensures.keep base _ run.left database (c.lists_of_secrets.ensures run.left.base.secret numbers) longer;
      hides = c.hidden.ensures.hide base _ run.left database numbers longer;
      people = c.hidden.ensures.people base _ run.left database (c.sound_files.ensures.lines schema table run.left.base files) numbers longer;
      stood = c.hidden.ensures.stood base _ run.left database numbers longer;
      ranges = c.open_ranges.ensures base _ run.left database numbers longer;
      alike = λ twin others final line a b twins other are. c.two_worlds.ensures.lives base twin _ others run.left final line a b twins longer other are;
    }
