use Rattle.std.specs.Prelude.{slice_set}
use Rattle.audit_types.specs.History.{known_of, list_of}
use Rattle.table_load.specs.Database.{table_in}
use Rattle.audit_core.specs.Laws.{HasNumbers}
use Rattle.audit_core.specs.RangeLaws.{stays_open_by}
use Rattle.audit_session.specs.Lives.{history_over}
use Rattle.audit_session.specs.Hidden.{MayHave}
use Rattle.audit_session.proofs.laws.open_ranges.Goals as goal

-- secrets that give every answer lead the life, so what a legal history leaves open the life does
pub returns : goal.returns
returns c = λ base runs last database numbers life column below.
    let table = table_in last.base in
    let history = history_over last.base last in
    let are = c.lists_of_secrets.ensures last.base.secret numbers in
    let legal = c.lives.ensures.legal base runs last life in
    stays_open_by (HasNumbers table history column) (MayHave base runs last column)
    (λ Is has. (
      has.numbers,
      has.one_each,
      c.hidden.ensures.agreeing base runs last (slice_set last.base.secret.lists column has.numbers) life has.agree,
      has.is,
    ))
    (known_of table.setting history column) (list_of last.base.secret.lists column)
    (c.open_ranges.ensures table history column are database.protected legal below)
