use Rattle.std.proofs.Common.{[], subst}
use Rattle.audit_types.specs.Form.{set_row}
use Rattle.sum_basis.specs.Basis.{Echelon}
use Rattle.sum_basis.specs.Growth.{ForeseesApart}
use Rattle.sum_basis.proofs.basis.Basis.weigh_short.Goals as goal

pub returns-clause-foresees : goal.returns-clause-foresees
returns-clause-foresees c =
    subst (λ (s : Echelon). ForeseesApart s (set_row s.n c.args.rows.now.list) c.args.shared.now.list [] c.tell_alone-prospect.result) c.self.view_is
    (c.tell_alone-prospect.ensures (set_row c.self.inside.form.n c.args.rows.now.list) c.in_ok-weighed.ensures)
