use Rattle.sum_audit.proofs.Verdicts.{least_pinned}
use Rattle.sum_audit.proofs.column.SumColumn.fixed.Goals as goal

pub returns : goal.returns
returns c =
    let inside = c.self.inside in
    least_pinned inside.people inside.apart.items inside.reach inside.basis inside.told.answers c.self.invariant c.args.self.now c.self.view_is
    c.unit_row.result c.unit_row.ensures
