use Rattle.sum_basis.proofs.KeptForms.{pivot_seen}
use Rattle.sum_basis.proofs.form.Form.pivot.Goals as goal

pub returns-clause-pivot : goal.returns-clause-pivot
returns-clause-pivot c =
    pivot_seen c.self.inside.columns c.self.inside.rows.items c.args.self.now c.self.view_is c.self.invariant.kept c.args.k c.index.result.now c.requires
    c.index.ensures
