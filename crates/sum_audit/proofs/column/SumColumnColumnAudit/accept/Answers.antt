use Rattle.std.proofs.Common.{arith}
use Rattle.std.proofs.lemmas.List.{map-append}
use Rattle.sum_audit.proofs.Verdicts.{stays_narrow}
use Rattle.sum_audit.proofs.column.SumColumnColumnAudit.accept.Goals as goal

pub insert-requires-clause-narrow : goal.insert-requires-clause-narrow
insert-requires-clause-narrow c =
    let inside = c.self.inside in
    stays_narrow inside.people inside.apart.items inside.reach inside.basis inside.told.answers c.self.invariant c.args.self.now c.self.view_is
    c.args.rows.now.list c.requires.narrow

pub returns-clause-ok : goal.returns-clause-ok
returns-clause-ok c = grind (arith, map-append)
