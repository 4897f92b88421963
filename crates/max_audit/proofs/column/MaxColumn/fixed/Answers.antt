use Rattle.std.proofs.Common.{subst, ap}
use Rattle.audit_types.specs.Extremes.{IsLeastLone}
use Rattle.max_audit.proofs.LeastFixed.{least_fixed}
use Rattle.max_audit.proofs.column.MaxColumn.fixed.Goals as goal

pub returns-clause-lone : goal.returns-clause-lone
returns-clause-lone c = subst (λ answers. IsLeastLone answers c.lone_extreme.result) (ap (λ known. known.answers) c.self.view_is) c.lone_extreme.ensures

pub returns-clause-fixed : goal.returns-clause-fixed
returns-clause-fixed c =
    least_fixed c.self.inside.people c.self.inside.bounds c.self.inside.width c.self.inside.reach c.self.invariant c.args.self.now c.self.view_is
    c.lone_extreme.result c.lone_extreme.ensures
