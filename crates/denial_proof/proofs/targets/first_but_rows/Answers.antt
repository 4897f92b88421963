use Rattle.std.proofs.Common.{◌≡◌, ap, sym, ◌∙◌, arith}
use Rattle.audit_types.specs.Headcount.{Headcount, own_of}
use Rattle.audit_types.specs.declared.counted_rows.Askers.TheVariants.{Inside}
use Rattle.denial_proof.proofs.targets.first_but_rows.Goals as goal

pub first_inside-requires-clause-inside : goal.first_inside-requires-clause-inside
first_inside-requires-clause-inside c =
    let own : own_of Inside ≡ c.args.protected.now.people.own
    = ap own_of (sym c.in-Inside.is) ∙ c.askers.ensures ∙ ap (λ (p : Headcount). p.own) c.rows.ensures in
    omega arith

pub first_outside-requires-clause-outside : goal.first_outside-requires-clause-outside
first_outside-requires-clause-outside c =
    sym (ap own_of (sym c.in-Outside.is) ∙ c.askers.ensures ∙ ap (λ (p : Headcount). p.own) c.rows.ensures)
