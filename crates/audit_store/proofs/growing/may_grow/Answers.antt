use Rattle.std.proofs.Common.{rules, ◌≡◌, All, List, sym, ap, subst, ◌∙◌}
use Rattle.audit_types.specs.declared.shapes.Shape.{Shape}
use Rattle.audit_types.specs.declared.records.Answered.{Answered}
use Rattle.audit_types.specs.History.{FitsShape, Table}
use Rattle.audit_store.proofs.FittingWider.{fit_wider}
use Rattle.audit_store.proofs.growing.may_grow.Goals as goal

pub audited-requires-clause-fit : goal.audited-requires-clause-fit
audited-requires-clause-fit c =
    let now = c.shape-now.result in
    let kinds : c.args.kept.now.kinds ≡ now.kinds = search rules in
    let all = fit_wider c.args.kept.now now c.args.list.now kinds c.if-now-kept.false c.requires.fit in
    subst (λ (s : Shape). All (λ (r : Answered). FitsShape s r.column r.rows) c.widen_all.new.list)
    (c.shape-now.ensures.shape ∙ ap (λ (t : Table). t.setting.shape) (sym c.apart-secret.ensures.table))
    (subst (λ (l : List Answered). All (λ (r : Answered). FitsShape now r.column r.rows) l) (sym c.widen_all.ensures) all)
