use Rattle.std.proofs.Common.{sym, ap, subst}
use Rattle.std.specs.Prelude.{All}
use Rattle.std.proofs.lemmas.Result.{IfOk-weaker}
use Rattle.audit_types.specs.Rows.{IsRowsOf}
use Rattle.audit_types.specs.Column.{with_groups}
use Rattle.sum_audit.proofs.Verdicts.{lists_of, right_with, possible_with}
use Rattle.sum_audit.proofs.column.SumColumn.probe_with.Goals as goal

pub returns-clause-judged : goal.returns-clause-judged
returns-clause-judged c =
    let inside = c.self.inside in
    let groups = lists_of c.args.apart.now in
    IfOk-weaker c.verdict_by.result _ _ (λ verdict told.
    (right_with c.one_more_set.ensures inside.people inside.apart.items inside.reach inside.basis inside.told.answers c.self.invariant
    c.n-2.ensures.counted c.args.apart.now (subst (λ k. All (IsRowsOf k.n) c.args.apart.now) (sym c.self.view_is) c.requires.apart)
    (with_groups c.args.self.now groups) (ap (λ k. with_groups k groups) c.self.view_is) c.args.rows.now.list c.args.rows.now.n c.n.ensures.are_rows
    c.requires.same_n verdict told).judged) c.verdict_by.ensures

pub returns-clause-decided : goal.returns-clause-decided
returns-clause-decided c =
    let inside = c.self.inside in
    let groups = lists_of c.args.apart.now in
    IfOk-weaker c.verdict_by.result _ _ (λ verdict told possible.
    (right_with c.one_more_set.ensures inside.people inside.apart.items inside.reach inside.basis inside.told.answers c.self.invariant
    c.n-2.ensures.counted c.args.apart.now (subst (λ k. All (IsRowsOf k.n) c.args.apart.now) (sym c.self.view_is) c.requires.apart)
    (with_groups c.args.self.now groups) (ap (λ k. with_groups k groups) c.self.view_is) c.args.rows.now.list c.args.rows.now.n c.n.ensures.are_rows
    c.requires.same_n verdict told).decided (possible_with c.args.self.now groups possible)) c.verdict_by.ensures
