use Rattle.std.proofs.Common.{◌≡◌, [], ◌∷◌, Err, sym, ap, ◌∙◌, subst, length}
use Rattle.audit_types.specs.Shapes.{columns}
use Rattle.journal_audit.specs.Texts.{total_line}
use Rattle.journal_audit.specs.Reports.{audit_of, totals, SendsLinesOn}
use Rattle.journal_audit.proofs.LinesOn.{refusal_is, no_memory, line_on}
use Rattle.journal_audit.proofs.reporting.send_totals.Goals as goal

pub returns-in_err-write_totals : goal.returns-in_err-write_totals
returns-in_err-write_totals g c =
    let audit = audit_of c.args.schema.now.columns c.args.store.now in
    let is = refusal_is c.from_residual.result _ c.from_residual.ensures in
    subst (λ r. SendsLinesOn g.B.Bench audit (totals c.args.people ∷ []) c.args.bench.now c.args.bench.now r) (sym (is.1.0 ∙ ap Err is.1.1))
    (no_memory g.B.Bench g.met.B.Bench.only_now audit (totals c.args.people ∷ []) c.args.bench.now)

pub returns : goal.returns
returns g c =
    let audit = audit_of c.args.schema.now.columns c.args.store.now in
    let shape : c.shape-shape.result ≡ audit.shape = c.shape-shape.ensures.shape in
    let counted : c.columns.result ≡ columns audit.shape = c.columns.ensures ∙ ap columns shape in
    let line : c.deref.result.now ≡ total_line (length audit.history) (columns audit.shape) audit.shape.rows c.args.people =
    c.deref.ensures.value ∙ c.in_ok-write_totals.ensures
    ∙ (λ i. total_line (length (c.history-records.ensures.history i)) (counted i) (shape i).rows c.args.people) in
    line_on g.B.Bench g.met.B.Bench.only_now audit (totals c.args.people) c.deref.result.now tt line c.args.bench.now c.send_line.new.bench
    c.send_line.result c.send_line.ensures
