use Rattle.std.proofs.Common.{[], ◌∷◌, Err, sym, ap, ◌∙◌, subst}
use Rattle.audit_types.specs.Shapes.{columns}
use Rattle.journal_audit.specs.Reports.{audit_of, subjects, subjects_before, totals, SendsLinesOn}
use Rattle.journal_audit.proofs.LinesOn.{refusal_is, and_then, refused}
use Rattle.journal_audit.proofs.reporting.audit.Given.{Over}
use Rattle.journal_audit.proofs.reporting.audit.Goals as goal
use Rattle.journal_audit.proofs.reporting.audit.Goals.{After-drop-line}

-- the columns' lines were refused
refused_first : (g : Over) (c : After-drop-line g) →
    SendsLinesOn g.B.Bench (audit_of c.args.schema.now.columns c.args.store.now)
    (subjects c.args.store.now.secret.shape c.args.people) c.args.bench.now c.send_columns.new.bench c.from_residual.result
refused_first g c =
    let shape = c.args.store.now.secret.shape in
    let audit = audit_of c.args.schema.now.columns c.args.store.now in
    let is = refusal_is c.from_residual.result _ c.from_residual.ensures in
    subst (λ r. SendsLinesOn g.B.Bench audit (subjects shape c.args.people) c.args.bench.now c.send_columns.new.bench r)
    (sym (is.1.0 ∙ ap Err is.1.1))
    (refused g.B.Bench g.met.B.Bench.only_now audit (subjects_before shape (columns shape))
    (totals c.args.people ∷ []) c.args.bench.now c.send_columns.new.bench c.in_err-send_columns.field-0.0 c.in_err-send_columns.ensures)

-- the columns' lines were sent, and then that of totals
then_totals : (g : Over) (c : goal.After-drop-line-2 g) →
    SendsLinesOn g.B.Bench (audit_of c.args.schema.now.columns c.args.store.now)
    (subjects c.args.store.now.secret.shape c.args.people) c.args.bench.now c.send_totals.new.bench c.send_totals.result
then_totals g c =
    let shape = c.args.store.now.secret.shape in
    let audit = audit_of c.args.schema.now.columns c.args.store.now in
    and_then g.B.Bench g.met.B.Bench.only_now audit (subjects_before shape (columns shape))
    (totals c.args.people ∷ []) c.args.bench.now c.send_columns.new.bench c.send_totals.new.bench c.in_ok-send_columns.ensures c.send_totals.result
    c.send_totals.ensures

pub returns-in_err-send_columns : goal.returns-in_err-send_columns
returns-in_err-send_columns g c =
    let all = refused_first g c in
    record {
      report = all.sends;
      part = all.part;
      any_moment = all.moments;
      ticks = all.ticks;
      file = all.file;
      crash = all.crash;
      failed = all.failed;
      last_call = all.last_call;
      later = all.later;
      steady = all.steady;
      ends = all.ends;
    }

pub returns : goal.returns
returns g c =
    let all = then_totals g c in
    record {
      report = all.sends;
      part = all.part;
      any_moment = all.moments;
      ticks = all.ticks;
      file = all.file;
      crash = all.crash;
      failed = all.failed;
      last_call = all.last_call;
      later = all.later;
      steady = all.steady;
      ends = all.ends;
    }
