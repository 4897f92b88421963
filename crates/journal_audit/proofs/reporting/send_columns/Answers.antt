use Rattle.std.proofs.Common.{◌≡◌, ◌<◌, ◌++◌, Ok, Err, length, take, sym, ap, ◌∙◌, subst, arith}
use Rattle.std.proofs.Math.Seq.{take-length}
use Rattle.audit_types.specs.Shapes.{columns, kind_at}
use Rattle.schema_json.specs.Columns.{secret_count}
use Rattle.journal_audit.specs.Reports.{audit_of, subjects_before, subjects_of, SendsLinesOn}
use Rattle.journal_audit.proofs.LinesOn.{refusal_is, no_lines, and_then, refused_among}
use Rattle.journal_audit.proofs.SecretNames.{secret_at, one_more_secret, no_more_secret}
use Rattle.journal_audit.proofs.Subjects.{subjects_before-more, column_among}
use Rattle.journal_audit.proofs.reporting.send_columns.Goals as goal
use Rattle.journal_audit.proofs.reporting.send_columns.Goals.{in-Some+in_ok-send_column, in_default}

pub loop-place-init : goal.loop-place-init
loop-place-init g c = no_lines g.B.Bench g.met.B.Bench.only_now (audit_of c.args.schema.now.columns c.args.store.now) c.args.bench.now

pub send_column-requires-clause-below : goal.send_column-requires-clause-below
send_column-requires-clause-below g c =
    subst (λ s. c.in-Some.column < columns s) (sym c.requires.shape) (c.in-Some.ensures.kind.has.below c.args.store.now.secret.shape.rows)

pub returns-in_err-send_column : goal.returns-in_err-send_column
returns-in_err-send_column g c =
    let shape = c.args.store.now.secret.shape in
    let audit = audit_of c.args.schema.now.columns c.args.store.now in
    let column = c.in-Some.column in
    let below = subst (λ s. column < columns s) (sym c.requires.shape) (c.in-Some.ensures.kind.has.below shape.rows) in
    let counted = (secret_at c.args.schema.now.columns c.loop-place.place column (sym c.in-Some.ensures.place)).counted in
    let is = refusal_is c.from_residual.result _ c.from_residual.ensures in
    let among = column_among shape column (columns shape) below in
    refused_among g.B.Bench g.met.B.Bench.only_now audit (subjects_before shape column)
    (subjects_of shape column (kind_at shape column)) among.0
    (subjects_before shape (columns shape)) c.args.bench.now c.loop-place.bench c.send_column.new.bench
    c.from_residual.result c.in_err-send_column.field-0.0 among.1 (is.1.0 ∙ ap Err is.1.1)
    (subst (λ n. SendsLinesOn g.B.Bench audit (subjects_before shape n) c.args.bench.now c.loop-place.bench (Ok tt)) (sym counted)
    c.loop-place.invariant)
    c.in_err-send_column.ensures

pub loop-place-preserved : goal.loop-place-preserved
loop-place-preserved g c =
    let shape = c.args.store.now.secret.shape in
    let schema = c.args.schema.now.columns in
    let audit = audit_of schema c.args.store.now in
    let place = c.loop-place.place in
    let below : place < length schema = omega (arith, c.loop-place-test.true, c.count-place-end.ensures.count) in
    elim c.match-secret.branch [
      | in-Some+in_ok-send_column w ↦
          let column = w.in-Some.column in
          let found = sym c.secret.ensures.place ∙ w.in-Some.is in
          let so_far = subst (λ n. SendsLinesOn g.B.Bench audit (subjects_before shape n) c.args.bench.now c.loop-place.bench (Ok tt))
          (sym (secret_at schema place column found).counted) c.loop-place.invariant in
          let both = and_then g.B.Bench g.met.B.Bench.only_now audit (subjects_before shape column)
          (subjects_of shape column (kind_at shape column)) c.args.bench.now c.loop-place.bench w.send_column.new.bench so_far
          (Ok tt) w.in_ok-send_column.ensures in
          subst (λ l. SendsLinesOn g.B.Bench audit l c.args.bench.now c.match-secret.bench (Ok tt))
          (sym (ap (subjects_before shape) (one_more_secret schema place column found) ∙ subjects_before-more shape column))
          (subst (λ b. SendsLinesOn g.B.Bench audit
          (subjects_before shape column ++ subjects_of shape column (kind_at shape column)) c.args.bench.now b
          (Ok tt)) (sym w.bench-is) both)
      | in_default w ↦
          let none = sym c.secret.ensures.place ∙ w.in_default.is in
          subst (λ n. SendsLinesOn g.B.Bench audit (subjects_before shape n) c.args.bench.now c.match-secret.bench (Ok tt))
          (sym (no_more_secret schema place below none))
          (subst (λ b. SendsLinesOn g.B.Bench audit (subjects_before shape (secret_count (take place schema))) c.args.bench.now b (Ok tt))
          (sym w.bench-is) c.loop-place.invariant)
    ]

pub returns : goal.returns
returns g c =
    let shape = c.args.store.now.secret.shape in
    let schema = c.args.schema.now.columns in
    let audit = audit_of schema c.args.store.now in
    let end : c.loop-place.place ≡ length schema = omega (arith, c.loop-place-test.false, c.loop-place.auto.place-end, c.count-place-end.ensures.count) in
    let all = ap (λ n. secret_count (take n schema)) end ∙ ap secret_count (take-length schema)
    ∙ sym (c.shape_of_a_table.ensures.secrets schema shape.rows c.count-place-end.ensures.columns) ∙ ap columns (sym c.requires.shape) in
    subst (λ n. SendsLinesOn g.B.Bench audit (subjects_before shape n) c.args.bench.now c.loop-place.bench (Ok tt)) all c.loop-place.invariant
