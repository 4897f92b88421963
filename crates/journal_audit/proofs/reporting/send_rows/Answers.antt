use Rattle.std.proofs.Common.{◌≡◌, ◌<◌, [], ◌∷◌, ◌++◌, Ok, Err, sym, ap, ◌∙◌, subst, arith}
use Rattle.std.specs.Prelude.{◌==◌, filter, map}
use Rattle.std.specs.List.{AllByRecursion}
use Rattle.std.proofs.lemmas.Bool.{true≢false}
use Rattle.audit_types.specs.Headcount.{Counted}
use Rattle.audit_types.specs.History.{Protection, known_of, setting_of}
use Rattle.audit_types.specs.declared.records.Answered.{Answered}
use Rattle.sum_audit.specs.Sets.{sets_of}
use Rattle.table_load.specs.Database.{secret_table}
use Rattle.witness_check.specs.Directions.{lists_of}
use Rattle.journal_audit.specs.Reports.{audit_of, row_of, sets_of_column, SendsLinesOn}
use Rattle.journal_audit.proofs.FreeColumns.{lists_of_records, same_n, sets_same_n}
use Rattle.journal_audit.proofs.LinesOn.{refusal_is, no_lines, no_memory, line_on, no_line_on, and_then, refused_among}
use Rattle.journal_audit.proofs.RowLines.{is_row_line, has_line_here, guarded_is_free, not_known_to_all, not_pinned_here, row_among}
use Rattle.journal_audit.proofs.SecretNames.{name_is, place_below}
use Rattle.journal_audit.proofs.Subjects.{rows_before, rows_before-more}
use Rattle.journal_audit.proofs.reporting.send_rows.Goals as goal
use Rattle.journal_audit.proofs.reporting.send_rows.Goals.{then-has_line+in_ok-write_row+in_ok-send_line, else-has_line}

pub returns-in_err-sets : goal.returns-in_err-sets
returns-in_err-sets g c =
    let audit = audit_of c.args.schema.now.columns c.args.store.now in
    let all = rows_before c.args.column audit.shape.rows in
    let is = refusal_is c.from_residual.result _ c.from_residual.ensures in
    subst (λ r. SendsLinesOn g.B.Bench audit all c.args.bench.now c.args.bench.now r) (sym (is.1.0 ∙ ap Err is.1.1))
    (no_memory g.B.Bench g.met.B.Bench.only_now audit all c.args.bench.now)

pub returns-in_err-people : goal.returns-in_err-people
returns-in_err-people g c =
    let audit = audit_of c.args.schema.now.columns c.args.store.now in
    let all = rows_before c.args.column audit.shape.rows in
    let is = refusal_is c.from_residual-in_err-people.result _ c.from_residual-in_err-people.ensures in
    subst (λ r. SendsLinesOn g.B.Bench audit all c.args.bench.now c.args.bench.now r) (sym (is.1.0 ∙ ap Err is.1.1))
    (no_memory g.B.Bench g.met.B.Bench.only_now audit all c.args.bench.now)

pub loop-row-init : goal.loop-row-init
loop-row-init g c = no_lines g.B.Bench g.met.B.Bench.only_now (audit_of c.args.schema.now.columns c.args.store.now) c.args.bench.now

pub write_row-requires-clause-row : goal.write_row-requires-clause-row
write_row-requires-clause-row g c = subst (λ n. c.loop-row.row < n) c.n-row-end.ensures.n c.loop-row-test.true

pub write_row-requires-clause-free : goal.write_row-requires-clause-free
write_row-requires-clause-free g c =
    let audit = audit_of c.args.schema.now.columns c.args.store.now in
    let secret = c.args.store.now.secret in
    let people = ap (λ (k : Counted). k.people) c.in_ok-people.ensures ∙ c.rows.ensures ∙ ap (λ (p : Protection). p.people) c.protected.ensures in
    let here = has_line_here audit c.args.column c.loop-row.row c.in_ok-people.people.people c.args.sums.now.n c.args.sums.now.answers people
    c.requires.part.n c.requires.part.answers in
    not_pinned_here audit c.args.column c.loop-row.row c.args.sums.now.n c.args.sums.now.answers c.requires.part.n c.requires.part.answers
    (not_known_to_all audit c.args.column c.loop-row.row (here.0 (c.has_line.ensures.0 c.if-has_line.true))
    (guarded_is_free (known_of (setting_of audit.shape c.args.store.now.protected) audit.history c.args.column) (sets_of_column c.args.column audit.history)
    c.loop-row.row
    (c.free_numbers.ensures.pinned (secret_table secret c.args.store.now.protected) audit.history c.args.column
    (c.lists_of_secrets.ensures secret c.requires.is.numbers) c.requires.is.fit c.requires.is.legal c.requires.below c.requires.part.own_kind)))

pub write_row-requires-clause-same_n : goal.write_row-requires-clause-same_n
write_row-requires-clause-same_n g c =
    let audit = audit_of c.args.schema.now.columns c.args.store.now in
    let sets = sets_same_n audit.shape.rows (λ r. r.column == c.args.column) audit.history
    (same_n (secret_table c.args.store.now.secret c.args.store.now.protected) audit.history c.requires.is.legal) in
    let here = c.deref.ensures.value ∙ c.in_ok-sets.ensures ∙ ap
    (λ l. map (λ (r : Answered). r.rows) (filter (λ r. r.column == c.args.column) l)) c.history.ensures.history in
    subst (λ n. AllByRecursion (λ s. s.n ≡ n) c.deref.result.now) (sym c.requires.part.n)
    (subst (λ l. AllByRecursion (λ s. s.n ≡ audit.shape.rows) l) (sym here) sets)

pub write_row-requires-clause-sets : goal.write_row-requires-clause-sets
write_row-requires-clause-sets g c =
    let kept = filter (λ (r : Answered). r.column == c.args.column) c.args.store.now.history in
    let here = c.deref.ensures.value ∙ c.in_ok-sets.ensures ∙ ap
    (λ l. map (λ (r : Answered). r.rows) (filter (λ r. r.column == c.args.column) l)) c.history.ensures.history in
    ap lists_of here ∙ lists_of_records kept ∙ sym (ap sets_of c.requires.part.answers)

pub returns-in_err-write_row : goal.returns-in_err-write_row
returns-in_err-write_row g c =
    let audit = audit_of c.args.schema.now.columns c.args.store.now in
    let column = c.args.column in
    let row = c.loop-row.row in
    let is = refusal_is c.from_residual-in_err-write_row.result _ c.from_residual-in_err-write_row.ensures in
    let among = row_among column row audit.shape.rows (omega (arith, c.loop-row-test.true, c.n-row-end.ensures.n, c.requires.part.n)) in
    refused_among g.B.Bench g.met.B.Bench.only_now audit (rows_before column row) (row_of column row ∷ []) among.0
    (rows_before column audit.shape.rows) c.args.bench.now c.loop-row.bench c.loop-row.bench
    c.from_residual-in_err-write_row.result _ among.1 (is.1.0 ∙ ap Err is.1.1) c.loop-row.invariant
    (no_memory g.B.Bench g.met.B.Bench.only_now audit (row_of column row ∷ []) c.loop-row.bench)

pub returns-in_err-send_line : goal.returns-in_err-send_line
returns-in_err-send_line g c =
    let audit = audit_of c.args.schema.now.columns c.args.store.now in
    let column = c.args.column in
    let row = c.loop-row.row in
    let is = refusal_is c.from_residual-in_err-send_line.result _ c.from_residual-in_err-send_line.ensures in
    let among = row_among column row audit.shape.rows (omega (arith, c.loop-row-test.true, c.n-row-end.ensures.n, c.requires.part.n)) in
    let people = ap (λ (k : Counted). k.people) c.in_ok-people.ensures ∙ c.rows.ensures ∙ ap (λ (p : Protection). p.people) c.protected.ensures in
    let here = has_line_here audit column row c.in_ok-people.people.people c.args.sums.now.n c.args.sums.now.answers people c.requires.part.n
    c.requires.part.answers in
    let w = c.in_ok-write_row.ensures in
    let name = name_is audit.schema c.args.place column c.name-name.result.now c.requires.named c.name-name.ensures in
    let line = is_row_line audit column row c.args.sums.now.n c.args.sums.now.answers c.name-name.result.now c.deref-then-has_line.result.now c.requires.part.n
    c.requires.part.answers name w.0 w.1 w.2.0 w.2.1 (c.deref-then-has_line.ensures.value ∙ w.2.2) in
    refused_among g.B.Bench g.met.B.Bench.only_now audit (rows_before column row) (row_of column row ∷ []) among.0
    (rows_before column audit.shape.rows) c.args.bench.now c.loop-row.bench c.send_line.new.bench
    c.from_residual-in_err-send_line.result c.in_err-send_line.field-0.0 among.1 (is.1.0 ∙ ap Err is.1.1) c.loop-row.invariant
    (line_on g.B.Bench g.met.B.Bench.only_now audit (row_of column row) c.deref-then-has_line.result.now
    (here.0 (c.has_line.ensures.0 c.if-has_line.true)) line c.loop-row.bench c.send_line.new.bench
    (Err c.in_err-send_line.field-0.0) c.in_err-send_line.ensures)

pub loop-row-preserved : goal.loop-row-preserved
loop-row-preserved g c =
    let audit = audit_of c.args.schema.now.columns c.args.store.now in
    let column = c.args.column in
    let row = c.loop-row.row in
    let before = rows_before column row in
    let name = name_is audit.schema c.args.place column c.name-name.result.now c.requires.named c.name-name.ensures in
    let people = ap (λ (k : Counted). k.people) c.in_ok-people.ensures ∙ c.rows.ensures ∙ ap (λ (p : Protection). p.people) c.protected.ensures in
    let here = has_line_here audit column row c.in_ok-people.people.people c.args.sums.now.n c.args.sums.now.answers people c.requires.part.n
    c.requires.part.answers in
    subst (λ l. SendsLinesOn g.B.Bench audit l c.args.bench.now c.if-has_line.bench (Ok tt)) (sym (rows_before-more column row))
    (elim c.if-has_line.branch [
      | then-has_line+in_ok-write_row+in_ok-send_line w ↦
          let told = w.in_ok-write_row.ensures in
          let line = is_row_line audit column row c.args.sums.now.n c.args.sums.now.answers c.name-name.result.now w.deref-then-has_line.result.now
          c.requires.part.n c.requires.part.answers name told.0 told.1 told.2.0 told.2.1 (w.deref-then-has_line.ensures.value ∙ told.2.2) in
          subst (λ b. SendsLinesOn g.B.Bench audit (before ++ row_of column row ∷ []) c.args.bench.now b (Ok tt)) (sym w.bench-is)
          (and_then g.B.Bench g.met.B.Bench.only_now audit before
          (row_of column row ∷ []) c.args.bench.now c.loop-row.bench w.send_line.new.bench c.loop-row.invariant (Ok tt)
          (line_on g.B.Bench g.met.B.Bench.only_now audit (row_of column row) w.deref-then-has_line.result.now
          (here.0 (c.has_line.ensures.0 w.if-has_line.true)) line c.loop-row.bench w.send_line.new.bench
          (Ok tt) w.in_ok-send_line.ensures))
      | else-has_line w ↦
          subst (λ b. SendsLinesOn g.B.Bench audit (before ++ row_of column row ∷ []) c.args.bench.now b (Ok tt)) (sym w.bench-is)
          (and_then g.B.Bench g.met.B.Bench.only_now audit before
          (row_of column row ∷ []) c.args.bench.now c.loop-row.bench c.loop-row.bench c.loop-row.invariant (Ok tt)
          (no_line_on g.B.Bench g.met.B.Bench.only_now audit (row_of column row) c.loop-row.bench
          (λ has. true≢false (sym (c.has_line.ensures.1 (here.1 has)) ∙ w.if-has_line.false))))
    ])

pub returns : goal.returns
returns g c =
    let audit = audit_of c.args.schema.now.columns c.args.store.now in
    let all : c.loop-row.row ≡ audit.shape.rows = omega (arith, c.loop-row-test.false, c.loop-row.auto.row-end, c.n-row-end.ensures.n, c.requires.part.n) in
    subst (λ n. SendsLinesOn g.B.Bench audit (rows_before c.args.column n) c.args.bench.now c.loop-row.bench (Ok tt)) all c.loop-row.invariant

pub name-name-requires : goal.name-name-requires
name-name-requires g c = place_below c.args.schema.now.columns c.args.place c.args.column c.requires.named
