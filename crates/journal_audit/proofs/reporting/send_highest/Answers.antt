use Rattle.std.proofs.Common.{◌≡◌, [], ◌∷◌, Err, sym, ap, ◌∙◌, subst}
use Rattle.std.specs.List.{AllByRecursion}
use Rattle.audit_types.specs.Headcount.{Counted, AreFew}
use Rattle.audit_types.specs.Shapes.{is_least}
use Rattle.audit_types.specs.declared.shapes.Shape.{Shape}
use Rattle.audit_types.specs.History.{Protection}
use Rattle.audit_types.specs.Extremes.{IsConsistent, IsLone}
use Rattle.max_audit.specs.Witnesses.{highest}
use Rattle.table_load.specs.Database.{secret_table}
use Rattle.journal_audit.specs.Texts.{bound_line}
use Rattle.journal_audit.specs.Reports.{audit_of, column_of, secret_name, SendsLinesOn}
use Rattle.journal_audit.proofs.FreeColumns.{same_n}
use Rattle.journal_audit.proofs.LinesOn.{refusal_is, no_memory, line_on}
use Rattle.journal_audit.proofs.SecretNames.{name_is, place_below}
use Rattle.journal_audit.proofs.reporting.send_highest.Goals as goal

pub name-name-requires : goal.name-name-requires
name-name-requires g c = place_below c.args.schema.now.columns c.args.place c.args.column c.requires.named

pub write_column-requires-clause-consistent : goal.write_column-requires-clause-consistent
write_column-requires-clause-consistent g c =
    let secret = c.args.store.now.secret in
    let free = c.free_numbers.ensures.few (secret_table secret c.args.store.now.protected) c.args.store.now.history c.args.column
    (c.lists_of_secrets.ensures secret c.requires.is.numbers) c.requires.is.fit c.requires.is.legal c.requires.below c.requires.part.own_kind in
    subst IsConsistent (sym c.requires.part.answers) free.0

pub write_column-requires-clause-free : goal.write_column-requires-clause-free
write_column-requires-clause-free g c = λ row below few lone.
    let secret = c.args.store.now.secret in
    let free = c.free_numbers.ensures.few (secret_table secret c.args.store.now.protected) c.args.store.now.history c.args.column
    (c.lists_of_secrets.ensures secret c.requires.is.numbers) c.requires.is.fit c.requires.is.legal c.requires.below c.requires.part.own_kind in
    let people : c.in_ok-people.people.people ≡ c.args.store.now.protected.people =
    ap (λ (k : Counted). k.people) c.in_ok-people.ensures ∙ c.rows.ensures ∙ ap (λ (p : Protection). p.people) c.protected.ensures in
    let here = subst (λ a. IsLone a row) c.requires.part.answers lone in
    free.1 (here.0, here.1, subst (AreFew c.args.store.now.protected.people []) (sym here.2) (subst (λ p. AreFew p [] (row ∷ [])) people few))

pub write_column-requires-clause-same_n : goal.write_column-requires-clause-same_n
write_column-requires-clause-same_n g c =
    subst (λ l. AllByRecursion (λ r. r.rows.n ≡ c.args.maxima.now.n) l) (sym c.history-history.ensures.history)
    (subst (λ n. AllByRecursion (λ r. r.rows.n ≡ n) c.args.store.now.history) (sym c.requires.part.n)
    (same_n (secret_table c.args.store.now.secret c.args.store.now.protected) c.args.store.now.history c.requires.is.legal))

pub returns-in_err-people : goal.returns-in_err-people
returns-in_err-people g c =
    let audit = audit_of c.args.schema.now.columns c.args.store.now in
    let about = column_of c.args.column ∷ [] in
    let is = refusal_is c.from_residual.result _ c.from_residual.ensures in
    subst (λ r. SendsLinesOn g.B.Bench audit about c.args.bench.now c.args.bench.now r) (sym (is.1.0 ∙ ap Err is.1.1))
    (no_memory g.B.Bench g.met.B.Bench.only_now audit about c.args.bench.now)

pub returns-in_err-write_column : goal.returns-in_err-write_column
returns-in_err-write_column g c =
    let audit = audit_of c.args.schema.now.columns c.args.store.now in
    let about = column_of c.args.column ∷ [] in
    let is = refusal_is c.from_residual-in_err-write_column.result _ c.from_residual-in_err-write_column.ensures in
    subst (λ r. SendsLinesOn g.B.Bench audit about c.args.bench.now c.args.bench.now r) (sym (is.1.0 ∙ ap Err is.1.1))
    (no_memory g.B.Bench g.met.B.Bench.only_now audit about c.args.bench.now)

pub returns : goal.returns
returns g c =
    let audit = audit_of c.args.schema.now.columns c.args.store.now in
    let named = name_is audit.schema c.args.place c.args.column c.name-name.result.now c.requires.named c.name-name.ensures in
    let maxima = c.args.maxima.now in
    let least = is_least audit.shape c.args.column in
    let told : c.is_least-least.result ≡ least = c.is_least-least.ensures ∙ ap (λ (s : Shape). is_least s c.args.column) c.shape.ensures.shape in
    let line = c.deref.ensures.value ∙ c.in_ok-write_column.ensures
    ∙ ap (λ l. bound_line l c.name-name.result.now (highest maxima.n maxima.answers)) told
    ∙ ap (λ s. bound_line least s (highest maxima.n maxima.answers)) named
    ∙ ap (λ n. bound_line least (secret_name audit.schema c.args.column) (highest n maxima.answers)) c.requires.part.n
    ∙ ap (λ a. bound_line least (secret_name audit.schema c.args.column) (highest audit.shape.rows a)) c.requires.part.answers in
    line_on g.B.Bench g.met.B.Bench.only_now audit
    (column_of c.args.column) c.deref.result.now tt line c.args.bench.now c.send_line.new.bench c.send_line.result c.send_line.ensures
