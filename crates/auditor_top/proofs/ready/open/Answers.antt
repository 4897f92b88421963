use Rattle.std.proofs.Common.{◌≡◌, ℕ, List, Result, Ok, Err, refl, sym, ap, subst, ◌∙◌}
use Rattle.audit_types.specs.History.{Protection}
use Rattle.audit_types.specs.declared.shapes.Shape.{Shape}
use Rattle.drill_case.specs.Drills.{drill_protection}
use Rattle.table_load.specs.Database.{base_of}
use Rattle.auditor_top.specs.declared.words.Command.{Command}
use Rattle.auditor_top.specs.declared.status.Status.{Status}
use Rattle.auditor_top.specs.Commands.{reads_files, reads_secrets, AreSoundFilesOf, reads_groups}
use Rattle.auditor_top.specs.Ends.{people_told}
use Rattle.auditor_top.specs.Ready.{IsGiven, Refuses}
use Rattle.auditor_top.proofs.FileRefusals.{files_refused, gives_up_over, gives_up_public, of_status}
use Rattle.schema_json.specs.Columns.{Column}
use Rattle.schema_json.specs.SecretShape.{shape_of}
use Rattle.schema_json.specs.Reading.{schema_of}
use Rattle.table_load.specs.Cells.{PublicView, whole}
use Rattle.table_load.specs.MeaningLaws.{read_whole}
use Rattle.table_load.specs.Tables.{public_of, table_of}
use Rattle.set_index.specs.Groups.{Protects}
use Rattle.set_index.specs.Indexed.{IndexView}
use Rattle.set_index.specs.declared.index.IndexFault.{IndexFault}
use Rattle.set_index.specs.declared.index.IndexFault.TheVariants as index
use Rattle.set_index.specs.declared.index.GuardPart.{GuardPart}
use Rattle.auditor_top.proofs.OneTable.{table_is_ok}
use Rattle.auditor_top.proofs.GroupRefusals.{no_step, lacks, groups_refused, public_gives_up}
use Rattle.auditor_top.proofs.ready.open.Goals as goal

abbrev index_refused : IndexFault → Result IndexView IndexFault
index_refused fault = Err fault

-- ---- `init`

pub returns-in_err-opened-in-Init-clause-refusal : goal.returns-in_err-opened-in-Init-clause-refusal
returns-in_err-opened-in-Init-clause-refusal g c =
    let e = c.in_err-opened-in-Init.ensures.refused in
    let fault = c.in_err-opened-in-Init.field-0.0 in
    let schema = g.P.Source.left c.args.schema.now in
    let table = g.P.Source.left c.args.table.now in
    of_status (λ (s : Status). Refuses g.P.Source g.B.Bench c.args.command s c.args.schema.now c.open_table.new.schema c.args.table.now c.open_table.new.table
    c.args.bench.now c.args.bench.now) c.from_residual.result _ c.from_residual.ensures
    (files_refused g.P.Source g.B.Bench c.args.command c.args.schema.now c.open_table.new.schema c.args.table.now c.open_table.new.table c.args.bench.now fault
    (ap reads_files c.in-Init.is) table_of e (λ ptold reads. e.table ptold) (λ ptold is. no_step reads_secrets c.in-Init.is refl (ap reads_secrets is))
    (λ ptold given. gives_up_over fault _ _ _ (subst (λ (k : Command). IsGiven k schema table (g.B.Bench.file c.args.bench.now)) c.in-Init.is given).1
    (e.schema ptold) (e.table ptold)))

pub returns-in_ok-opened-in-Init-clause-over : goal.returns-in_ok-opened-in-Init-clause-over
returns-in_ok-opened-in-Init-clause-over g c =
    let e = c.in_ok-opened-in-Init.ensures in
    let opened = c.in_ok-opened-in-Init.opened in
    λ ptold. (
      base_of opened.schema.columns opened.table.public drill_protection opened.table.secret,
      record { guards = opened.schema.guards; schema_is = e.schema_is ptold; table_means = read_whole _ _ _ (e.table_is ptold) },
      c.shape.ensures.shape,
    )

-- ---- `simulate`

pub returns-in_err-schema-in-Simulate-clause-refusal : goal.returns-in_err-schema-in-Simulate-clause-refusal
returns-in_err-schema-in-Simulate-clause-refusal g c =
    let e = c.in_err-schema-in-Simulate.ensures.refused in
    let fault = c.in_err-schema-in-Simulate.field-0.0 in
    let schema = g.P.Source.left c.args.schema.now in
    let table = g.P.Source.left c.args.table.now in
    of_status (λ (s : Status). Refuses g.P.Source g.B.Bench c.args.command s c.args.schema.now c.open_public.new.schema c.args.table.now c.open_public.new.table
    c.args.bench.now c.args.bench.now) c.from_residual-in_err-schema-in-Simulate.result _ c.from_residual-in_err-schema-in-Simulate.ensures
    (files_refused g.P.Source g.B.Bench c.args.command c.args.schema.now c.open_public.new.schema c.args.table.now c.open_public.new.table c.args.bench.now
    fault
    (ap reads_files c.in-Simulate.is) public_of e (λ ptold reads. lacks reads_secrets c.in-Simulate.is refl reads) (λ ptold is. e.table ptold)
    (λ ptold given. gives_up_public fault _ _ _ (subst (λ (k : Command). IsGiven k schema table (g.B.Bench.file c.args.bench.now)) c.in-Simulate.is given).1
    (e.schema ptold) (e.table ptold)))

pub returns-in_err-index-in-Simulate-clause-refusal : goal.returns-in_err-index-in-Simulate-clause-refusal
returns-in_err-index-in-Simulate-clause-refusal g c =
    let opened = c.in_ok-schema-in-Simulate.field-0 in
    let e = c.in_ok-schema-in-Simulate.ensures in
    let fault = c.in_err-index-in-Simulate.field-0.0 in
    let schema = g.P.Source.left c.args.schema.now in
    let table = g.P.Source.left c.args.table.now in
    let bad = λ (found : GuardPart) (is : fault ≡ index.Bad found). c.in_err-index-in-Simulate.ensures.bad found (ap index_refused is) in
    of_status (λ (s : Status). Refuses g.P.Source g.B.Bench c.args.command s c.args.schema.now c.open_public.new.schema c.args.table.now
    c.open_public.new.table c.args.bench.now c.args.bench.now) c.from_residual-in_err-index-in-Simulate.result _
    c.from_residual-in_err-index-in-Simulate.ensures
    (groups_refused g.P.Source g.B.Bench c.args.command c.args.schema.now c.open_public.new.schema c.args.table.now c.open_public.new.table c.args.bench.now
    (ap reads_groups c.in-Simulate.is) opened.schema e.schema_is e.steady.0 e.steady.1 fault bad
    (λ ptold reads. lacks reads_secrets c.in-Simulate.is refl reads)
    (λ ptold simulates other is. table_is_ok (λ (cs : List Column). public_of cs table) _ opened.schema other opened.public (e.schema_is ptold)
    (e.public_is ptold) is)
    (λ ptold told given. public_gives_up c.groups_of_a_schema.ensures.entries fault schema table opened.schema opened.public (e.schema_is ptold)
    (e.public_is ptold) bad
    (subst (λ (k : Command). IsGiven k schema table (g.B.Bench.file c.args.bench.now)) c.in-Simulate.is given)))

pub returns-in_ok-index-in-Simulate-clause-over : goal.returns-in_ok-index-in-Simulate-clause-over
returns-in_ok-index-in-Simulate-clause-over g c =
    let opened = c.in_ok-schema-in-Simulate.field-0 in
    let e = c.in_ok-schema-in-Simulate.ensures in
    let made = c.in_ok-index-in-Simulate.index in
    let a = c.in_ok-index-in-Simulate.ensures in
    let schema = g.P.Source.left c.args.schema.now in
    let table = g.P.Source.left c.args.table.now in
    let guards = opened.schema.guards in
    λ ptold. record {
      guards = guards;
      schema_is = subst (λ (cs : List Column). schema_of schema ≡ Ok (record { columns = cs; guards = guards })) (sym a.columns) (e.schema_is ptold);
      public_is = subst (λ (cs : List Column). public_of cs table ≡ Ok (whole made.public)) (sym a.columns)
          (subst (λ (p : PublicView). public_of opened.schema.columns table ≡ Ok p) (sym a.public) (e.public_is ptold));
      entries = subst (λ (cs : List Column). Protects cs made.public guards made.protected) (sym a.columns) a.entries;
    }

-- ---- over a store, or what a store is made of

pub returns-in_ok-started-in-Explain-clause-over : goal.returns-in_ok-started-in-Explain-clause-over
returns-in_ok-started-in-Explain-clause-over g c =
    let s = c.in_ok-started-in-Explain.started in
    let a = c.in_ok-started-in-Explain.ensures in
    λ ptold.
    subst (λ (l : Protection). AreSoundFilesOf (g.P.Source.left c.args.schema.now) (g.P.Source.left c.args.table.now)
    (base_of s.index.columns s.index.public l s.store.secret)) (sym a.entries) (a.over ptold)

-- ---- over a store and the schema alone

pub returns-in_ok-started-in-Audit-clause-ready : goal.returns-in_ok-started-in-Audit-clause-ready
returns-in_ok-started-in-Audit-clause-ready g c =
    let s = c.in_ok-started-in-Audit.started in
    let a = c.in_ok-started-in-Audit.ensures in
    let rows : s.index.public.rows ≡ s.store.secret.shape.rows = sym (ap (λ (shape : Shape). shape.rows) a.shape) in (
      a.opened,
      a.shape ∙ ap (λ (n : ℕ). shape_of s.index.columns n) rows ∙ ap (λ (cs : List Column). shape_of cs s.store.secret.shape.rows) (sym c.into_schema.ensures),
    )

pub returns-in_ok-started-in-Audit-clause-over : goal.returns-in_ok-started-in-Audit-clause-over
returns-in_ok-started-in-Audit-clause-over g c =
    let s = c.in_ok-started-in-Audit.started in
    let a = c.in_ok-started-in-Audit.ensures in
    λ ptold.
    subst (λ (cs : List Column). (public : PublicView) × AreSoundFilesOf (g.P.Source.left c.args.schema.now) (g.P.Source.left c.args.table.now)
    (base_of cs public s.store.protected s.store.secret) × (c.people_of-people.result ≡ people_told cs public)) (sym c.into_schema.ensures)
    (s.index.public, a.over ptold, c.people_of-people.ensures)
