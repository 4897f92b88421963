use Rattle.std.proofs.Common.{ℕ, List, sym, ◌∙◌, ap, subst}
use Rattle.schema_json.specs.Columns.{Column}
use Rattle.schema_json.specs.SecretShape.{shape_of}
use Rattle.table_load.specs.Cells.{PublicView, SecretView}
use Rattle.table_load.specs.Database.{base_of}
use Rattle.table_load.specs.Loaded.{table_view}
use Rattle.table_load.specs.Meaning.{MeansTable}
use Rattle.table_load.specs.MeaningLaws.{read_means}
use Rattle.table_load.specs.Tables.{table_of}
use Rattle.audit_store.specs.Stores.{IsAsLeft}
use Rattle.auditor_top.specs.declared.status.Status.{Status}
use Rattle.auditor_top.specs.Commands.{AreSoundFilesOf}
use Rattle.auditor_top.specs.Ready.{Refuses}
use Rattle.auditor_top.proofs.FileRefusals.{files_refused, gives_up_over, of_status}
use Rattle.auditor_top.proofs.StepFaults.{not_both}
use Rattle.auditor_top.proofs.StoreRefusals.{given_history, not_public, opens_files, opens_too, not_started}
use Rattle.auditor_top.proofs.ready.open_store.Goals as goal

-- ---- the files weren't opened

pub returns-in_err-opened-clause-refusal : goal.returns-in_err-opened-clause-refusal
returns-in_err-opened-clause-refusal g c =
    let e = c.in_err-opened.ensures.refused in
    let fault = c.in_err-opened.field-0.0 in
    let asked = c.args.command in
    of_status (λ (s : Status). Refuses g.P.Source g.B.Bench asked s c.args.schema.now c.open_table.new.schema c.args.table.now c.open_table.new.table
    c.args.bench.now c.args.bench.now) c.from_residual.result _ c.from_residual.ensures
    (files_refused g.P.Source g.B.Bench asked c.args.schema.now c.open_table.new.schema c.args.table.now c.open_table.new.table c.args.bench.now fault
    (opens_files asked (opens_too asked c.requires)) table_of e (λ ptold reads. e.table ptold)
    (λ ptold simulates. not_public asked (opens_too asked c.requires) simulates)
    (λ ptold given. gives_up_over fault _ _ _ (given_history asked _ _ _ c.requires given).2.files.files (e.schema ptold) (e.table ptold)))

-- ---- the groups weren't made ready, or the journal wasn't opened

pub returns-in_err-start-clause-refusal : goal.returns-in_err-start-clause-refusal
returns-in_err-start-clause-refusal g c =
    let opened = c.in_ok-opened.opened in
    let e = c.in_ok-opened.ensures in
    of_status (λ (s : Status). Refuses g.P.Source g.B.Bench c.args.command s c.args.schema.now c.open_table.new.schema c.args.table.now c.open_table.new.table
    c.args.bench.now c.start.new.bench) c.from_residual-in_err-start.result _ c.from_residual-in_err-start.ensures
    (not_started g.P.Source g.B.Bench c.groups_of_a_schema.ensures.entries c.args.command c.args.schema.now c.open_table.new.schema c.args.table.now
    c.open_table.new.table c.args.bench.now c.start.new.bench c.requires opened.schema (table_view opened.table) e.schema_is e.table_is e.steady.0
    e.steady.1 c.in_err-start.field-0.0 c.in_err-start.ensures.bad c.in_err-start.ensures.cause c.in_err-start.ensures.ends c.in_err-start.ensures.fault
    c.in_err-start.ensures.uncalled)

-- ---- the store was opened

pub returns : goal.returns
returns g c =
    let opened = c.in_ok-opened.opened in
    let e = c.in_ok-opened.ensures in
    let s = c.in_ok-start.field-0 in
    let a = c.in_ok-start.ensures in
    record {
      over = λ ptold.
          subst (λ (cs : List Column). AreSoundFilesOf (g.P.Source.left c.args.schema.now) (g.P.Source.left c.args.table.now)
          (base_of cs s.index.public s.store.protected s.store.secret)) (sym a.same.0)
          (subst (λ (v : SecretView). AreSoundFilesOf (g.P.Source.left c.args.schema.now) (g.P.Source.left c.args.table.now)
          (base_of opened.schema.columns s.index.public s.store.protected v)) (sym a.same.2)
          (record {
            files = record {
              guards = opened.schema.guards;
              schema_is = e.schema_is ptold;
              table_means = subst (λ (p : PublicView). MeansTable opened.schema.columns (g.P.Source.left c.args.table.now) p opened.table.secret) (sym a.same.1)
                  (read_means _ _ _ (e.table_is ptold));
            };
            entries = a.entries;
          }));
      opened = record {
        is = a.store.1;
        usable = a.store.0;
        left = λ told. subst (λ (f : List ℕ). IsAsLeft f s.store) (sym c.start.ensures.reads.file)
            (a.stands told);
      };
      shape = ap (λ (v : SecretView). v.shape) a.same.2 ∙ e.shape ∙ ap (λ (cs : List Column). shape_of cs opened.table.public.rows) (sym a.same.0)
          ∙ ap (λ (p : PublicView). shape_of s.index.columns p.rows) (sym a.same.1);
      entries = a.same.3;
      steady = (e.steady.0, e.steady.1, a.fault.steady (not_both _ _));
      ticks = a.ticks;
      refusal = tt;
      reads = c.start.ensures.reads;
    }
