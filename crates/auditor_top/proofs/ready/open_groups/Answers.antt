use Rattle.std.proofs.Common.{◌≡◌, List, Result, Err, sym, ◌∙◌, ap, subst}
use Rattle.schema_json.specs.Columns.{Column}
use Rattle.schema_json.specs.SecretShape.{shape_of}
use Rattle.audit_types.specs.History.{Table as Guarded}
use Rattle.table_load.specs.Cells.{PublicView}
use Rattle.table_load.specs.Loaded.{table_view}
use Rattle.table_load.specs.Meaning.{MeansTable}
use Rattle.table_load.specs.MeaningLaws.{read_means}
use Rattle.table_load.specs.Tables.{table_of}
use Rattle.set_index.specs.declared.index.IndexFault.{IndexFault}
use Rattle.set_index.specs.declared.index.IndexFault.TheVariants as index
use Rattle.set_index.specs.declared.index.GuardPart.{GuardPart}
use Rattle.auditor_top.specs.declared.starting.ReadyTable.{ReadyTable}
use Rattle.auditor_top.specs.declared.status.Status.{Status}
use Rattle.auditor_top.specs.Commands.{AreSoundFilesOf}
use Rattle.auditor_top.specs.Ready.{Refuses, base_around}
use Rattle.auditor_top.proofs.FileRefusals.{files_refused, gives_up_over, of_status}
use Rattle.auditor_top.proofs.GroupRefusals.{groups_refused, growth_gives_up}
use Rattle.auditor_top.proofs.OneTable.{table_is_ok}
use Rattle.auditor_top.proofs.StoreRefusals.{given_files, not_public, opens_files, opens_groups}
use Rattle.auditor_top.proofs.ready.open_groups.Goals as goal

abbrev ungrouped : IndexFault → Result ReadyTable IndexFault
ungrouped fault = Err fault

-- ---- the files weren't opened

pub returns-in_err-opened-clause-refusal : goal.returns-in_err-opened-clause-refusal
returns-in_err-opened-clause-refusal g c =
    let e = c.in_err-opened.ensures.refused in
    let fault = c.in_err-opened.field-0.0 in
    let asked = c.args.command in
    of_status (λ (s : Status). Refuses g.P.Source g.B.Bench asked s c.args.schema.now c.open_table.new.schema c.args.table.now c.open_table.new.table
    c.args.bench.now c.args.bench.now) c.from_residual.result _ c.from_residual.ensures
    (files_refused g.P.Source g.B.Bench asked c.args.schema.now c.open_table.new.schema c.args.table.now c.open_table.new.table c.args.bench.now fault
    (opens_files asked c.requires.journal) table_of e (λ ptold reads. e.table ptold) (λ ptold simulates. not_public asked c.requires.journal simulates)
    (λ ptold given. gives_up_over fault _ _ _ (given_files asked _ _ _ c.requires.journal c.requires.later given).1.files (e.schema ptold) (e.table ptold)))

-- ---- the groups weren't made ready

pub returns-in_err-make_ready-clause-refusal : goal.returns-in_err-make_ready-clause-refusal
returns-in_err-make_ready-clause-refusal g c =
    let opened = c.in_ok-opened.opened in
    let e = c.in_ok-opened.ensures in
    let asked = c.args.command in
    let fault = c.in_err-make_ready.field-0.0 in
    let meant = table_view opened.table in
    let bad = λ (found : GuardPart) (is : fault ≡ index.Bad found). c.in_err-make_ready.ensures.bad found (ap ungrouped is) in
    of_status (λ (s : Status). Refuses g.P.Source g.B.Bench asked s c.args.schema.now c.open_table.new.schema c.args.table.now c.open_table.new.table
    c.args.bench.now c.args.bench.now) c.from_residual-in_err-make_ready.result _ c.from_residual-in_err-make_ready.ensures
    (groups_refused g.P.Source g.B.Bench asked c.args.schema.now c.open_table.new.schema c.args.table.now c.open_table.new.table c.args.bench.now
    (opens_groups asked c.requires.journal) opened.schema e.schema_is e.steady.0 e.steady.1 fault bad
    (λ ptold reads other is. table_is_ok (λ (cs : List Column). table_of cs (g.P.Source.left c.args.table.now)) _ opened.schema other meant
    (e.schema_is ptold) (e.table_is ptold) is)
    (λ ptold simulates. not_public asked c.requires.journal simulates)
    (λ ptold told given. growth_gives_up c.groups_of_a_schema.ensures.entries fault (g.P.Source.left c.args.schema.now) (g.P.Source.left c.args.table.now)
    opened.schema (e.schema_is ptold) bad (given_files asked _ _ _ c.requires.journal c.requires.later given)))

-- ---- they were

pub returns : goal.returns
returns g c =
    let opened = c.in_ok-opened.opened in
    let e = c.in_ok-opened.ensures in
    let made = c.in_ok-make_ready.field-0 in
    let a = c.in_ok-make_ready.ensures in
    let base = λ (cs : List Column) (t : Guarded). AreSoundFilesOf (g.P.Source.left c.args.schema.now) (g.P.Source.left c.args.table.now)
    (base_around cs made.index.public t) in
    record {
      over = λ ptold.
          subst (λ (cs : List Column). base cs made.guarded) (sym a.same.0)
          (subst (λ (t : Guarded). base opened.schema.columns t) (sym a.same.2)
          (record {
            files = record {
              guards = opened.schema.guards;
              schema_is = e.schema_is ptold;
              table_means = subst (λ (p : PublicView). MeansTable opened.schema.columns (g.P.Source.left c.args.table.now) p opened.table.secret) (sym a.same.1)
                  (read_means _ _ _ (e.table_is ptold));
            };
            entries = a.entries;
          }));
      shape = ap (λ (t : Guarded). t.setting.shape) a.same.2 ∙ e.shape ∙ ap (λ (cs : List Column). shape_of cs opened.table.public.rows) (sym a.same.0)
          ∙ ap (λ (p : PublicView). shape_of made.index.columns p.rows) (sym a.same.1);
      entries = ap (λ (t : Guarded). t.setting.protected) (sym a.same.2);
      steady = e.steady;
      refusal = tt;
    }
