use Rattle.std.proofs.Common.{rules, ◌≡◌, ℕ, List, Err, Result, sym, ap, subst, ◌∙◌}
use Rattle.audit_types.specs.History.{Protection, Setting, setting_of}
use Rattle.audit_types.specs.declared.shapes.Shape.{Shape}
use Rattle.audit_core.specs.Audited.{Audited}
use Rattle.answer_journal.specs.declared.refusals.JournalRefusal.{JournalRefusal}
use Rattle.bench_core.specs.Ends.{EndsBy}
use Rattle.bench_core.specs.Stops.{IsOfBench}
use Rattle.bench_core.specs.declared.stops.Stop.TheVariants as stop
use Rattle.bench_core.specs.declared.stops.End.{End}
use Rattle.bench_core.specs.declared.stops.End.TheVariants.{Stopped}
use Rattle.transcript_sim.specs.declared.simulating.SimulationRefusal.{SimulationRefusal}
use Rattle.schema_json.specs.Columns.{Column}
use Rattle.schema_json.specs.SecretShape.{shape_of}
use Rattle.table_load.specs.Cells.{PublicView, whole}
use Rattle.set_index.specs.Indexed.{IndexView, public_setting, public_shape}
use Rattle.transcript_sim.specs.Beginning.{BeginsWith, IsOfBeginning, UnbegunCause}
use Rattle.transcript_sim.specs.Ends.{Simulates}
use Rattle.transcript_sim.proofs.Begun.{judged_so, not_begun, unbegun_by}
use Rattle.transcript_sim.proofs.simulating.simulate.Goals as goal

-- what a journal is begun with is judged by what is public
same_setting : (index : IndexView) (columns : List Column) (public : PublicView) (rows : ℕ) (shape : Shape) (protected : Protection) →
    columns ≡ index.columns → public ≡ whole index.public → rows ≡ public.rows → shape ≡ shape_of columns rows → protected ≡ index.protected →
    setting_of shape protected ≡ public_setting index
same_setting index columns public rows shape protected same_columns same_public rows_are shape_is same =
    let same_rows : rows ≡ index.public.rows = rows_are ∙ ap (λ (p : PublicView). p.rows) same_public in
    let same_shape : shape ≡ public_shape index =
    shape_is ∙ ap (λ (cs : List Column). shape_of cs rows) same_columns ∙ ap (shape_of index.columns) same_rows in
    ap (λ (s : Shape). setting_of s protected) same_shape ∙ ap (setting_of (public_shape index)) same

pub returns-in-Err : goal.returns-in-Err
returns-in-Err g c =
    let index = c.args.index.now in
    let file = g.B.Bench.file c.args.bench.now in
    let why = c.in-Err.end in
    let setting = same_setting index c.schema.result.now.columns c.public.result.now c.rows-rows.result c.shape.result c.protected.result.now
    c.schema.ensures.same c.public.ensures c.rows-rows.ensures.rows c.shape.ensures.shape c.protected.ensures.same in
    let cause = subst (λ (s : Setting). EndsBy IsOfBench (λ (refusal : JournalRefusal). IsOfBeginning refusal ×
    (g.B.Bench.told → UnbegunCause refusal file s)) why) setting
    c.in-Err.ensures.cause in
    subst
    (λ (end : End SimulationRefusal). Simulates g.P.Source g.B.Bench index c.args.source.now c.args.source.now c.args.bench.now c.begin.new.bench
    (Err end))
    (sym c.unbegun.ensures)
    (not_begun g.P.Source g.B.Bench index c.args.source.now c.args.bench.now c.one_reading.ensures c.no_break_in_a_journal.ensures
    c.begin.new.bench c.begin.ensures.reads Audited why cause c.in-Err.ensures.fault)

pub returns-in_err-simulation : goal.returns-in_err-simulation
returns-in_err-simulation g c =
    let index = c.args.index.now in
    let same : c.from_residual.result ≡ unbegun_by (Stopped stop.NoMemory) = search rules in
    let tells = c.in-Ok.ensures.fault in
    subst
    (λ (r : Result (Unit {0}) (End SimulationRefusal)). Simulates g.P.Source g.B.Bench index c.args.source.now c.args.source.now c.args.bench.now
    c.begin.new.bench r)
    (sym same)
    (not_begun g.P.Source g.B.Bench index c.args.source.now c.args.bench.now c.one_reading.ensures c.no_break_in_a_journal.ensures
    c.begin.new.bench c.begin.ensures.reads Audited (Stopped stop.NoMemory) tt
    (record { later = tells.later; failed = λ is. absurd cc; last_call = λ is. absurd cc; steady = λ other. tells.steady (λ is. cc) }))

pub returns : goal.returns
returns g c =
    let index = c.args.index.now in
    let file = g.B.Bench.file c.args.bench.now in
    let history = c.in_ok-simulation.simulation.core.history in
    let setting = same_setting index c.schema.result.now.columns c.public.result.now c.rows-rows.result c.shape.result c.protected.result.now
    c.schema.ensures.same c.public.ensures c.rows-rows.ensures.rows c.shape.ensures.shape c.protected.ensures.same in
    let begun = λ (told : g.B.Bench.told).
    subst (λ (s : Setting). BeginsWith file s history) setting
    (subst (λ (a : Audited). BeginsWith file (setting_of c.shape.result c.protected.result.now) a.history) (sym c.in_ok-simulation.ensures.core)
    (c.in-Ok.ensures.begins told)) in
    judged_so g.P.Source g.B.Bench index c.args.source.now c.args.bench.now c.one_reading.ensures c.begin.new.bench c.judge.new.bench
    c.judge.new.source history c.judge.result c.begin.ensures.reads c.in-Ok.ensures.fault (λ is. cc) c.in-Ok.ensures.ticks begun c.judge.ensures
