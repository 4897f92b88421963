use Rattle.std.proofs.Common.{rules, ◌≡◌, ◌+◌, [], ◌++◌, true, false, Option, Result, Ok, Err, refl, sym, ◌∙◌, ap, subst}
use Rattle.std.proofs.lemmas.List.{append-nil}
use Rattle.audit_core.specs.Audited.{Audited}
use Rattle.bench_core.specs.declared.stops.End.{End}
use Rattle.bench_core.specs.declared.stops.End.TheVariants.{Stopped}
use Rattle.line_wire.specs.TalkSoFar.{nothing_yet}
use Rattle.transcript_sim.specs.declared.expecting.Expected.{Expected}
use Rattle.transcript_sim.specs.declared.simulating.SimulationRefusal.{SimulationRefusal}
use Rattle.transcript_sim.specs.Verdicts.{due_of}
use Rattle.transcript_sim.specs.Steps.{AsksNext, SendsFor, goes_on, records_shown}
use Rattle.transcript_sim.specs.Ends.{Judges, simulation}
use Rattle.transcript_sim.proofs.Turns.{asked_half, unjudged, none_left, unshown, went_on, ended, refused}
use Rattle.transcript_sim.proofs.simulating.judge.Goals as goal

abbrev ended_by : End SimulationRefusal → Result (Unit {0}) (End SimulationRefusal)
ended_by why = Err why

pub loop-expected-init : goal.loop-expected-init
loop-expected-init g c = record {
  lines = [];
  verdicts = [];
  so_far =
      nothing_yet g.P.Source g.B.Bench (simulation c.args.index.now c.args.simulation.now.core.history) c.args.source.now
      c.args.bench.now (λ image bytes was. g.met.B.Bench.only_now c.args.bench.now image bytes was) tt c.args.simulation.now.lines c.requires.fresh;
  even = refl;
  line_is = refl;
  history = sym (append-nil c.args.simulation.now.core.history);
  setting = c.requires.setting;
}

-- ---- the question

pub returns-in_err-expected : goal.returns-in_err-expected
returns-in_err-expected g c =
    let why = c.in_err-expected.field-0.0 in
    let same : c.from_residual.result ≡ ended_by (Stopped why) = search rules in
    subst
    (λ (r : Result (Unit {0}) (End SimulationRefusal)). Judges g.P.Source g.B.Bench c.args.index.now
    c.args.simulation.now.core.history c.args.source.now c.judge_question.new.source c.args.bench.now c.judge_question.new.bench r)
    (sym same) (unjudged c.loop-expected.invariant c.in_err-expected.ensures.cuts why c.in_err-expected.ensures.unjudged)

pub returns : goal.returns
returns g c =
    let none = subst (λ (o : Option Expected). AsksNext g.P.Source c.loop-expected.simulation.lines c.judge_question.new.self.lines c.loop-expected.source
    c.judge_question.new.source c.args.index.now c.loop-expected.simulation.core.history o) c.in_default.is
    c.in_ok-expected.ensures.asks in
    let nothing = subst (λ (o : Option Expected). SendsFor g.B.Bench c.loop-expected.bench c.judge_question.new.bench o) c.in_default.is
    c.in_ok-expected.ensures.sends in
    none_left c.loop-expected.invariant c.in_ok-expected.ensures.cuts none nothing

-- ---- the line that was shown to it

pub returns-in_err-shown : goal.returns-in_err-shown
returns-in_err-shown g c =
    let question = subst (λ (o : Option Expected). AsksNext g.P.Source c.loop-expected.simulation.lines c.judge_question.new.self.lines c.loop-expected.source
    c.judge_question.new.source c.args.index.now c.loop-expected.simulation.core.history o) c.in-Some.is
    c.in_ok-expected.ensures.asks in
    let sends = subst (λ (o : Option Expected). SendsFor g.B.Bench c.loop-expected.bench c.judge_question.new.bench o) c.in-Some.is
    c.in_ok-expected.ensures.sends in
    let half = asked_half c.loop-expected.invariant c.in_ok-expected.ensures.cuts question sends in
    let why = c.in_err-shown.field-0.0 in
    let same : c.from_residual-in_err-shown.result ≡ ended_by (Stopped why) = search rules in
    subst
    (λ (r : Result (Unit {0}) (End SimulationRefusal)). Judges g.P.Source g.B.Bench c.args.index.now
    c.args.simulation.now.core.history c.args.source.now c.take_shown.new.source c.args.bench.now c.judge_question.new.bench r)
    (sym same) (unshown half c.in_err-shown.ensures.cuts why c.in_err-shown.ensures.short)

pub returns-in_err-goes_on : goal.returns-in_err-goes_on
returns-in_err-goes_on g c =
    let question = subst (λ (o : Option Expected). AsksNext g.P.Source c.loop-expected.simulation.lines c.judge_question.new.self.lines c.loop-expected.source
    c.judge_question.new.source c.args.index.now c.loop-expected.simulation.core.history o) c.in-Some.is
    c.in_ok-expected.ensures.asks in
    let sends = subst (λ (o : Option Expected). SendsFor g.B.Bench c.loop-expected.bench c.judge_question.new.bench o) c.in-Some.is
    c.in_ok-expected.ensures.sends in
    let half = asked_half c.loop-expected.invariant c.in_ok-expected.ensures.cuts question sends in
    let why = c.in_err-goes_on.field-0.0 in
    let same : c.from_residual-in_err-goes_on.result ≡ ended_by why = search rules in
    let is : Err why ≡ goes_on c.in_ok-shown.shown (c.loop-expected.line + 2) (due_of c.in-Some.expected) = search rules in
    subst
    (λ (r : Result (Unit {0}) (End SimulationRefusal)). Judges g.P.Source g.B.Bench c.args.index.now
    c.args.simulation.now.core.history c.args.source.now c.take_shown.new.source c.args.bench.now c.judge_question.new.bench r)
    (sym same)
    (refused half c.in_ok-shown.ensures.cuts c.one_verdict.ensures.called c.one_verdict.ensures.due c.in_ok-shown.shown c.in_ok-shown.ensures.shows why is)

pub returns-then-not-branch : goal.returns-then-not-branch
returns-then-not-branch g c =
    let question = subst (λ (o : Option Expected). AsksNext g.P.Source c.loop-expected.simulation.lines c.judge_question.new.self.lines c.loop-expected.source
    c.judge_question.new.source c.args.index.now c.loop-expected.simulation.core.history o) c.in-Some.is
    c.in_ok-expected.ensures.asks in
    let sends = subst (λ (o : Option Expected). SendsFor g.B.Bench c.loop-expected.bench c.judge_question.new.bench o) c.in-Some.is
    c.in_ok-expected.ensures.sends in
    let half = asked_half c.loop-expected.invariant c.in_ok-expected.ensures.cuts question sends in
    let is : Ok false ≡ goes_on c.in_ok-shown.shown (c.loop-expected.line + 2) (due_of c.in-Some.expected) = search rules in
    ended half c.in_ok-shown.ensures.cuts c.in_ok-shown.shown c.in_ok-shown.ensures.shows is

pub loop-expected-preserved : goal.loop-expected-preserved
loop-expected-preserved g c =
    let question = subst (λ (o : Option Expected). AsksNext g.P.Source c.loop-expected.simulation.lines c.judge_question.new.self.lines c.loop-expected.source
    c.judge_question.new.source c.args.index.now c.loop-expected.simulation.core.history o) c.in-Some.is
    c.in_ok-expected.ensures.asks in
    let sends = subst (λ (o : Option Expected). SendsFor g.B.Bench c.loop-expected.bench c.judge_question.new.bench o) c.in-Some.is
    c.in_ok-expected.ensures.sends in
    let half = asked_half c.loop-expected.invariant c.in_ok-expected.ensures.cuts question sends in
    let is : Ok true ≡ goes_on c.in_ok-shown.shown (c.loop-expected.line + 2) (due_of c.in-Some.expected) = search rules in
    let same : c.judge_question.new.self.core ≡ c.loop-expected.simulation.core = c.in_ok-expected.ensures.same in
    let shown = records_shown c.in_ok-shown.shown in
    went_on half c.in_ok-shown.ensures.cuts c.in_ok-shown.shown c.in_ok-shown.ensures.shows is
    (c.in_ok-shown.ensures.takes ∙ ap (λ (k : Audited). k.history ++ shown) same)
    (c.in_ok-shown.ensures.setting ∙ ap (λ (k : Audited). k.setting) same)
