use Rattle.std.proofs.Common.{rules, ◌≡◌, Option, Result, Ok, Err, IfErr, OnOk, refl, sym, subst, inl, inr}
use Rattle.std.proofs.lemmas.Result.{IfOk-from_err}
use Rattle.bench_core.specs.declared.source.Failed.{Failed}
use Rattle.bench_core.specs.declared.stops.Stop.{Stop}
use Rattle.bench_core.specs.declared.stops.Stop.TheVariants as stop
use Rattle.transcript_sim.specs.declared.expecting.Expected.{Expected}
use Rattle.line_wire.specs.Talks.{SendsAll}
use Rattle.transcript_sim.specs.Steps.{AsksNext, IsUnjudged}
use Rattle.transcript_sim.specs.Verdicts.{line_of}
use Rattle.transcript_sim.proofs.judging.Simulation.judge_question.Goals as goal

abbrev ended_by : Stop → Result (Option Expected) Stop
ended_by why = Err why

pub returns-in_err-expected : goal.returns-in_err-expected
returns-in_err-expected g c = record {
  asks = IfOk-from_err _ _ c.from_residual.ensures.0;
  sends = IfOk-from_err _ _ c.from_residual.ensures.0;
  unjudged =
      let same : c.from_residual.result ≡ ended_by c.in_err-expected.field-0.0 = search rules in
      subst
      (λ (r : Result (Option Expected) Stop). IfErr r (IsUnjudged g.P.Source g.B.Bench c.args.self.now.lines c.next_question.new.self.lines
      c.args.source.now c.next_question.new.source c.args.bench.now c.args.bench.now c.args.index.now
      c.args.self.now.core.history))
      (sym same) (inl (c.in_err-expected.ensures.short, refl));
  same = c.next_question.ensures.same;
  cuts = c.next_question.ensures.cuts;
}

pub returns : goal.returns
returns g c = record {
  asks =
      subst
      (λ (o : Option Expected). AsksNext g.P.Source c.args.self.now.lines c.next_question.new.self.lines c.args.source.now c.next_question.new.source
      c.args.index.now c.args.self.now.core.history o)
      c.in-Some.is c.in_ok-expected.ensures.asks;
  sends =
      let sent : c.send_verdict.result ≡ Ok tt = search rules in
      subst (λ (r : Result (Unit {0}) Failed). OnOk r (SendsAll g.B.Bench c.args.bench.now c.send_verdict.new.bench (line_of c.in-Some.expected))) sent
      c.send_verdict.ensures.sends;
  unjudged = tt;
  same = c.next_question.ensures.same;
  cuts = c.next_question.ensures.cuts;
}

pub returns-in_err-send_verdict : goal.returns-in_err-send_verdict
returns-in_err-send_verdict g c = record {
  asks = IfOk-from_err _ _ c.from_residual-in_err-send_verdict.ensures.0;
  sends = IfOk-from_err _ _ c.from_residual-in_err-send_verdict.ensures.0;
  unjudged =
      let same : c.from_residual-in_err-send_verdict.result ≡ ended_by stop.Bench = search rules in
      let question =
      subst
      (λ (o : Option Expected). AsksNext g.P.Source c.args.self.now.lines c.next_question.new.self.lines c.args.source.now c.next_question.new.source
      c.args.index.now c.args.self.now.core.history o)
      c.in-Some.is c.in_ok-expected.ensures.asks in
      subst
      (λ (r : Result (Option Expected) Stop). IfErr r (IsUnjudged g.P.Source g.B.Bench c.args.self.now.lines c.next_question.new.self.lines
      c.args.source.now c.next_question.new.source c.args.bench.now c.send_verdict.new.bench c.args.index.now
      c.args.self.now.core.history))
      (sym same) (inr (refl, record { expected = c.in-Some.expected; question = question; fails = c.in_err-send_verdict.ensures.fails }));
  same = c.next_question.ensures.same;
  cuts = c.next_question.ensures.cuts;
}
