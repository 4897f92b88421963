use Rattle.std.proofs.Common.{rules, ◌≡◌, List, ℕ, Option, Result, Err, IfErr, sym, subst}
use Rattle.std.proofs.lemmas.Result.{IfOk-from_err}
use Rattle.line_wire.specs.Lines.{text, long}
use Rattle.bench_core.specs.declared.stops.Stop.{Stop}
use Rattle.line_wire.specs.declared.lines.Next.{Next}
use Rattle.transcript_sim.specs.declared.shown.Shown.{Shown}
use Rattle.line_wire.specs.Calls.{GivesNext}
use Rattle.question_plan.specs.Planned.{IsUnplanned, stops_planning}
use Rattle.transcript_sim.specs.Steps.{ComesTo}
use Rattle.transcript_sim.proofs.questions.next_shown.Goals as goal

abbrev ended_by : Stop → Result (Option Shown) Stop
ended_by why = Err why

pub returns-in_err-next_line : goal.returns-in_err-next_line
returns-in_err-next_line g c = record {
  shows = IfOk-from_err _ _ c.from_residual.ensures.0;
  short =
      let why = c.in_err-next_line.field-0.0 in
      let same : c.from_residual.result ≡ ended_by why = search rules in
      subst
      (λ (r : Result (Option Shown) Stop). IfErr r (IsUnplanned g.P.Source c.args.lines.now c.next_line.new.self c.args.source.now
      c.next_line.new.source))
      (sym same)
      (stops_planning g.P.Source c.args.lines.now c.next_line.new.self c.args.source.now c.next_line.new.source why c.in_err-next_line.ensures.stopped);
  cuts = c.next_line.ensures.cuts;
}

pub returns-in-Line : goal.returns-in-Line
returns-in-Line g c = record {
  shows =
      let gives =
      subst (λ (n : Next). GivesNext g.P.Source c.args.lines.now c.next_line.new.self c.args.source.now c.next_line.new.source n) c.in-Line.is
      c.in_ok-next_line.ensures.gives in
      record {
        line = text c.next_line.new.self.text;
        gives = gives.0;
        comes_to = subst (λ (line : List ℕ). ComesTo (text line) c.args.expected.now c.shown.result) c.text.ensures c.shown.ensures;
      };
  short = tt;
  cuts = c.next_line.ensures.cuts;
}

pub returns-in-Long : goal.returns-in-Long
returns-in-Long g c = record {
  shows =
      let gives =
      subst (λ (n : Next). GivesNext g.P.Source c.args.lines.now c.next_line.new.self c.args.source.now c.next_line.new.source n) c.in-Long.is
      c.in_ok-next_line.ensures.gives in
      record { line = long; gives = gives; comes_to = λ added agrees. agrees };
  short = tt;
  cuts = c.next_line.ensures.cuts;
}

pub returns-in-End : goal.returns-in-End
returns-in-End g c = record {
  shows =
      subst (λ (n : Next). GivesNext g.P.Source c.args.lines.now c.next_line.new.self c.args.source.now c.next_line.new.source n) c.in-End.is
      c.in_ok-next_line.ensures.gives;
  short = tt;
  cuts = c.next_line.ensures.cuts;
}
