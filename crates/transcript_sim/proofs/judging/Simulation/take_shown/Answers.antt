use Rattle.std.proofs.Common.{rules, ◌≡◌, List, Option, Some, None, Result, Err, IfErr, refl, sym, subst}
use Rattle.std.proofs.lemmas.Result.{IfOk-from_err}
use Rattle.audit_types.specs.History.{Setting}
use Rattle.audit_types.specs.declared.records.Answered.{Answered}
use Rattle.bench_core.specs.declared.source.Source.{Ghosts}
use Rattle.bench_core.specs.declared.stops.Stop.{Stop}
use Rattle.bench_core.specs.declared.stops.Stop.TheVariants as stop
use Rattle.line_wire.specs.Lines.{CountedLine, text, long}
use Rattle.line_wire.specs.Cutter.{Cutter}
use Rattle.question_plan.specs.Planned.{IsUnplanned}
use Rattle.transcript_sim.specs.declared.expecting.Expected.{Expected}
use Rattle.transcript_sim.specs.declared.expecting.Expected.TheVariants.{Only, Answer}
use Rattle.transcript_sim.specs.declared.shown.Shown.{Shown}
use Rattle.transcript_sim.specs.declared.shown.Shown.TheVariants.{Agrees, Disagrees}
use Rattle.transcript_sim.specs.Verdicts.{AgreesWith}
use Rattle.transcript_sim.specs.Steps.{CanBeTaken, CanFollow, ShowsNext}
use Rattle.transcript_sim.proofs.judging.Simulation.take_shown.Goals as goal

abbrev ended_by : Stop → Result (Option Shown) Stop
ended_by why = Err why

-- the record of a line that agrees is one of the question, which may be taken
record_follows : (setting : Setting) (history : List Answered) (line : CountedLine) (expected : Expected) (added : Option Answered)
    → CanBeTaken setting history expected → AgreesWith line expected added → CanFollow setting history (Some (Agrees added))
record_follows setting history line expected None can agrees = tt
record_follows setting history long expected (Some answered) can agrees = absurd agrees
record_follows setting history (text line) (Only answer) (Some answered) can agrees = absurd (search rules)
record_follows setting history (text line) (Answer take people asked follows) (Some answered) can agrees =
    subst (λ (added : Option Answered). CanFollow setting history (Some (Agrees added))) (sym agrees.added_is) can

module _ {P : Type 0} (source : Ghosts P) (old new : Cutter) (before after : P) (expected : Expected) where
  -- so its record may follow the history
  can_follow : (setting : Setting) (history : List Answered) (shown : Option Shown) → CanBeTaken setting history expected
      → ShowsNext source old new before after expected shown → CanFollow setting history shown
  can_follow setting history (Some (Agrees added)) can shows = record_follows setting history shows.line expected added can shows.comes_to
  can_follow setting history (Some Disagrees) can shows = tt
  can_follow setting history None can shows = tt

  -- no read failed if a line was given, or none was left
  steady : (shown : Option Shown) → ShowsNext source old new before after expected shown → source.faults after ≡ source.faults before
  steady (Some shown) shows = shows.gives.steady
  steady None shows = shows.steady

pub take_answer-requires : goal.take_answer-requires
take_answer-requires g c =
    can_follow g.P.Source c.args.self.now.lines c.next_shown.new.lines c.args.source.now c.next_shown.new.source c.args.expected.now
    c.args.self.now.core.setting c.args.self.now.core.history c.in_ok-shown.shown c.requires.can c.in_ok-shown.ensures.shows

pub returns : goal.returns
returns g c = record {
  shows = c.in_ok-shown.ensures.shows;
  takes = c.in_ok-take_answer.ensures.takes;
  setting = c.take_answer.ensures.setting;
  short = tt;
  cuts = c.next_shown.ensures.cuts;
}

pub returns-in_err-shown : goal.returns-in_err-shown
returns-in_err-shown g c = record {
  shows = IfOk-from_err _ _ c.from_residual.ensures.0;
  takes = IfOk-from_err _ _ c.from_residual.ensures.0;
  setting = refl;
  short =
      let same : c.from_residual.result ≡ ended_by c.in_err-shown.field-0.0 = search rules in
      subst (λ (r : Result (Option Shown) Stop). IfErr r (IsUnplanned g.P.Source c.args.self.now.lines c.next_shown.new.lines c.args.source.now
      c.next_shown.new.source)) (sym same)
      c.in_err-shown.ensures.short;
  cuts = c.next_shown.ensures.cuts;
}

pub returns-in_err-take_answer : goal.returns-in_err-take_answer
returns-in_err-take_answer g c = record {
  shows = IfOk-from_err _ _ c.from_residual-in_err-take_answer.ensures.0;
  takes = IfOk-from_err _ _ c.from_residual-in_err-take_answer.ensures.0;
  setting = c.take_answer.ensures.setting;
  short =
      let same : c.from_residual-in_err-take_answer.result ≡ ended_by stop.NoMemory = search rules in
      subst (λ (r : Result (Option Shown) Stop). IfErr r (IsUnplanned g.P.Source c.args.self.now.lines c.next_shown.new.lines c.args.source.now
      c.next_shown.new.source)) (sym same)
      (steady g.P.Source c.args.self.now.lines c.next_shown.new.lines c.args.source.now c.next_shown.new.source c.args.expected.now c.in_ok-shown.shown
      c.in_ok-shown.ensures.shows);
  cuts = c.next_shown.ensures.cuts;
}
