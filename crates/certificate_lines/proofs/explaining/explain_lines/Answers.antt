use Rattle.std.proofs.Common.{rules, ◌≡◌, ◌++◌, ◌∷◌, List, ℕ, [], Option, Result, Err, sym, subst}
use Rattle.std.proofs.lemmas.Slice.Zip.{AllZip-long}
use Rattle.audit_types.specs.History.{Setting}
use Rattle.bench_core.specs.declared.stops.Stop.{Stop}
use Rattle.bench_core.specs.declared.stops.Stop.TheVariants as stop
use Rattle.line_wire.specs.Talks.{Talks, unrefused}
use Rattle.line_wire.specs.TalkSoFar.{all_read, nothing_yet, text_sent, text_unsent, wants_memory}
use Rattle.question_plan.specs.declared.planning.Plan.{Plan}
use Rattle.question_plan.specs.Planned.{PlansNext}
use Rattle.certificate_lines.specs.Explained.{IsExplained, IsLineOf, explanations}
use Rattle.certificate_lines.proofs.Turns.{line_due, unplanned}
use Rattle.certificate_lines.proofs.explaining.explain_lines.Goals as goal

abbrev ended_by : Stop → Result (Unit {0}) Stop
ended_by why = Err why

pub loop-line-init : goal.loop-line-init
loop-line-init g c = record {
  talk = (
    [],
    [],
    nothing_yet g.P.Source g.B.Bench (explanations c.args.index.now c.args.core.now.history) c.args.source.now c.args.bench.now
        (λ image bytes was. g.met.B.Bench.only_now c.args.bench.now image bytes was) tt c.args.planner.now c.requires.fresh,
  );
  provers = c.new-provers.ensures c.args.core.now.setting c.args.core.now.history;
}

pub returns-in_err-plan : goal.returns-in_err-plan
returns-in_err-plan g c =
    let why : Stop = c.in_err-plan.field-0.0 in
    let same : c.from_residual.result ≡ ended_by why = search rules in
    subst
    (λ (r : Result (Unit {0}) Stop). Talks g.P.Source g.B.Bench (explanations c.args.index.now c.args.core.now.history)
    c.args.source.now c.next.new.source c.args.bench.now c.loop-line.bench (unrefused r))
    (sym same)
    (unplanned c.args.index.now c.args.core.now.history c.loop-line.invariant.talk.2 c.in_err-plan.ensures.cuts why
    c.in_err-plan.ensures.unplanned)

pub returns : goal.returns
returns g c =
    let none = subst (λ (o : Option Plan). PlansNext g.P.Source c.loop-line.planner c.next.new.self c.loop-line.source c.next.new.source
    c.args.index.now o) c.in_default.is c.in_ok-plan.ensures.plans in
    let talk = c.loop-line.invariant.talk in
    all_read talk.2 c.in_ok-plan.ensures.cuts none
    (AllZip-long (IsExplained c.args.index.now c.args.core.now.history) talk.0 talk.1 talk.2.due)

pub returns-in_err-write_line : goal.returns-in_err-write_line
returns-in_err-write_line g c =
    let plan = subst (λ (o : Option Plan). PlansNext g.P.Source c.loop-line.planner c.next.new.self c.loop-line.source c.next.new.source
    c.args.index.now o) c.in-Some.is c.in_ok-plan.ensures.plans in
    let same : c.from_residual-in_err-write_line.result ≡ ended_by stop.NoMemory = search rules in
    subst
    (λ (r : Result (Unit {0}) Stop). Talks g.P.Source g.B.Bench (explanations c.args.index.now c.args.core.now.history)
    c.args.source.now c.next.new.source c.args.bench.now c.loop-line.bench (unrefused r))
    (sym same)
    (wants_memory c.loop-line.invariant.talk.2 plan.gives.steady)

pub loop-line-preserved : goal.loop-line-preserved
loop-line-preserved g c =
    let plan = subst (λ (o : Option Plan). PlansNext g.P.Source c.loop-line.planner c.next.new.self c.loop-line.source c.next.new.source
    c.args.index.now o) c.in-Some.is c.in_ok-plan.ensures.plans in
    let line = c.deref.result.now in
    let line_of = subst (λ (s : Setting). IsLineOf s c.args.core.now.history c.in-Some.plan line) c.requires.setting
    (subst (λ (l : List ℕ). IsLineOf c.args.core.now.setting c.args.core.now.history c.in-Some.plan l) (sym c.deref.ensures.value)
    c.in_ok-write_line.ensures.line) in
    let talk = c.loop-line.invariant.talk in
    let said = c.in_ok-send.ensures in
    record {
      talk = (
        talk.0 ++ plan.line ∷ [],
        talk.1 ++ line ∷ [],
        text_sent talk.2 c.in_ok-plan.ensures.cuts plan.gives line
            (line_due c.args.index.now c.args.core.now.history talk.2 plan line line_of)
            (record { all = said.all; file = said.file; crash = said.crash; time = said.time; ticks = said.ticks; steady = said.cause.steady }),
      );
      provers = c.in_ok-write_line.ensures.provers;
    }

pub returns-in_err-send : goal.returns-in_err-send
returns-in_err-send g c =
    let plan = subst (λ (o : Option Plan). PlansNext g.P.Source c.loop-line.planner c.next.new.self c.loop-line.source c.next.new.source
    c.args.index.now o) c.in-Some.is c.in_ok-plan.ensures.plans in
    let line = c.deref.result.now in
    let line_of = subst (λ (s : Setting). IsLineOf s c.args.core.now.history c.in-Some.plan line) c.requires.setting
    (subst (λ (l : List ℕ). IsLineOf c.args.core.now.setting c.args.core.now.history c.in-Some.plan l) (sym c.deref.ensures.value)
    c.in_ok-write_line.ensures.line) in
    let talk = c.loop-line.invariant.talk in
    let said = c.in_err-send.ensures in
    let same : c.from_residual-in_err-send.result ≡ ended_by stop.Bench = search rules in
    subst
    (λ (r : Result (Unit {0}) Stop). Talks g.P.Source g.B.Bench (explanations c.args.index.now c.args.core.now.history)
    c.args.source.now c.next.new.source c.args.bench.now c.send.new.self (unrefused r))
    (sym same)
    (text_unsent talk.2 c.in_ok-plan.ensures.cuts plan.gives line
    (line_due c.args.index.now c.args.core.now.history talk.2 plan line line_of)
    (record {
      part = said.part;
      file = said.file;
      crash = said.crash;
      time = said.time;
      later = said.cause.later;
      rose = said.cause.failed;
      last = said.last_call;
    }))
