mod LastTurn
use Rattle.std.proofs.Common.{◌≡◌, ℕ, ◌++◌, ◌||◌, Bool, true, not, List, Result, Ok, Err, refl, sym, ◌∙◌, ap, subst, arith, rules}
use Rattle.std.specs.Prelude.{All}
use Rattle.std.proofs.lemmas.Result.{IfOk-from_err}
use Rattle.audit_types.specs.declared.records.Answered.{Answered}
use Rattle.audit_types.specs.declared.shapes.Shape.{Shape}
use Rattle.bench_core.specs.Calls.{IsQuiet}
use Rattle.bench_core.specs.Causes.{Rose}
use Rattle.bench_core.specs.Moments.{weakens}
use Rattle.bench_core.specs.Reports.{is_refusal, not_called, passed_on}
use Rattle.bench_core.specs.declared.stops.Stop.{Stop}
use Rattle.bench_core.specs.declared.stops.Stop.TheVariants as end
use Rattle.bench_core.specs.Stops.{IsOfBenches}
use Rattle.journal_form.specs.Journal.{StandsFor}
use Rattle.question_plan.specs.Plans.{CanBeServed}
use Rattle.table_load.specs.Cells.{SecretView}
use Rattle.table_load.specs.Database.{IsDatabase}
use Rattle.audit_session.specs.Ends.{base_over}
use Rattle.line_wire.specs.Lines.{counted_lines}
use Rattle.line_wire.specs.LinesSoFar.{not_over}
use Rattle.audit_session.specs.Groups.{IsUngathered}
use Rattle.audit_session.proofs.EndsByFault.{rests_by}
use Rattle.audit_session.proofs.FirstStop.{both_first, serves_none, spare_first}
use Rattle.audit_session.proofs.GatheredLines.{still_ended, unfailed, whole_or_last}
use Rattle.audit_session.proofs.HarmlessStops.{harmless, spare_harmless}
use Rattle.audit_session.proofs.Served.{HasGathered, both_turn, first_moments, next_turn, nothing_served, spare_calls_now, spare_turn, spare_unserved, turn_moments}
use Rattle.audit_session.proofs.ServedEnds.{both_kept, served_limited, served_whole, some_served, still_served}
use Rattle.audit_session.proofs.Refusals.{of_stop, only_memory, since_steady, still_later}
use Rattle.audit_session.proofs.session.serve_with.Answers.LastTurn.{last_turn}
use Rattle.audit_session.proofs.session.serve_with.Goals as goal

abbrev ended_by : Stop → Result (Unit {0}) Stop
ended_by why = Err why

abbrev given : Bool → Result Bool Stop
given more = Ok more

-- ---- before the first group

pub returns-in_err-planner : goal.returns-in_err-planner
returns-in_err-planner g c =
    let store = g.K.Keeper.store c.args.keeper.now in
    let base = base_over c.args.index.now store in
    let lines = counted_lines (g.P.Source.left c.args.source.now) in
    let same : c.from_residual.result ≡ ended_by end.NoMemory = is_refusal c.from_residual.result _ c.from_residual.ensures in
    let moments = λ (told : g.B.Bench.told) (quiet : IsQuiet g.B.Bench c.args.bench.now).
    first_moments g.P.Source.told g.B.Bench c.args.index.now c.args.batch store lines c.args.bench.now
    (λ image bytes was. g.met.B.Bench.only_now c.args.bench.now image bytes was) quiet (c.requires.stands told) in
    let spare_moments = λ (told : g.K.Keeper.spared × g.S.Bench.told) (quiet : IsQuiet g.S.Bench c.args.spare.now).
    spare_first g.P.Source.told g.S.Bench c.args.spare.now base c.args.batch store.history lines
    (λ image bytes was. g.met.S.Bench.only_now c.args.spare.now image bytes was) quiet
    (g.K.Keeper.spare_gate c.args.keeper.now, c.requires.spare_stands told.0 told.1) in
    let is_base : IsDatabase base = record { schema = c.schema-schema.ensures.columns; shape = c.requires.shape; protected = c.requires.is.fit } in
    let harm =
    harmless c.stops.ensures g.P.Source.told base c.args.batch store.history lines is_base c.requires.is.numbers c.requires.is.legal
    (g.B.Bench.sent c.args.bench.now) in
    let spare_harm =
    spare_harmless c.stops.ensures g.P.Source.told base c.args.batch store.history lines is_base c.requires.is.numbers c.requires.is.legal
    (g.S.Bench.sent c.args.spare.now) in
    record {
      session = record {
        done = λ t u. IfOk-from_err _ _ c.from_residual.ensures.0;
        input_end = λ t u is. absurd cc;
        limit_end = λ t u is. absurd cc;
        memory_end = λ t u is. serves_none base c.args.batch store.history lines (g.B.Bench.sent c.args.bench.now);
        spare_end = λ t u is. absurd cc;
        stands = λ u no. (store.journal.gate, c.requires.stands u);
        quiet = λ u quiet no. quiet;
        again = IfOk-from_err _ _ c.from_residual.ensures.0;
        usable = λ bench spare memory. c.requires.usable;
        left = λ u usable. c.requires.stands u;
        calls = λ t u. IfOk-from_err _ _ c.from_residual.ensures.0;
        any_moment = λ t u quiet. weakens g.B.Bench c.args.bench.now c.args.bench.now _ _ (λ image sent stop. stop.1 t) (moments u quiet);
        legal = λ u quiet. weakens g.B.Bench c.args.bench.now c.args.bench.now _ _ harm (moments u quiet);
        table = (refl, refl);
        is = c.requires.is;
        read = λ t. IfOk-from_err _ _ c.from_residual.ensures.0;
        within = λ t. IfOk-from_err _ _ c.from_residual.ensures.0;
        input_within = λ t is. absurd cc;
        limit = λ t is. absurd cc;
        later = omega arith;
        input = λ is. absurd cc;
        last_read = λ is. absurd cc;
        steady = λ other. refl;
        fault = not_called g.B.Bench c.args.bench.now _ (λ is. let none : ⊥ = cc in none);
      };
      spare = record {
        stands = λ told bench spare. (g.K.Keeper.spare_gate c.args.keeper.now, c.requires.spare_stands told.0 told.1);
        moments = λ t told quiet.
            weakens g.S.Bench c.args.spare.now c.args.spare.now _ _ (λ image sent found. (found.0, (found.1.0, found.1.1.1 t)))
            (spare_moments told quiet);
        legal = λ told quiet. weakens g.S.Bench c.args.spare.now c.args.spare.now _ _ spare_harm (spare_moments told quiet);
        quiet = λ told quiet other. quiet;
        sent = refl;
        both = λ t u told quiet spare_quiet image other left spare_left.
            both_first g.B.Bench c.args.bench.now g.S.Bench c.args.spare.now base c.args.batch store.history lines image other quiet
            (store.journal.gate, c.requires.stands u) spare_quiet
            (g.K.Keeper.spare_gate c.args.keeper.now, c.requires.spare_stands told.0 told.1) left spare_left;
        calls = λ t told. IfOk-from_err _ _ c.from_residual.ensures.0;
        fault = not_called g.S.Bench c.args.spare.now _ (λ is. let none : ⊥ = cc in none);
      };
      own = λ is. absurd cc;
      untouched = λ none. refl;
    }

-- ---- from turn to turn

pub loop-group-init : goal.loop-group-init
loop-group-init g c = record {
  served =
      nothing_served g.P.Source g.B.Bench c.args.index.now c.args.batch c.in_ok-planner.planner
      (g.K.Keeper.store c.args.keeper.now) c.args.source.now c.args.bench.now c.in_ok-planner.ensures.fresh c.requires.usable c.requires.is
      c.requires.stands (λ image bytes was. g.met.B.Bench.only_now c.args.bench.now image bytes was);
  spare =
      spare_unserved g.P.Source g.K.Keeper g.S.Bench c.args.index.now c.args.batch c.args.keeper.now c.args.source.now
      c.args.spare.now (λ image bytes was. g.met.S.Bench.only_now c.args.spare.now image bytes was)
      (λ told. c.requires.spare_stands told.0 told.1);
  room = c.in_ok-planner.ensures.room;
}

pub loop-group-preserved : goal.loop-group-preserved
loop-group-preserved g c =
    let e = c.in_ok-more.ensures in
    let a = c.in_ok-answer.ensures in
    let s = c.loop-group.invariant.served in
    let so_far = c.loop-group.invariant.spare in
    let now = c.gather.new.planner in
    let plans = c.gather.new.group.plans.items in
    let turn : HasGathered g.P.Source c.args.index.now c.args.batch c.loop-group.planner now c.loop-group.source
    c.gather.new.source (not c.in_ok-more.more || now.ended) plans =
    record {
      gathers = e.gathers;
      few = e.most;
      some = c.requires.batch.0;
      once = λ ended. still_ended c.in_ok-more.more now.ended (e.cuts.still ended);
      ends = whole_or_last {E = Stop} g.P.Source.told c.args.batch c.in_ok-more.more plans (now.pending ++ g.P.Source.left c.gather.new.source) e.whole e.last;
    } in
    let more_is : c.in_ok-more.more ≡ true = search rules in
    record {
      served =
          next_turn s turn a.answers (g.K.Keeper.store c.answer.new.keeper) refl (ap (λ (b : Bool). not b || now.ended) more_is)
          (e.whole (ap given more_is)) e.cuts.same e.cuts.taken e.cuts.within e.steady a.stands a.table a.is (a.fault.steady (search rules)) a.moments;
      spare = record {
        stands = a.spare.stands;
        moments = λ told quiet.
            spare_turn s turn g.S.Bench c.args.spare.now c.loop-group.spare c.answer.new.spare so_far.sent (so_far.moments told quiet)
            (a.spare.moments told (so_far.quiet told quiet));
        quiet = λ told quiet. a.spare.quiet told (so_far.quiet told quiet) (search rules);
        sent = a.spare.sent ∙ so_far.sent;
        calls = λ told.
            spare_calls_now s turn a.answers (g.S.Bench.moment c.args.spare.now) (g.S.Bench.moment c.loop-group.spare) (g.S.Bench.moment c.answer.new.spare)
            (so_far.calls told) (a.spare.ticks told);
        steady = a.spare.fault.steady (search rules) ∙ so_far.steady;
        untouched = λ none. c.answer.ensures.untouched none ∙ so_far.untouched none;
      };
      room = a.room ∙ e.room ∙ c.loop-group.invariant.room;
    }

pub loop-group-smaller : goal.loop-group-smaller
loop-group-smaller g c = omega
    (arith, c.in_ok-more.ensures.takes (ap given c.if-not-more.false), c.in_ok-more.ensures.cuts.within, c.loop-group.invariant.served.within)

pub gather-requires-clause-same : goal.gather-requires-clause-same
gather-requires-clause-same g c = c.loop-group.invariant.served.same

pub gather-requires-clause-within : goal.gather-requires-clause-within
gather-requires-clause-within g c = c.loop-group.invariant.served.within

pub answer-requires-clause-usable : goal.answer-requires-clause-usable
answer-requires-clause-usable g c = c.loop-group.invariant.served.usable

pub answer-requires-clause-is : goal.answer-requires-clause-is
answer-requires-clause-is g c = c.loop-group.invariant.served.is

pub answer-requires-clause-few : goal.answer-requires-clause-few
answer-requires-clause-few g c = omega (arith, c.in_ok-more.ensures.most, c.requires.batch.1)

pub answer-requires-clause-served : goal.answer-requires-clause-served
answer-requires-clause-served g c =
    let shape = ap (λ (s : SecretView). s.shape) c.loop-group.invariant.served.secret ∙ c.requires.shape in
    subst (λ (s : Shape). All (CanBeServed s) c.gather.new.group.plans.items) (sym shape) c.in_ok-more.ensures.served

pub answer-requires-clause-room : goal.answer-requires-clause-room
answer-requires-clause-room g c = omega (arith, c.in_ok-more.ensures.most, c.gather.ensures.room, c.loop-group.invariant.room)

pub answer-requires-clause-stands : goal.answer-requires-clause-stands
answer-requires-clause-stands g c = c.loop-group.invariant.served.as_left

pub answer-requires-clause-spare_stands : goal.answer-requires-clause-spare_stands
answer-requires-clause-spare_stands g c = λ spared told. c.loop-group.invariant.spare.stands (spared, told)

-- ---- no group was gathered

pub returns-in_err-more : goal.returns-in_err-more
returns-in_err-more g c =
    let e = c.in_err-more.ensures in
    let why = c.in_err-more.field-0.0 in
    let same : c.from_residual-in_err-more.result ≡ ended_by why = search rules in
    let store = g.K.Keeper.store c.args.keeper.now in
    let base = base_over c.args.index.now store in
    let lines = counted_lines (g.P.Source.left c.args.source.now) in
    let is_base : IsDatabase base = record { schema = c.schema-schema.ensures.columns; shape = c.requires.shape; protected = c.requires.is.fit } in
    let harm =
    harmless c.stops.ensures g.P.Source.told base c.args.batch store.history lines is_base c.requires.is.numbers c.requires.is.legal
    (g.B.Bench.sent c.args.bench.now) in
    let spare_harm =
    spare_harmless c.stops.ensures g.P.Source.told base c.args.batch store.history lines is_base c.requires.is.numbers c.requires.is.legal
    (g.S.Bench.sent c.args.spare.now) in
    let s = c.loop-group.invariant.served in
    let so_far = c.loop-group.invariant.spare in
    let now = c.gather.new.planner in
    let kept = g.K.Keeper.store c.loop-group.keeper in
    let left = g.P.Source.left c.gather.new.source in
    let Ungathered : Stop → Type 0 = IsUngathered g.P.Source c.args.batch c.loop-group.planner now c.loop-group.source c.gather.new.source in
    let ungathered : Ungathered why = e.ungathered in
    let by : (is : Stop) → c.from_residual-in_err-more.result ≡ ended_by is → Ungathered is =
    λ stop is. of_stop {X = Unit {0}} why stop Ungathered ungathered (sym same ∙ is) in
    record {
      session = record {
        done = λ t u. IfOk-from_err _ _ c.from_residual-in_err-more.ensures.0;
        input_end = λ t u is. let fails = by end.Input is in served_whole s t u left (λ ended none. fails.going ended) (fails.short t);
        limit_end = λ t u is.
            let passes = by end.Limit is in
            let cut = passes.short t in
            served_limited s t u (now.pending ++ left)
            (λ ended. not_over (c.loop-group.planner.pending ++ g.P.Source.left c.loop-group.source) cut.read now.pending left cut.split passes.some)
            cut now.pending left now.taken refl passes.over (e.cuts.taken t ∙ s.taken t);
        memory_end = λ t u is. some_served s t u;
        spare_end = λ t u is. some_served s t u;
        stands = λ u no. (kept.journal.gate, s.as_left u);
        quiet = λ u quiet no. s.quiet u quiet;
        again = IfOk-from_err _ _ c.from_residual-in_err-more.ensures.0;
        usable = λ bench spare memory. s.usable;
        left = λ u usable. s.as_left u;
        calls = λ t u. IfOk-from_err _ _ c.from_residual-in_err-more.ensures.0;
        any_moment = λ t u quiet. weakens g.B.Bench c.args.bench.now c.loop-group.bench _ _ (λ image sent stop. stop.1 t) (s.moments u quiet);
        legal = λ u quiet. weakens g.B.Bench c.args.bench.now c.loop-group.bench _ _ harm (s.moments u quiet);
        table = (s.secret, s.protected);
        is = s.is;
        read = λ t. IfOk-from_err _ _ c.from_residual-in_err-more.ensures.0;
        within = λ t. IfOk-from_err _ _ c.from_residual-in_err-more.ensures.0;
        input_within = λ t is. omega (arith, e.cuts.taken t, s.taken t, (by end.Input is).within);
        limit = λ t is. let passes = by end.Limit is in omega (arith, e.cuts.taken t, s.taken t, passes.over, passes.some);
        later = still_later _ _ _ s.source_steady c.gather.ensures.cuts.later;
        input = λ is. subst (λ (n : ℕ). Rose n (g.P.Source.faults c.gather.new.source)) s.source_steady (by end.Input is).rose;
        last_read = λ is. (by end.Input is).last;
        steady = λ other.
            unfailed {X = Unit {0}} g.P.Source c.args.batch c.loop-group.planner now c.loop-group.source c.gather.new.source why ungathered
            (λ is. other (same ∙ is)) ∙ s.source_steady;
        fault =
            since_steady g.B.Bench c.args.bench.now c.loop-group.bench c.loop-group.bench _ s.bench_steady
            (not_called g.B.Bench c.loop-group.bench _ (λ is. by end.Bench is));
      };
      spare = record {
        stands = λ told bench spare. (g.K.Keeper.spare_gate c.loop-group.keeper, so_far.stands told);
        moments = λ t told quiet.
            weakens g.S.Bench c.args.spare.now c.loop-group.spare _ _ (λ image sent found. (found.0, (found.1.0, found.1.1.1 t)))
            (so_far.moments told quiet);
        legal = λ told quiet. weakens g.S.Bench c.args.spare.now c.loop-group.spare _ _ spare_harm (so_far.moments told quiet);
        quiet = λ told quiet other. so_far.quiet told quiet;
        sent = so_far.sent;
        both = λ t u told quiet spare_quiet image other left spare_left.
            both_kept s g.S.Bench c.loop-group.spare image other t u quiet (so_far.quiet told spare_quiet)
            (g.K.Keeper.spare_gate c.loop-group.keeper, so_far.stands told) left spare_left;
        calls = λ t told. IfOk-from_err _ _ c.from_residual-in_err-more.ensures.0;
        fault =
            since_steady g.S.Bench c.args.spare.now c.loop-group.spare c.loop-group.spare _ so_far.steady
            (not_called g.S.Bench c.loop-group.spare _ (λ is. by end.Spare is));
      };
      own = λ is. absurd (by end.Spare is);
      untouched = so_far.untouched;
    }

-- ---- a group wasn't answered

pub returns-in_err-answer : goal.returns-in_err-answer
returns-in_err-answer g c =
    let e = c.in_ok-more.ensures in
    let a = c.in_err-answer.ensures in
    let why = c.in_err-answer.field-0.0 in
    let same : c.from_residual-in_err-answer.result ≡ ended_by why = search rules in
    let store = g.K.Keeper.store c.args.keeper.now in
    let base = base_over c.args.index.now store in
    let lines = counted_lines (g.P.Source.left c.args.source.now) in
    let is_base : IsDatabase base = record { schema = c.schema-schema.ensures.columns; shape = c.requires.shape; protected = c.requires.is.fit } in
    let harm =
    harmless c.stops.ensures g.P.Source.told base c.args.batch store.history lines is_base c.requires.is.numbers c.requires.is.legal
    (g.B.Bench.sent c.args.bench.now) in
    let spare_harm =
    spare_harmless c.stops.ensures g.P.Source.told base c.args.batch store.history lines is_base c.requires.is.numbers c.requires.is.legal
    (g.S.Bench.sent c.args.spare.now) in
    let s = c.loop-group.invariant.served in
    let so_far = c.loop-group.invariant.spare in
    let now = c.gather.new.planner in
    let before = g.K.Keeper.store c.loop-group.keeper in
    let after = g.K.Keeper.store c.answer.new.keeper in
    let plans = c.gather.new.group.plans.items in
    let turn : HasGathered g.P.Source c.args.index.now c.args.batch c.loop-group.planner now c.loop-group.source
    c.gather.new.source (not c.in_ok-more.more || now.ended) plans =
    record {
      gathers = e.gathers;
      few = e.most;
      some = c.requires.batch.0;
      once = λ ended. still_ended c.in_ok-more.more now.ended (e.cuts.still ended);
      ends = whole_or_last {E = Stop} g.P.Source.told c.args.batch c.in_ok-more.more plans (now.pending ++ g.P.Source.left c.gather.new.source) e.whole e.last;
    } in
    let by : (is : Stop) → c.from_residual-in_err-answer.result ≡ ended_by is → IsOfBenches is =
    λ stop is. of_stop {X = Unit {0}} why stop IsOfBenches a.ends (sym same ∙ is) in
    let rests = λ (no : c.from_residual-in_err-answer.result ≡ ended_by end.Bench → ⊥).
    rests_by {X = Unit {0}} why a.ends (λ is. no (same ∙ is)) g.B.Bench c.args.bench.now c.loop-group.bench c.answer.new.bench before after a.no_memory
    a.spare_first a.table.0 (record { stands = λ u. (before.journal.gate, s.as_left u); quiet = s.quiet }) in
    let moments = λ (u : g.B.Bench.told) (quiet : IsQuiet g.B.Bench c.args.bench.now).
    turn_moments s turn c.answer.new.bench u quiet (a.moments u (s.quiet u quiet)) in
    let spare_moments = λ (told : g.K.Keeper.spared × g.S.Bench.told) (quiet : IsQuiet g.S.Bench c.args.spare.now).
    spare_turn s turn g.S.Bench c.args.spare.now c.loop-group.spare c.answer.new.spare so_far.sent (so_far.moments told quiet)
    (a.spare.moments told (so_far.quiet told quiet)) in
    record {
      session = record {
        done = λ t u. IfOk-from_err _ _ c.from_residual-in_err-answer.ensures.0;
        input_end = λ t u is. absurd (by end.Input is);
        limit_end = λ t u is. absurd (by end.Limit is);
        memory_end = λ t u is. let still = a.no_memory (sym same ∙ is) in still_served s still.0 still.1 t u;
        spare_end = λ t u is. let still = a.spare_first (sym same ∙ is) in still_served s still.0 still.1 t u;
        stands = λ u no. (rests no).stands u;
        quiet = λ u quiet no. (rests no).quiet u quiet;
        again = IfOk-from_err _ _ c.from_residual-in_err-answer.ensures.0;
        usable = search rules;
        left = c.answer.ensures.left;
        calls = λ t u. IfOk-from_err _ _ c.from_residual-in_err-answer.ensures.0;
        any_moment = λ t u quiet. weakens g.B.Bench c.args.bench.now c.answer.new.bench _ _ (λ image sent stop. stop.1 t) (moments u quiet);
        legal = λ u quiet. weakens g.B.Bench c.args.bench.now c.answer.new.bench _ _ harm (moments u quiet);
        table = (a.table.0 ∙ s.secret, a.table.1 ∙ s.protected);
        is = a.is;
        read = λ t. IfOk-from_err _ _ c.from_residual-in_err-answer.ensures.0;
        within = λ t. IfOk-from_err _ _ c.from_residual-in_err-answer.ensures.0;
        input_within = λ t is. absurd (by end.Input is);
        limit = λ t is. absurd (by end.Limit is);
        later = still_later _ _ _ s.source_steady c.gather.ensures.cuts.later;
        input = λ is. absurd (by end.Input is);
        last_read = λ is. absurd (by end.Input is);
        steady = λ other. e.steady ∙ s.source_steady;
        fault =
            since_steady g.B.Bench c.args.bench.now c.loop-group.bench c.answer.new.bench _ s.bench_steady
            (passed_on g.B.Bench c.loop-group.bench c.answer.new.bench why end.Bench _ same a.fault);
      };
      spare = record {
        stands = λ told bench spare.
            let memory : why ≡ end.NoMemory =
            only_memory {X = Unit {0}} why a.ends (λ is. bench (same ∙ is)) (λ is. spare (same ∙ is)) in
            let is = ap ended_by memory in
            let file = g.S.Bench.file c.loop-group.spare in
            let stood : StandsFor file before.secret.shape before.history = (g.K.Keeper.spare_gate c.loop-group.keeper, so_far.stands told) in
            subst (λ b. StandsFor (g.S.Bench.file b) after.secret.shape after.history) (sym (a.spare.no_memory is))
            (subst (λ (s : SecretView). StandsFor file s.shape after.history) (sym a.table.0)
            (subst (λ (h : List Answered). StandsFor file before.secret.shape h) (sym (a.no_memory is).1) stood));
        moments = λ t told quiet.
            weakens g.S.Bench c.args.spare.now c.answer.new.spare _ _ (λ image sent found. (found.0, (found.1.0, found.1.1.1 t)))
            (spare_moments told quiet);
        legal = λ told quiet. weakens g.S.Bench c.args.spare.now c.answer.new.spare _ _ spare_harm (spare_moments told quiet);
        quiet = λ told quiet other. a.spare.quiet told (so_far.quiet told quiet) (λ is. other (same ∙ is));
        sent = a.spare.sent ∙ so_far.sent;
        both = λ t u told quiet spare_quiet image other left spare_left.
            both_turn s turn (g.B.Bench.sent c.answer.new.bench) image other t u
            (a.both told.0 u told.1 (s.quiet u quiet) (so_far.quiet told spare_quiet) image other left spare_left);
        calls = λ t told. IfOk-from_err _ _ c.from_residual-in_err-answer.ensures.0;
        fault =
            since_steady g.S.Bench c.args.spare.now c.loop-group.spare c.answer.new.spare _ so_far.steady
            (passed_on g.S.Bench c.loop-group.spare c.answer.new.spare why end.Spare _ same a.spare.fault);
      };
      own = λ is. a.own (sym same ∙ is);
      untouched = λ none. c.answer.ensures.untouched none ∙ so_far.untouched none;
    }

-- ---- the last group was answered

pub returns-then-not-more : goal.returns-then-not-more
returns-then-not-more g c = last_turn g c
