-- The end of the loop after the last group.
use Rattle.std.proofs.Common.{◌≡◌, ◌++◌, ◌||◌, Bool, false, not, Result, Ok, refl, ◌∙◌, ap, rules}
use Rattle.line_wire.specs.Lines.{counted_lines}
use Rattle.line_wire.specs.LinesSoFar.{all_within}
use Rattle.bench_core.specs.Calls.{IsQuiet}
use Rattle.bench_core.specs.Moments.{weakens}
use Rattle.bench_core.specs.declared.stops.Stop.{Stop}
use Rattle.table_load.specs.Database.{IsDatabase}
use Rattle.audit_session.specs.Ends.{base_over}
use Rattle.audit_store.specs.Refusals.{no_refusal}
use Rattle.audit_session.proofs.GatheredLines.{still_ended, whole_or_last}
use Rattle.audit_session.proofs.HarmlessStops.{harmless, spare_harmless}
use Rattle.audit_session.proofs.Served.{HasGathered, all_calls, all_kept, all_served, both_turn, spare_calls_now, spare_turn, turn_moments}
use Rattle.audit_session.proofs.Refusals.{since_steady, still_later}
use Rattle.audit_session.proofs.session.serve_with.Goals as goal

abbrev given : Bool → Result Bool Stop
given more = Ok more

pub last_turn : goal.returns-then-not-more
last_turn g c =
    let e = c.in_ok-more.ensures in
    let a = c.in_ok-answer.ensures in
    let store = g.K.Keeper.store c.args.keeper.now in
    let base = base_over c.args.index.now store in
    let lines = counted_lines (g.P.Source.left c.args.source.now) in
    let is_base : IsDatabase base = record { schema = c.schema-schema.ensures.columns; shape = c.requires.shape; protected = c.requires.is.fit } in
    let harm =
    harmless c.stops.ensures g.P.Source.told base c.args.batch store.history lines is_base c.requires.is.numbers c.requires.is.legal
    (g.B.Bench.sent c.args.bench.now) in
    let spare_harm =
    spare_harmless c.stops.ensures g.P.Source.told base c.args.batch store.history lines is_base c.requires.is.numbers c.requires.is.legal
    (g.S.Bench.sent c.args.spare.now) in
    let s = c.loop-group.invariant.served in
    let so_far = c.loop-group.invariant.spare in
    let now = c.gather.new.planner in
    let plans = c.gather.new.group.plans.items in
    let turn : HasGathered g.P.Source c.args.index.now c.args.batch c.loop-group.planner now c.loop-group.source
    c.gather.new.source (not c.in_ok-more.more || now.ended) plans =
    record {
      gathers = e.gathers;
      few = e.most;
      some = c.requires.batch.0;
      once = λ ended. still_ended c.in_ok-more.more now.ended (e.cuts.still ended);
      ends = whole_or_last {E = Stop} g.P.Source.told c.args.batch c.in_ok-more.more plans (now.pending ++ g.P.Source.left c.gather.new.source) e.whole e.last;
    } in
    let more_is : c.in_ok-more.more ≡ false = search rules in
    let moments = λ (u : g.B.Bench.told) (quiet : IsQuiet g.B.Bench c.args.bench.now).
    turn_moments s turn c.answer.new.bench u quiet (a.moments u (s.quiet u quiet)) in
    let spare_moments = λ (told : g.K.Keeper.spared × g.S.Bench.told) (quiet : IsQuiet g.S.Bench c.args.spare.now).
    spare_turn s turn g.S.Bench c.args.spare.now c.loop-group.spare c.answer.new.spare so_far.sent (so_far.moments told quiet)
    (a.spare.moments told (so_far.quiet told quiet)) in
    let within = λ (t : g.P.Source.told).
    all_within (g.P.Source.left c.args.source.now) now.pending (g.P.Source.left c.gather.new.source) now.taken (e.last t (ap given more_is))
    (e.cuts.taken t ∙ s.taken t) e.cuts.within in
    record {
      session = record {
        done = λ t u. all_served s turn a.answers t u (ap counted_lines (e.last t (ap given more_is))) (g.K.Keeper.store c.answer.new.keeper).history refl;
        input_end = λ t u is. no_refusal _ _ is;
        limit_end = λ t u is. no_refusal _ _ is;
        memory_end = λ t u is. no_refusal _ _ is;
        spare_end = λ t u is. no_refusal _ _ is;
        stands = λ u no. ((g.K.Keeper.store c.answer.new.keeper).journal.gate, a.stands.as_left u);
        quiet = λ u quiet no. a.stands.quiet u (s.quiet u quiet);
        again = (a.stands.usable, a.stands.as_left);
        usable = λ bench spare memory. a.stands.usable;
        left = λ u usable. a.stands.as_left u;
        calls = λ t u. all_calls s turn a.answers t u (ap counted_lines (e.last t (ap given more_is)));
        any_moment = λ t u quiet. weakens g.B.Bench c.args.bench.now c.answer.new.bench _ _ (λ image sent stop. stop.1 t) (moments u quiet);
        legal = λ u quiet. weakens g.B.Bench c.args.bench.now c.answer.new.bench _ _ harm (moments u quiet);
        table = (a.table.0 ∙ s.secret, a.table.1 ∙ s.protected);
        is = a.is;
        read = λ t. (within t).0;
        within = λ t. (within t).1;
        input_within = λ t is. no_refusal _ _ is;
        limit = λ t is. no_refusal _ _ is;
        later = still_later _ _ _ s.source_steady c.gather.ensures.cuts.later;
        input = λ is. no_refusal _ _ is;
        last_read = λ is. no_refusal _ _ is;
        steady = λ no. e.steady ∙ s.source_steady;
        fault = since_steady g.B.Bench c.args.bench.now c.loop-group.bench c.answer.new.bench _ s.bench_steady a.fault;
      };
      spare = record {
        stands = λ told bench spare. (g.K.Keeper.spare_gate c.answer.new.keeper, a.spare.stands told);
        moments = λ t told quiet.
            weakens g.S.Bench c.args.spare.now c.answer.new.spare _ _ (λ image sent found. (found.0, (found.1.0, found.1.1.1 t)))
            (spare_moments told quiet);
        legal = λ told quiet. weakens g.S.Bench c.args.spare.now c.answer.new.spare _ _ spare_harm (spare_moments told quiet);
        quiet = λ told quiet other. a.spare.quiet told (so_far.quiet told quiet) (λ is. no_refusal _ _ is);
        sent = a.spare.sent ∙ so_far.sent;
        both = λ t u told quiet spare_quiet image other left spare_left.
            both_turn s turn (g.B.Bench.sent c.answer.new.bench) image other t u
            (a.both told.0 u told.1 (s.quiet u quiet) (so_far.quiet told spare_quiet) image other left spare_left);
        calls = λ t told.
            all_kept s turn a.answers t (ap counted_lines (e.last t (ap given more_is))) (g.S.Bench.moment c.args.spare.now)
            (g.S.Bench.moment c.answer.new.spare)
            (spare_calls_now s turn a.answers (g.S.Bench.moment c.args.spare.now) (g.S.Bench.moment c.loop-group.spare)
            (g.S.Bench.moment c.answer.new.spare) (so_far.calls told) (a.spare.ticks told));
        fault = since_steady g.S.Bench c.args.spare.now c.loop-group.spare c.answer.new.spare _ so_far.steady a.spare.fault;
      };
      own = λ is. no_refusal _ _ is;
      untouched = λ none. c.answer.ensures.untouched none ∙ so_far.untouched none;
    }
