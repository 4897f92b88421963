use Rattle.std.proofs.Common.{ℕ, List, length, inl, inr, refl, sym, ◌∙◌, ap, arith, append-nil, length-append}
use Rattle.std.proofs.lemmas.Bool.{both_ways}
use Rattle.bench_core.specs.Causes.{next_count}
use Rattle.line_wire.specs.Lines.{whole_lines}
use Rattle.line_wire.specs.Cutter.{Cutter}
use Rattle.line_wire.proofs.NextCountedLine.{starts, to_feed, to_more, to_read, to_next, no_whole, answers_fed, answers_last, none_left, counts_from}
use Rattle.line_wire.proofs.FromTurnToTurn.{grown_feed, grown_none, shrinks_feed, less_at_hand, more_read, advances_fed, advances_last, still_unread, next_unread, nothing_read, answer_is_no_refusal, limit_is_no_input, shows_line, shows_last}
use Rattle.line_wire.proofs.lines.Lines.next.Goals as goal

pub loop-self-init : goal.loop-self-init
loop-self-init g c =
    let cleared = c.clear.ensures in
    record {
      within = cleared.within;
      reached = λ told. rw (← cleared.same.2) (starts _ _ cleared.text);
      same = λ told is. c.requires.same told (sym cleared.same.1 ∙ is);
      taken = λ told. rw cleared.same.0 refl;
      grown = omega (arith, ap (λ (l : List ℕ). length l) cleared.same.2, ap (λ (l : List ℕ). length l) cleared.text, cleared.same.0);
      steady = refl;
      unread = inl (refl, rw (← cleared.same.2) (starts _ _ cleared.text));
      once = λ is. (refl, cleared.same.1 ∙ is);
    }

pub loop-self-preserved-in-None : goal.loop-self-preserved-in-None
loop-self-preserved-in-None g c =
    let turn = c.loop-self.invariant in
    let absorbed = c.in-Fed.ensures in
    let finished = c.in-None.ensures in
    let within = absorbed.within.1 in
    let size = ap (λ (l : List ℕ). length l) finished.same.2 in
    let ended = finished.same.1 ∙ absorbed.same.1 in
    let taken = finished.same.0 ∙ absorbed.same.0 in
    record {
      within =
          record {
            pending = omega (arith, within.pending, size, finished.same.0);
            given = omega (arith, within.given, size, finished.same.0);
            small = omega (arith, within.small, size);
          };
      reached = λ told. to_next _ _ _ _ (to_feed _ _ _ _ (turn.reached told) absorbed.passes) finished.counts.0 finished.counts.1 finished.same.2;
      same = λ told is. turn.same told (sym ended ∙ is);
      taken = λ told. rw taken (turn.taken told);
      grown =
          omega (
            arith,
            grown_feed c.args.self.now c.loop-self.self c.absorb.new.self turn.grown absorbed.passes absorbed.same.0,
            size,
            taken,
            finished.same.0,
            ap (λ (l : List ℕ). length l) finished.counts.1,
          );
      steady = turn.steady;
      unread =
          next_unread c.args.self.now c.loop-self.self c.absorb.new.self c.finish.new.self _ _ turn.unread absorbed.passes finished.counts.0 finished.counts.1
          finished.same.2;
      once = λ is. ((turn.once is).0, ended ∙ (turn.once is).1);
    }

pub loop-self-smaller-in-None : goal.loop-self-smaller-in-None
loop-self-smaller-in-None g c =
    let absorbed = c.in-Fed.ensures in
    let finished = c.in-None.ensures in
    let fewer = shrinks_feed c.loop-self.self c.absorb.new.self absorbed.passes in
    less_at_hand c.loop-self.self c.absorb.new.self c.finish.new.self absorbed.same.0 absorbed.same.1 finished.same.0 finished.same.1 finished.same.2 fewer
    absorbed.within.1.given

pub loop-self-preserved : goal.loop-self-preserved
loop-self-preserved g c =
    let turn = c.loop-self.invariant in
    let absorbed = c.in-Dry.ensures in
    let refilled = c.in-Ok.ensures in
    let open_end = ap (λ (v : Cutter). v.ended) (sym c.self.view_is) ∙ c.if-self.false in
    record {
      within = refilled.within;
      reached = λ told. to_read _ _ _ _ _ (to_more _ _ _ _ (turn.reached told) absorbed.passes.0) absorbed.passes.1 (refilled.bytes told) refilled.text;
      same = λ told is. none_left _ _ _ (refilled.bytes told) (refilled.ended told is);
      taken = λ told.
          let was = turn.taken told in
          let read = ap (λ (l : List ℕ). length l) (refilled.bytes told) ∙ length-append c.refill.new.self.pending (g.P.Source.left c.refill.new.source) in
          omega (arith, was, read, refilled.taken, absorbed.same.0);
      grown =
          omega (
            arith,
            grown_none c.args.self.now c.loop-self.self c.absorb.new.self turn.grown absorbed.passes.0 absorbed.same.0,
            ap (λ (l : List ℕ). length l) refilled.text,
            ap (λ (l : List ℕ). length l) absorbed.passes.1,
            refilled.taken,
          );
      steady = refilled.cause.steady ∙ turn.steady;
      unread =
          inr (ap whole_lines (append-nil c.args.self.now.pending)
          ∙ still_unread c.args.self.now c.loop-self.self c.absorb.new.self _ _ turn.unread absorbed.passes.0 absorbed.passes.1);
      once = λ is. absurd (both_ways _ open_end (absorbed.same.1 ∙ (turn.once is).1));
    }

pub loop-self-smaller : goal.loop-self-smaller
loop-self-smaller g c =
    let absorbed = c.in-Dry.ensures in
    let refilled = c.in-Ok.ensures in
    let open_end = sym absorbed.same.1 ∙ ap (λ (v : Cutter). v.ended) (sym c.self.view_is) ∙ c.if-self.false in
    more_read c.loop-self.self c.absorb.new.self c.refill.new.self open_end absorbed.same.0 absorbed.passes.2 refilled.taken refilled.grows

pub returns-in-Over : goal.returns-in-Over
returns-in-Over g c =
    let turn = c.loop-self.invariant in
    let absorbed = c.in-Over.ensures in
    let stopped = c.stop_at_limit.ensures in
    record {
      answer = λ told. rw stopped.refuses tt;
      counted = λ told. rw stopped.refuses tt;
      stop = λ told.
          let so_far = to_more _ _ _ _ (turn.reached told) absorbed.passes.0 in
          rw (stopped.refuses, stopped.same.2) (no_whole _ _ _ so_far);
      stop_within = rw (stopped.refuses, stopped.same.0, stopped.same.2) (absorbed.passes.2, absorbed.passes.1);
      text = rw stopped.refuses stopped.text;
      same = λ told is. turn.same told (sym absorbed.same.1 ∙ sym stopped.same.1 ∙ is);
      taken = λ told. rw (stopped.same.0, absorbed.same.0) (turn.taken told);
      advances = rw stopped.refuses tt;
      within = rw (stopped.same.0, stopped.same.2) absorbed.within.1.given;
      later = omega (arith, turn.steady);
      steady = λ _. turn.steady;
      input = λ is. absurd (limit_is_no_input _ stopped.refuses is);
      last_call = λ is. absurd (limit_is_no_input _ stopped.refuses is);
      at_hand = nothing_read c.args.self.now c.loop-self.self _ _ turn.unread;
      once = λ is. ((turn.once is).0, stopped.same.1 ∙ absorbed.same.1 ∙ (turn.once is).1, limit_is_no_input _ stopped.refuses);
    }

pub returns-in-Some : goal.returns-in-Some
returns-in-Some g c =
    let turn = c.loop-self.invariant in
    let absorbed = c.in-Fed.ensures in
    let finished = c.in-Some.ensures in
    let fed = grown_feed c.args.self.now c.loop-self.self c.absorb.new.self turn.grown absorbed.passes absorbed.same.0 in
    let answer = λ (told : g.P.Source.told). answers_fed _ _ _ _ _ (to_feed _ _ _ _ (turn.reached told) absorbed.passes) finished.counts finished.same.2 in
    record {
      answer = answer;
      counted = λ told. counts_from _ _ _ _ (answer told);
      stop = λ told. tt;
      stop_within = tt;
      text = shows_line c.in-Some.next c.finish.new.self.text c.absorb.new.self.text finished.counts;
      same = λ told is. turn.same told (sym absorbed.same.1 ∙ sym finished.same.1 ∙ is);
      taken = λ told. rw (finished.same.0, absorbed.same.0) (turn.taken told);
      advances =
          advances_fed c.in-Some.next c.args.self.now c.finish.new.self (omega (arith, fed, finished.same.0, ap (λ (l : List ℕ). length l) finished.same.2));
      within = rw (finished.same.0, finished.same.2) absorbed.within.1.given;
      later = omega (arith, turn.steady);
      steady = λ _. turn.steady;
      input = λ is. absurd (answer_is_no_refusal is);
      last_call = λ is. absurd (answer_is_no_refusal is);
      at_hand = nothing_read c.args.self.now c.loop-self.self _ _ turn.unread;
      once = λ is. ((turn.once is).0, finished.same.1 ∙ absorbed.same.1 ∙ (turn.once is).1, answer_is_no_refusal);
    }

pub returns-in-Dry : goal.returns-in-Dry
returns-in-Dry g c =
    let turn = c.loop-self.invariant in
    let absorbed = c.in-Dry.ensures in
    let last = c.last.ensures in
    let ended = ap (λ (v : Cutter). v.ended) (sym c.self.view_is) ∙ c.if-self.true in
    let grown = grown_none c.args.self.now c.loop-self.self c.absorb.new.self turn.grown absorbed.passes.0 absorbed.same.0 in
    let answer = λ (told : g.P.Source.told).
    let so_far = to_more _ _ _ _ (turn.reached told) absorbed.passes.0 in
    answers_last c.last.result _ _ _ _ so_far absorbed.passes.1 (turn.same told (sym absorbed.same.1 ∙ ended)) last.same.2 (last.same.1 ∙ ended) last.gives
    in
    record {
      answer = answer;
      counted = λ told. counts_from _ _ _ _ (answer told);
      stop = λ told. tt;
      stop_within = tt;
      text = shows_last c.last.result c.last.new.self.text c.absorb.new.self.text last.gives;
      same = λ told is. turn.same told (sym absorbed.same.1 ∙ sym last.same.1 ∙ is);
      taken = λ told. rw (last.same.0, absorbed.same.0) (turn.taken told);
      advances = advances_last c.last.result c.args.self.now c.absorb.new.self c.last.new.self grown last.same.0 last.same.2 last.gives;
      within = rw (last.same.0, last.same.2) absorbed.within.1.given;
      later = omega (arith, turn.steady);
      steady = λ _. turn.steady;
      input = λ is. absurd (answer_is_no_refusal is);
      last_call = λ is. absurd (answer_is_no_refusal is);
      at_hand = nothing_read c.args.self.now c.loop-self.self _ _ turn.unread;
      once = λ is. ((turn.once is).0, last.same.1 ∙ absorbed.same.1 ∙ (turn.once is).1, answer_is_no_refusal);
    }

pub returns-in-Err : goal.returns-in-Err
returns-in-Err g c =
    let turn = c.loop-self.invariant in
    let absorbed = c.in-Dry.ensures in
    let failed = c.in-Err.ensures in
    let open_end = ap (λ (v : Cutter). v.ended) (sym c.self.view_is) ∙ c.if-self.false in
    record {
      answer = λ told. tt;
      counted = λ told. tt;
      stop = λ told.
          let stop = no_whole _ _ _ (to_more _ _ _ _ (turn.reached told) absorbed.passes.0) in
          let dry = rw absorbed.passes.1 at stop in
          rw (failed.failed told) dry;
      stop_within = omega (arith, failed.kept.0, absorbed.passes.2);
      text = failed.kept.3;
      same = λ told is. absurd (both_ways _ open_end (sym failed.kept.1 ∙ is));
      taken = λ told. rw (failed.kept.0, failed.failed told, absorbed.same.0) (turn.taken told);
      advances = tt;
      within = omega (arith, failed.kept.0, absorbed.passes.2);
      later = omega (arith, turn.steady, failed.cause.later);
      steady = λ other. absurd (other refl);
      input = λ _. failed.cause.failed ∙ ap next_count turn.steady;
      last_call = λ _. failed.last_call;
      at_hand = λ some. absurd (some (still_unread c.args.self.now c.loop-self.self c.absorb.new.self _ _ turn.unread absorbed.passes.0 absorbed.passes.1));
      once = λ is. absurd (both_ways _ open_end (absorbed.same.1 ∙ (turn.once is).1));
    }
