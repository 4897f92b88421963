use Rattle.std.proofs.Common.{rules, ◌≡◌, ◌≤◌, ◌+◌, ◌-◌, ◌/◌, ◌∙◌, min, ℕ, List, [], ◌∷◌, length, take, true, ap, refl, Err, arith, length-append}
use Rattle.bench_core.specs.declared.source.Failed.{Failed}
use Rattle.bench_core.specs.Causes.{HasCause, next_count}
use Rattle.bench_core.specs.Bench.{AppendsFront, Sending, Elapses}
use Rattle.bench_core.specs.Machine.{State, sending}
use Rattle.bench_core.specs.BenchContents.{file_of, sent_of, may_leave, found_since, failed_send}
use Rattle.bench_core.proofs.WhatCallsLeave.{passed_state, time_still, time_sending, sent_images, front_or_none, failed_cause, shorter_front, no_front}
use Rattle.bench_core.proofs.memory_bench.MemoryBenchBench.send.Goals as goal

pub returns-then-send_fails : goal.returns-then-send_fails
returns-then-send_fails c =
    let old = c.args.self.now in
    let piece = c.args.piece.now in
    let count = c.min-count.result in
    let front = take count piece in
    let sent = passed_state old (sending front) in
    let cause : HasCause {T = Unit {0}} {E = Failed} old.faults (next_count old.faults) (Err (record {})) =
    failed_cause (record {}) old.faults c.fail_send.ensures.faults in
    let room = old.room.sent - length (sent_of old) in
    let left : c.room_to_send.result ≡ room = omega (arith, c.room_to_send.ensures) in
    let half : count ≡ min (length piece / 2) room = c.min-count.ensures ∙ ap (min (length piece / 2)) left in
    rw c.fail_send.ensures.changed (record {
      all = λ told. tt;
      part = λ told.
          front_or_none old front (λ v. AppendsFront (sent_of old) piece (sent_of v)) (count, ap (λ (s : State). s.sent) sent)
          (λ none. no_front (sent_of old) piece);
      file = front_or_none old front (λ v. file_of v ≡ file_of old) (ap (λ (s : State). s.file) sent) (λ none. refl);
      crash =
          front_or_none old front (λ v. (image : List ℕ) → may_leave v image → may_leave old image) (sent_images old front)
          (λ none image left. left);
      time =
          front_or_none old front
          (λ v. Elapses (length old.past) (length v.past) (found_since old) (found_since v) (Sending (may_leave v) (sent_of old) piece))
          (time_sending old front piece (λ sent is. shorter_front (sent_of old) piece count sent is))
          (λ none. time_still old (Sending (may_leave old) (sent_of old) piece));
      ticks = λ told. tt;
      one_tick =
          front_or_none old front (λ v. length v.past ≤ length old.past + 1)
          (omega (arith, length-append old.past (sending front ∷ []))) (λ none. omega arith);
      later =
          front_or_none old front (λ v. length old.past ≤ length v.past)
          (omega (arith, length-append old.past (sending front ∷ []))) (λ none. omega arith);
      cause =
          front_or_none old front (λ v. HasCause {T = Unit {0}} {E = Failed} old.faults v.faults (Err (record {}))) cause
          (λ none. cause);
      last_call = front_or_none old front (λ v. v.last_failed ≡ true) refl (λ none. refl);
      fails = search rules;
      done = tt;
      half = ap (λ n. failed_send old (take n piece)) half;
    })

pub returns : goal.returns
returns c =
    let old = c.args.self.now in
    let piece = c.args.piece.now in
    let call = sending piece in
    rw c.pass_send.ensures (record {
      all = λ told. ap (λ (s : State). s.sent) (passed_state old call);
      part = λ told. tt;
      file = ap (λ (s : State). s.file) (passed_state old call);
      crash = sent_images old piece;
      time = time_sending old piece piece (λ sent front. front);
      ticks = λ told. length-append old.past (call ∷ []);
      one_tick = omega (arith, length-append old.past (call ∷ []));
      later = omega (arith, length-append old.past (call ∷ []));
      cause = record { later = omega arith; failed = tt; steady = refl };
      last_call = refl;
      fails = search rules;
      done = refl;
      half = tt;
    })
