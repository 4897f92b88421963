use Rattle.std.proofs.Common.{rules, ◌≡◌, ◌≤◌, ◌+◌, [], ◌∷◌, length, true, ap, refl, Err, arith, length-append}
use Rattle.bench_core.specs.declared.source.Failed.{Failed}
use Rattle.bench_core.specs.Causes.{HasCause, next_count}
use Rattle.bench_core.specs.Bench.{Torn, Follows, Unsent, Elapses}
use Rattle.bench_core.specs.Machine.{State, wrote, unwritten}
use Rattle.bench_core.specs.BenchContents.{file_of, sent_of, may_leave, found_since}
use Rattle.bench_core.proofs.WhatCallsLeave.{passed_state, time_still, time_unsent, torn_same, follows_write, follows_touch, follows_nothing, touched_or_not, failed_cause}
use Rattle.bench_core.proofs.memory_bench.MemoryBenchBench.write_at.Goals as goal

pub returns-then-write_fails : goal.returns-then-write_fails
returns-then-write_fails c =
    let old = c.args.self.now in
    let at = c.args.at in
    let count = length c.args.piece.now in
    let touched = passed_state old (unwritten at count) in
    let cause : HasCause {T = Unit {0}} {E = Failed} old.faults (next_count old.faults) (Err (record {})) =
    failed_cause (record {}) old.faults c.fail_write.ensures.faults in
    rw c.fail_write.ensures.changed (record {
      written = λ told. tt;
      partly = λ told.
          touched_or_not old at count (λ v. Torn at count (file_of old) (file_of v))
          (rw (ap (λ (s : State). s.file) touched) (torn_same at count (file_of old))) (torn_same at count (file_of old));
      sent = touched_or_not old at count (λ v. sent_of v ≡ sent_of old) (ap (λ (s : State). s.sent) touched) refl;
      crash =
          touched_or_not old at count (λ v. Follows (Torn at count) (may_leave old) (may_leave v))
          (follows_touch old at count (c.requires tt)) (follows_nothing old at count);
      time =
          touched_or_not old at count
          (λ v. Elapses (length old.past) (length v.past) (found_since old) (found_since v) (Unsent (may_leave v) (sent_of old)))
          (time_unsent old (unwritten at count) (λ image sent found. found) refl) (time_still old (Unsent (may_leave old) (sent_of old)));
      ticks = λ told. tt;
      one_tick =
          touched_or_not old at count (λ v. length v.past ≤ length old.past + 1)
          (omega (arith, length-append old.past (unwritten at count ∷ []))) (omega arith);
      cause = touched_or_not old at count (λ v. HasCause {T = Unit {0}} {E = Failed} old.faults v.faults (Err (record {}))) cause cause;
      last_call = touched_or_not old at count (λ v. v.last_failed ≡ true) refl refl;
      fails = search rules;
      done = tt;
      failed = refl;
    })

pub returns : goal.returns
returns c =
    let old = c.args.self.now in
    let call = wrote c.args.at c.args.piece.now in
    rw c.pass_write.ensures (record {
      written = λ told. ap (λ (s : State). s.file) (passed_state old call);
      partly = λ told. tt;
      sent = ap (λ (s : State). s.sent) (passed_state old call);
      crash = follows_write old c.args.at c.args.piece.now (c.requires tt);
      time = time_unsent old call (λ image sent found. found) refl;
      ticks = λ told. length-append old.past (call ∷ []);
      one_tick = omega (arith, length-append old.past (call ∷ []));
      cause = record { later = omega arith; failed = tt; steady = refl };
      last_call = refl;
      fails = search rules;
      done = refl;
      failed = tt;
    })
