use Rattle.std.proofs.Common.{rules, [], ◌∷◌, ap, refl, arith, length-append}
use Rattle.bench_core.specs.Bench.{Unsent}
use Rattle.bench_core.specs.Machine.{State, synced}
use Rattle.bench_core.specs.BenchContents.{sent_of, may_leave}
use Rattle.bench_core.proofs.WhatCallsLeave.{passed_state, time_still, time_unsent, synced_file, synced_images}
use Rattle.bench_core.proofs.memory_bench.MemoryBenchBench.sync.Goals as goal

pub returns-then-next_fails : goal.returns-then-next_fails
returns-then-next_fails c =
    let still = c.args.self.now in
    let below = c.fail.ensures.faults in
    rw c.fail.ensures.changed (record {
      stable = λ told. tt;
      stays = record {
        file = refl;
        sent = refl;
        crash = λ image left. left;
        time = time_still still (Unsent (may_leave still) (sent_of still));
      };
      ticks = λ told. tt;
      one_tick = omega arith;
      cause = record { later = omega arith; failed = refl; steady = tt };
      last_call = refl;
      fails = search rules;
      done = tt;
      failed = refl;
    })

pub returns : goal.returns
returns c =
    let old = c.args.self.now in
    rw c.pass_sync.ensures (record {
      stable = λ told. synced_file old;
      stays = record {
        file = ap (λ (s : State). s.file) (passed_state old synced);
        sent = ap (λ (s : State). s.sent) (passed_state old synced);
        crash = synced_images old;
        time = time_unsent old synced (λ image sent found. found) refl;
      };
      ticks = λ told. length-append old.past (synced ∷ []);
      one_tick = omega (arith, length-append old.past (synced ∷ []));
      cause = record { later = omega arith; failed = tt; steady = refl };
      last_call = refl;
      fails = search rules;
      done = refl;
      failed = tt;
    })
