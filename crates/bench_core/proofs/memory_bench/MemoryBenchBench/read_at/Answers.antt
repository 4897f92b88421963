use Rattle.std.proofs.Common.{rules, ◌≡◌, ℕ, ◌-◌, [], ◌∷◌, List, length, take, drop, min, ap, refl, ◌∙◌, arith, length-append}
use Rattle.bench_core.specs.Bench.{Unsent}
use Rattle.bench_core.specs.Machine.{State, other}
use Rattle.bench_core.specs.BenchContents.{file_of, sent_of, may_leave}
use Rattle.bench_core.proofs.WhatCallsLeave.{passed_state, time_still, time_unsent, same_images}
use Rattle.bench_core.proofs.memory_bench.MemoryBenchBench.read_at.Goals as goal

pub returns-then-next_fails : goal.returns-then-next_fails
returns-then-next_fails c =
    let still = c.args.self.now in
    let below = c.fail.ensures.faults in
    rw c.fail.ensures.changed (record {
      bound = tt;
      count = λ told. tt;
      bytes = λ told. tt;
      stays = record {
        file = refl;
        sent = refl;
        crash = λ image left. left;
        time = time_still still (Unsent (may_leave still) (sent_of still));
      };
      ticks = λ told. tt;
      one_tick = omega arith;
      cause = record { later = omega arith; failed = refl; steady = tt };
      last_call = refl;
      fails = search rules;
      done = tt;
      failed = refl;
    })

pub returns : goal.returns
returns c =
    let old = c.args.self.now in
    let read : c.file.result.now ≡ file_of old = c.file.ensures.file ∙ (rw c.pass.ensures (ap (λ (s : State). s.file) (passed_state old other))) in
    rw c.pass.ensures (record {
      bound = omega (arith, c.copy_from.ensures.count);
      count = λ told. c.copy_from.ensures.count ∙ ap (λ (f : List ℕ). min (length c.copy_from.new.buf) (length f - c.args.at)) read;
      bytes = λ told. c.copy_from.ensures.copied ∙ ap (λ (f : List ℕ). take c.copy_from.result (drop c.args.at f)) read;
      stays = record {
        file = ap (λ (s : State). s.file) (passed_state old other);
        sent = ap (λ (s : State). s.sent) (passed_state old other);
        crash = same_images old;
        time = time_unsent old other (λ image sent found. found) refl;
      };
      ticks = λ told. length-append old.past (other ∷ []);
      one_tick = omega (arith, length-append old.past (other ∷ []));
      cause = record { later = omega arith; failed = tt; steady = refl };
      last_call = refl;
      fails = search rules;
      done = refl;
      failed = tt;
    })
