use Rattle.std.proofs.Common.{rules, ◌<◌, ◌+◌, length, arith, ap, ◌∙◌, false}
use Rattle.bench_core.specs.Machine.{synced}
use Rattle.bench_core.specs.LogContents.{LogContents}
use Rattle.bench_core.proofs.TiedToItsCalls.{tied_step}
use Rattle.bench_core.proofs.memory_bench.MemoryBench.pass_sync.Goals as goal

pub invariant_of-self : goal.invariant_of-self
invariant_of-self c =
    let b = c.self.inside in
    let tied = c.self.invariant in
    let log = c.sync.ensures in
    let early : b.calls < b.room.calls = search rules in
    let same_sent = ap (λ (l : LogContents). length l.sent) log in
    tied_step b synced c.sync-2.new.self c.sync.new.self (b.calls + 1) b.faults false tied (record {
      calls_are = ap (λ (l : LogContents). l.calls) log;
      file = c.sync-2.ensures.same.0 ∙ tied.file;
      stable = c.sync-2.ensures.stable ∙ tied.file;
      dirty = λ place lt. c.sync-2.ensures.clear place;
      flags = c.sync-2.ensures.flags;
      room = c.sync-2.ensures.same.1;
      inside = omega (arith, ap length c.sync-2.ensures.same.0, tied.inside);
      sent = ap (λ (l : LogContents). l.sent) log ∙ tied.sent;
      sent_inside = omega (arith, same_sent, tied.sent_inside);
      most_calls = ap (λ (l : LogContents). l.most_calls) log;
      most_written = ap (λ (l : LogContents). l.most_written) log;
      most_sent = ap (λ (l : LogContents). l.most_sent) log;
      counted = omega (arith, same_sent, tied.counted, early);
    })
