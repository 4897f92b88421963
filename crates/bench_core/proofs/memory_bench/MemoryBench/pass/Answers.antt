use Rattle.std.proofs.Common.{rules, ◌<◌, ◌+◌, length, arith, ap, refl, ◌∙◌, false}
use Rattle.bench_core.specs.Machine.{other}
use Rattle.bench_core.specs.LogContents.{LogContents}
use Rattle.bench_core.proofs.TiedToItsCalls.{tied_step}
use Rattle.bench_core.proofs.memory_bench.MemoryBench.pass.Goals as goal

pub invariant_of-self : goal.invariant_of-self
invariant_of-self c =
    let b = c.self.inside in
    let tied = c.self.invariant in
    let log = c.pass.ensures in
    let early : b.calls < b.room.calls = search rules in
    let same_sent = ap (λ (l : LogContents). length l.sent) log in
    tied_step b other b.disk c.pass.new.self (b.calls + 1) b.faults false tied (record {
      calls_are = ap (λ (l : LogContents). l.calls) log;
      file = tied.file;
      stable = tied.stable;
      dirty = tied.dirty;
      flags = refl;
      room = refl;
      inside = tied.inside;
      sent = ap (λ (l : LogContents). l.sent) log ∙ tied.sent;
      sent_inside = omega (arith, same_sent, tied.sent_inside);
      most_calls = ap (λ (l : LogContents). l.most_calls) log;
      most_written = ap (λ (l : LogContents). l.most_written) log;
      most_sent = ap (λ (l : LogContents). l.most_sent) log;
      counted = omega (arith, same_sent, tied.counted, early);
    })
