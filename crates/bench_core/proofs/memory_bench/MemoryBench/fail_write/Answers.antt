use Rattle.std.proofs.Common.{rules, ◌<◌, ◌+◌, ◌||◌, length, arith, ap, ◌∙◌, true}
use Rattle.bench_core.specs.Machine.{unwritten, in_range}
use Rattle.bench_core.specs.LogContents.{LogContents}
use Rattle.bench_core.proofs.TiedToItsCalls.{tied_step}
use Rattle.bench_core.proofs.memory_bench.MemoryBench.fail_write.Goals as goal

pub invariant_of-self : goal.invariant_of-self
invariant_of-self c =
    let b = c.self.inside in
    let tied = c.self.invariant in
    let log = c.touch.ensures in
    let early : b.calls < b.room.calls = search rules in
    let same_sent = ap (λ (l : LogContents). length l.sent) log in
    tied_step b (unwritten c.args.at c.args.count) c.touch-2.new.self c.touch.new.self (b.calls + 1) _ true tied (record {
      calls_are = ap (λ (l : LogContents). l.calls) log;
      file = c.touch-2.ensures.same.0 ∙ tied.file;
      stable = c.touch-2.ensures.same.1 ∙ tied.stable;
      dirty =
          λ place lt. c.touch-2.ensures.touched place (omega (arith, lt, tied.flags))
          ∙ ap (λ flag. flag || in_range c.args.at c.args.count place) (tied.dirty place lt);
      flags = c.touch-2.ensures.flags;
      room = c.touch-2.ensures.same.2;
      inside = omega (arith, ap length c.touch-2.ensures.same.0, tied.inside);
      sent = ap (λ (l : LogContents). l.sent) log ∙ tied.sent;
      sent_inside = omega (arith, same_sent, tied.sent_inside);
      most_calls = ap (λ (l : LogContents). l.most_calls) log;
      most_written = ap (λ (l : LogContents). l.most_written) log;
      most_sent = ap (λ (l : LogContents). l.most_sent) log;
      counted = omega (arith, same_sent, tied.counted, early);
    })
