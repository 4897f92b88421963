use Rattle.std.proofs.Common.{rules, ◌<◌, ◌≤◌, ◌+◌, ◌||◌, length, arith, ap, ◌∙◌, false}
use Rattle.bench_core.specs.Machine.{wrote, in_range, written}
use Rattle.bench_core.specs.LogContents.{LogContents}
use Rattle.bench_core.specs.BenchContents.{BenchContents, file_of}
use Rattle.bench_core.proofs.TiedToItsCalls.{tied_step, length-written}
use Rattle.bench_core.proofs.memory_bench.MemoryBench.pass_write.Goals as goal

pub invariant_of-self : goal.invariant_of-self
invariant_of-self c =
    let b = c.self.inside in
    let tied = c.self.invariant in
    let log = c.write.ensures in
    let early : b.calls < b.room.calls = search rules in
    let same_sent = ap (λ (l : LogContents). length l.sent) log in
    let file_is = ap (λ (v : BenchContents). length (file_of v)) c.self.view_is in
    let at_inside : c.args.at ≤ length b.disk.file = omega (arith, c.requires.inside, ap length tied.file, file_is) in
    let room_is = ap (λ (v : BenchContents). v.room.file) c.self.view_is in
    tied_step b (wrote c.args.at c.args.piece.now) c.write-2.new.self c.write.new.self (b.calls + 1) b.faults false tied (record {
      calls_are = ap (λ (l : LogContents). l.calls) log;
      file = c.write-2.ensures.written ∙ ap (λ file. written file c.args.at c.args.piece.now) tied.file;
      stable = c.write-2.ensures.same.0 ∙ tied.stable;
      dirty =
          λ place lt. c.write-2.ensures.touched place (omega (arith, lt, tied.flags))
          ∙ ap (λ flag. flag || in_range c.args.at (length c.args.piece.now) place) (tied.dirty place lt);
      flags = c.write-2.ensures.flags;
      room = c.write-2.ensures.same.1;
      inside =
          omega (
            arith,
            ap length c.write-2.ensures.written,
            length-written b.disk.file c.args.at c.args.piece.now at_inside,
            c.requires.file,
            room_is,
            tied.inside,
          );
      sent = ap (λ (l : LogContents). l.sent) log ∙ tied.sent;
      sent_inside = omega (arith, same_sent, tied.sent_inside);
      most_calls = ap (λ (l : LogContents). l.most_calls) log;
      most_written = ap (λ (l : LogContents). l.most_written) log;
      most_sent = ap (λ (l : LogContents). l.most_sent) log;
      counted = omega (arith, same_sent, tied.counted, early);
    })
