use Rattle.std.proofs.Common.{rules, ◌<◌, ◌++◌, length, arith, ap, refl, ◌∙◌, length-append, true}
use Rattle.std.proofs.lemmas.Grind.{common_steps}
use Rattle.bench_core.specs.Machine.{sending}
use Rattle.bench_core.specs.LogContents.{LogContents}
use Rattle.bench_core.specs.BenchContents.{BenchContents, sent_of}
use Rattle.bench_core.proofs.TiedToItsCalls.{tied_step}
use Rattle.bench_core.proofs.memory_bench.MemoryBench.fail_send.Goals as goal

pub invariant_of-self : goal.invariant_of-self
invariant_of-self c =
    let b = c.self.inside in
    let tied = c.self.invariant in
    let log = c.send.ensures in
    let early : 0 < length c.args.front.now = search rules in
    let same_sent = ap (λ (l : LogContents). length l.sent) log in
    let sent_is = ap (λ (v : BenchContents). length (sent_of v)) c.self.view_is in
    let room_is = ap (λ (v : BenchContents). v.room.sent) c.self.view_is in
    tied_step b (sending c.args.front.now) b.disk c.send.new.self _ _ true tied (record {
      calls_are = ap (λ (l : LogContents). l.calls) log;
      file = tied.file;
      stable = tied.stable;
      dirty = tied.dirty;
      flags = refl;
      room = refl;
      inside = tied.inside;
      sent = ap (λ (l : LogContents). l.sent) log ∙ ap (λ front. front ++ c.args.front.now) tied.sent;
      sent_inside = omega (arith, same_sent, length-append b.log.sent c.args.front.now, c.requires, sent_is, room_is, ap length tied.sent);
      most_calls = ap (λ (l : LogContents). l.most_calls) log;
      most_written = ap (λ (l : LogContents). l.most_written) log;
      most_sent = ap (λ (l : LogContents). l.most_sent) log;
      counted = omega (arith, same_sent, length-append b.log.sent c.args.front.now, tied.counted, early);
    })

pub returns-clause-changed : goal.returns-clause-changed
returns-clause-changed c = grind (arith, common_steps)
