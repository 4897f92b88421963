use Rattle.std.proofs.Common.{List, ℕ, length, arith, ap, sym, subst, ◌∙◌}
use Rattle.std.proofs.lemmas.Result.{IfOk-weaker}
use Rattle.bench_core.specs.BenchContents.{may_leave}
use Rattle.bench_core.specs.BenchLaws.{always_sound, reads_itself}
use Rattle.bench_core.proofs.WhatCallsLeave.{stable_image, torn_image}
use Rattle.bench_core.proofs.memory_bench.MemoryBench.crashed.Goals as goal

pub with_file-requires : goal.with_file-requires
with_file-requires c =
    omega (arith, ap length c.stable.ensures, (always_sound c.args.self.now).long, ap length c.file-file.ensures.file, c.file-file.ensures.room)

pub with_file-requires-in-2 : goal.with_file-requires-in-2
with_file-requires-in-2 c =
    omega (arith, ap length c.deref.ensures.value, c.in_ok-torn-in-2.ensures.long, ap length c.file-file.ensures.file, c.file-file.ensures.room)

pub returns-in-1-clause-image : goal.returns-in-1-clause-image
returns-in-1-clause-image c =
    IfOk-weaker c.with_file.result _ _
    (λ bench made. subst (λ (f : List ℕ). may_leave c.args.self.now f) (sym (made.0 ∙ c.stable.ensures))
    (stable_image c.args.self.now)) c.with_file.ensures.file

pub returns-in_ok-torn-in-2-clause-image : goal.returns-in_ok-torn-in-2-clause-image
returns-in_ok-torn-in-2-clause-image c =
    IfOk-weaker c.with_file-in-2.result _ _
    (λ bench made. subst (λ (f : List ℕ). may_leave c.args.self.now f) (sym (made.0 ∙ c.deref.ensures.value))
    (torn_image c.args.self.now c.in_ok-torn-in-2.torn.items c.in_ok-torn-in-2.ensures)) c.with_file-in-2.ensures.file

pub returns-in_default-clause-image : goal.returns-in_default-clause-image
returns-in_default-clause-image c =
    IfOk-weaker c.with_file-in_default.result _ _
    (λ bench made. subst (λ (f : List ℕ). may_leave c.args.self.now f) (sym (made.0 ∙ c.file-file.ensures.file))
    (reads_itself c.args.self.now)) c.with_file-in_default.ensures.file

pub returns-in-1-clause-torn : goal.returns-in-1-clause-torn
returns-in-1-clause-torn c = λ is. absurd (omega (arith, is, c.in-1.is))

pub returns-in-1-clause-read : goal.returns-in-1-clause-read
returns-in-1-clause-read c = λ not_1 not_2. absurd (not_1 c.in-1.is)

pub returns-in_ok-torn-in-2-clause-stable : goal.returns-in_ok-torn-in-2-clause-stable
returns-in_ok-torn-in-2-clause-stable c = λ is. absurd (omega (arith, is, c.in-2.is))

pub returns-in_ok-torn-in-2-clause-read : goal.returns-in_ok-torn-in-2-clause-read
returns-in_ok-torn-in-2-clause-read c = λ not_1 not_2. absurd (not_2 c.in-2.is)
