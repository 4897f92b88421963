use Rattle.std.proofs.Common.{arith}
use Rattle.bench_core.specs.declared.log.Past.TheVariants.{Other}
use Rattle.bench_core.proofs.KeptCalls.{record_grows, all_kept}
use Rattle.bench_core.proofs.log.Log.pass.Goals as goal

pub invariant_of-self : goal.invariant_of-self
invariant_of-self c =
    let kept = c.self.invariant in (
      omega (arith, kept.0, c.keep.ensures.capacity),
      kept.1,
      kept.2,
      rw c.keep.ensures.items (all_kept _ _ _ _ _ Other (omega arith) (omega arith) kept.3 tt),
    )

pub returns : goal.returns
returns c = record_grows _ _ _ _ Other _ _ _ _ c.keep.ensures.items c.self.view_is
