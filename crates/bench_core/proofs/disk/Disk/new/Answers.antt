use Rattle.std.proofs.Common.{arith}
use Rattle.bench_core.proofs.disk.Disk.new.Goals as goal

pub invariant_of-result : goal.invariant_of-result
invariant_of-result c =
    let long = c.in_ok-bytes.ensures.room in
    let kept = c.in_ok-stable.ensures.room in (
      omega (arith, c.requires, long),
      omega (arith, c.requires, kept),
      omega (arith, long, kept),
      omega (arith, long, c.in_ok-dirty.ensures.len, c.in_ok-dirty.dirty.ok.0),
    )
