use Rattle.std.proofs.Common.{arith}
use Rattle.max_bounds.specs.declared.marks.Marking.TheVariants.{Samples, Touched, Filled}
use Rattle.max_bounds.proofs.marks.Marks.lower.Goals as goal

pub index_mut-requires : goal.index_mut-requires
index_mut-requires c = let place = c.requires Samples in omega (arith, place, c.args.self.now.samples.ok.0)

pub index_mut-requires-2 : goal.index_mut-requires-2
index_mut-requires-2 c = let place = c.requires Touched in omega (arith, place, c.args.self.now.touched.ok.0)

pub index_mut-requires-3 : goal.index_mut-requires-3
index_mut-requires-3 c = let place = c.requires Filled in omega (arith, place, c.args.self.now.filled.ok.0)
