use Rattle.std.proofs.Common.{arith}
use Rattle.std.proofs.lemmas.Int.{ints}
use Rattle.sum_basis.proofs.SetRows.{all_bits, one_more_bit}
use Rattle.sum_basis.proofs.elimination.write_bits.Goals as goal

pub bounds-bits-j : goal.bounds-bits-j
bounds-bits-j c = let same = c.loop-j.invariant.same_length in omega arith

pub loop-j-preserved : goal.loop-j-preserved
loop-j-preserved c = one_more_bit c.args.bits.now c.loop-j.row c.loop-j.j _ (omega arith) c.loop-j.invariant
    (let bit = c.type_inv.bits c.loop-j.j in omega (arith, ints))

pub returns : goal.returns
returns c = all_bits _ _ c.loop-j.j (let same = c.loop-j.invariant.same_length in omega arith) c.loop-j.invariant
