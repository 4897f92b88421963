use Rattle.std.proofs.Common.{◌≢◌, ◌<◌, length, arith, below_more, get_or-set_other, get_or-set_same}
use Rattle.sum_basis.proofs.KeyProducts.{product_more}
use Rattle.sum_basis.proofs.LeftModulo.{left_self}
use Rattle.sum_basis.proofs.keys.multiply_seconds.Goals as goal

pub loop-j-init : goal.loop-j-init
loop-j-init c = record { before = λ i none. absurd (omega arith); product = left_self 1 (omega arith) }

pub loop-j-preserved : goal.loop-j-preserved
loop-j-preserved c = record {
  before = below_more _ _
      (λ i h. let other : i ≢ c.loop-j.j = omega arith in rw get_or-set_other (c.loop-j.invariant.before i h))
      (let inside : c.loop-j.j < length c.loop-j.products = omega arith in rw get_or-set_same c.loop-j.invariant.product);
  product = product_more c.args.points.now c.loop-j.j c.loop-j.product _ c.loop-j.invariant.product c.times-product.ensures;
}

pub returns-clause-before : goal.returns-clause-before
returns-clause-before c = λ j below. c.loop-j.invariant.before j (let ends = c.loop-j-test.false in omega arith)
