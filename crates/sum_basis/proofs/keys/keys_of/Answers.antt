use Rattle.std.proofs.Common.{◌≡◌, ◌≢◌, ◌+◌, ◌-◌, ◌*◌, ◌<◌, pos, length, get_or, set, sym, subst, inl, inr, arith, get_or-set_other, get_or-set_same}
use Rattle.std.proofs.lemmas.Bool.{cases_eq}
use Rattle.sum_basis.specs.Points.{IsLeftModulo, IsKey}
use Rattle.sum_basis.specs.Keys.{product_before}
use Rattle.sum_basis.proofs.KeyProducts.{no_point, inverse_of_all, own_key, inverse_before}
use Rattle.sum_basis.proofs.keys.keys_of.Goals as goal

pub loop-j-init : goal.loop-j-init
loop-j-init c = record {
  keyed = λ i above below. absurd (omega arith);
  left = c.multiply_seconds-product.ensures.before;
  inverse = inverse_of_all (product_before c.args.points.now (length c.args.points.now)) c.multiply_seconds-product.result c.in-Some.found
      c.multiply_seconds-product.ensures.all c.in-Some.ensures;
}

pub loop-j-preserved : goal.loop-j-preserved
loop-j-preserved c =
    let points = c.args.points.now in
    let keys = c.loop-j.keys in
    let j = c.loop-j.j - 1 in
    let next : c.loop-j.j ≡ j + 1 = omega arith in
    let inside : j < length keys = omega arith in
    let is = c.loop-j.invariant.left j (omega arith) in
    let whole = subst (λ k. IsLeftModulo (pos (product_before points k * c.loop-j.inverse)) 1) next c.loop-j.invariant.inverse in
    let own = own_key points j (get_or keys j 0) c.loop-j.inverse c.times-own.result is whole c.times-own.ensures c.times.result c.times.ensures in
    record {
      keyed = λ i above below. elim (cases_eq i j) [
        | inl same ↦
            subst (λ k. IsKey (get_or points k no_point) (get_or (set keys j c.times.result) k 0)) (sym same) (rw get_or-set_same own)
        | inr other ↦ rw get_or-set_other (c.loop-j.invariant.keyed i (omega arith) below)
      ];
      left = λ i before. let other : i ≢ j = omega arith in rw get_or-set_other (c.loop-j.invariant.left i (omega arith));
      inverse = inverse_before points j (get_or keys j 0) c.loop-j.inverse c.times-own.result is whole c.times-own.ensures c.times-inverse.result
          c.times-inverse.ensures;
    }
