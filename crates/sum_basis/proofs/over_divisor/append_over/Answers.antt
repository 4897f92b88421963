use Rattle.std.proofs.Common.{◌∷◌, [], pos, map, get_or, sym, ap, ◌∙◌, rules, ◌++◌, take_all}
use Rattle.std.specs.Prelude.{FitsSigned, ◌*ℤ◌}
use Rattle.std.specs.Int.{w64, w128}
use mir.Val.{to_z, of_z}
use Rattle.std.proofs.lemmas.Int.{to_z-of_z}
use Rattle.std.proofs.lemmas.List.{map-append}
use Rattle.sum_basis.specs.Sparse.{scaled}
use Rattle.sum_basis.proofs.ListContents.{none}
use Rattle.sum_basis.proofs.MergedNumbers.{passed}
use Rattle.sum_basis.proofs.OverDivisor.{pushed}
use Rattle.sum_basis.proofs.over_divisor.append_over.Goals as goal

pub loop-e-preserved : goal.loop-e-preserved
loop-e-preserved c =
    let e = get_or c.args.rest.now c.loop-e.e-index none in
    let g = pos c.args.divisor.now in
    let result : FitsSigned w128 c.product.result = search rules in
    let x : FitsSigned w128 c.number.result = search rules in
    let quotient : FitsSigned w64 c.in-Some.value = search rules in
    record {
      items = ap (map (scaled g)) c.push_reserved.ensures.items
          ∙ map-append (scaled g) c.loop-e.out.items (record { place = e.place; value = to_z w64 (of_z w64 c.in-Some.value) } ∷ [])
          ∙ pushed _ (map (scaled g) c.args.out.now.items) (map (scaled g) c.loop-e.out.items) c.args.rest.now c.loop-e.e-index _ c.loop-e-test.true
          c.loop-e.invariant.items
          (ap (λ z. g *ℤ z) (to_z-of_z w64 c.in-Some.value quotient) ∙ sym c.in-Some.ensures ∙ to_z-of_z w128 c.product.result result ∙ c.product.ensures.exact
          ∙ ap (λ z. to_z w128 (of_z w128 c.args.by) *ℤ z) (passed c.number.result _ x c.number.ensures));
      capacity = c.push_reserved.ensures.capacity ∙ c.loop-e.invariant.capacity;
    }

pub returns-clause-items : goal.returns-clause-items
returns-clause-items c = λ yes.
    let old = map (scaled (pos c.args.divisor.now)) c.args.out.now.items in
    c.loop-e.invariant.items
    ∙ ap (λ l. old ++ map (scaled (to_z w128 (of_z w128 c.args.by))) l) (take_all c.loop-e.e-index c.args.rest.now c.loop-e-test.false)
    ∙ ap (λ z. old ++ map (scaled z) c.args.rest.now) (to_z-of_z w128 c.args.by c.ranges.by)
