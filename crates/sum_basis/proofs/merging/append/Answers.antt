use Rattle.std.proofs.Common.{◌++◌, [], ◌∷◌, length, map, get_or, refl, sym, ap, ◌∙◌, arith, rules, take_all}
use Rattle.std.specs.Prelude.{FitsSigned, ◌*ℤ◌}
use Rattle.std.specs.Int.{w128}
use mir.Val.{to_z, of_z}
use Rattle.std.proofs.lemmas.Int.{to_z-of_z}
use Rattle.std.proofs.lemmas.List.{append-nil}
use Rattle.sum_basis.specs.Sparse.{scaled}
use Rattle.sum_basis.proofs.ListContents.{none, value_small}
use Rattle.sum_basis.specs.declared.sparse.FreeEntry.{FreeEntry}
use Rattle.sum_basis.proofs.MergedNumbers.{passed, widened_small}
use Rattle.sum_basis.proofs.OverDivisor.{filled, pushed}
use Rattle.sum_basis.proofs.merging.append.Goals as goal

pub loop-e-init : goal.loop-e-init
loop-e-init c = record { items = sym (append-nil c.args.out.now.items); capacity = refl }

pub push_reserved-requires : goal.push_reserved-requires
push_reserved-requires c =
    let items = ap length c.loop-e.invariant.items
    ∙ filled (to_z w128 (of_z w128 c.args.by)) c.args.out.now.items c.args.rest.now c.loop-e.e-index c.loop-e-test.true in
    let len = c.loop-e.out.ok.0 in
    let before = c.args.out.now.ok.0 in
    let capacity = c.loop-e.invariant.capacity in
    let room = c.requires.room in
    let more = c.loop-e-test.true in
    omega arith

pub product-value-requires-clause-x : goal.product-value-requires-clause-x
product-value-requires-clause-x c = rw (to_z-of_z w128 c.args.by c.ranges.by) c.requires.by

pub product-value-requires-clause-y : goal.product-value-requires-clause-y
product-value-requires-clause-y c =
    let x : FitsSigned w128 c.number.result = search rules in
    widened_small c.number.result (get_or c.args.rest.now c.loop-e.e-index none).value x c.number.ensures
    (value_small c.args.rest.now c.loop-e.e-index c.loop-e-test.true c.requires.small)

pub loop-e-preserved : goal.loop-e-preserved
loop-e-preserved c =
    let result : FitsSigned w128 c.product-value.result = search rules in
    let x : FitsSigned w128 c.number.result = search rules in
    record {
      items = c.push_reserved.ensures.items ∙ ap (λ (l : FreeEntry). c.loop-e.out.items ++ l ∷ []) c.new.ensures
          ∙ pushed _ c.args.out.now.items c.loop-e.out.items c.args.rest.now c.loop-e.e-index _ c.loop-e-test.true c.loop-e.invariant.items
          (to_z-of_z w128 c.product-value.result result ∙ c.product-value.ensures.exact
          ∙ ap (λ z. to_z w128 (of_z w128 c.args.by) *ℤ z) (passed c.number.result _ x c.number.ensures));
      capacity = c.push_reserved.ensures.capacity ∙ c.loop-e.invariant.capacity;
    }

pub returns-clause-items : goal.returns-clause-items
returns-clause-items c =
    c.loop-e.invariant.items
    ∙ ap (λ l. c.args.out.now.items ++ map (scaled (to_z w128 (of_z w128 c.args.by))) l) (take_all c.loop-e.e-index c.args.rest.now c.loop-e-test.false)
    ∙ ap (λ z. c.args.out.now.items ++ map (scaled z) c.args.rest.now) (to_z-of_z w128 c.args.by c.ranges.by)

pub returns-clause-capacity : goal.returns-clause-capacity
returns-clause-capacity c = c.loop-e.invariant.capacity
