use Rattle.std.proofs.Common.{◌≡◌, ◌≤◌, ◌++◌, length, map, drop, get_or, ap, ◌∙◌, arith, rules, inl, inr, ◌⊎◌}
use Rattle.std.specs.Prelude.{FitsSigned}
use Rattle.std.specs.Int.{w128}
use mir.Val.{to_z, of_z}
use Rattle.std.proofs.lemmas.Int.{to_z-of_z}
use Rattle.sum_basis.specs.Sparse.{entry_at, scaled}
use Rattle.sum_basis.proofs.ListContents.{none, value_small}
use Rattle.sum_basis.proofs.Merges.{out_room, first_merged, second_merged, both_merged, whole_listed, whole_is, part_length, whole_length, end_is}
use Rattle.sum_basis.proofs.MergedNumbers.{limit_fits, widened_small, product_with, difference_with, turned_product_with, appended_as, negated, minus_small, end_small}
use Rattle.sum_basis.proofs.merging.combine_into.Goals.{then-loop-i-test+else-j-second, else-loop-i-test}
use Rattle.sum_basis.proofs.merging.combine_into.Goals as goal

pub product-requires-clause-x : goal.product-requires-clause-x
product-requires-clause-x c = rw (to_z-of_z w128 c.args.by.now (limit_fits c.args.by.now c.requires.by)) c.requires.by

pub product-requires-clause-y : goal.product-requires-clause-y
product-requires-clause-y c =
    let x : FitsSigned w128 c.number.result = search rules in
    widened_small c.number.result (get_or c.args.first.now c.loop-i.i none).value x c.number.ensures
    (value_small c.args.first.now c.loop-i.i c.loop-i-test.true c.requires.first_small)

pub overflow_sub-times : goal.overflow_sub-times
overflow_sub-times c = rw (to_z-of_z w128 c.args.times.now (limit_fits c.args.times.now c.requires.times)) (negated c.args.times.now c.requires.times)

pub product-requires-then-other-one-clause-x : goal.product-requires-then-other-one-clause-x
product-requires-then-other-one-clause-x c = minus_small c.args.times.now (limit_fits c.args.times.now c.requires.times) c.requires.times

pub product-requires-then-other-one-clause-y : goal.product-requires-then-other-one-clause-y
product-requires-then-other-one-clause-y c =
    let x : FitsSigned w128 c.number-then-other-one.result = search rules in
    widened_small c.number-then-other-one.result (get_or c.args.second.now c.loop-i.j none).value x c.number-then-other-one.ensures
    (value_small c.args.second.now c.loop-i.j c.if-j-second.true c.requires.second_small)

pub difference-requires-clause-by : goal.difference-requires-clause-by
difference-requires-clause-by c = rw (to_z-of_z w128 c.args.by.now (limit_fits c.args.by.now c.requires.by)) c.requires.by

pub difference-requires-clause-x : goal.difference-requires-clause-x
difference-requires-clause-x c =
    let x : FitsSigned w128 c.number-else-other-one.result = search rules in
    widened_small c.number-else-other-one.result (get_or c.args.first.now c.loop-i.i none).value x c.number-else-other-one.ensures
    (value_small c.args.first.now c.loop-i.i c.loop-i-test.true c.requires.first_small)

pub difference-requires-clause-times : goal.difference-requires-clause-times
difference-requires-clause-times c = rw (to_z-of_z w128 c.args.times.now (limit_fits c.args.times.now c.requires.times)) c.requires.times

pub difference-requires-clause-y : goal.difference-requires-clause-y
difference-requires-clause-y c =
    let x : FitsSigned w128 c.number-else-other-one-2.result = search rules in
    widened_small c.number-else-other-one-2.result (get_or c.args.second.now c.loop-i.j none).value x c.number-else-other-one-2.ensures
    (value_small c.args.second.now c.loop-i.j c.if-j-second.true c.requires.second_small)

pub append-requires-clause-by : goal.append-requires-clause-by
append-requires-clause-by c = rw (to_z-of_z w128 c.args.by.now (limit_fits c.args.by.now c.requires.by)) c.requires.by

pub append-requires-clause-small : goal.append-requires-clause-small
append-requires-clause-small c = end_small c.args.first.now c.loop-i.i c.requires.first_small

pub overflow_sub-times-2 : goal.overflow_sub-times-2
overflow_sub-times-2 c = rw (to_z-of_z w128 c.args.times.now (limit_fits c.args.times.now c.requires.times)) (negated c.args.times.now c.requires.times)

pub append-requires-2-clause-by : goal.append-requires-2-clause-by
append-requires-2-clause-by c = minus_small c.args.times.now (limit_fits c.args.times.now c.requires.times) c.requires.times

pub append-requires-2-clause-small : goal.append-requires-2-clause-small
append-requires-2-clause-small c = end_small c.args.second.now c.loop-i.j c.requires.second_small

pub returns-clause-capacity : goal.returns-clause-capacity
returns-clause-capacity c = c.append-2.ensures.capacity ∙ c.append.ensures.capacity ∙ c.loop-i.invariant.capacity

pub put-requires : goal.put-requires
put-requires c =
    let free = out_room c.args.columns _ c.args.first.now _ c.args.second.now c.loop-i.out.items c.loop-i.i c.loop-i.j c.loop-i.invariant.merging
    c.loop-i-test.true c.if-j-second.true in
    let len = c.loop-i.out.ok.0 in
    let cap = c.loop-i.invariant.capacity in
    let enough = c.requires.room in
    omega arith

pub put-requires-then-other-one : goal.put-requires-then-other-one
put-requires-then-other-one c =
    let free = out_room c.args.columns _ c.args.first.now _ c.args.second.now c.loop-i.out.items c.loop-i.i c.loop-i.j c.loop-i.invariant.merging
    c.loop-i-test.true c.if-j-second.true in
    let len = c.loop-i.out.ok.0 in
    let cap = c.loop-i.invariant.capacity in
    let enough = c.requires.room in
    omega arith

pub put-requires-else-other-one : goal.put-requires-else-other-one
put-requires-else-other-one c =
    let free = out_room c.args.columns _ c.args.first.now _ c.args.second.now c.loop-i.out.items c.loop-i.i c.loop-i.j c.loop-i.invariant.merging
    c.loop-i-test.true c.if-j-second.true in
    let len = c.loop-i.out.ok.0 in
    let cap = c.loop-i.invariant.capacity in
    let enough = c.requires.room in
    omega arith

pub loop-i-preserved-then-one-other : goal.loop-i-preserved-then-one-other
loop-i-preserved-then-one-other c =
    let x : FitsSigned w128 c.number.result = search rules in
    let v : FitsSigned w128 c.product.result = search rules in
    record {
      merging = rw c.put.ensures.items
          (first_merged c.args.columns _ c.args.first.now _ c.args.second.now c.loop-i.out.items c.loop-i.i c.loop-i.j c.loop-i.invariant.merging
          c.loop-i-test.true c.if-j-second.true _ c.if-one-other.true (product_with _ _ _ _ v (limit_fits c.args.by.now c.requires.by) x c.number.ensures
          c.product.ensures.exact));
      capacity = c.put.ensures.capacity ∙ c.loop-i.invariant.capacity;
    }

pub loop-i-preserved-then-other-one : goal.loop-i-preserved-then-other-one
loop-i-preserved-then-other-one c =
    let y : FitsSigned w128 c.number-then-other-one.result = search rules in
    let v : FitsSigned w128 c.product-then-other-one.result = search rules in
    record {
      merging = rw c.put-then-other-one.ensures.items
          (second_merged c.args.columns _ c.args.first.now _ c.args.second.now c.loop-i.out.items c.loop-i.i c.loop-i.j c.loop-i.invariant.merging
          c.loop-i-test.true c.if-j-second.true _ c.if-other-one.true
          (turned_product_with _ _ _ _ v c.requires.times y c.number-then-other-one.ensures c.product-then-other-one.ensures.exact));
      capacity = c.put-then-other-one.ensures.capacity ∙ c.loop-i.invariant.capacity;
    }

pub loop-i-preserved : goal.loop-i-preserved
loop-i-preserved c =
    let x : FitsSigned w128 c.number-else-other-one.result = search rules in
    let y : FitsSigned w128 c.number-else-other-one-2.result = search rules in
    let v : FitsSigned w128 c.difference.result = search rules in
    let up = c.if-one-other.false in
    let down = c.if-other-one.false in
    record {
      merging =
          rw c.put-else-other-one.ensures.items
          (both_merged c.args.columns _ c.args.first.now _ c.args.second.now c.loop-i.out.items c.loop-i.i c.loop-i.j c.loop-i.invariant.merging
          c.loop-i-test.true c.if-j-second.true _ (omega arith)
          (difference_with _ _ _ _ _ _ _ v c.requires.by x c.requires.times y c.number-else-other-one.ensures
          c.number-else-other-one-2.ensures c.difference.ensures.exact));
      capacity = c.put-else-other-one.ensures.capacity ∙ c.loop-i.invariant.capacity;
    }

pub append-requires-clause-room : goal.append-requires-clause-room
append-requires-clause-room c =
    let over : (length c.args.first.now ≤ c.loop-i.i) ⊎ (length c.args.second.now ≤ c.loop-i.j) =
    elim c.loop-i-test.branch [
      | then-loop-i-test+else-j-second w ↦ let past = w.if-j-second.false in
          inr (omega arith)
      | else-loop-i-test w ↦ let past = w.loop-i-test.false in inl (omega arith)
    ] in
    let m = c.loop-i.invariant.merging in
    let enough = part_length c.args.columns _ c.args.first.now _ c.args.second.now c.loop-i.out.items c.loop-i.i c.loop-i.j m over
    c.requires.by_some c.requires.times_some in
    let len = c.loop-i.out.ok.0 in
    let cap = c.loop-i.invariant.capacity in
    let room = c.requires.room in
    rw (end_is c.args.first.now c.loop-i.i) (omega arith)

pub append-requires-2-clause-room : goal.append-requires-2-clause-room
append-requires-2-clause-room c =
    let over : (length c.args.first.now ≤ c.loop-i.i) ⊎ (length c.args.second.now ≤ c.loop-i.j) =
    elim c.loop-i-test.branch [
      | then-loop-i-test+else-j-second w ↦ let past = w.if-j-second.false in
          inr (omega arith)
      | else-loop-i-test w ↦ let past = w.loop-i-test.false in inl (omega arith)
    ] in
    let m = c.loop-i.invariant.merging in
    let enough = whole_length c.args.columns _ c.args.first.now _ c.args.second.now c.loop-i.out.items c.loop-i.i c.loop-i.j m over
    c.requires.by_some c.requires.times_some in
    let same : length c.append.new.out.items ≡ length (c.loop-i.out.items ++ map (scaled c.args.by.now) (drop c.loop-i.i c.args.first.now)) =
    ap length (c.append.ensures.items ∙ ap (λ l. c.loop-i.out.items ++ map (scaled (to_z w128 (of_z w128 c.args.by.now))) l)
    (end_is c.args.first.now c.loop-i.i)
    ∙ ap (λ z. c.loop-i.out.items ++ map (scaled z) (drop c.loop-i.i c.args.first.now))
    (to_z-of_z w128 c.args.by.now (limit_fits c.args.by.now c.requires.by))) in
    let len = c.append.new.out.ok.0 in
    let cap = c.append.ensures.capacity in
    let before = c.loop-i.invariant.capacity in
    let room = c.requires.room in
    rw (end_is c.args.second.now c.loop-i.j) (omega arith)

pub returns-clause-listed : goal.returns-clause-listed
returns-clause-listed c =
    let over : (length c.args.first.now ≤ c.loop-i.i) ⊎ (length c.args.second.now ≤ c.loop-i.j) =
    elim c.loop-i-test.branch [
      | then-loop-i-test+else-j-second w ↦ let past = w.if-j-second.false in
          inr (omega arith)
      | else-loop-i-test w ↦ let past = w.loop-i-test.false in inl (omega arith)
    ] in
    let is = appended_as c.loop-i.out.items c.append.new.out.items c.append-2.new.out.items c.args.first.now c.args.second.now c.args.by.now
    c.args.times.now c.loop-i.i c.loop-i.j c.requires.by c.requires.times c.append.ensures.items c.append-2.ensures.items in
    rw is
    (whole_listed c.args.columns _ c.args.first.now _ c.args.second.now c.loop-i.out.items c.loop-i.i c.loop-i.j c.loop-i.invariant.merging over
    c.requires.by_some c.requires.times_some)

pub returns-clause-combined : goal.returns-clause-combined
returns-clause-combined c = λ k.
    let over : (length c.args.first.now ≤ c.loop-i.i) ⊎ (length c.args.second.now ≤ c.loop-i.j) =
    elim c.loop-i-test.branch [
      | then-loop-i-test+else-j-second w ↦ let past = w.if-j-second.false in
          inr (omega arith)
      | else-loop-i-test w ↦ let past = w.loop-i-test.false in inl (omega arith)
    ] in
    let is = appended_as c.loop-i.out.items c.append.new.out.items c.append-2.new.out.items c.args.first.now c.args.second.now c.args.by.now
    c.args.times.now c.loop-i.i c.loop-i.j c.requires.by c.requires.times c.append.ensures.items c.append-2.ensures.items in
    ap (λ l. entry_at l k) is
    ∙ whole_is c.args.columns _ c.args.first.now _ c.args.second.now c.loop-i.out.items c.loop-i.i c.loop-i.j c.loop-i.invariant.merging over
    c.requires.by_some c.requires.times_some k

pub loop-i-smaller-then-one-other : goal.loop-i-smaller-then-one-other
loop-i-smaller-then-one-other c = omega arith

pub loop-i-smaller-then-other-one : goal.loop-i-smaller-then-other-one
loop-i-smaller-then-other-one c = omega arith

pub loop-i-smaller : goal.loop-i-smaller
loop-i-smaller c = omega arith
