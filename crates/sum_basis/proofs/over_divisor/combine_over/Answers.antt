use Rattle.std.proofs.Common.{◌≡◌, ◌≤◌, pos, ◌++◌, length, map, drop, sym, ap, ◌∙◌, arith, rules, inl, inr, ◌⊎◌}
use Rattle.std.specs.Prelude.{FitsSigned}
use Rattle.std.specs.Int.{w128}
use mir.Val.{to_z, of_z}
use Rattle.std.proofs.lemmas.List.{length-map}
use Rattle.sum_basis.specs.Sparse.{entry_at, scaled}
use Rattle.sum_basis.proofs.ListContents.{entry_at-scaled, listed_scaled}
use Rattle.sum_basis.proofs.Merges.{out_room, first_merged, second_merged, both_merged, whole_listed, whole_is, part_length, whole_length, end_is}
use Rattle.sum_basis.proofs.MergedNumbers.{limit_fits, product_with, difference_with, turned_product_with, appended_as}
use Rattle.std.proofs.lemmas.Int.{to_z-of_z}
use Rattle.sum_basis.proofs.over_divisor.combine_over.Goals.{then-loop-i-test+else-j-second, else-loop-i-test}
use Rattle.sum_basis.proofs.over_divisor.combine_over.Goals as goal

pub put_over-requires-clause-room : goal.put_over-requires-clause-room
put_over-requires-clause-room c =
    let free = out_room c.args.columns _ c.args.first.now _ c.args.second.now
    (map (scaled (pos c.args.divisor.now)) c.loop-i.out.items) c.loop-i.i c.loop-i.j c.loop-i.invariant.merging
    c.loop-i-test.true c.if-j-second.true in
    let same = length-map c.loop-i.out.items (scaled (pos c.args.divisor.now)) in
    let len = c.loop-i.out.ok.0 in
    let cap = c.loop-i.invariant.capacity in
    let enough = c.requires.room in
    omega arith

pub put_over-requires-then-other-one-clause-room : goal.put_over-requires-then-other-one-clause-room
put_over-requires-then-other-one-clause-room c =
    let free = out_room c.args.columns _ c.args.first.now _ c.args.second.now
    (map (scaled (pos c.args.divisor.now)) c.loop-i.out.items) c.loop-i.i c.loop-i.j c.loop-i.invariant.merging
    c.loop-i-test.true c.if-j-second.true in
    let same = length-map c.loop-i.out.items (scaled (pos c.args.divisor.now)) in
    let len = c.loop-i.out.ok.0 in
    let cap = c.loop-i.invariant.capacity in
    let enough = c.requires.room in
    omega arith

pub put_over-requires-else-other-one-clause-room : goal.put_over-requires-else-other-one-clause-room
put_over-requires-else-other-one-clause-room c =
    let free = out_room c.args.columns _ c.args.first.now _ c.args.second.now
    (map (scaled (pos c.args.divisor.now)) c.loop-i.out.items) c.loop-i.i c.loop-i.j c.loop-i.invariant.merging
    c.loop-i-test.true c.if-j-second.true in
    let same = length-map c.loop-i.out.items (scaled (pos c.args.divisor.now)) in
    let len = c.loop-i.out.ok.0 in
    let cap = c.loop-i.invariant.capacity in
    let enough = c.requires.room in
    omega arith

pub loop-i-preserved-then-one-other : goal.loop-i-preserved-then-one-other
loop-i-preserved-then-one-other c =
    let x : FitsSigned w128 c.number.result = search rules in
    let v : FitsSigned w128 c.product.result = search rules in
    record {
      merging = rw (c.put_over.ensures.items c.if-not-put_over.false)
          (first_merged c.args.columns _ c.args.first.now _ c.args.second.now (map (scaled (pos c.args.divisor.now)) c.loop-i.out.items) c.loop-i.i c.loop-i.j
          c.loop-i.invariant.merging
          c.loop-i-test.true c.if-j-second.true _ c.if-one-other.true (product_with _ _ _ _ v (limit_fits c.args.by.now c.requires.by) x c.number.ensures
          c.product.ensures.exact));
      capacity = c.put_over.ensures.capacity ∙ c.loop-i.invariant.capacity;
    }

pub loop-i-preserved-then-other-one : goal.loop-i-preserved-then-other-one
loop-i-preserved-then-other-one c =
    let y : FitsSigned w128 c.number-then-other-one.result = search rules in
    let v : FitsSigned w128 c.product-then-other-one.result = search rules in
    record {
      merging = rw (c.put_over-then-other-one.ensures.items c.if-not-put_over-2.false)
          (second_merged c.args.columns _ c.args.first.now _ c.args.second.now (map (scaled (pos c.args.divisor.now)) c.loop-i.out.items) c.loop-i.i c.loop-i.j
          c.loop-i.invariant.merging
          c.loop-i-test.true c.if-j-second.true _ c.if-other-one.true (turned_product_with _ _ _ _ v c.requires.times y c.number-then-other-one.ensures
          c.product-then-other-one.ensures.exact));
      capacity = c.put_over-then-other-one.ensures.capacity ∙ c.loop-i.invariant.capacity;
    }

pub loop-i-preserved : goal.loop-i-preserved
loop-i-preserved c =
    let x : FitsSigned w128 c.number-else-other-one.result = search rules in
    let y : FitsSigned w128 c.number-else-other-one-2.result = search rules in
    let v : FitsSigned w128 c.difference-value.result = search rules in
    let up = c.if-one-other.false in
    let down = c.if-other-one.false in
    record {
      merging = rw (c.put_over-else-other-one.ensures.items c.if-not-put_over-3.false)
          (both_merged c.args.columns _ c.args.first.now _ c.args.second.now (map (scaled (pos c.args.divisor.now)) c.loop-i.out.items) c.loop-i.i c.loop-i.j
          c.loop-i.invariant.merging
          c.loop-i-test.true c.if-j-second.true _ (omega arith)
          (difference_with _ _ _ _ _ _ _ v c.requires.by x c.requires.times y c.number-else-other-one.ensures c.number-else-other-one-2.ensures
          c.difference-value.ensures.exact));
      capacity = c.put_over-else-other-one.ensures.capacity ∙ c.loop-i.invariant.capacity;
    }

pub append_over-requires-clause-room : goal.append_over-requires-clause-room
append_over-requires-clause-room c =
    let over : (length c.args.first.now ≤ c.loop-i.i) ⊎ (length c.args.second.now ≤ c.loop-i.j) =
    elim c.loop-i-test.branch [
      | then-loop-i-test+else-j-second w ↦ let past = w.if-j-second.false in
          inr (omega arith)
      | else-loop-i-test w ↦ let past = w.loop-i-test.false in inl (omega arith)
    ] in
    let enough = part_length c.args.columns _ c.args.first.now _ c.args.second.now
    (map (scaled (pos c.args.divisor.now)) c.loop-i.out.items) c.loop-i.i c.loop-i.j c.loop-i.invariant.merging over
    c.requires.by_some c.requires.times_some in
    let same = length-map c.loop-i.out.items (scaled (pos c.args.divisor.now)) in
    let len = c.loop-i.out.ok.0 in
    let cap = c.loop-i.invariant.capacity in
    let room = c.requires.room in
    rw (end_is c.args.first.now c.loop-i.i) (omega arith)

pub append_over-requires-2-clause-room : goal.append_over-requires-2-clause-room
append_over-requires-2-clause-room c =
    let g = pos c.args.divisor.now in
    let over : (length c.args.first.now ≤ c.loop-i.i) ⊎ (length c.args.second.now ≤ c.loop-i.j) =
    elim c.loop-i-test.branch [
      | then-loop-i-test+else-j-second w ↦ let past = w.if-j-second.false in
          inr (omega arith)
      | else-loop-i-test w ↦ let past = w.loop-i-test.false in inl (omega arith)
    ] in
    let enough = whole_length c.args.columns _ c.args.first.now _ c.args.second.now
    (map (scaled (pos c.args.divisor.now)) c.loop-i.out.items) c.loop-i.i c.loop-i.j c.loop-i.invariant.merging over
    c.requires.by_some c.requires.times_some in
    let same : length c.append_over.new.out.items ≡ length
    (map (scaled g) c.loop-i.out.items ++ map (scaled c.args.by.now) (drop c.loop-i.i c.args.first.now)) =
    sym (length-map c.append_over.new.out.items (scaled g))
    ∙ ap length (c.append_over.ensures.items c.if-not-append_over.false
    ∙ ap (λ l. map (scaled g) c.loop-i.out.items ++ map (scaled (to_z w128 (of_z w128 c.args.by.now))) l) (end_is c.args.first.now c.loop-i.i)
    ∙ ap (λ z. map (scaled g) c.loop-i.out.items ++ map (scaled z) (drop c.loop-i.i c.args.first.now))
    (to_z-of_z w128 c.args.by.now (limit_fits c.args.by.now c.requires.by))) in
    let len = c.append_over.new.out.ok.0 in
    let cap = c.append_over.ensures.capacity in
    let before = c.loop-i.invariant.capacity in
    let room = c.requires.room in
    rw (end_is c.args.second.now c.loop-i.j) (omega arith)

pub returns-clause-listed : goal.returns-clause-listed
returns-clause-listed c = λ done.
    let g = pos c.args.divisor.now in
    let over : (length c.args.first.now ≤ c.loop-i.i) ⊎ (length c.args.second.now ≤ c.loop-i.j) =
    elim c.loop-i-test.branch [
      | then-loop-i-test+else-j-second w ↦ let past = w.if-j-second.false in
          inr (omega arith)
      | else-loop-i-test w ↦ let past = w.loop-i-test.false in inl (omega arith)
    ] in
    let is = appended_as (map (scaled g) c.loop-i.out.items) (map (scaled g) c.append_over.new.out.items) (map (scaled g) c.append_over-2.new.out.items)
    c.args.first.now c.args.second.now c.args.by.now
    c.args.times.now c.loop-i.i c.loop-i.j c.requires.by c.requires.times
    (c.append_over.ensures.items c.if-not-append_over.false) (c.append_over-2.ensures.items done) in
    listed_scaled g 0 c.args.columns c.append_over-2.new.out.items (rw is
    (whole_listed c.args.columns _ c.args.first.now _ c.args.second.now (map (scaled (pos c.args.divisor.now)) c.loop-i.out.items) c.loop-i.i c.loop-i.j
    c.loop-i.invariant.merging over
    c.requires.by_some c.requires.times_some))

pub returns-clause-combined : goal.returns-clause-combined
returns-clause-combined c = λ done k.
    let g = pos c.args.divisor.now in
    let over : (length c.args.first.now ≤ c.loop-i.i) ⊎ (length c.args.second.now ≤ c.loop-i.j) =
    elim c.loop-i-test.branch [
      | then-loop-i-test+else-j-second w ↦ let past = w.if-j-second.false in
          inr (omega arith)
      | else-loop-i-test w ↦ let past = w.loop-i-test.false in inl (omega arith)
    ] in
    let is = appended_as (map (scaled g) c.loop-i.out.items) (map (scaled g) c.append_over.new.out.items) (map (scaled g) c.append_over-2.new.out.items)
    c.args.first.now c.args.second.now c.args.by.now
    c.args.times.now c.loop-i.i c.loop-i.j c.requires.by c.requires.times
    (c.append_over.ensures.items c.if-not-append_over.false) (c.append_over-2.ensures.items done) in
    sym (entry_at-scaled g c.append_over-2.new.out.items k)
    ∙ ap (λ l. entry_at l k) is
    ∙ whole_is c.args.columns _ c.args.first.now _ c.args.second.now (map (scaled (pos c.args.divisor.now)) c.loop-i.out.items) c.loop-i.i c.loop-i.j
    c.loop-i.invariant.merging over
    c.requires.by_some c.requires.times_some k
