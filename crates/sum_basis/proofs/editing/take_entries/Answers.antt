use Rattle.std.proofs.Common.{◌≡◌, ◌≢◌, ℕ, ◌<◌, ◌≤◌, ◌^◌, ℤ, pos, List, length, get_or, sym, ap, ◌∙◌, arith, rules}
use Rattle.std.specs.Prelude.{FitsSigned, ◌*ℤ◌, ◌-ℤ◌, neg_ℤ, unsigned_abs}
use Rattle.std.specs.Int.{w128}
use Rattle.std.specs.List.{AllByRecursion}
use Rattle.std.proofs.lemmas.Int.{to_z-of_z}
use Rattle.sum_basis.specs.declared.sparse.FreeEntry.{FreeEntry}
use Rattle.sum_basis.specs.Sparse.{entry_at, IsListed}
use Rattle.sum_basis.proofs.ListContents.{none, value_small}
use Rattle.std.proofs.lemmas.Int.{ints}
use Rattle.sum_basis.proofs.SparseRows.{stands_within, own_value}
use Rattle.audit_types.specs.Numbers.{product_small}
use Rattle.sum_basis.proofs.BoundedRows.{bounded_at}
use Rattle.sum_basis.proofs.Edits.{IsTakenNumber, taken_number, none_taken_yet, as_before, one_more_entry_taken, bounded_with, all_bounded, all_taken}
use Rattle.sum_basis.proofs.editing.take_entries.Goals as goal
use Rattle.sum_basis.proofs.MergedNumbers.{product_with, widened_small}

pub loop-e-init : goal.loop-e-init
loop-e-init c = record {
  listed = c.requires.listed;
  taken = none_taken_yet c.args.entries.now.items _ c.args.taken.now;
  bounded = λ j. bounded_at 0 c.args.columns c.args.most c.args.entries.now.items c.requires.listed c.requires.bounded j;
  most = omega arith;
  room = c.requires.room;
}

pub negative-number-requires : goal.negative-number-requires
negative-number-requires c =
    let p : FitsSigned w128 c.product.result = search rules in
    let value : FitsSigned w128 c.number.result = search rules in
    let size = product_small c.args.times (get_or c.args.taken.now c.loop-e.e-index none).value c.requires.times
    (value_small c.args.taken.now c.loop-e.e-index c.loop-e-test.true c.requires.taken_small) in
    rw (product_with c.product.result c.args.times c.number.result (get_or c.args.taken.now c.loop-e.e-index none).value p c.ranges.times value c.number.ensures
    c.product.ensures.exact)
    (omega arith)

-- the number that is added
number_of : (n : ℕ) (es : List FreeEntry) (k : ℕ) (times product number x : ℤ) → k < length es → IsListed 0 n es
    → AllByRecursion (λ (e : FreeEntry). unsigned_abs e.value ≤ 2 ^ 56) es → unsigned_abs times ≤ 2 ^ 56 → times ≢ pos 0 → x ≡ number → number ≡ neg_ℤ product
    → product ≡ times *ℤ (get_or es k none).value
    → IsTakenNumber times (get_or es k none).value x
number_of n es k times product number x l h small t some e is product_is =
    taken_number times (get_or es k none).value x t (value_small es k l small) some (stands_within 0 n es k none h l).some (e ∙ is ∙ ap neg_ℤ product_is)

pub add_at-after-requires-clause-inside : goal.add_at-after-requires-clause-inside
add_at-after-requires-clause-inside c = (stands_within 0 c.args.columns c.args.taken.now c.loop-e.e-index none c.requires.taken c.loop-e-test.true).inside

pub add_at-after-requires-clause-small : goal.add_at-after-requires-clause-small
add_at-after-requires-clause-small c =
    let same = as_before c.args.entries.now.items c.loop-e.entries.items _ c.args.columns c.args.taken.now c.loop-e.e-index none c.requires.taken
    c.loop-e-test.true c.loop-e.invariant.taken in
    let small = bounded_at 0 c.args.columns (2 ^ 56) c.args.entries.now.items c.requires.listed c.requires.small
    (get_or c.args.taken.now c.loop-e.e-index none).place in
    rw same (omega arith)

pub add_at-after-requires-clause-number : goal.add_at-after-requires-clause-number
add_at-after-requires-clause-number c =
    let p : FitsSigned w128 c.product.result = search rules in
    let q : FitsSigned w128 c.negative-number.result = search rules in
    let value : FitsSigned w128 c.number.result = search rules in
    let is = number_of c.args.columns c.args.taken.now c.loop-e.e-index c.args.times _ c.negative-number.result _ c.loop-e-test.true c.requires.taken
    c.requires.taken_small c.requires.times c.requires.some (to_z-of_z w128 c.negative-number.result q) c.negative-number.ensures
    (product_with c.product.result c.args.times c.number.result (get_or c.args.taken.now c.loop-e.e-index none).value p c.ranges.times value c.number.ensures
    c.product.ensures.exact) in
    let small = is.small in
    omega arith

pub add_at-after-requires-clause-narrow : goal.add_at-after-requires-clause-narrow
add_at-after-requires-clause-narrow c =
    let p : FitsSigned w128 c.product.result = search rules in
    let q : FitsSigned w128 c.negative-number.result = search rules in
    let value : FitsSigned w128 c.number.result = search rules in
    let e = get_or c.args.taken.now c.loop-e.e-index none in
    let is = (number_of c.args.columns c.args.taken.now c.loop-e.e-index c.args.times _ c.negative-number.result _ c.loop-e-test.true c.requires.taken
    c.requires.taken_small c.requires.times c.requires.some (to_z-of_z w128 c.negative-number.result q) c.negative-number.ensures
    (product_with c.product.result c.args.times c.number.result e.value p c.ranges.times value c.number.ensures c.product.ensures.exact)).is in
    let same = as_before c.args.entries.now.items c.loop-e.entries.items _ c.args.columns c.args.taken.now c.loop-e.e-index none c.requires.taken
    c.loop-e-test.true c.loop-e.invariant.taken in
    let own = ap (λ z. c.args.times *ℤ z) (own_value 0 c.args.columns c.args.taken.now c.loop-e.e-index none c.requires.taken c.loop-e-test.true) in
    let small = c.requires.narrow e.place in
    omega (arith, ints)

pub add_at-after-requires-clause-some : goal.add_at-after-requires-clause-some
add_at-after-requires-clause-some c =
    let p : FitsSigned w128 c.product.result = search rules in
    let q : FitsSigned w128 c.negative-number.result = search rules in
    let value : FitsSigned w128 c.number.result = search rules in
    (number_of c.args.columns c.args.taken.now c.loop-e.e-index c.args.times _ c.negative-number.result _ c.loop-e-test.true c.requires.taken
    c.requires.taken_small c.requires.times c.requires.some (to_z-of_z w128 c.negative-number.result q) c.negative-number.ensures
    (product_with c.product.result c.args.times c.number.result (get_or c.args.taken.now c.loop-e.e-index none).value p c.ranges.times value c.number.ensures
    c.product.ensures.exact)).some

pub loop-e-preserved : goal.loop-e-preserved
loop-e-preserved c =
    let p : FitsSigned w128 c.product.result = search rules in
    let q : FitsSigned w128 c.negative-number.result = search rules in
    let after : FitsSigned w128 c.add_at-after.result = search rules in
    let value : FitsSigned w128 c.number.result = search rules in
    let is = number_of c.args.columns c.args.taken.now c.loop-e.e-index c.args.times _ c.negative-number.result _ c.loop-e-test.true c.requires.taken
    c.requires.taken_small c.requires.times c.requires.some (to_z-of_z w128 c.negative-number.result q) c.negative-number.ensures
    (product_with c.product.result c.args.times c.number.result (get_or c.args.taken.now c.loop-e.e-index none).value p c.ranges.times value c.number.ensures
    c.product.ensures.exact) in
    let times = to_z-of_z w128 c.args.times c.ranges.times in
    let size = c.unsigned_abs.ensures.value ∙ ap unsigned_abs (to_z-of_z w128 c.add_at-after.result after) in
    let one = c.greater-bound.ensures.first in
    let two = c.greater-bound.ensures.second in
    let most = c.loop-e.invariant.most in
    record {
      listed = c.add_at-after.ensures.listed;
      taken =
          one_more_entry_taken c.args.entries.now.items c.loop-e.entries.items c.add_at-after.new.entries.items _ c.args.taken.now c.loop-e.e-index none _
          c.loop-e-test.true c.loop-e.invariant.taken (is.is
          ∙ ap (λ z. neg_ℤ (z *ℤ (get_or c.args.taken.now c.loop-e.e-index none).value)) (sym times)) c.add_at-after.ensures.added;
      bounded =
          bounded_with c.loop-e.entries.items c.add_at-after.new.entries.items _ _ c.add_at-after.result c.loop-e.bound c.greater-bound.result
          c.loop-e.invariant.bounded c.add_at-after.ensures.added c.add_at-after.ensures.is one (omega arith);
      most = omega arith;
      room = c.add_at-after.ensures.room;
    }

pub returns-clause-taken : goal.returns-clause-taken
returns-clause-taken c = λ j.
    all_taken c.args.entries.now.items c.loop-e.entries.items _ c.args.taken.now c.loop-e.e-index (omega arith) c.loop-e.invariant.taken j
    ∙ ap (λ z. entry_at c.args.entries.now.items j -ℤ z *ℤ entry_at c.args.taken.now j) (to_z-of_z w128 c.args.times c.ranges.times)

pub returns-clause-bounded : goal.returns-clause-bounded
returns-clause-bounded c = all_bounded c.args.columns c.loop-e.bound c.loop-e.entries.items c.loop-e.invariant.listed c.loop-e.invariant.bounded

pub product-requires-clause-x : goal.product-requires-clause-x
product-requires-clause-x c = rw (to_z-of_z w128 c.args.times c.ranges.times) c.requires.times

pub product-requires-clause-y : goal.product-requires-clause-y
product-requires-clause-y c =
    let value : FitsSigned w128 c.number.result = search rules in
    widened_small c.number.result (get_or c.args.taken.now c.loop-e.e-index none).value value c.number.ensures
    (value_small c.args.taken.now c.loop-e.e-index c.loop-e-test.true c.requires.taken_small)

pub add_at-after-requires-clause-listed : goal.add_at-after-requires-clause-listed
add_at-after-requires-clause-listed c = c.loop-e.invariant.listed

pub add_at-after-requires-clause-room : goal.add_at-after-requires-clause-room
add_at-after-requires-clause-room c = c.loop-e.invariant.room

pub returns-clause-listed : goal.returns-clause-listed
returns-clause-listed c = c.loop-e.invariant.listed

pub returns-clause-most : goal.returns-clause-most
returns-clause-most c = c.loop-e.invariant.most

pub returns-clause-room : goal.returns-clause-room
returns-clause-room c = c.loop-e.invariant.room
