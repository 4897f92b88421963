use Rattle.std.proofs.Common.{◌≡◌, ℕ, ◌+◌, ◌≤◌, ◌^◌, ℤ, pos, List, get_or, refl, sym, ap, ◌∙◌, subst, arith, rules}
use Rattle.std.specs.Prelude.{FitsSigned, unsigned_abs, ◌*ℤ◌, ◌-ℤ◌, ◌<ℤ◌}
use Rattle.std.specs.Int.{w128, ◌∣◌}
use Rattle.std.specs.List.{AllByRecursion}
use mir.Val.{to_z, of_z}
use Rattle.std.proofs.lemmas.Int.{to_z-of_z}
use Rattle.sum_basis.specs.declared.sparse.FreeEntry.{FreeEntry}
use Rattle.sum_basis.specs.Sparse.{entry_at, entries_of, IsNew}
use Rattle.audit_types.specs.Numbers.{product_small}
use Rattle.sum_basis.proofs.MergedNumbers.{passed, product_by}
use Rattle.sum_basis.proofs.SparseRows.{small_values, listed_from, listed_to}
use Rattle.sum_basis.proofs.ListContents.{none}
use Rattle.sum_basis.proofs.ClearedLists.{is_led, entry_small, head_small, positive_times}
use Rattle.sum_basis.proofs.BoundedRows.{first_small, bounded_at}
use Rattle.sum_basis.proofs.OverDivisor.{greatest_of}
use Rattle.sum_basis.proofs.ClearedAtOnce.{at_once}
use Rattle.sum_basis.proofs.cleared_list.clear_at_once.Goals as goal

by_positive : (n : ℕ) (new : List FreeEntry) → IsNew n new → pos 0 <ℤ (get_or new 0 none).value
by_positive n new is = subst (λ z. pos 0 <ℤ z) (is_led n new is).pivot_entry_is is.primitive.leading

pub product-head-requires-clause-x : goal.product-head-requires-clause-x
product-head-requires-clause-x c =
    let fits : FitsSigned w128 c.number-by.result = search rules in
    rw (passed c.number-by.result (get_or c.args.new.now 0 none).value fits c.number-by.ensures)
    (first_small c.args.columns c.args.new.now _ c.requires.new refl)

pub product-head-requires-clause-y : goal.product-head-requires-clause-y
product-head-requires-clause-y c =
    let fits : FitsSigned w128 c.args.row.now.head = search rules in
    rw (to_z-of_z w128 c.args.row.now.head fits) (head_small c.args.columns c.args.row.now c.requires.kept c.requires.small)

pub first_divisor-divisor-requires-clause-head : goal.first_divisor-divisor-requires-clause-head
first_divisor-divisor-requires-clause-head c =
    let by : FitsSigned w128 c.number-by.result = search rules in
    let head : FitsSigned w128 c.args.row.now.head = search rules in
    let p : FitsSigned w128 c.product-head.result = search rules in
    rw (product_by c.product-head.result c.number-by.result
    (get_or c.args.new.now 0 none).value c.args.row.now.head p by head c.number-by.ensures c.product-head.ensures.exact)
    (let size = product_small (get_or c.args.new.now 0 none).value c.args.row.now.head (first_small c.args.columns c.args.new.now _ c.requires.new refl)
    (head_small c.args.columns c.args.row.now c.requires.kept c.requires.small) in (
      positive_times (get_or c.args.new.now 0 none).value c.args.row.now.head
          (by_positive c.args.columns c.args.new.now c.requires.new) c.requires.kept.leading,
      omega arith,
    ))

pub first_divisor-divisor-requires-clause-by : goal.first_divisor-divisor-requires-clause-by
first_divisor-divisor-requires-clause-by c =
    let fits : FitsSigned w128 c.number-by.result = search rules in
    rw (passed c.number-by.result (get_or c.args.new.now 0 none).value fits c.number-by.ensures)
    (first_small c.args.columns c.args.new.now _ c.requires.new refl)

pub first_divisor-divisor-requires-clause-times : goal.first_divisor-divisor-requires-clause-times
first_divisor-divisor-requires-clause-times c =
    rw (to_z-of_z w128 c.args.times c.ranges.times) (rw c.requires.times (entry_small c.args.columns c.args.row.now _ c.requires.kept c.requires.small))

pub first_divisor-divisor-requires-clause-first : goal.first_divisor-divisor-requires-clause-first
first_divisor-divisor-requires-clause-first c =
    let fits = c.ranges.columns.fits in
    rw c.deref.ensures.value
    (listed_to 0 c.args.columns 65536 c.args.row.now.free.items (omega arith)
    (listed_from (c.args.row.now.pivot + 1) 0 c.args.columns c.args.row.now.free.items (omega arith) c.requires.kept.listed.3))

pub first_divisor-divisor-requires-clause-first_small : goal.first_divisor-divisor-requires-clause-first_small
first_divisor-divisor-requires-clause-first_small c = λ j.
    rw c.deref.ensures.value (entry_small c.args.columns c.args.row.now j c.requires.kept c.requires.small)

pub first_divisor-divisor-requires-clause-second : goal.first_divisor-divisor-requires-clause-second
first_divisor-divisor-requires-clause-second c =
    let fits = c.ranges.columns.fits in listed_to 0 c.args.columns 65536 c.args.new.now (omega arith) c.requires.new.listed

pub first_divisor-divisor-requires-clause-second_small : goal.first_divisor-divisor-requires-clause-second_small
first_divisor-divisor-requires-clause-second_small c =
    bounded_at 0 c.args.columns (2 ^ 56) c.args.new.now c.requires.new.listed
    (small_values c.args.columns c.args.new.now c.requires.new.listed c.requires.new.small)

pub combine_over-requires-clause-by : goal.combine_over-requires-clause-by
combine_over-requires-clause-by c =
    let fits : FitsSigned w128 c.number-by.result = search rules in
    rw (passed c.number-by.result (get_or c.args.new.now 0 none).value fits c.number-by.ensures)
    (first_small c.args.columns c.args.new.now _ c.requires.new refl)

pub combine_over-requires-clause-first : goal.combine_over-requires-clause-first
combine_over-requires-clause-first c =
    rw c.deref-2.ensures.value (listed_from (c.args.row.now.pivot + 1) 0 c.args.columns c.args.row.now.free.items (omega arith) c.requires.kept.listed.3)

pub combine_over-requires-clause-first_small : goal.combine_over-requires-clause-first_small
combine_over-requires-clause-first_small c =
    subst (AllByRecursion (λ (e : FreeEntry). unsigned_abs e.value ≤ 2 ^ 56)) (sym c.deref-2.ensures.value)
    (small_values c.args.columns (entries_of c.args.row.now) c.requires.kept.listed c.requires.small).1

pub combine_over-requires-clause-times : goal.combine_over-requires-clause-times
combine_over-requires-clause-times c =
    rw (to_z-of_z w128 c.args.times c.ranges.times) (rw c.requires.times (entry_small c.args.columns c.args.row.now _ c.requires.kept c.requires.small))

pub combine_over-requires-clause-second_small : goal.combine_over-requires-clause-second_small
combine_over-requires-clause-second_small c = small_values c.args.columns c.args.new.now c.requires.new.listed c.requires.new.small

-- the combination, of the numbers as they are
combined_is : (g : ℤ) (row new out list : List FreeEntry) (x by times : ℤ) → FitsSigned w128 x → x ≡ by → FitsSigned w128 times → list ≡ row
    → ((j : ℕ) → g *ℤ entry_at out j ≡ to_z w128 (of_z w128 x) *ℤ entry_at list j -ℤ to_z w128 (of_z w128 times) *ℤ entry_at new j)
    → (j : ℕ) → g *ℤ entry_at out j ≡ by *ℤ entry_at row j -ℤ times *ℤ entry_at new j
combined_is g row new out list x by times p n q e is j =
    is j ∙ ap (λ z. z *ℤ entry_at list j -ℤ to_z w128 (of_z w128 times) *ℤ entry_at new j) (passed x by p n)
    ∙ ap (λ z. by *ℤ entry_at list j -ℤ z *ℤ entry_at new j) (to_z-of_z w128 times q)
    ∙ ap (λ l. by *ℤ entry_at l j -ℤ times *ℤ entry_at new j) e

pub returns : goal.returns
returns c =
    let by : FitsSigned w128 c.number-by.result = search rules in
    let head : FitsSigned w128 c.args.row.now.head = search rules in
    let p : FitsSigned w128 c.product-head.result = search rules in
    let over : FitsSigned w128 c.quotient.result = search rules in
    let row = c.args.row.now.free.items in
    let new = c.args.new.now in
    let made = c.combine_over.new.out.items in
    let g = c.first_divisor-divisor.result in
    let first = c.first_divisor-divisor.ensures in
    let done = c.if-not-combine_over.false in
    let greatest = subst (λ (z : ℤ). (d : ℕ) → d ∣ unsigned_abs c.product-head.result
    → ((j : ℕ) → d ∣ unsigned_abs (z *ℤ entry_at c.deref.result.now j -ℤ c.args.times *ℤ entry_at new j)) → d ∣ g) c.number-by.ensures
    (greatest_of g c.product-head.result c.number-by.result c.args.times c.deref.result.now new p by c.ranges.times first.greatest) in
    let whole = at_once c.args.columns c.args.row.now new made g c.args.times c.product-head.result c.quotient.result c.requires.kept c.requires.primitive
    c.requires.new c.requires.before c.requires.times
    (sym (to_z-of_z w128 c.product-head.result p) ∙ product_by c.product-head.result c.number-by.result
    (get_or new 0 none).value c.args.row.now.head p by head c.number-by.ensures c.product-head.ensures.exact)
    (c.combine_over.ensures.listed done)
    (combined_is (pos g) row new made c.deref-2.result.now c.number-by.result
    (get_or new 0 none).value c.args.times by c.number-by.ensures c.ranges.times c.deref-2.ensures.value
    (c.combine_over.ensures.combined done))
    first.positive (subst (λ (z : ℤ). g ∣ unsigned_abs z) (to_z-of_z w128 c.product-head.result p) first.divides)
    (subst (λ (l : List FreeEntry). (d : ℕ) → d ∣ unsigned_abs c.product-head.result
    → ((j : ℕ) → d ∣ unsigned_abs ((get_or new 0 none).value *ℤ entry_at l j -ℤ c.args.times *ℤ entry_at new j)) → d ∣ g) c.deref.ensures.value greatest)
    (sym (to_z-of_z w128 c.product-head.result p) ∙ c.quotient.ensures) in
    rw (to_z-of_z w128 c.quotient.result over)
    (record { listed = whole.listed; leading = whole.leading; cleared = whole.cleared; capacity = c.combine_over.ensures.capacity })
