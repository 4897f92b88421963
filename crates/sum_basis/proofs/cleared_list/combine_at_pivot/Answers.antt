use Rattle.std.proofs.Common.{◌≡◌, ℕ, ◌+◌, ◌≤◌, ◌^◌, ℤ, pos, List, get_or, refl, sym, ap, ◌∙◌, subst, arith, rules}
use Rattle.std.specs.Prelude.{FitsSigned, unsigned_abs, ◌*ℤ◌, ◌-ℤ◌, ◌<ℤ◌}
use Rattle.std.specs.Int.{w128}
use Rattle.std.specs.List.{AllByRecursion}
use mir.Val.{to_z, of_z}
use Rattle.std.proofs.lemmas.Int.{to_z-of_z}
use Rattle.sum_basis.specs.declared.sparse.FreeEntry.{FreeEntry}
use Rattle.sum_basis.specs.Sparse.{entry_at, entries_of, IsNew}
use Rattle.audit_types.specs.Numbers.{product_small}
use Rattle.sum_basis.proofs.MergedNumbers.{passed, product_by}
use Rattle.sum_basis.proofs.SparseRows.{small_values, listed_from}
use Rattle.sum_basis.proofs.ListContents.{none, first_some}
use Rattle.sum_basis.proofs.ClearedLists.{is_led, entry_small, head_small, combined_small, positive_times}
use Rattle.sum_basis.proofs.cleared_list.combine_at_pivot.Goals as goal
use Rattle.sum_basis.proofs.BoundedRows.{first_small}

by_positive : (n : ℕ) (new : List FreeEntry) → IsNew n new → pos 0 <ℤ (get_or new 0 none).value
by_positive n new is = subst (λ z. pos 0 <ℤ z) (is_led n new is).pivot_entry_is is.primitive.leading

pub combine_into-requires-clause-by : goal.combine_into-requires-clause-by
combine_into-requires-clause-by c =
    let fits : FitsSigned w128 c.number-by.result = search rules in
    rw (passed c.number-by.result (get_or c.args.new.now 0 none).value fits c.number-by.ensures)
    (first_small c.args.columns c.args.new.now _ c.requires.new refl)

pub combine_into-requires-clause-first : goal.combine_into-requires-clause-first
combine_into-requires-clause-first c =
    rw c.deref.ensures.value (listed_from (c.args.row.now.pivot + 1) 0 c.args.columns c.args.row.now.free.items (omega arith) c.requires.kept.listed.3)

pub combine_into-requires-clause-first_small : goal.combine_into-requires-clause-first_small
combine_into-requires-clause-first_small c =
    subst (AllByRecursion (λ (e : FreeEntry). unsigned_abs e.value ≤ 2 ^ 56)) (sym c.deref.ensures.value)
    (small_values c.args.columns (entries_of c.args.row.now) c.requires.kept.listed c.requires.small).1

pub combine_into-requires-clause-times : goal.combine_into-requires-clause-times
combine_into-requires-clause-times c =
    rw (to_z-of_z w128 c.args.times c.ranges.times) (rw c.requires.times (entry_small c.args.columns c.args.row.now _ c.requires.kept c.requires.small))

pub combine_into-requires-clause-second_small : goal.combine_into-requires-clause-second_small
combine_into-requires-clause-second_small c = small_values c.args.columns c.args.new.now c.requires.new.listed c.requires.new.small

pub product-requires-clause-x : goal.product-requires-clause-x
product-requires-clause-x c =
    let fits : FitsSigned w128 c.number-by.result = search rules in
    rw (passed c.number-by.result (get_or c.args.new.now 0 none).value fits c.number-by.ensures)
    (first_small c.args.columns c.args.new.now _ c.requires.new refl)

pub product-requires-clause-y : goal.product-requires-clause-y
product-requires-clause-y c =
    let fits : FitsSigned w128 c.args.row.now.head = search rules in
    rw (to_z-of_z w128 c.args.row.now.head fits) (head_small c.args.columns c.args.row.now c.requires.kept c.requires.small)

-- the combination, of the numbers as they are
combined_is : (row new out list : List FreeEntry) (x by times : ℤ) → FitsSigned w128 x → x ≡ by → FitsSigned w128 times → list ≡ row
    → ((j : ℕ) → entry_at out j ≡ to_z w128 (of_z w128 x) *ℤ entry_at list j -ℤ to_z w128 (of_z w128 times) *ℤ entry_at new j)
    → (j : ℕ) → entry_at out j ≡ by *ℤ entry_at row j -ℤ times *ℤ entry_at new j
combined_is row new out list x by times p n q e is j =
    is j ∙ ap (λ z. z *ℤ entry_at list j -ℤ to_z w128 (of_z w128 times) *ℤ entry_at new j) (passed x by p n)
    ∙ ap (λ z. by *ℤ entry_at list j -ℤ z *ℤ entry_at new j) (to_z-of_z w128 times q)
    ∙ ap (λ l. by *ℤ entry_at l j -ℤ times *ℤ entry_at new j) e

pub combine_into-requires-clause-times_some : goal.combine_into-requires-clause-times_some
combine_into-requires-clause-times_some c = rw (to_z-of_z w128 c.args.times c.ranges.times) c.requires.some

pub returns-clause-combined : goal.returns-clause-combined
returns-clause-combined c =
    let x : FitsSigned w128 c.number-by.result = search rules in
    combined_is c.args.row.now.free.items c.args.new.now c.combine_into.new.out.items c.deref.result.now c.number-by.result
    (get_or c.args.new.now 0 none).value c.args.times x c.number-by.ensures c.ranges.times c.deref.ensures.value c.combine_into.ensures.combined

pub returns-clause-sizes : goal.returns-clause-sizes
returns-clause-sizes c =
    let x : FitsSigned w128 c.number-by.result = search rules in
    combined_small c.args.columns c.args.row.now c.args.new.now c.combine_into.new.out.items
    (get_or c.args.new.now 0 none).value c.args.times c.requires.kept c.requires.small c.requires.new
    (first_small c.args.columns c.args.new.now _ c.requires.new refl)
    (rw c.requires.times (entry_small c.args.columns c.args.row.now _ c.requires.kept c.requires.small)) c.combine_into.ensures.listed
    (combined_is c.args.row.now.free.items c.args.new.now c.combine_into.new.out.items c.deref.result.now c.number-by.result
    (get_or c.args.new.now 0 none).value c.args.times x c.number-by.ensures c.ranges.times c.deref.ensures.value c.combine_into.ensures.combined)

pub returns-clause-head : goal.returns-clause-head
returns-clause-head c =
    let x : FitsSigned w128 c.number-by.result = search rules in
    let y : FitsSigned w128 c.args.row.now.head = search rules in
    let p : FitsSigned w128 c.product.result = search rules in
    product_by c.product.result c.number-by.result (get_or c.args.new.now 0 none).value c.args.row.now.head p x y c.number-by.ensures c.product.ensures.exact

pub returns-clause-leading : goal.returns-clause-leading
returns-clause-leading c =
    let x : FitsSigned w128 c.number-by.result = search rules in
    let y : FitsSigned w128 c.args.row.now.head = search rules in
    let p : FitsSigned w128 c.product.result = search rules in
    rw (product_by c.product.result c.number-by.result
    (get_or c.args.new.now 0 none).value c.args.row.now.head p x y c.number-by.ensures c.product.ensures.exact)
    (let size = product_small (get_or c.args.new.now 0 none).value c.args.row.now.head (first_small c.args.columns c.args.new.now _ c.requires.new refl)
    (head_small c.args.columns c.args.row.now c.requires.kept c.requires.small) in (
      positive_times (get_or c.args.new.now 0 none).value c.args.row.now.head
          (by_positive c.args.columns c.args.new.now c.requires.new) c.requires.kept.leading,
      omega arith,
    ))

pub combine_into-requires-clause-by_some : goal.combine_into-requires-clause-by_some
combine_into-requires-clause-by_some c =
    let by : FitsSigned w128 c.number-by.result = search rules in
    rw (passed c.number-by.result (get_or c.args.new.now 0 none).value by c.number-by.ensures)
    (first_some c.args.columns c.args.new.now c.requires.new.listed c.requires.new.some)

pub combine_into-requires-clause-second : goal.combine_into-requires-clause-second
combine_into-requires-clause-second c = c.requires.new.listed
