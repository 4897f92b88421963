use Rattle.std.proofs.Common.{◌≡◌, ℕ, ◌≤◌, ◌^◌, ℤ, pos, List, [], ◌∷◌, length, get_or, nat_eq, sym, ◌∙◌, subst, arith, rules}
use Rattle.std.specs.Prelude.{FitsSigned, unsigned_abs, ◌<ℤ◌, ◌≤ℤ◌}
use Rattle.std.specs.Int.{w128}
use mir.Val.{to_z, of_z}
use Rattle.std.proofs.lemmas.Int.{ints, to_z-of_z}
use Rattle.std.proofs.lemmas.List.{length-map}
use Rattle.std.proofs.lemmas.Bool.{eqb-true, eq-eqb, true≢false}
use Rattle.audit_types.specs.Truth.{number_at}
use Rattle.audit_types.specs.Form.{IsPrimitive, IsLeastCommonMultiple, pivot, pivot_entry}
use Rattle.sum_basis.specs.declared.sparse.FreeEntry.{FreeEntry}
use Rattle.sum_basis.specs.declared.sparse.SparseRow.{SparseRow}
use Rattle.sum_basis.specs.Basis.{Echelon}
use Rattle.sum_basis.specs.Elimination.{IsWithin}
use Rattle.sum_basis.specs.Sparse.{row_of, rows_of, entries_of, IsKept, IsNew}
use Rattle.sum_basis.proofs.MergedNumbers.{passed}
use Rattle.sum_basis.proofs.Sizes.{within_at}
use Rattle.sum_basis.proofs.ListContents.{none}
use Rattle.sum_basis.proofs.ClearedLists.{is_led}
use Rattle.sum_basis.proofs.KeptRows.{of_row, of_whole_row, nothing_at, lone_new, cleared_at, row_within}
use Rattle.sum_basis.proofs.LookingAhead.{IsLooked, nothing_looked, one_more_looked, looked_large, looked_multiple, foreseen, looked_grows, looked_fixing, looked_open}
use Rattle.sum_basis.proofs.looking.look_at_each.Goals as goal
use Rattle.sum_basis.proofs.LeastMultiples.{positive_size}

-- at the start
start : (n width : ℕ) (rows : List SparseRow) (new : List FreeEntry) (common : ℤ) → IsNew n new → IsWithin width (row_of n new)
    → common ≡ (get_or new 0 none).value → IsLooked n width (rows_of n rows) (row_of n new) 0 common (nat_eq (length new) 1)
start n width rows new common is_new within e =
    let led = is_led n new is_new in
    let lone = lone_new n new is_new in
    nothing_looked n width (rows_of n rows) (row_of n new) common (nat_eq (length new) 1) is_new.primitive
    (rw e (subst (λ z. unsigned_abs z ≤ width) led.pivot_entry_is (within_at width (row_of n new) (pivot (row_of n new)) within)))
    (e ∙ sym led.pivot_entry_is)
    (λ t. lone.0 (eqb-true (length new) 1 t), λ is. eq-eqb (length new) 1 (lone.1 is))

pub loop-row-init : goal.loop-row-init
loop-row-init c =
    let fits : FitsSigned w128 c.number-common.result = search rules in
    record {
      looked = start c.args.columns c.args.width c.args.rows.now c.args.new.now _ c.requires.new c.requires.new_within
          (passed c.number-common.result (get_or c.args.new.now 0 none).value fits c.number-common.ensures);
      room = c.requires.room;
    }

pub clear_aside-requires-clause-primitive : goal.clear_aside-requires-clause-primitive
clear_aside-requires-clause-primitive c =
    of_whole_row
    (IsPrimitive c.args.columns) c.args.columns c.args.rows.now c.loop-row.row-index c.row-item.result c.loop-row-test.true c.row-item.is
    c.requires.form.primitive

pub clear_aside-requires-clause-within : goal.clear_aside-requires-clause-within
clear_aside-requires-clause-within c =
    of_whole_row (IsWithin c.args.width) c.args.columns c.args.rows.now c.loop-row.row-index c.row-item.result c.loop-row-test.true c.row-item.is
    c.requires.form.entries

pub clear_aside-requires-clause-zero : goal.clear_aside-requires-clause-zero
clear_aside-requires-clause-zero c =
    let kept = of_row (IsKept c.args.columns) c.args.rows.now c.loop-row.row-index c.row-item.result c.loop-row-test.true c.row-item.is c.requires.kept in
    nothing_at c.args.columns c.row-item.result c.args.new.now kept c.requires.new
    (of_whole_row (λ other. number_at (row_of c.args.columns c.args.new.now)
    (pivot other) ≡ pos 0) c.args.columns c.args.rows.now c.loop-row.row-index c.row-item.result c.loop-row-test.true c.row-item.is c.requires.zero)

pub returns-in_default-clause-foresees : goal.returns-in_default-clause-foresees
returns-in_default-clause-foresees c =
    let n = c.args.columns in
    let rows = c.args.rows.now in
    let form : Echelon = record { n = n; width = c.args.width; rows = rows_of n rows } in
    let all = rw c.in_default.is at c.clear_aside.ensures.cleared in
    looked_large form (row_of n c.args.new.now) c.requires.form c.requires.new.primitive c.requires.zero c.loop-row.row-index
    (to_z w128 c.loop-row.common-bits) c.loop-row.fixing all.0 (row_within n rows c.loop-row.row-index c.loop-row-test.true) c.loop-row.invariant.looked
    (cleared_at n (row_of n c.args.new.now) rows c.loop-row.row-index c.row-item.result all.0 c.loop-row-test.true c.row-item.is all.1) all.2

-- a positive pivot entry of a row within the width
head_within : (n width : ℕ) (head : ℤ) (made : List ℤ) → width ≤ 2 ^ 56 → IsPrimitive n made → IsWithin width made → head ≡ pivot_entry made → (pos 0 <ℤ head) ×
    (head ≤ℤ pos (2 ^ 56))
head_within n width head made fits p within e =
    let positive : pos 0 <ℤ head = subst (λ z. pos 0 <ℤ z) (sym e) p.leading in
    let size : unsigned_abs head ≤ width = rw e (within_at width made (pivot made) within) in
    let is = positive_size head positive in
    (positive, omega (arith, ints))

pub lcm_within-requires-clause-b : goal.lcm_within-requires-clause-b
lcm_within-requires-clause-b c =
    let head : FitsSigned w128 c.in-Some.cleared.head = search rules in
    let all = rw c.in-Some.is at c.clear_aside.ensures.cleared in
    rw (to_z-of_z w128 c.in-Some.cleared.head head)
    (head_within c.args.columns c.args.width c.in-Some.cleared.head all.0 c.requires.width.1 all.1.primitive all.2.0 all.2.1)

-- the multiple of the two numbers as they are
multiple_of : (common head : ℤ) (made : List ℤ) (m : ℕ) → FitsSigned w128 head → head ≡ pivot_entry made →
    IsLeastCommonMultiple (unsigned_abs common ∷ unsigned_abs (to_z w128 (of_z w128 head)) ∷ []) m →
    IsLeastCommonMultiple (unsigned_abs common ∷ unsigned_abs (pivot_entry made) ∷ []) m
multiple_of common head made m fits e least =
    subst (λ (z : ℤ). IsLeastCommonMultiple (unsigned_abs common ∷ unsigned_abs z ∷ []) m) (to_z-of_z w128 head fits ∙ e) least

pub returns-in_default-lcm_within-clause-foresees : goal.returns-in_default-lcm_within-clause-foresees
returns-in_default-lcm_within-clause-foresees c =
    let n = c.args.columns in
    let rows = c.args.rows.now in
    let form : Echelon = record { n = n; width = c.args.width; rows = rows_of n rows } in
    let head : FitsSigned w128 c.in-Some.cleared.head = search rules in
    let all = rw c.in-Some.is at c.clear_aside.ensures.cleared in
    let least = rw c.in_default-lcm_within.is at c.lcm_within.ensures in
    looked_multiple form (row_of n c.args.new.now) c.requires.form c.requires.new.primitive c.requires.zero c.loop-row.row-index
    (to_z w128 c.loop-row.common-bits) c.loop-row.fixing all.0 least.0 (row_within n rows c.loop-row.row-index c.loop-row-test.true) c.loop-row.invariant.looked
    (cleared_at n (row_of n c.args.new.now) rows c.loop-row.row-index c.row-item.result all.0 c.loop-row-test.true c.row-item.is all.1)
    (multiple_of (to_z w128 c.loop-row.common-bits) c.in-Some.cleared.head all.0 least.0 head all.2.1 least.1) (let more = least.2 in omega (arith, ints))

pub loop-row-preserved : goal.loop-row-preserved
loop-row-preserved c =
    let n = c.args.columns in
    let rows = c.args.rows.now in
    let head : FitsSigned w128 c.in-Some.cleared.head = search rules in
    let multiple : FitsSigned w128 c.in-Some-lcm_within.multiple = search rules in
    let all = rw c.in-Some.is at c.clear_aside.ensures.cleared in
    let least = rw c.in-Some-lcm_within.is at c.lcm_within.ensures in
    record {
      looked =
          one_more_looked n c.args.width (rows_of n rows) (row_of n c.args.new.now) c.loop-row.row-index
          (to_z w128 c.loop-row.common-bits) c.loop-row.fixing all.0 least.0 _ c.in-Some.cleared.lone c.either-fixing.result
          (row_within n rows c.loop-row.row-index c.loop-row-test.true) c.loop-row.invariant.looked
          all.1.primitive
          (cleared_at n (row_of n c.args.new.now) rows c.loop-row.row-index c.row-item.result all.0 c.loop-row-test.true c.row-item.is all.1) all.2.0
          (multiple_of (to_z w128 c.loop-row.common-bits) c.in-Some.cleared.head all.0 least.0 head all.2.1 least.1)
          (to_z-of_z w128 c.in-Some-lcm_within.multiple multiple ∙ least.2.0) (let small = least.2.1 in omega (arith, ints))
          all.2.2 c.either-fixing.ensures;
      room = c.clear_aside.ensures.room;
    }

pub returns-then-fixing-clause-foresees : goal.returns-then-fixing-clause-foresees
returns-then-fixing-clause-foresees c =
    let n = c.args.columns in
    let rows = c.args.rows.now in
    let form : Echelon = record { n = n; width = c.args.width; rows = rows_of n rows } in
    let past : length form.rows ≤ c.loop-row.row-index = let l = length-map rows (λ (x : SparseRow). row_of n (entries_of x)) in omega arith in
    let l = c.loop-row.invariant.looked in
    let new = row_of n c.args.new.now in (
      foreseen form new c.requires.form c.requires.new.primitive c.requires.zero c.loop-row.row-index
          (to_z w128 c.loop-row.common-bits) c.loop-row.fixing past l c.requires.new_within,
      looked_grows form new c.requires.form c.requires.new.primitive c.requires.zero c.loop-row.row-index
          (to_z w128 c.loop-row.common-bits) c.loop-row.fixing past l c.requires.new_within,
      looked_fixing form new c.requires.form c.requires.new.primitive c.requires.zero c.loop-row.row-index
          (to_z w128 c.loop-row.common-bits) c.loop-row.fixing past l c.requires.new_within c.if-fixing.true,
    )

pub returns-else-fixing-clause-foresees : goal.returns-else-fixing-clause-foresees
returns-else-fixing-clause-foresees c =
    let n = c.args.columns in
    let rows = c.args.rows.now in
    let form : Echelon = record { n = n; width = c.args.width; rows = rows_of n rows } in
    let past : length form.rows ≤ c.loop-row.row-index = let l = length-map rows (λ (x : SparseRow). row_of n (entries_of x)) in omega arith in
    let l = c.loop-row.invariant.looked in
    let new = row_of n c.args.new.now in (
      foreseen form new c.requires.form c.requires.new.primitive c.requires.zero c.loop-row.row-index
          (to_z w128 c.loop-row.common-bits) c.loop-row.fixing past l c.requires.new_within,
      looked_grows form new c.requires.form c.requires.new.primitive c.requires.zero c.loop-row.row-index
          (to_z w128 c.loop-row.common-bits) c.loop-row.fixing past l c.requires.new_within,
      looked_open form new c.requires.form c.requires.new.primitive c.requires.zero c.loop-row.row-index
          (to_z w128 c.loop-row.common-bits) c.loop-row.fixing past l c.requires.new_within (λ t. true≢false (sym t ∙ c.if-fixing.false)),
    )

pub clear_aside-requires-clause-kept : goal.clear_aside-requires-clause-kept
clear_aside-requires-clause-kept c =
    of_row (IsKept c.args.columns) c.args.rows.now c.loop-row.row-index c.row-item.result c.loop-row-test.true c.row-item.is c.requires.kept
