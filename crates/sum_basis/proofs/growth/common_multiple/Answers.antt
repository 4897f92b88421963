use Rattle.std.proofs.Common.{◌≡◌, ℕ, ℤ, List, [], ◌∷◌, ◌+◌, ◌<◌, ◌≤◌, ◌^◌, pos, map, ap, ◌∙◌, subst, arith, rules}
use Rattle.std.specs.Prelude.{◌<ℤ◌, ◌≤ℤ◌, FitsSigned, unsigned_abs}
use Rattle.std.specs.Int.{w128}
use mir.Val.{to_z}
use Rattle.std.proofs.lemmas.Int.{ints, to_z-of_z}
use Rattle.audit_types.specs.Form.{IsLeastCommonMultiple}
use Rattle.audit_types.specs.Numbers.{size_positive}
use Rattle.sum_basis.specs.declared.sparse.SparseRow.{SparseRow}
use Rattle.sum_basis.proofs.LeastMultiples.{least-nil, least_positive, passes_list, one_more_head, heads_positive}
use Rattle.sum_basis.proofs.KeptRows.{of_row}
use Rattle.sum_basis.proofs.growth.common_multiple.Goals as goal

above : (limit m : ℕ) → pos limit <ℤ pos m → limit < m
above limit m h = omega (arith, ints)

heads : List SparseRow → List ℕ
heads rows = map (λ r. unsigned_abs r.head) rows

pub loop-row-init : goal.loop-row-init
loop-row-init c = record { multiple = least-nil; positive = omega (arith, ints); within = omega arith }

pub returns-in_err-common : goal.returns-in_err-common
returns-in_err-common c =
    let head : FitsSigned w128 c.row-item.result.head = search rules in
    let both = c.in_err-common.ensures in
    let first = one_more_head c.args.rows.now c.loop-row.row-index c.row-item.result _ both.0 c.loop-row-test.true c.row-item.is c.loop-row.invariant.multiple
    (subst (λ (z : ℤ). IsLeastCommonMultiple (unsigned_abs (to_z w128 c.loop-row.common-bits) ∷ unsigned_abs z ∷ []) both.0)
    (to_z-of_z w128 c.row-item.result.head head) both.1) in
    let all = passes_list c.args.rows.now (c.loop-row.row-index + 1) both.0 (2 ^ 56) (heads_positive c.args.rows.now c.requires) first
    (above (2 ^ 56) both.0 both.2) in
    (all.0, all.1, rw c.from_residual.ensures all.2)

record IsAfter (m : ℕ) (x : ℤ) : Type 0 where
  is : unsigned_abs x ≡ m
  positive : pos 0 <ℤ x
  small : unsigned_abs x ≤ 2 ^ 56

after : (common x : ℤ) (m : ℕ) → x ≡ common → common ≡ pos m → pos m ≤ℤ pos (2 ^ 56) → 0 < m → IsAfter m x
after common x m e f h p =
    record { is = ap unsigned_abs (e ∙ f); positive = omega (arith, ints); small = rw (e ∙ f) (let most : m ≤ 2 ^ 56 = omega (arith, ints) in most) }

pub loop-row-preserved : goal.loop-row-preserved
loop-row-preserved c =
    let head : FitsSigned w128 c.row-item.result.head = search rules in
    let kept : FitsSigned w128 c.in_ok-common.common = search rules in
    let both = c.in_ok-common.ensures in
    let least = subst (λ (z : ℤ). IsLeastCommonMultiple (unsigned_abs (to_z w128 c.loop-row.common-bits) ∷ unsigned_abs z ∷ []) both.0)
    (to_z-of_z w128 c.row-item.result.head head) both.1 in
    let first = one_more_head c.args.rows.now c.loop-row.row-index c.row-item.result _ both.0 c.loop-row-test.true c.row-item.is c.loop-row.invariant.multiple
    least in
    let leading = of_row (λ r. (pos 0 <ℤ r.head) ×
    (unsigned_abs r.head ≤ 2 ^ 56)) c.args.rows.now c.loop-row.row-index c.row-item.result c.loop-row-test.true c.row-item.is c.requires in
    let positive = least_positive _ _ both.0 (size_positive _ c.loop-row.invariant.positive) (size_positive c.row-item.result.head leading.0) least in
    let is = after c.in_ok-common.common _ both.0 (to_z-of_z w128 c.in_ok-common.common kept) both.2.0 both.2.1 positive in
    record { multiple = rw is.is first; positive = is.positive; within = is.small }

-- a positive number within the limit
at_most : (x : ℤ) → pos 0 <ℤ x → unsigned_abs x ≤ 2 ^ 56 → x ≤ℤ pos (2 ^ 56)
at_most x positive small = omega (arith, ints)

pub lcm_within-requires-clause-a : goal.lcm_within-requires-clause-a
lcm_within-requires-clause-a c =
    (c.loop-row.invariant.positive, at_most (to_z w128 c.loop-row.common-bits) c.loop-row.invariant.positive c.loop-row.invariant.within)

pub lcm_within-requires-clause-b : goal.lcm_within-requires-clause-b
lcm_within-requires-clause-b c =
    let head : FitsSigned w128 c.row-item.result.head = search rules in
    let leading = of_row (λ r. (pos 0 <ℤ r.head) ×
    (unsigned_abs r.head ≤ 2 ^ 56)) c.args.rows.now c.loop-row.row-index c.row-item.result c.loop-row-test.true c.row-item.is c.requires in
    rw (to_z-of_z w128 c.row-item.result.head head) (leading.0, at_most c.row-item.result.head leading.0 leading.1)
