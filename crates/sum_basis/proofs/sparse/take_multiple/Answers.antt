use Rattle.std.proofs.Common.{◌≡◌, ◌≢◌, ℕ, ◌<◌, ◌≤◌, ◌+◌, ◌^◌, refl, inl, inr, ℤ, pos, List, get_or, set, length, sym, subst, ap, ◌∙◌, arith, rules, length-set}
use Rattle.std.specs.Prelude.{FitsSigned, unsigned_abs, ◌*ℤ◌, ◌<ℤ◌}
use Rattle.std.specs.Int.{w128}
use Rattle.std.specs.List.{AllByRecursion}
use mir.Val.{to_z, of_z}
use Rattle.std.proofs.lemmas.Int.{ints, to_z-of_z}
use Rattle.std.proofs.lemmas.Bool.{cases_eq}
use Rattle.std.proofs.lemmas.List.{get_or-set_same, get_or-set_other}
use Rattle.int_rows.specs.PrimitiveLaws.{zero_from_bits}
use Rattle.audit_types.specs.Truth.{number_at}
use Rattle.sum_basis.specs.declared.sparse.FreeEntry.{FreeEntry}
use Rattle.sum_basis.specs.Sparse.{entries_of}
use Rattle.sum_basis.proofs.Multiples.{factor_small}
use Rattle.sum_basis.proofs.SparseRows.{small_values, listed_from}
use Rattle.sum_basis.proofs.SparseMultiples.{less_by_entries, nothing_to_take}
use Rattle.sum_basis.proofs.sparse.take_multiple.Goals as goal

is_multiple : (x h q : ℤ) → FitsSigned w128 x → FitsSigned w128 h → to_z w128 (of_z w128 x) ≡ to_z w128 (of_z w128 h) *ℤ q → x ≡ h *ℤ q
is_multiple x h q p r e = sym (to_z-of_z w128 x p) ∙ e ∙ ap (λ z. z *ℤ q) (to_z-of_z w128 h r)

pub quotient-times-requires-clause-divides : goal.quotient-times-requires-clause-divides
quotient-times-requires-clause-divides c =
    let head : FitsSigned w128 c.args.other.now.head = search rules in
    let multiple : FitsSigned w128 (get_or c.args.row.now c.args.other.now.pivot (pos 0)) = search rules in
    rw (to_z-of_z w128 c.args.other.now.head head, to_z-of_z w128 (get_or c.args.row.now c.args.other.now.pivot (pos 0)) multiple) c.requires.divides

pub subtract-requires-clause-listed : goal.subtract-requires-clause-listed
subtract-requires-clause-listed c =
    rw (length-set c.args.row.now c.args.other.now.pivot (pos 0), c.deref.ensures.value)
    (listed_from (c.args.other.now.pivot + 1) 0 (length c.args.row.now) c.args.other.now.free.items (omega arith) c.requires.other.listed.3)

pub subtract-requires-clause-small : goal.subtract-requires-clause-small
subtract-requires-clause-small c =
    subst (AllByRecursion (λ (e : FreeEntry). unsigned_abs e.value ≤ 2 ^ 56)) (sym c.deref.ensures.value)
    (small_values (length c.args.row.now) (entries_of c.args.other.now) c.requires.other.listed c.requires.other_small).1

pub subtract-requires-clause-times : goal.subtract-requires-clause-times
subtract-requires-clause-times c =
    let fits : FitsSigned w128 c.quotient-times.result = search rules in
    rw (to_z-of_z w128 c.quotient-times.result fits)
    (factor_small (number_at c.args.row.now c.args.other.now.pivot) c.args.other.now.head c.quotient-times.result
    (is_multiple (get_or c.args.row.now c.args.other.now.pivot (pos 0)) c.args.other.now.head c.quotient-times.result (search rules)
    (search rules) c.quotient-times.ensures) c.requires.other.leading c.requires.at_pivot)

pub returns-then-multiple-ne0 : goal.returns-then-multiple-ne0
returns-then-multiple-ne0 c =
    let fits : FitsSigned w128 c.quotient-times.result = search rules in
    less_by_entries (length c.args.row.now) c.args.other.now c.args.row.now c.subtract.new.row c.quotient-times.result c.requires.other refl
    (is_multiple (get_or c.args.row.now c.args.other.now.pivot (pos 0)) c.args.other.now.head c.quotient-times.result (search rules)
    (search rules) c.quotient-times.ensures) c.requires.at_pivot
    (rw (sym (length-set c.args.row.now c.args.other.now.pivot (pos 0)), sym c.deref.ensures.value)
    (c.subtract.ensures ∙ rw (to_z-of_z w128 c.quotient-times.result fits) refl))

pub returns-else-multiple-ne0 : goal.returns-else-multiple-ne0
returns-else-multiple-ne0 c =
    let multiple : FitsSigned w128 (get_or c.args.row.now c.args.other.now.pivot (pos 0)) = search rules in
    nothing_to_take (length c.args.row.now) c.args.other.now c.args.row.now c.requires.other
    (zero_from_bits (get_or c.args.row.now c.args.other.now.pivot (pos 0)) multiple c.if-multiple-ne0.false)

-- a positive number isn't 0
some : (h : ℤ) → pos 0 <ℤ h → h ≢ pos 0
some h positive e = omega (arith, ints)

pub quotient-times-requires-clause-not_zero : goal.quotient-times-requires-clause-not_zero
quotient-times-requires-clause-not_zero c =
    let head : FitsSigned w128 c.args.other.now.head = search rules in
    rw (to_z-of_z w128 c.args.other.now.head head) (some c.args.other.now.head c.requires.other.leading)

pub quotient-times-requires-clause-size : goal.quotient-times-requires-clause-size
quotient-times-requires-clause-size c =
    let multiple : FitsSigned w128 (get_or c.args.row.now c.args.other.now.pivot (pos 0)) = search rules in
    rw (to_z-of_z w128 (get_or c.args.row.now c.args.other.now.pivot (pos 0)) multiple) (let small = c.requires.at_pivot in omega arith)

-- the row with 0 at a place is as small
still_small : (row : List ℤ) (k j : ℕ) → k < length row → ((i : ℕ) → unsigned_abs (number_at row i) + 2 ^ 112 < 2 ^ 127)
    → unsigned_abs (number_at (set row k (pos 0)) j) + 2 ^ 112 < 2 ^ 127
still_small row k j within small = elim (cases_eq j k) [
  | inl e ↦ rw (e, get_or-set_same row k (pos 0) (pos 0) within) (omega arith)
  | inr other ↦ rw (get_or-set_other row k j (pos 0) (pos 0) other) (small j)
]

pub subtract-requires-clause-row : goal.subtract-requires-clause-row
subtract-requires-clause-row c = λ j. still_small c.args.row.now c.args.other.now.pivot j c.requires.other.listed.1 c.requires.row
