use Rattle.std.proofs.Common.{◌≡◌, ◌≢◌, ℕ, ◌<◌, ◌≤◌, ◌+◌, ◌^◌, refl, inl, inr, ℤ, pos, List, get_or, set, length, sym, subst, ap, ◌∙◌, arith, rules, length-set}
use Rattle.std.specs.Prelude.{FitsSigned, unsigned_abs, ◌*ℤ◌}
use Rattle.std.specs.Int.{w64}
use Rattle.std.specs.List.{AllByRecursion}
use mir.Val.{to_z, of_z}
use Rattle.std.proofs.lemmas.Int.{to_z-of_z}
use Rattle.std.proofs.lemmas.Bool.{cases_eq}
use Rattle.std.proofs.lemmas.List.{get_or-set_same, get_or-set_other}
use Rattle.audit_types.specs.Truth.{number_at}
use Rattle.sum_basis.specs.Limits.{most_short}
use Rattle.sum_basis.specs.declared.sparse.FreeEntry.{FreeEntry}
use Rattle.sum_basis.proofs.ShortRows.{near_after}
use Rattle.sum_basis.proofs.SparseRows.{listed_from}
use Rattle.sum_basis.proofs.SparseMultiples.{less_by_entries, nothing_to_take}
use Rattle.sum_basis.proofs.short_rows.take_once.Goals as goal

-- the code's test for 1
one_from_bits : (z : ℤ) → FitsSigned w64 z → of_z w64 z ≡ 1 → z ≡ pos 1
one_from_bits z fits e = sym (to_z-of_z w64 z fits) ∙ ap (to_z w64) e

not_one : (z : ℤ) → of_z w64 z ≢ 1 → z ≢ pos 1
not_one z other e = other (ap (of_z w64) e)

-- 1 is a multiple of 1
once : (x h : ℤ) → x ≡ pos 1 → h ≡ pos 1 → x ≡ h *ℤ pos 1
once x h p q = rw (p, q) refl

-- a row with 0 at a place is as small
still_small : (row : List ℤ) (k j : ℕ) → k < length row → ((i : ℕ) → unsigned_abs (number_at row i) + most_short < 2 ^ 63)
    → unsigned_abs (number_at (set row k (pos 0)) j) + most_short < 2 ^ 63
still_small row k j within small = elim (cases_eq j k) [
  | inl e ↦ rw (e, get_or-set_same row k (pos 0) (pos 0) within) (omega arith)
  | inr other ↦ rw (get_or-set_other row k j (pos 0) (pos 0) other) (small j)
]

pub subtract_once-requires-clause-listed : goal.subtract_once-requires-clause-listed
subtract_once-requires-clause-listed c =
    rw (length-set c.args.row.now c.args.other.now.pivot (pos 0), c.deref.ensures.value)
    (listed_from (c.args.other.now.pivot + 1) 0 (length c.args.row.now) c.args.other.now.free.items (omega arith) c.requires.other.listed.3)

pub subtract_once-requires-clause-small : goal.subtract_once-requires-clause-small
subtract_once-requires-clause-small c =
    subst (AllByRecursion (λ (e : FreeEntry). unsigned_abs e.value ≤ most_short)) (sym c.deref.ensures.value) c.requires.short.1

pub subtract_once-requires-clause-row : goal.subtract_once-requires-clause-row
subtract_once-requires-clause-row c = λ j. still_small c.args.row.now c.args.other.now.pivot j c.requires.other.listed.1 c.requires.row

pub returns-then-there-eq1-clause-less : goal.returns-then-there-eq1-clause-less
returns-then-there-eq1-clause-less c =
    let fits : FitsSigned w64 (get_or c.args.row.now c.args.other.now.pivot (pos 0)) = search rules in
    let is = one_from_bits (get_or c.args.row.now c.args.other.now.pivot (pos 0)) fits c.if-there-eq1.true in
    less_by_entries (length c.args.row.now) c.args.other.now c.args.row.now c.subtract_once.new.row (pos 1) c.requires.other refl
    (once (number_at c.args.row.now c.args.other.now.pivot) c.args.other.now.head is c.requires.short.0) (rw is (omega arith))
    (rw (sym (length-set c.args.row.now c.args.other.now.pivot (pos 0)), sym c.deref.ensures.value) c.subtract_once.ensures)

pub returns-then-there-eq1-clause-near : goal.returns-then-there-eq1-clause-near
returns-then-there-eq1-clause-near c =
    near_after (length c.args.row.now) c.args.other.now c.args.row.now c.subtract_once.new.row c.requires.other c.requires.short refl
    (rw (sym (length-set c.args.row.now c.args.other.now.pivot (pos 0)), sym c.deref.ensures.value) c.subtract_once.ensures)

pub returns-else-there-eq1-clause-less : goal.returns-else-there-eq1-clause-less
returns-else-there-eq1-clause-less c =
    nothing_to_take (length c.args.row.now) c.args.other.now c.args.row.now c.requires.other
    (elim c.requires.bit [
      | inl none ↦ none
      | inr one ↦ absurd (not_one (get_or c.args.row.now c.args.other.now.pivot (pos 0)) c.if-there-eq1.false one)
    ])

pub returns-else-there-eq1-clause-near : goal.returns-else-there-eq1-clause-near
returns-else-there-eq1-clause-near c = λ j. omega arith
