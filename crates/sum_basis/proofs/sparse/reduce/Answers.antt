use Rattle.std.proofs.Common.{◌≡◌, ℕ, ◌<◌, ℤ, List, [], length, get_or, sym, ap, ◌∙◌, subst}
use Rattle.std.specs.Prelude.{unsigned_abs}
use Rattle.std.specs.Int.{◌∣◌}
use Rattle.std.proofs.lemmas.List.Elements.{All-from_recursion}
use Rattle.audit_types.specs.Truth.{number_at}
use Rattle.audit_types.specs.Form.{IsEchelon, pivot, pivot_entry}
use Rattle.sum_basis.specs.declared.sparse.SparseRow.{SparseRow}
use Rattle.sum_basis.specs.Elimination.{IsSmall, IsLessMultiple}
use Rattle.sum_basis.specs.Sparse.{row_of, rows_of, entries_of, IsKept}
use Rattle.sum_basis.proofs.Sizes.{small_at}
use Rattle.sum_basis.proofs.SparseRows.{pivot_entry-row_of}
use Rattle.sum_basis.proofs.SparseMultiples.{kept_pivot}
use Rattle.sum_basis.proofs.KeptRows.{row_is, of_row, of_whole_row, row_within}
use Rattle.sum_basis.proofs.Reducing.{as_it_was, one_more_taken, IsPartRemainder}
use Rattle.sum_basis.proofs.sparse.reduce.Goals as goal

-- the number at the pivot of row k is that of the row before
at_pivot : (n : ℕ) (rows : List SparseRow) (old new : List ℤ) (k : ℕ) (r : SparseRow) → k < length rows → r ≡ get_or rows k r → IsKept n r →
    IsEchelon (rows_of n rows) → IsPartRemainder (rows_of n rows) old new k → number_at new r.pivot ≡ number_at old r.pivot
at_pivot n rows old new k r h is kept echelon part =
    let place = ap pivot (row_is n rows k r h is) ∙ kept_pivot n r kept in
    subst (λ p. number_at new p ≡ number_at old p) place (as_it_was n (rows_of n rows) old new k (row_within n rows k h) echelon part)

pub take_multiple-requires-clause-other_small : goal.take_multiple-requires-clause-other_small
take_multiple-requires-clause-other_small c =
    rw c.loop-other.auto.row
    (of_whole_row IsSmall (length c.args.row.now) c.args.form.now c.loop-other.other-index c.other-item.result c.loop-other-test.true c.other-item.is
    c.requires.form.entries)

pub take_multiple-requires-clause-at_pivot : goal.take_multiple-requires-clause-at_pivot
take_multiple-requires-clause-at_pivot c =
    let kept = of_row (IsKept
    (length c.args.row.now)) c.args.form.now c.loop-other.other-index c.other-item.result c.loop-other-test.true c.other-item.is c.requires.kept in
    rw
    (at_pivot (length c.args.row.now) c.args.form.now c.args.row.now c.loop-other.row c.loop-other.other-index c.other-item.result c.loop-other-test.true
    c.other-item.is kept c.requires.form.echelon c.loop-other.invariant)
    (small_at c.args.row.now c.other-item.result.pivot c.requires.small)

pub take_multiple-requires-clause-divides : goal.take_multiple-requires-clause-divides
take_multiple-requires-clause-divides c =
    let n = length c.args.row.now in
    let r = c.other-item.result in
    let kept = of_row (IsKept n) c.args.form.now c.loop-other.other-index r c.loop-other-test.true c.other-item.is c.requires.kept in
    let all = of_whole_row (λ row. unsigned_abs (pivot_entry row) ∣ unsigned_abs
    (number_at c.args.row.now (pivot row))) n c.args.form.now c.loop-other.other-index r c.loop-other-test.true c.other-item.is c.requires.divides in
    let head = pivot_entry-row_of 0 n (record { place = r.pivot; value = r.head }) r.free.items kept.listed in
    rw
    (at_pivot n c.args.form.now c.args.row.now c.loop-other.row c.loop-other.other-index r c.loop-other-test.true c.other-item.is kept c.requires.form.echelon
    c.loop-other.invariant)
    (subst (λ (z : ℤ). unsigned_abs z ∣ unsigned_abs (number_at c.args.row.now r.pivot)) head
    (subst (λ (p : ℕ). unsigned_abs (pivot_entry (row_of n (entries_of r))) ∣ unsigned_abs (number_at c.args.row.now p)) (kept_pivot n r kept) all))

pub loop-other-preserved : goal.loop-other-preserved
loop-other-preserved c =
    let n = length c.args.row.now in
    let rows = c.args.form.now in
    let h = row_within n rows c.loop-other.other-index c.loop-other-test.true in
    let small = All-from_recursion IsSmall (rows_of n rows) c.requires.form.entries c.loop-other.other-index [] h in
    let less = subst (λ (m : ℕ). IsLessMultiple
    (row_of m (entries_of c.other-item.result)) c.loop-other.row c.take_multiple.new.row) c.loop-other.auto.row c.take_multiple.ensures in
    one_more_taken
    (rows_of n rows) c.args.row.now c.loop-other.row c.take_multiple.new.row c.loop-other.other-index h c.requires.form.echelon small c.loop-other.invariant
    (subst (λ (r : List ℤ). IsLessMultiple r c.loop-other.row c.take_multiple.new.row)
    (sym (row_is n rows c.loop-other.other-index c.other-item.result c.loop-other-test.true c.other-item.is)) less)
