use Rattle.std.proofs.Common.{◌≡◌, ◌⊎◌, ℕ, ◌<◌, ◌≤◌, ℤ, pos, List, [], length, get_or, refl, sym, ap, ◌∙◌, subst, arith, inl, inr}
use Rattle.std.specs.Prelude.{unsigned_abs}
use Rattle.std.proofs.lemmas.Int.{ints}
use Rattle.std.proofs.lemmas.List.{length-map, take_all}
use Rattle.std.proofs.lemmas.List.Elements.{All-from_recursion}
use Rattle.audit_types.specs.Truth.{number_at}
use Rattle.audit_types.specs.Form.{IsEchelon, pivot}
use Rattle.sum_basis.specs.declared.sparse.SparseRow.{SparseRow}
use Rattle.sum_basis.specs.Elimination.{IsSmall, IsLessMultiple, IsZeroAtPivots}
use Rattle.sum_basis.specs.Sparse.{row_of, rows_of, entries_of, IsKept, IsShortRow}
use Rattle.sum_basis.proofs.SparseMultiples.{kept_pivot}
use Rattle.sum_basis.proofs.KeptRows.{row_is, of_row, row_within}
use Rattle.sum_basis.proofs.Reducing.{as_it_was, one_more_taken, IsPartRemainder}
use Rattle.sum_basis.proofs.short_rows.reduce_short.Goals as goal

-- 0 and 1 are at most 1
bit_small : (x : ℤ) → (x ≡ pos 0) ⊎ (x ≡ pos 1) → unsigned_abs x ≤ 1
bit_small x bit = elim bit [ inl none ↦ rw none (omega arith) | inr one ↦ rw one (omega arith) ]

-- the number at the pivot of row k is that of the row before
at_pivot : (n : ℕ) (rows : List SparseRow) (old new : List ℤ) (k : ℕ) (r : SparseRow) → k < length rows → r ≡ get_or rows k r → IsKept n r →
    IsEchelon (rows_of n rows) → IsPartRemainder (rows_of n rows) old new k → number_at new r.pivot ≡ number_at old r.pivot
at_pivot n rows old new k r h is kept echelon part =
    let place = ap pivot (row_is n rows k r h is) ∙ kept_pivot n r kept in
    subst (λ p. number_at new p ≡ number_at old p) place (as_it_was n (rows_of n rows) old new k (row_within n rows k h) echelon part)

pub loop-other-init : goal.loop-other-init
loop-other-init c = record {
  part = record {
    coefficients = [];
    count = refl;
    is = λ j. omega (arith, ints);
    zeros = tt;
    small = λ j. let bit = bit_small (number_at c.args.row.now j) (c.requires.bits j) in omega arith;
  };
  near = λ j. let bit = bit_small (number_at c.args.row.now j) (c.requires.bits j) in omega arith;
}

pub take_once-requires-clause-short : goal.take_once-requires-clause-short
take_once-requires-clause-short c = of_row IsShortRow c.args.form.now c.loop-other.other-index c.other-item.result c.loop-other-test.true c.other-item.is
    c.requires.short

pub take_once-requires-clause-row : goal.take_once-requires-clause-row
take_once-requires-clause-row c = λ j.
    let near = c.loop-other.invariant.near j in
    let inside = c.loop-other-test.true in
    let few = c.requires.few in
    omega arith

pub take_once-requires-clause-bit : goal.take_once-requires-clause-bit
take_once-requires-clause-bit c =
    let kept = of_row (IsKept
    (length c.args.row.now)) c.args.form.now c.loop-other.other-index c.other-item.result c.loop-other-test.true c.other-item.is c.requires.kept in
    subst (λ z. (z ≡ pos 0) ⊎ (z ≡ pos 1))
    (sym (at_pivot (length c.args.row.now) c.args.form.now c.args.row.now c.loop-other.row c.loop-other.other-index c.other-item.result c.loop-other-test.true
    c.other-item.is kept c.requires.form.echelon c.loop-other.invariant.part))
    (c.requires.bits c.other-item.result.pivot)

pub loop-other-preserved : goal.loop-other-preserved
loop-other-preserved c =
    let n = length c.args.row.now in
    let rows = c.args.form.now in
    let h = row_within n rows c.loop-other.other-index c.loop-other-test.true in
    let small = All-from_recursion IsSmall (rows_of n rows) c.requires.form.entries c.loop-other.other-index [] h in
    let less = subst (λ (m : ℕ). IsLessMultiple
    (row_of m (entries_of c.other-item.result)) c.loop-other.row c.take_once.new.row) c.loop-other.auto.row c.take_once.ensures.less in
    record {
      part = one_more_taken
          (rows_of n rows) c.args.row.now c.loop-other.row c.take_once.new.row c.loop-other.other-index h c.requires.form.echelon small
          c.loop-other.invariant.part
          (subst (λ (r : List ℤ). IsLessMultiple r c.loop-other.row c.take_once.new.row)
          (sym (row_is n rows c.loop-other.other-index c.other-item.result c.loop-other-test.true c.other-item.is)) less);
      near = λ j. let step = c.take_once.ensures.near j in let before = c.loop-other.invariant.near j in omega arith;
    }

pub returns-clause-remainder : goal.returns-clause-remainder
returns-clause-remainder c =
    let n = length c.args.row.now in
    let part = c.loop-other.invariant.part in
    let long = length-map c.args.form.now (λ (r : SparseRow). row_of n (entries_of r)) in
    record {
      coefficients = part.coefficients;
      is = part.is;
      zeros = subst (λ (rows : List (List ℤ)). IsZeroAtPivots rows c.loop-other.row)
          (take_all c.loop-other.other-index (rows_of n c.args.form.now) (omega arith)) part.zeros;
    }

pub returns-clause-small : goal.returns-clause-small
returns-clause-small c = λ j.
    let near = c.loop-other.invariant.near j in
    let few = c.requires.few in
    omega arith
