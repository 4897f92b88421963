-- A row less a multiple of a kept one.
use Rattle.std.proofs.Common.{◌≡◌, ℕ, ◌+◌, ◌≤◌, ◌^◌, cond, nat_eq, ℤ, pos, List, length, set, sym, ap, ◌∙◌, arith, inl, inr}
use Rattle.std.specs.Prelude.{◌+ℤ◌, ◌*ℤ◌, neg_ℤ, unsigned_abs}
use Rattle.std.proofs.lemmas.Int.{ints}
use Rattle.std.proofs.lemmas.Bool.{cases_eq}
use Rattle.std.proofs.lemmas.List.{get_or-set_same, get_or-set_other}
use Rattle.std.proofs.Math.IntN.{*ℤ-zero, *ℤ_comm}
use Rattle.audit_types.specs.Truth.{number_at}
use Rattle.audit_types.specs.Form.{pivot}
use Rattle.sum_basis.specs.declared.sparse.SparseRow.{SparseRow}
use Rattle.sum_basis.specs.Combination.{combine}
use Rattle.sum_basis.specs.Elimination.{IsLessMultiple}
use Rattle.sum_basis.specs.Sparse.{entry_at, row_of, IsListed, entries_of, IsKept}
use Rattle.sum_basis.specs.CombinedRows.{number_at-combine}
use Rattle.audit_types.specs.Products.{times-add, neg-times, one-times}
use Rattle.sum_basis.proofs.Multiples.{factor_small, no_multiple}
use Rattle.sum_basis.proofs.SparseRows.{here, elsewhere, zero_below, number_at-row_of, pivot-row_of}

-- the entries after the pivot are listed
pub free_listed : (n : ℕ) (r : SparseRow) → IsKept n r → IsListed (r.pivot + 1) n r.free.items
free_listed n r k = k.listed.3

-- the pivot of a kept row is where it says
pub kept_pivot : (n : ℕ) (r : SparseRow) → IsKept n r → pivot (row_of n (entries_of r)) ≡ r.pivot
kept_pivot n r k = pivot-row_of 0 n (record { place = r.pivot; value = r.head }) r.free.items k.listed

-- the exact quotient is the multiple to take
pub less_by_entries : (n : ℕ) (r : SparseRow) (old new : List ℤ) (times : ℤ) → IsKept n r → length old ≡ n → number_at old r.pivot ≡ r.head *ℤ times
    → unsigned_abs (number_at old r.pivot) ≤ 2 ^ 56
    → new ≡ combine (pos 1) (set old r.pivot (pos 0)) times (row_of n r.free.items) → IsLessMultiple (row_of n (entries_of r)) old new
less_by_entries n r old new times k l e small is = record {
  times = times;
  small = factor_small (number_at old r.pivot) r.head times e k.leading small;
  is = λ j. at j;
  zero_there = ap (number_at new) (kept_pivot n r k) ∙ gone;
}
  where
    new_at : (j : ℕ) → number_at new j ≡ number_at (set old r.pivot (pos 0)) j +ℤ neg_ℤ times *ℤ entry_at r.free.items j
    new_at j =
        let combined = ap (λ l. number_at l j) is ∙ number_at-combine (pos 1) (set old r.pivot (pos 0)) times (row_of n r.free.items) j in
        let once = one-times (number_at (set old r.pivot (pos 0)) j) in
        let other = ap (λ z. neg_ℤ times *ℤ z) (number_at-row_of (r.pivot + 1) n r.free.items (free_listed n r k) j) in
        omega (arith, ints)

    set_here : number_at (set old r.pivot (pos 0)) r.pivot ≡ pos 0
    set_here = let inside = k.listed.1 in get_or-set_same old r.pivot (pos 0) (pos 0) (omega arith)

    gone : number_at new r.pivot ≡ pos 0
    gone =
        let here = new_at r.pivot in
        let set = set_here in
        let none = ap (λ z. neg_ℤ times *ℤ z) (zero_below (r.pivot + 1) n r.free.items r.pivot (free_listed n r k) (omega arith)) ∙ *ℤ-zero (neg_ℤ times) in
        omega (arith, ints)

    at : (j : ℕ) → number_at old j ≡ number_at new j +ℤ times *ℤ number_at (row_of n (entries_of r)) j
    at j =
        let whole = ap (λ z. times *ℤ z) (number_at-row_of 0 n (entries_of r) k.listed j)
        ∙ times-add times (cond (nat_eq r.pivot j) r.head (pos 0)) (entry_at r.free.items j) in
        elim (cases_eq r.pivot j) [
          | inl same ↦
              let new_here = ap (number_at new) (sym same) ∙ gone in
              let old_here = ap (number_at old) (sym same) ∙ e in
              let turned = *ℤ_comm r.head times in
              let lead = ap (λ z. times *ℤ z) (here (record { place = r.pivot; value = r.head }) j same) in
              let none = ap (λ z. times *ℤ z) (zero_below (r.pivot + 1) n r.free.items j (free_listed n r k) (omega arith)) ∙ *ℤ-zero times in
              omega (arith, ints)
          | inr other ↦
              let step = new_at j in
              let minus = neg-times times (entry_at r.free.items j) in
              let stays = get_or-set_other old r.pivot j (pos 0) (pos 0) (λ same. other (sym same)) in
              let none = ap (λ z. times *ℤ z) (elsewhere (record { place = r.pivot; value = r.head }) j other) ∙ *ℤ-zero times in
              omega (arith, ints)
        ]

-- nothing has to be taken from a row that is 0 there
pub nothing_to_take : (n : ℕ) (r : SparseRow) (old : List ℤ) → IsKept n r → number_at old r.pivot ≡ pos 0 → IsLessMultiple (row_of n (entries_of r)) old old
nothing_to_take n r old k e = no_multiple (row_of n (entries_of r)) old (ap (number_at old) (kept_pivot n r k) ∙ e)
