-- Points of columns' own entries, and what lists have at the first place of a new list.
use Rattle.std.proofs.Common.{◌≡◌, ◌≢◌, ℕ, ◌<◌, ℤ, pos, List, [], ◌∷◌, get_or, refl, sym, ap, ◌∙◌, inl, inr, arith}
use Rattle.std.specs.Prelude.{◌+ℤ◌, ◌*ℤ◌}
use Rattle.std.specs.List.{AllByRecursion}
use Rattle.std.proofs.lemmas.Int.{ints}
use Rattle.std.proofs.Math.IntN.{pos-*ℤ-pos}
use Rattle.audit_types.specs.Truth.{number_at}
use Rattle.audit_types.specs.Form.{pivot}
use Rattle.audit_types.specs.ListLaws.{all-get_or, all-weaker}
use Rattle.sum_basis.specs.Basis.{Echelon, IsFreeList}
use Rattle.sum_basis.specs.Points.{modulus, IsLeftModulo, IsPointAfter}
use Rattle.sum_basis.specs.Growth.{IsLeftOver}
use Rattle.sum_basis.specs.Reach.{IsLeftOverOrNone, times_of}
use Rattle.sum_basis.specs.Sparse.{entry_at, row_of}
use Rattle.sum_basis.specs.Keys.{AreWeights, own_entry}
use Rattle.sum_basis.specs.declared.points.Point.{Point}
use Rattle.sum_basis.specs.declared.sparse.FreeEntry.{FreeEntry}
use Rattle.sum_basis.proofs.KeyProducts.{no_point}
use Rattle.sum_basis.proofs.LeftModulo.{left_self, left_same}
use Rattle.sum_basis.proofs.SameModulo.{same_equal}
use Rattle.sum_basis.proofs.SparseRows.{number_at-row_of, first_value}

-- a weight is its own sum
own_sum : (w : ℕ) → w < modulus → IsLeftModulo (pos w *ℤ pos 1 +ℤ pos 0) w
own_sum w below =
    let product = pos-*ℤ-pos w 1 in
    left_same (pos w *ℤ pos 1 +ℤ pos 0) (pos w) w (same_equal modulus (pos w *ℤ pos 1 +ℤ pos 0) (pos w) (omega (arith, ints))) (left_self w below)

pub own_point : (n : ℕ) (weights : List Point) (q : ℕ) → AreWeights n weights → q < n → IsPointAfter weights [] (own_entry q) (get_or weights q no_point)
own_point n weights q are below =
    let small = all-get_or (λ (p : Point). (p.first < modulus) × (p.second < modulus)) weights q no_point are.below (let long = are.one_each in omega arith) in
    record { first = own_sum (get_or weights q no_point).first small.0; second = own_sum (get_or weights q no_point).second small.1 }

-- the first place of a new list is the pivot of no row
pub first_free : (form : Echelon) (e : FreeEntry) (new : List FreeEntry) → IsLeftOver form (e ∷ new) →
    AllByRecursion (λ other. pivot other ≢ e.place) form.rows
first_free form e new some =
    let listed = some.0.listed in
    all-weaker (λ (other : List ℤ). number_at (row_of form.n (e ∷ new)) (pivot other) ≡ pos 0) (λ (other : List ℤ). pivot other ≢ e.place)
    (λ other zero same. listed.2 (sym (first_value 0 form.n e new listed) ∙ sym (number_at-row_of 0 form.n (e ∷ new) listed e.place)
    ∙ ap (number_at (row_of form.n (e ∷ new))) (sym same) ∙ zero)) form.rows some.1

-- what two lists of one row have there
pub same_times : (form : Echelon) (new : List FreeEntry) (row : List ℤ) (es others : List FreeEntry) → IsLeftOverOrNone form new →
    IsFreeList form.n form.rows row es → IsFreeList form.n form.rows row others → times_of new (entry_at es) ≡ times_of new (entry_at others)
same_times form [] row es others left first second = refl
same_times form (e ∷ new) row es others (inl none) first second = cc
same_times form (e ∷ new) row es others (inr some) first second =
    let free = first_free form e new some in
    first.is e.place free ∙ sym (second.is e.place free)
