-- All kept rows cleared in their places.
use Rattle.std.proofs.Common.{◌≡◌, ℕ, suc, ◌+◌, ◌<◌, ◌≤◌, List, [], ◌∷◌, length, get_or, set, refl, sym, ap, ◌∙◌, subst, arith, inl, inr, length-set}
use Rattle.std.specs.List.{AllByRecursion}
use Rattle.std.proofs.lemmas.Bool.{cases_eq}
use Rattle.std.proofs.lemmas.List.{get_or-set_same, get_or-set_other, get_or_default}
use Rattle.sum_basis.specs.declared.sparse.FreeEntry.{FreeEntry}
use Rattle.sum_basis.specs.declared.sparse.SparseRow.{SparseRow}
use Rattle.sum_basis.specs.Elimination.{IsCleared, AreCleared}
use Rattle.sum_basis.specs.Sparse.{row_of, rows_of, entries_of, IsKept}

-- a kept row that is cleared, and kept
pub record IsDone (n : ℕ) (new : List FreeEntry) (old row : SparseRow) : Type 0 where
  pub kept : IsKept n row
  pub cleared : IsCleared n (row_of n new) (row_of n (entries_of old)) (row_of n (entries_of row))

-- the first k rows are cleared, the others as they were
pub record IsPartlyCleared (n : ℕ) (new : List FreeEntry) (old rows : List SparseRow) (k : ℕ) : Type 0 where
  pub same_length : length rows ≡ length old
  pub done : (m : ℕ) (d : SparseRow) → m < k → m < length old → IsDone n new (get_or old m d) (get_or rows m d)
  pub left : (m : ℕ) (d : SparseRow) → k ≤ m → get_or rows m d ≡ get_or old m d

-- none at the start
pub none_cleared : (n : ℕ) (new : List FreeEntry) (old : List SparseRow) → IsPartlyCleared n new old old 0
none_cleared n new old = record { same_length = refl; done = λ m d h l. absurd (omega arith); left = λ m d h. refl }

-- one row more
pub one_more_done : (n : ℕ) (new : List FreeEntry) (old rows : List SparseRow) (k : ℕ) (before after : SparseRow) → k < length rows →
    before ≡ get_or rows k before → IsPartlyCleared n new old rows k → IsDone n new before after → IsPartlyCleared n new old (set rows k after) (k + 1)
one_more_done n new old rows k before after h is part done = record {
  same_length = length-set rows k after ∙ part.same_length;
  done = λ m d l inside. elim (cases_eq m k) [
    | inl same ↦
        let was : get_or old m d ≡ before = ap (λ i. get_or old i d) same ∙ sym (part.left k d (omega arith)) ∙ get_or_default rows k d before h ∙ sym is in
        let now : get_or (set rows k after) m d ≡ after = ap (λ i. get_or (set rows k after) i d) same ∙ get_or-set_same rows k after d h in
        subst (λ r. IsDone n new r (get_or (set rows k after) m d)) (sym was) (subst (λ r. IsDone n new before r) (sym now) done)
    | inr other ↦ subst (λ r. IsDone n new (get_or old m d) r) (sym (get_or-set_other rows k m after d other)) (part.done m d (omega arith) inside)
  ];
  left = λ m d l. get_or-set_other rows k m after d (λ same. omega arith) ∙ part.left m d (omega arith);
}

-- in the end all
all_done : (n : ℕ) (new : List FreeEntry) (old rows : List SparseRow) → length rows ≡ length old →
    ((m : ℕ) (d : SparseRow) → m < length old → IsDone n new (get_or old m d) (get_or rows m d)) →
    AllByRecursion (IsKept n) rows × AreCleared n (row_of n new) (rows_of n old) (rows_of n rows)
all_done n new [] [] same h = (tt, tt)
all_done n new [] (r ∷ rows) same h = absurd (omega arith)
all_done n new (o ∷ old) [] same h = absurd (omega arith)
all_done n new (o ∷ old) (r ∷ rows) same h =
    let first = h 0 o (omega arith) in
    let rest = all_done n new old rows (omega arith) (λ m d l. h (suc m) d (omega arith)) in
    ((first.kept, rest.0), (first.cleared, rest.1))

pub in_the_end : (n : ℕ) (new : List FreeEntry) (old rows : List SparseRow) (k : ℕ) → length old ≤ k → IsPartlyCleared n new old rows k →
    AllByRecursion (IsKept n) rows × AreCleared n (row_of n new) (rows_of n old) (rows_of n rows)
in_the_end n new old rows k past part = all_done n new old rows part.same_length (λ m d l. part.done m d (omega arith) l)
