-- What the lists of kept rows tell of ties of columns that aren't among some to others that aren't among others.
use Rattle.std.proofs.Common.{◌≡◌, ◌≢◌, ℕ, zero, suc, ◌+◌, ◌<◌, ◌≤◌, false, ℤ, pos, List, [], ◌∷◌, ◌++◌, length, slice_index_or, refl, sym, ap, ◌∙◌, subst, arith, inl, inr, ◌⊎◌}
use Rattle.std.specs.Prelude.{◌+ℤ◌, ◌*ℤ◌}
use Rattle.std.specs.List.{AllByRecursion}
use Rattle.std.proofs.lemmas.Bool.{cases_eq, cases_lt}
use Rattle.audit_types.specs.Rows.{has_row}
use Rattle.audit_types.specs.Form.{StandsBefore, pivot}
use Rattle.audit_types.specs.Products.{zero_product}
use Rattle.audit_types.specs.Truth.{number_at}
use Rattle.std.proofs.Math.IntN.{*ℤ-zero}
use Rattle.sum_basis.specs.Ties.{IsRowOf, AreParallel, AreLikeLists, MayTell, IsShortBut, AreParallelBut, ShowsTieBut, HasLikeListBut}
use Rattle.sum_basis.specs.Sparse.{entry_at, rows_of, IsListed, IsKept}
use Rattle.sum_basis.specs.declared.sparse.FreeEntry.{FreeEntry}
use Rattle.sum_basis.specs.declared.sparse.SparseRow.{SparseRow}
use Rattle.sum_basis.proofs.SparseRows.{elsewhere, first_value}
use Rattle.sum_basis.proofs.TiesByForm.{above, lacks}
use Rattle.sum_basis.proofs.TiedRows.{line_of, pivot_is, free_at, short_to, one_more, turned, parallel_from, parallel_to}

-- to tell is mutual
turned_tells : (beside several : List ℕ) (p q : ℕ) → MayTell beside several p q → MayTell beside several q p
turned_tells beside several p q (inl (first, second)) = inr (second, first)
turned_tells beside several p q (inr (first, second)) = inl (second, first)

-- the same of columns that are the same
tells_at : (beside several : List ℕ) (p q x y : ℕ) → p ≡ x → q ≡ y → MayTell beside several p q → MayTell beside several x y
tells_at beside several p q x y first second tells = subst (λ k. MayTell beside several k y) first (subst (λ k. MayTell beside several p k) second tells)

module _ (n : ℕ) (beside several : List ℕ) (r : SparseRow) (kept : IsKept n r) where
  -- with no list the row is 0 but at its pivot
  empty : (es : List FreeEntry) → r.free.items ≡ es → length es ≡ 0 → (j : ℕ) → j ≢ r.pivot → number_at (line_of n r) j ≡ pos 0
  empty [] is few j apart = free_at n r kept j apart ∙ ap (λ l. entry_at l j) is
  empty (e ∷ es) is few j apart = absurd (omega arith)

  -- a row with no list is short if the number at its pivot is guarded, and only then
  pub short_none : has_row beside r.pivot ≡ false → length r.free.items ≡ 0 → IsShortBut beside several (line_of n r)
  short_none out none = by r.free.items refl none
    where
      by : (es : List FreeEntry) → r.free.items ≡ es → length es ≡ 0 → IsShortBut beside several (line_of n r)
      by [] is few = record {
        free = above several;
        tells = inl (ap (has_row beside) (pivot_is n r kept) ∙ out, lacks several (above several) (omega arith));
        some = inl (ap (has_row beside) (pivot_is n r kept) ∙ out);
        zeros = λ j first second. free_at n r kept j (λ e. first (e ∙ sym (pivot_is n r kept))) ∙ ap (λ l. entry_at l j) is;
      }
      by (e ∷ es) is few = absurd (omega arith)

  pub short_alone : IsShortBut beside several (line_of n r) → length r.free.items ≡ 0 → has_row beside r.pivot ≡ false
  short_alone short none = ap (has_row beside) (sym (pivot_is n r kept)) ∙ by short.some
    where
      at_pivot : MayTell beside several (pivot (line_of n r)) short.free → short.free ≡ pivot (line_of n r) → has_row beside (pivot (line_of n r)) ≡ false
      at_pivot (inl (first, second)) e = first
      at_pivot (inr (first, second)) e = ap (has_row beside) (sym e) ∙ second

      by : (has_row beside (pivot (line_of n r)) ≡ false) ⊎ (number_at (line_of n r) short.free ≢ pos 0) → has_row beside (pivot (line_of n r)) ≡ false
      by (inl out) = out
      by (inr some) = elim (cases_eq short.free r.pivot) [
        | inl same ↦ at_pivot short.tells (same ∙ sym (pivot_is n r kept))
        | inr apart ↦ absurd (some (empty r.free.items refl none short.free apart))
      ]

  -- so is one with a list of one entry if the number at the one column may tell that at the other
  pub short_one : length r.free.items ≡ 1 → (e : FreeEntry) → e ≡ slice_index_or r.free.items 0 e → MayTell beside several r.pivot e.place →
      IsShortBut beside several (line_of n r)
  short_one one e at tells = by r.free.items refl one at
    where
      there : (f : FreeEntry) → r.free.items ≡ f ∷ [] → number_at (line_of n r) f.place ≢ pos 0
      there f is none =
          let listed = subst (IsListed (r.pivot + 1) n) is kept.listed.3 in
          listed.2 (sym (first_value (r.pivot + 1) n f [] listed) ∙ ap (λ l. entry_at l f.place) (sym is)
          ∙ sym (free_at n r kept f.place (λ k. absurd (let after = listed.0 in omega arith))) ∙ none)

      by : (es : List FreeEntry) → r.free.items ≡ es → length es ≡ 1 → e ≡ slice_index_or es 0 e → IsShortBut beside several (line_of n r)
      by [] is few at = absurd (omega arith)
      by (f ∷ []) is few at = record {
        free = f.place;
        tells = tells_at beside several r.pivot e.place (pivot (line_of n r)) f.place (sym (pivot_is n r kept)) (ap (λ (g : FreeEntry). g.place) at) tells;
        some = inr (there f is);
        zeros = λ j first second.
            free_at n r kept j (λ same. first (same ∙ sym (pivot_is n r kept))) ∙ ap (λ l. entry_at l j) is
            ∙ ap (λ z. z +ℤ pos 0) (elsewhere f j (λ same. second (sym same)));
      }
      by (f ∷ g ∷ es) is few at = absurd (omega arith)

  -- and a short row is one of these
  pub short_few : IsShortBut beside several (line_of n r) → length r.free.items ≤ 1
  short_few short = short_to n r kept (short.free, short.zeros)

  pub short_tells : IsShortBut beside several (line_of n r) → (e : FreeEntry) → e ≡ slice_index_or r.free.items 0 e → length r.free.items ≡ 1 →
      MayTell beside several r.pivot e.place
  short_tells short e at one = by r.free.items refl one at kept.listed.3
    where
      by : (es : List FreeEntry) → r.free.items ≡ es → length es ≡ 1 → e ≡ slice_index_or es 0 e → IsListed (r.pivot + 1) n es →
          MayTell beside several r.pivot e.place
      by [] is few at listed = absurd (omega arith)
      by (f ∷ []) is few at listed = elim (cases_eq f.place short.free) [
        | inl same ↦ tells_at beside several (pivot (line_of n r)) short.free r.pivot e.place (pivot_is n r kept)
            (sym same ∙ sym (ap (λ (g : FreeEntry). g.place) at)) short.tells
        | inr apart ↦ absurd (listed.2 (sym (first_value (r.pivot + 1) n f [] listed) ∙ ap (λ l. entry_at l f.place) (sym is)
            ∙ sym (free_at n r kept f.place (λ k. absurd (let after = listed.0 in omega arith)))
            ∙ short.zeros f.place (λ k. absurd (let p = pivot_is n r kept in let after = listed.0 in omega arith)) apart))
      ]
      by (f ∷ g ∷ es) is few at listed = absurd (omega arith)

  -- a row of the front part with a like list is parallel
  pub like_parallel : (front : List SparseRow) → AllByRecursion (IsKept n) front → AllByRecursion (λ s. StandsBefore (line_of n s) (line_of n r)) front →
      HasLikeListBut beside several front r → (row : List ℤ) × IsRowOf row (rows_of n front) × AreParallelBut beside several row (line_of n r)
  like_parallel [] all stand h = absurd h
  like_parallel (s ∷ front) all stand (inl (tells, like)) = (
    line_of n s,
    inl refl,
    record {
      tells = tells_at beside several s.pivot r.pivot (pivot (line_of n s)) (pivot (line_of n r)) (sym (pivot_is n s all.0)) (sym (pivot_is n r kept)) tells;
      parallel = parallel_from n r kept s all.0 stand.0 like;
    },
  )
  like_parallel (s ∷ front) all stand (inr rest) = let (row, among, p) = like_parallel front all.1 stand.1 rest in (row, inr among, p)

  -- one that is parallel has one, or one of the two is short
  has_like : (front : List SparseRow) → AllByRecursion (IsKept n) front → AllByRecursion (λ s. StandsBefore (line_of n s) (line_of n r)) front →
      (row : List ℤ) → IsRowOf row (rows_of n front) → MayTell beside several (pivot row) (pivot (line_of n r)) → AreParallel row (line_of n r) →
      HasLikeListBut beside several front r ⊎ (IsShortBut beside several row ⊎ IsShortBut beside several (line_of n r))
  has_like [] all stand row h tells p = absurd h
  has_like (s ∷ front) all stand row (inl is) tells p =
      subst (λ z. HasLikeListBut beside several (s ∷ front) r ⊎ (IsShortBut beside several z ⊎ IsShortBut beside several (line_of n r))) is
      (like_or_short s all.0 stand.0 (subst (λ z. MayTell beside several (pivot z) (pivot (line_of n r))) (sym is) tells)
      (subst (λ z. AreParallel z (line_of n r)) (sym is) p))
    where
      like_or_short : (s : SparseRow) → IsKept n s → StandsBefore (line_of n s) (line_of n r) →
          MayTell beside several (pivot (line_of n s)) (pivot (line_of n r)) → AreParallel (line_of n s) (line_of n r) →
          HasLikeListBut beside several (s ∷ front) r ⊎ (IsShortBut beside several (line_of n s) ⊎ IsShortBut beside several (line_of n r))
      like_or_short s own before tells p = elim (cases_lt 0 (length r.free.items)) [
        | inl more ↦ inl (inl (
          tells_at beside several (pivot (line_of n s)) (pivot (line_of n r)) s.pivot r.pivot (pivot_is n s own) (pivot_is n r kept) tells,
          parallel_to n r kept s own before more p,
        ))
        | inr nothing ↦ elim tells [
          | inl (first, second) ↦ inr (inl (record {
            free = above several;
            tells = inl (first, lacks several (above several) (omega arith));
            some = inl first;
            zeros = λ j apart other. elim (cases_eq j (pivot (line_of n r))) [
              | inl same ↦ ap (number_at (line_of n s)) same ∙ before.1
              | inr differs ↦ zero_product p.x (number_at (line_of n s) j)
                  (p.is j apart differs
                  ∙ ap (λ z. p.y *ℤ z) (empty r.free.items refl (omega (arith, nothing)) j (λ e. differs (e ∙ sym (pivot_is n r kept)))) ∙ *ℤ-zero p.y)
                  p.x_some
            ];
          }))
          | inr (first, second) ↦ inr (inr (short_none (ap (has_row beside) (sym (pivot_is n r kept)) ∙ second) (omega (arith, nothing))))
        ]
      ]
  has_like (s ∷ front) all stand row (inr h) tells p = elim (has_like front all.1 stand.1 row h tells p) [ inl like ↦ inl (inr like) | inr short ↦ inr short ]

  -- if the front part shows no tie, and the row is neither short nor like another, there is none with the row
  pub none_with : (front : List SparseRow) → AllByRecursion (IsKept n) front → AllByRecursion (λ s. StandsBefore (line_of n s) (line_of n r)) front →
      (ShowsTieBut beside several (rows_of n front) → ⊥) → (IsShortBut beside several (line_of n r) → ⊥) →
      (HasLikeListBut beside several front r → ⊥) →
      ShowsTieBut beside several (rows_of n (front ++ r ∷ [])) → ⊥
  none_with front all stand none long unlike (inl (row, among, short)) = elim (one_more n front r row among) [
    | inl before ↦ none (inl (row, before, short))
    | inr last ↦ long (subst (IsShortBut beside several) (sym last) short)
  ]
  none_with front all stand none long unlike (inr (row, other, among, others, p)) = elim (one_more n front r row among) [
    | inl before ↦ elim (one_more n front r other others) [
      | inl too ↦ none (inr (row, other, before, too, p))
      | inr last ↦
          neither row before (has_like front all stand row before
          (subst (λ z. MayTell beside several (pivot row) (pivot z)) (sym last) p.tells) (subst (AreParallel row) (sym last) p.parallel))
    ]
    | inr last ↦ elim (one_more n front r other others) [
      | inl too ↦
          neither other too (has_like front all stand other too
          (subst (λ z. MayTell beside several (pivot other) (pivot z)) (sym last) (turned_tells beside several (pivot row) (pivot other) p.tells))
          (subst (AreParallel other) (sym last) (turned row other p.parallel)))
      | inr both ↦ p.parallel.apart (ap pivot (sym last ∙ both))
    ]
  ]
    where
      neither : (row : List ℤ) → IsRowOf row (rows_of n front) →
          HasLikeListBut beside several front r ⊎ (IsShortBut beside several row ⊎ IsShortBut beside several (line_of n r)) → ⊥
      neither row before (inl like) = unlike like
      neither row before (inr (inl short)) = none (inl (row, before, short))
      neither row before (inr (inr short)) = long short

-- the list at k is like the row's
pub like_there : (beside several : List ℕ) (front : List SparseRow) (row : SparseRow) (k : ℕ) (r : SparseRow) → k < length front →
    r ≡ slice_index_or front k r → MayTell beside several r.pivot row.pivot → AreLikeLists r.free.items row.free.items →
    HasLikeListBut beside several front row
like_there beside several [] row k r h is tells like = absurd (omega arith)
like_there beside several (s ∷ front) row zero r h is tells like =
    inl (subst (λ q. MayTell beside several q.pivot row.pivot) is tells, subst (λ q. AreLikeLists q.free.items row.free.items) is like)
like_there beside several (s ∷ front) row (suc k) r h is tells like = inr (like_there beside several front row k r (omega arith) is tells like)

-- where none was, and the one more isn't, none is
pub none_like : (beside several : List ℕ) (front : List SparseRow) (row r : SparseRow) → (HasLikeListBut beside several front row → ⊥) →
    (MayTell beside several r.pivot row.pivot → AreLikeLists r.free.items row.free.items → ⊥) → HasLikeListBut beside several (front ++ r ∷ []) row → ⊥
none_like beside several [] row r none not (inl (tells, like)) = not tells like
none_like beside several [] row r none not (inr h) = absurd h
none_like beside several (s ∷ front) row r none not (inl like) = none (inl like)
none_like beside several (s ∷ front) row r none not (inr h) = none_like beside several front row r (λ q. none (inr q)) not h
