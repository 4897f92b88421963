-- Lists that are multiples of one another.
use Rattle.std.proofs.Common.{◌≡◌, ℕ, ◌+◌, ◌<◌, ◌≤◌, ℤ, List, [], ◌∷◌, ◌++◌, length, map, take, get_or, refl, sym, ap, ◌∙◌, subst, arith, inl, inr}
use Rattle.std.proofs.lemmas.Int.{ints}
use Rattle.std.proofs.lemmas.Bool.{cases_order}
use Rattle.std.proofs.lemmas.List.{take_more, map-append, get_or-map, length-map, take_all}
use Rattle.sum_basis.specs.declared.sparse.FreeEntry.{FreeEntry}
use Rattle.sum_basis.specs.Sparse.{entry_at, IsListed, scaled}
use Rattle.sum_basis.proofs.SparseRows.{here, zero_below, first_value}

-- listed entries that have the same at each column are the same
pub same_listed : (from n : ℕ) (xs ys : List FreeEntry) → IsListed from n xs → IsListed from n ys → ((j : ℕ) → entry_at xs j ≡ entry_at ys j) → xs ≡ ys
same_listed from n [] [] h k same = refl
same_listed from n [] (y ∷ ys) h k same = absurd (k.2 (sym (first_value from n y ys k) ∙ sym (same y.place)))
same_listed from n (x ∷ xs) [] h k same = absurd (h.2 (sym (first_value from n x xs h) ∙ same x.place))
same_listed from n (x ∷ xs) (y ∷ ys) h k same = elim (cases_order x.place y.place) [
  | inl equal ↦
      let value : x.value ≡ y.value = sym (first_value from n x xs h) ∙ same x.place ∙ ap (entry_at (y ∷ ys)) equal ∙ first_value from n y ys k in
      let first : x ≡ y = ap (λ p. record { place = p; value = x.value }) equal ∙ ap (λ v. record { place = y.place; value = v }) value in
      let rest = same_listed (x.place + 1) n xs ys h.3 (subst (λ p. IsListed (p + 1) n ys) (sym equal) k.3) (λ j.
      let at = same j in
      let turned = ap (λ e. entry_at (e ∷ ys) j) first in
      omega (arith, ints)) in
      ap (λ e. e ∷ xs) first ∙ ap (λ l. y ∷ l) rest
  | inr other ↦ elim other [
    | inl before ↦ absurd (h.2 (sym (first_value from n x xs h) ∙ same x.place ∙ zero_below y.place n (y ∷ ys) x.place (omega arith, k.1, k.2, k.3) before))
    | inr after ↦ absurd (k.2 (sym (first_value from n y ys k) ∙ sym (same y.place) ∙ zero_below x.place n (x ∷ xs) y.place (omega arith, h.1, h.2, h.3) after))
  ]
]

-- one entry more of two parallel lists
pub one_more_alike : (by times : ℤ) (xs ys : List FreeEntry) (k : ℕ) (d : FreeEntry) → k < length xs → k < length ys
    → map (scaled by) (take k xs) ≡ map (scaled times) (take k ys) → scaled by (get_or xs k d) ≡ scaled times (get_or ys k d)
    → map (scaled by) (take (k + 1) xs) ≡ map (scaled times) (take (k + 1) ys)
one_more_alike by times xs ys k d p q front here =
    ap (map (scaled by)) (take_more xs k d p) ∙ map-append (scaled by) (take k xs) (get_or xs k d ∷ []) ∙ ap (λ l. l ++ scaled by (get_or xs k d) ∷ []) front
    ∙ ap (λ e. map (scaled times) (take k ys) ++ e ∷ []) here ∙ sym (map-append (scaled times) (take k ys) (get_or ys k d ∷ []))
    ∙ sym (ap (map (scaled times)) (take_more ys k d q))

-- entry k of parallel lists
pub alike_at : (by times : ℤ) (xs ys : List FreeEntry) (k : ℕ) (d : FreeEntry) → k < length xs → k < length ys → map (scaled by) xs ≡ map (scaled times) ys →
    scaled by (get_or xs k d) ≡ scaled times (get_or ys k d)
alike_at by times xs ys k d p q same =
    sym (get_or-map (scaled by) xs k d (scaled by d) p) ∙ ap (λ l. get_or l k (scaled by d)) same ∙ get_or-map (scaled times) ys k d (scaled by d) q

-- parallel lists have one length
pub same_length : (by times : ℤ) (xs ys : List FreeEntry) → map (scaled by) xs ≡ map (scaled times) ys → length xs ≡ length ys
same_length by times xs ys same = sym (length-map xs (scaled by)) ∙ ap length same ∙ length-map ys (scaled times)

-- in the end all entries are alike
pub all_alike : (by times : ℤ) (xs ys : List FreeEntry) (k : ℕ) → length xs ≤ k → length ys ≤ k → map (scaled by) (take k xs) ≡ map (scaled times) (take k ys) →
    map (scaled by) xs ≡ map (scaled times) ys
all_alike by times xs ys k p q same = sym (ap (map (scaled by)) (take_all k xs p)) ∙ same ∙ ap (map (scaled times)) (take_all k ys q)
