-- Counts of extreme rows that fall.
use Rattle.std.proofs.Common.{◌≡◌, ℕ, ◌+◌, ◌<◌, ◌≤◌, List, [], ◌∷◌, ◌++◌, length, map, refl, sym, ap, ◌∙◌, arith, get_or, set, take, drop, min, suc, add-one, drop-cons, subst}
use Rattle.std.proofs.lemmas.List.{map_more, map-append, take_more_set, drop-set-lt, get_or-map}
use Rattle.audit_types.specs.Column.{Answer}
use Rattle.max_bounds.specs.declared.answered.AnsweredMax.{AnsweredMax}
use Rattle.max_bounds.specs.Maxima.{answer_of, answers_of}
use Rattle.max_bounds.specs.Kept.{fewest_of}

-- the least count with one more after the others
pub fewest_of-push : (counts : List ℕ) (c : ℕ) → c ≤ 65535 → fewest_of (counts ++ c ∷ []) ≡ min (fewest_of counts) c
fewest_of-push [] c low = omega arith
fewest_of-push (d ∷ counts) c low = let rest = fewest_of-push counts c low in omega arith

module _ {X : Type 0} where
  -- lists that end alike from here on have one element here, and end alike after it
  pub same_here : (xs ys : List X) (i : ℕ) (d : X) → i < length xs → i < length ys → drop i xs ≡ drop i ys → get_or xs i d ≡ get_or ys i d
  same_here xs ys i d one other same =
      let first : (get_or xs i d ∷ drop (suc i) xs) ≡ (get_or ys i d ∷ drop (suc i) ys) = sym (drop-cons xs i d one) ∙ same ∙ drop-cons ys i d other in cc

  pub same_after : (xs ys : List X) (i : ℕ) (d : X) → i < length xs → i < length ys → drop i xs ≡ drop i ys → drop (i + 1) xs ≡ drop (i + 1) ys
  same_after xs ys i d one other same =
      let first : (get_or xs i d ∷ drop (suc i) xs) ≡ (get_or ys i d ∷ drop (suc i) ys) = sym (drop-cons xs i d one) ∙ same ∙ drop-cons ys i d other in
      let rest : drop (suc i) xs ≡ drop (suc i) ys = cc in
      ap (λ k. drop k xs) (add-one i) ∙ rest ∙ ap (λ k. drop k ys) (sym (add-one i))

  -- so they do if the element here is changed
  pub set_after : (xs ys : List X) (i : ℕ) (d y : X) → i < length xs → i < length ys → drop i xs ≡ drop i ys → drop (i + 1) (set xs i y) ≡ drop (i + 1) ys
  set_after xs ys i d y one other same = drop-set-lt (i + 1) xs i y (omega arith) ∙ same_after xs ys i d one other same

-- a list of values of answers has one for each pair
pub lengths_same : (f : Answer → ℕ) (pairs : List AnsweredMax) → length (map f (answers_of pairs)) ≡ length pairs
lengths_same f [] = refl
lengths_same f (y ∷ pairs) = ap suc (lengths_same f pairs)

module _ (pairs : List AnsweredMax) (k : ℕ) (x : AnsweredMax) (within : k < length pairs) (is : x ≡ get_or pairs k x) where
  -- a value of each answer, at this place
  pub value_here : (f : Answer → ℕ) → get_or (map f (answers_of pairs)) k 0 ≡ f (answer_of x)
  value_here f =
      get_or-map f (answers_of pairs) k (answer_of x) 0 (subst (λ n. k < n) (sym (long pairs)) within)
      ∙ ap f (get_or-map answer_of pairs k x (answer_of x) within ∙ ap answer_of (sym is))
    where
      long : (xs : List AnsweredMax) → length (answers_of xs) ≡ length xs
      long [] = refl
      long (y ∷ xs) = ap suc (long xs)

  -- the values of the answers so far, with one more
  pub value_more : (g : Answer → ℕ) (counts : List ℕ) (v : ℕ) → k < length counts → take k counts ≡ map g (answers_of (take k pairs)) → v ≡ g (answer_of x) →
      take (k + 1) (set counts k v) ≡ map g (answers_of (take (k + 1) pairs))
  value_more g counts v room so_far here =
      take_more_set counts k v room ∙ ap (λ l. l ++ v ∷ []) so_far ∙ ap (λ w. map g (answers_of (take k pairs)) ++ w ∷ []) here
      ∙ sym (map-append g (answers_of (take k pairs)) (answer_of x ∷ []))
      ∙ ap (map g) (sym (map_more answer_of pairs k x within ∙ ap (λ y. answers_of (take k pairs) ++ answer_of y ∷ []) (sym is)))
