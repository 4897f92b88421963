-- Sets that lose the rows of a new answer.
use Rattle.std.proofs.Common.{◌≡◌, ℕ, ◌<◌, ℤ, Bool, true, false, cond, List, [], ◌∷◌, ◌++◌, length, map, take, drop, set, get_or, ◌+◌, refl, sym, ap, ◌∙◌}
use Rattle.std.specs.Prelude.{int_lt}
use Rattle.std.proofs.lemmas.List.{map_more, map-append, take_more_set}
use Rattle.audit_types.specs.Rows.{AreRows, intersection, complement}
use Rattle.audit_types.specs.Column.{Answer}
use Rattle.max_bounds.specs.Outside.{outside}
use Rattle.max_bounds.specs.Kept.{lowered_set}
use Rattle.max_bounds.specs.Maxima.{answer_of, answers_of}
use Rattle.max_bounds.specs.declared.answered.AnsweredMax.{AnsweredMax}
use Rattle.max_bounds.specs.RowListLaws.{outside_is}
use Rattle.max_bounds.proofs.FallingCounts.{same_here}

-- tests that are true together are one
pub same_test : (p q : Bool) → (p ≡ true → q ≡ true) → (q ≡ true → p ≡ true) → p ≡ q
same_test true q f g = sym (f refl)
same_test false true f g = g refl
same_test false false f g = refl

-- what a set has in common with the others is what is left of it
pub left_is : (n m : ℕ) (rows set others after : List ℕ) → n ≡ m → AreRows n set → others ≡ complement m rows → after ≡ intersection n set others →
    after ≡ outside rows set
left_is n m rows set others after same are flipped both =
    both ∙ ap (intersection n set) (flipped ∙ ap (λ k. complement k rows) (sym same)) ∙ outside_is n rows set are

-- a set with a higher answer loses them
pub lowered : (n m : ℕ) (answer value : ℤ) (rows set others after : List ℕ) → n ≡ m → AreRows n set → others ≡ complement m rows →
    after ≡ intersection n set others → int_lt answer value ≡ true →
    record { rows = after; value = value } ≡ lowered_set answer rows (record { rows = set; value = value })
lowered n m answer value rows set others after same are flipped both higher =
    let left = left_is n m rows set others after same are flipped both in
    ap (λ l. record { rows = l; value = value }) left
    ∙ ap (λ b. cond b (record { rows = outside rows set; value = value }) (record { rows = set; value = value })) (sym higher)

-- and no other
pub kept : (answer : ℤ) (rows : List ℕ) (a : Answer) → int_lt answer a.value ≡ false → a ≡ lowered_set answer rows a
kept answer rows a higher = ap (λ b. cond b (record { rows = outside rows a.rows; value = a.value }) a) (sym higher)

module _ (answer : ℤ) (rows : List ℕ) (old least : List AnsweredMax) (i : ℕ) (x y : AnsweredMax) (within : i < length least) (was : i < length old)
    (here : drop i least ≡ drop i old)
    (is : x ≡ get_or least i x) (lowers : answer_of y ≡ lowered_set answer rows (answer_of x)) where
  -- the sets so far, with one more
  pub lowered_more : answers_of (take i least) ≡ map (lowered_set answer rows) (answers_of (take i old)) →
      answers_of (take (i + 1) (set least i y)) ≡ map (lowered_set answer rows) (answers_of (take (i + 1) old))
  lowered_more so_far =
      let f = lowered_set answer rows in
      let one : get_or old i x ≡ x = sym (same_here least old i x within was here) ∙ sym is in
      ap answers_of (take_more_set least i y within) ∙ map-append answer_of (take i least) (y ∷ [])
      ∙ ap (λ l. l ++ answer_of y ∷ []) so_far ∙ ap (λ a. map f (answers_of (take i old)) ++ a ∷ []) lowers
      ∙ sym (map-append f (answers_of (take i old)) (answer_of x ∷ []))
      ∙ ap (map f) (sym (map_more answer_of old i x was ∙ ap (λ z. answers_of (take i old) ++ answer_of z ∷ []) one))
