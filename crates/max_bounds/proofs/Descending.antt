-- Sets with descending answers, as a new one goes among them.
use Rattle.std.proofs.Common.{◌≡◌, ℕ, ◌<◌, ◌≤◌, zero, suc, ℤ, true, false, cond, not, List, [], ◌∷◌, ◌++◌, length, map, take, drop, get_or, refl, sym, ap, ◌∙◌, subst, inl, inr, ◌⊎◌, arith}
use Rattle.std.specs.Prelude.{◌≤ℤ◌, ◌<ℤ◌, int_lt}
use Rattle.std.specs.List.{AllByRecursion}
use Rattle.std.proofs.Math.Seq.{split_at}
use Rattle.std.specs.List.Sorted.{IsPartitionPoint, IsPartitionedBy}
use Rattle.std.proofs.lemmas.Int.{ints}
use Rattle.std.proofs.lemmas.Bool.{not-true, not-false}
use Rattle.std.proofs.lemmas.List.{map-append}
use Rattle.audit_types.specs.Column.{Answer, IsOneOf}
use Rattle.audit_types.specs.ListLaws.{all-weaker}
use Rattle.max_bounds.specs.Outside.{outside}
use Rattle.max_bounds.specs.Maxima.{answer_of, answers_of}
use Rattle.max_bounds.specs.Kept.{lowered_set, Descend, IsPlaceOf, IsEndOf}
use Rattle.max_bounds.specs.declared.answered.AnsweredMax.{AnsweredMax}
use Rattle.audit_types.specs.RowSets.{no_rows}
use Rattle.std.proofs.lemmas.List.{length-map}
use Rattle.max_bounds.proofs.HighRows.{all_inserted}

-- the answers after one are not above it
pub descends_after : (seen : List Answer) (x : Answer) (rest : List Answer) → Descend (seen ++ x ∷ rest) → AllByRecursion (λ b. b.value ≤ℤ x.value) rest
descends_after [] x rest h = h.0
descends_after (y ∷ seen) x rest h = descends_after seen x rest h.1

-- sets, cut around one of them
pub answers_split : (least : List AnsweredMax) (i : ℕ) (x : AnsweredMax) → i < length least → x ≡ get_or least i x →
    answers_of least ≡ answers_of (take i least) ++ answer_of x ∷ answers_of (drop (suc i) least)
answers_split least i x within is =
    ap answers_of (split_at least i x within) ∙ map-append answer_of (take i least) _
    ∙ ap (λ z. answers_of (take i least) ++ answer_of z ∷ answers_of (drop (suc i) least)) (sym is)

-- a set whose answer is not above a number
low_at : (sets : List AnsweredMax) (j : ℕ) (d : AnsweredMax) (x : ℤ) → AllByRecursion (λ b. b.value ≤ℤ x) (answers_of sets) → j < length sets →
    (get_or sets j d).answer ≤ℤ x
low_at [] j d x h within = absurd (omega (arith, within))
low_at (y ∷ sets) zero d x h within = h.0
low_at (y ∷ sets) (suc j) d x h within = low_at sets j d x h.1 (omega (arith, within))

-- a later set's answer is not above an earlier one's
later_is_low : (sets : List AnsweredMax) (i j : ℕ) (d : AnsweredMax) → Descend (answers_of sets) → i ≤ j → j < length sets →
    (get_or sets j d).answer ≤ℤ (get_or sets i d).answer
later_is_low [] i j d h order within = absurd (omega (arith, within))
later_is_low (y ∷ sets) zero zero d h order within = omega (arith, ints)
later_is_low (y ∷ sets) zero (suc j) d h order within = low_at sets j d y.answer h.0 (omega (arith, within))
later_is_low (y ∷ sets) (suc i) zero d h order within = absurd (omega (arith, order))
later_is_low (y ∷ sets) (suc i) (suc j) d h order within = later_is_low sets i j d h.1 (omega (arith, order)) (omega (arith, within))

-- so those above a number come first
pub above_come_first : (sets : List AnsweredMax) (x : ℤ) → Descend (answers_of sets) → IsPartitionedBy (λ s. int_lt x s.answer) sets
above_come_first sets x h i j d order within above =
    let low = later_is_low sets i j d h order within in int_lt_above x (get_or sets j d).answer (get_or sets i d).answer above low
  where
    int_lt_above : (x a b : ℤ) → int_lt x a ≡ true → a ≤ℤ b → int_lt x b ≡ true
    int_lt_above x a b above low = elim (int_lt x b) as (λ t. int_lt x b ≡ t → t ≡ true) [ true ↦ λ is. refl | false ↦ λ is. absurd (omega (arith, ints)) ] refl

-- and a number's place is after them
pub place_after : (sets : List AnsweredMax) (x : ℤ) (i : ℕ) → IsPartitionPoint (λ s. int_lt x s.answer ≡ true) (λ s. int_lt x s.answer ≡ false) sets i →
    IsPlaceOf x sets i
place_after sets x i point =
    record { front = before sets i (λ k d first. point.0 k d (omega arith) first); rest = after sets i (λ k d late within. point.1 k d late within) }
  where
    before : (sets : List AnsweredMax) (i : ℕ) → ((k : ℕ) (d : AnsweredMax) → k < i → int_lt x (get_or sets k d).answer ≡ true) →
        AllByRecursion (λ b. x <ℤ b.value) (answers_of (take i sets))
    before [] zero above = tt
    before [] (suc i) above = tt
    before (y ∷ sets) zero above = tt
    before (y ∷ sets) (suc i) above =
        (let here = above 0 y (omega arith) in omega (arith, ints, here), before sets i (λ k d first. above (suc k) d (omega (arith, first))))

    after : (sets : List AnsweredMax) (i : ℕ) → ((k : ℕ) (d : AnsweredMax) → i ≤ k → k < length sets → int_lt x (get_or sets k d).answer ≡ false) →
        AllByRecursion (λ b. b.value ≤ℤ x) (answers_of (drop i sets))
    after [] zero low = tt
    after [] (suc i) low = tt
    after (y ∷ sets) zero low = (
      let here = low 0 y (omega arith) (omega arith) in omega (arith, ints, here),
      after sets zero (λ k d late within. low (suc k) d (omega arith) (omega (arith, within))),
    )
    after (y ∷ sets) (suc i) low = after sets i (λ k d late within. low (suc k) d (omega (arith, late)) (omega (arith, within)))

-- those that aren't below a number come first too
pub low_come_last : (sets : List AnsweredMax) (x : ℤ) → Descend (answers_of sets) → IsPartitionedBy (λ s. not (int_lt s.answer x)) sets
low_come_last sets x h i j d order within high =
    let low = later_is_low sets i j d h order within in not_below x (get_or sets j d).answer (get_or sets i d).answer high low
  where
    not_below : (x a b : ℤ) → not (int_lt a x) ≡ true → a ≤ℤ b → not (int_lt b x) ≡ true
    not_below x a b high low = elim (int_lt b x) as (λ t. int_lt b x ≡ t → not t ≡ true) [
      | true ↦ λ is. absurd (let late = not-true (int_lt a x) high in omega (arith, ints, is, low, late))
      | false ↦ λ is. refl
    ] refl

-- and those below it begin after them
pub end_before : (sets : List AnsweredMax) (x : ℤ) (i : ℕ) →
    IsPartitionPoint (λ s. not (int_lt s.answer x) ≡ true) (λ s. not (int_lt s.answer x) ≡ false) sets i → IsEndOf x sets i
end_before sets x i point =
    record { front = before sets i (λ k d first. point.0 k d (omega arith) first); rest = after sets i (λ k d late within. point.1 k d late within) }
  where
    before : (sets : List AnsweredMax) (i : ℕ) → ((k : ℕ) (d : AnsweredMax) → k < i → not (int_lt (get_or sets k d).answer x) ≡ true) →
        AllByRecursion (λ b. x ≤ℤ b.value) (answers_of (take i sets))
    before [] zero above = tt
    before [] (suc i) above = tt
    before (y ∷ sets) zero above = tt
    before (y ∷ sets) (suc i) above = (
      let here = not-true (int_lt y.answer x) (above 0 y (omega arith)) in omega (arith, ints, here),
      before sets i (λ k d first. above (suc k) d (omega (arith, first))),
    )

    after : (sets : List AnsweredMax) (i : ℕ) → ((k : ℕ) (d : AnsweredMax) → i ≤ k → k < length sets → not (int_lt (get_or sets k d).answer x) ≡ false) →
        AllByRecursion (λ b. b.value <ℤ x) (answers_of (drop i sets))
    after [] zero low = tt
    after [] (suc i) low = tt
    after (y ∷ sets) zero low = (
      (let here = low 0 y (omega arith) (omega arith) in let less = not-false (int_lt y.answer x) here in omega (arith, ints, less)),
      after sets zero (λ k d late within. low (suc k) d (omega arith) (omega (arith, within))),
    )
    after (y ∷ sets) (suc i) low = after sets i (λ k d late within. low (suc k) d (omega (arith, late)) (omega (arith, within)))

-- the answers of sets, as a list
abbrev values : List AnsweredMax → List ℤ
values sets = map (λ (s : AnsweredMax). s.answer) sets

-- at each place the answer of the set there
at_values : (sets : List AnsweredMax) (k : ℕ) (d : AnsweredMax) → get_or (values sets) k d.answer ≡ (get_or sets k d).answer
at_values [] k d = refl
at_values (y ∷ sets) zero d = refl
at_values (y ∷ sets) (suc k) d = at_values sets k d

-- a set of an answer, which stands for one past the last
abbrev set_of : ℤ → AnsweredMax
set_of x = record { answer = x; rows = no_rows }

-- those above a number come first among them
pub values_above_first : (sets : List AnsweredMax) (x : ℤ) → Descend (answers_of sets) → IsPartitionedBy (λ v. int_lt x v) (values sets)
values_above_first sets x h i j d order within above =
    subst (λ v. int_lt x v ≡ true) (sym (at_values sets i (set_of d)))
    (above_come_first sets x h i j (set_of d) order (omega (arith, within, length-map sets (λ (s : AnsweredMax). s.answer)))
    (subst (λ v. int_lt x v ≡ true) (at_values sets j (set_of d)) above))

-- and so do those that aren't below it
pub values_low_last : (sets : List AnsweredMax) (x : ℤ) → Descend (answers_of sets) → IsPartitionedBy (λ v. not (int_lt v x)) (values sets)
values_low_last sets x h i j d order within high =
    subst (λ v. not (int_lt v x) ≡ true) (sym (at_values sets i (set_of d)))
    (low_come_last sets x h i j (set_of d) order (omega (arith, within, length-map sets (λ (s : AnsweredMax). s.answer)))
    (subst (λ v. not (int_lt v x) ≡ true) (at_values sets j (set_of d)) high))

-- a place among them is one among the sets
pub place_of_values : (sets : List AnsweredMax) (x : ℤ) (i : ℕ) → IsPartitionPoint (λ v. int_lt x v ≡ true) (λ v. int_lt x v ≡ false) (values sets) i →
    IsPlaceOf x sets i
place_of_values sets x i point = place_after sets x i (
  (λ k d from first. subst (λ v. int_lt x v ≡ true) (at_values sets k d) (point.0 k d.answer from first)),
  (λ k d late within. subst (λ v. int_lt x v ≡ false) (at_values sets k d)
      (point.1 k d.answer late (omega (arith, within, length-map sets (λ (s : AnsweredMax). s.answer))))),
)

-- and so is an end
pub end_of_values : (sets : List AnsweredMax) (x : ℤ) (i : ℕ) → IsPartitionPoint (λ v. not (int_lt v x) ≡ true) (λ v. not (int_lt v x) ≡ false)
    (values sets) i →
    IsEndOf x sets i
end_of_values sets x i point = end_before sets x i (
  (λ k d from first. subst (λ v. not (int_lt v x) ≡ true) (at_values sets k d) (point.0 k d.answer from first)),
  (λ k d late within. subst (λ v. not (int_lt v x) ≡ false) (at_values sets k d)
      (point.1 k d.answer late (omega (arith, within, length-map sets (λ (s : AnsweredMax). s.answer))))),
)

-- a lowered set keeps its answer
value_kept : (x : ℤ) (rows : List ℕ) (a : Answer) → (lowered_set x rows a).value ≡ a.value
value_kept x rows a =
    elim (int_lt x a.value) as (λ b. (cond b (record { rows = outside rows a.rows; value = a.value }) a).value ≡ a.value) [ true ↦ refl | false ↦ refl ]

-- so lowered sets descend as before
pub lowered_descend : (x : ℤ) (rows : List ℕ) (sets : List Answer) → Descend sets → Descend (map (lowered_set x rows) sets)
lowered_descend x rows [] h = tt
lowered_descend x rows (a ∷ sets) h = (still sets h.0, lowered_descend x rows sets h.1)
  where
    still : (l : List Answer) → AllByRecursion (λ b. b.value ≤ℤ a.value) l →
        AllByRecursion (λ b. b.value ≤ℤ (lowered_set x rows a).value) (map (lowered_set x rows) l)
    still [] low = tt
    still (b ∷ l) low = (
      subst (λ v. (lowered_set x rows b).value ≤ℤ v) (sym (value_kept x rows a)) (subst (λ v. v ≤ℤ a.value) (sym (value_kept x rows b)) low.0),
      still l low.1,
    )

-- one more among sets
pub answers_inserted : (least : List AnsweredMax) (i : ℕ) (y : AnsweredMax) →
    answers_of (take i least ++ y ∷ drop i least) ≡ take i (answers_of least) ++ answer_of y ∷ drop i (answers_of least)
answers_inserted [] zero y = refl
answers_inserted [] (suc i) y = refl
answers_inserted (z ∷ least) zero y = refl
answers_inserted (z ∷ least) (suc i) y = ap (λ l. answer_of z ∷ l) (answers_inserted least i y)

-- at its place it leaves them descending
pub inserted_descend : (least : List AnsweredMax) (place : ℕ) (y : AnsweredMax) → Descend (answers_of least) → IsEndOf y.answer least place →
    Descend (answers_of (take place least ++ y ∷ drop place least))
inserted_descend [] zero y h at = (tt, tt)
inserted_descend [] (suc i) y h at = (tt, tt)
inserted_descend (z ∷ least) zero y h at =
    (all-weaker (λ b. b.value <ℤ y.answer) (λ b. b.value ≤ℤ y.answer) (λ b less. omega (arith, ints)) (answers_of (z ∷ least)) at.rest, h)
inserted_descend (z ∷ least) (suc i) y h at = (
  subst (AllByRecursion (λ b. b.value ≤ℤ z.answer)) (sym (answers_inserted least i y))
      (all_inserted (λ b. b.value ≤ℤ z.answer) (answers_of least) i (answer_of y) h.0 (let above = at.front.0 in omega (arith, ints))),
  inserted_descend least i y h.1 (record { front = at.front.1; rest = at.rest }),
)

-- it is one of them then
pub inserted_is : (sets : List Answer) (i : ℕ) (x : Answer) → IsOneOf x (take i sets ++ x ∷ drop i sets)
inserted_is [] zero x = inl refl
inserted_is [] (suc i) x = inl refl
inserted_is (y ∷ sets) zero x = inl refl
inserted_is (y ∷ sets) (suc i) x = inr (inserted_is sets i x)

-- as the others are
pub inserted_has : (sets : List Answer) (i : ℕ) (x e : Answer) → IsOneOf e sets → IsOneOf e (take i sets ++ x ∷ drop i sets)
inserted_has [] i x e one = absurd one
inserted_has (y ∷ sets) zero x e one = inr one
inserted_has (y ∷ sets) (suc i) x e (inl same) = inl same
inserted_has (y ∷ sets) (suc i) x e (inr later) = inr (inserted_has sets i x e later)

-- and no more are
pub one_of_inserted : (sets : List Answer) (i : ℕ) (x e : Answer) → IsOneOf e (take i sets ++ x ∷ drop i sets) → IsOneOf e sets ⊎ (x ≡ e)
one_of_inserted [] zero x e (inl same) = inr same
one_of_inserted [] zero x e (inr later) = absurd later
one_of_inserted [] (suc i) x e (inl same) = inr same
one_of_inserted [] (suc i) x e (inr later) = absurd later
one_of_inserted (y ∷ sets) zero x e (inl same) = inr same
one_of_inserted (y ∷ sets) zero x e (inr later) = inl later
one_of_inserted (y ∷ sets) (suc i) x e (inl same) = inl (inl same)
one_of_inserted (y ∷ sets) (suc i) x e (inr later) = elim (one_of_inserted sets i x e later) [ inl one ↦ inl (inr one) | inr same ↦ inr same ]
