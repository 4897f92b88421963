-- Two answers to one question that lie alike to every earlier answer leave the same extreme rows.
--
-- The bound of a row with the new answer is either an old bound, the same for both answers, or the new answer itself. An old answer is
-- compared with either in the same way.
use Rattle.std.proofs.Common.{◌≡◌, ℕ, ◌<◌, ℤ, Bool, true, false, cond, List, [], ◌∷◌, ◌++◌, length, refl, sym, ap, ◌∙◌, subst, arith, inl, inr, ◌⊎◌, Option, Some, None}
use Rattle.std.specs.Prelude.{◌<ℤ◌}
use Rattle.std.specs.Int.{int_min}
use Rattle.std.specs.Ordering.{int_eq}
use Rattle.std.specs.List.{AllByRecursion, filter}
use Rattle.std.proofs.lemmas.Int.{ints, clamps}
use Rattle.std.proofs.lemmas.Bool.Decides.{Decides-int_eq, Decides-like, same_from_decides}
use Rattle.audit_types.specs.Rows.{has_row}
use Rattle.audit_types.specs.Column.{Answer, known_max, guarding}
use Rattle.audit_types.specs.Extremes.{least_of, upper_bound, is_bound, extremes}
use Rattle.audit_types.specs.ListLaws.{all-push, all-front}
use Rattle.audit_types.specs.Headcount.{Headcount, AreFew}
use Rattle.max_audit.specs.Laws.{LeavesFewPeople}
use Rattle.max_bounds.specs.AnswerLaws.{all_at, all_from, one_of_front, one_of_last, front_or_last}

-- a number is below both of two numbers, equal to both, or above both
abbrev pub LiesAlike : ℤ → ℤ → ℤ → Type 0
LiesAlike x y v = ((v <ℤ x) × (v <ℤ y)) ⊎ (((v ≡ x) × (v ≡ y)) ⊎ ((x <ℤ v) × (y <ℤ v)))

-- equal where one is equal
equal_alike : (a b c d : ℤ) → (a ≡ b → c ≡ d) → (c ≡ d → a ≡ b) → int_eq a b ≡ int_eq c d
equal_alike a b c d f g = same_from_decides (int_eq a b) (int_eq c d) (Decides-like (int_eq a b) f g (Decides-int_eq a b)) (Decides-int_eq c d)

-- filters by tests that agree
filters_agree : (p q : ℕ → Bool) → ((r : ℕ) → p r ≡ q r) → (rows : List ℕ) → filter p rows ≡ filter q rows
filters_agree p q same [] = refl
filters_agree p q same (r ∷ rows) = let head = same r in let tail = filters_agree p q same rows in rw (head, tail) refl

module _ (x y : ℤ) where
  -- bounds that are one old bound, or each the new answer
  AreAlike : Option ℤ → Option ℤ → Type 0
  AreAlike o p = ((o ≡ p) × ((u : ℤ) → o ≡ Some u → LiesAlike x y u)) ⊎ ((o ≡ Some x) × (p ≡ Some y))

  -- the least of two numbers that lie alike lies alike
  least_lies : (v : ℤ) (o : Option ℤ) → LiesAlike x y v → ((u : ℤ) → o ≡ Some u → LiesAlike x y u) → (u : ℤ) → Some (least_of v o) ≡ Some u → LiesAlike x y u
  least_lies v None here rest u e = let same : v ≡ u = cc in subst (LiesAlike x y) same here
  least_lies v (Some c) here rest u e =
      let same : int_min v c ≡ u = cc in
      subst (LiesAlike x y) same (either here (rest c refl))
    where
      either : LiesAlike x y v → LiesAlike x y c → LiesAlike x y (int_min v c)
      either (inl (a, b)) (inl (d, e)) = inl (omega (arith, ints, clamps), omega (arith, ints, clamps))
      either (inl (a, b)) (inr (inl (d, e))) = inl (omega (arith, ints, clamps), omega (arith, ints, clamps))
      either (inl (a, b)) (inr (inr (d, e))) = inl (omega (arith, ints, clamps), omega (arith, ints, clamps))
      either (inr (inl (a, b))) (inl (d, e)) = inl (omega (arith, ints, clamps), omega (arith, ints, clamps))
      either (inr (inl (a, b))) (inr (inl (d, e))) = inr (inl (omega (arith, ints, clamps), omega (arith, ints, clamps)))
      either (inr (inl (a, b))) (inr (inr (d, e))) = inr (inl (omega (arith, ints, clamps), omega (arith, ints, clamps)))
      either (inr (inr (a, b))) (inl (d, e)) = inl (omega (arith, ints, clamps), omega (arith, ints, clamps))
      either (inr (inr (a, b))) (inr (inl (d, e))) = inr (inl (omega (arith, ints, clamps), omega (arith, ints, clamps)))
      either (inr (inr (a, b))) (inr (inr (d, e))) = inr (inr (omega (arith, ints, clamps), omega (arith, ints, clamps)))

  -- the least of an old answer and the new one
  least_with_new : (v : ℤ) → LiesAlike x y v → AreAlike (Some (int_min v x)) (Some (int_min v y))
  unfolding AreAlike
  least_with_new v (inl (a, b)) =
      let one : int_min v x ≡ v = omega (arith, ints, clamps) in
      let two : int_min v y ≡ v = omega (arith, ints, clamps) in
      inl (ap Some (one ∙ sym two), λ u e. let same : v ≡ u = cc in subst (LiesAlike x y) same (inl (a, b)))
  least_with_new v (inr (inl (a, b))) = inr (ap Some (omega (arith, ints, clamps)), ap Some (omega (arith, ints, clamps)))
  least_with_new v (inr (inr (a, b))) = inr (ap Some (omega (arith, ints, clamps)), ap Some (omega (arith, ints, clamps)))

  -- one old answer more
  alike_step : (has : Bool) (v : ℤ) (o p : Option ℤ) → LiesAlike x y v → AreAlike o p →
      AreAlike (cond has (Some (least_of v o)) o) (cond has (Some (least_of v p)) p)
  unfolding AreAlike
  alike_step false v o p here alike = alike
  alike_step true v o p here (inl (same, lies)) = inl (ap (λ q. Some (least_of v q)) same, least_lies v o here lies)
  alike_step true v o p here (inr (e, f)) = rw (e, f) (least_with_new v here)

  -- an old answer is the bound of both or of neither
  old_test : (o p : Option ℤ) (v : ℤ) → AreAlike o p → LiesAlike x y v → is_bound o v ≡ is_bound p v
  unfolding AreAlike
  old_test o p v (inl (same, lies)) here = ap (λ q. is_bound q v) same
  old_test o p v (inr (e, f)) here = rw (e, f) (go here)
    where
      go : LiesAlike x y v → int_eq x v ≡ int_eq y v
      go (inl (a, b)) = equal_alike x v y v (λ e. omega (arith, ints)) (λ e. omega (arith, ints))
      go (inr (inl (a, b))) = equal_alike x v y v (λ e. omega (arith, ints)) (λ e. omega (arith, ints))
      go (inr (inr (a, b))) = equal_alike x v y v (λ e. omega (arith, ints)) (λ e. omega (arith, ints))

  -- and so is the new one, each of its own
  new_test : (o p : Option ℤ) → AreAlike o p → is_bound o x ≡ is_bound p y
  unfolding AreAlike
  new_test None p (inl (same, lies)) = ap (λ q. is_bound q y) same
  new_test (Some u) p (inl (same, lies)) = go (lies u refl) ∙ ap (λ q. is_bound q y) same
    where
      go : LiesAlike x y u → int_eq u x ≡ int_eq u y
      go (inl (a, b)) = equal_alike u x u y (λ e. omega (arith, ints)) (λ e. omega (arith, ints))
      go (inr (inl (a, b))) = equal_alike u x u y (λ e. omega (arith, ints)) (λ e. omega (arith, ints))
      go (inr (inr (a, b))) = equal_alike u x u y (λ e. omega (arith, ints)) (λ e. omega (arith, ints))
  new_test o p (inr (e, f)) = rw (e, f) (equal_alike x x y y (λ e. refl) (λ e. refl))

  module _ (rows : List ℕ) where
    -- the answers with x to the question, and with y
    abbrev asked_x : Answer
    asked_x = record { rows = rows; value = x }

    abbrev asked_y : Answer
    asked_y = record { rows = rows; value = y }

    alike_bounds : (answers : List Answer) → AllByRecursion (λ a. LiesAlike x y a.value) answers → (r : ℕ) →
        AreAlike (upper_bound (answers ++ asked_x ∷ []) r) (upper_bound (answers ++ asked_y ∷ []) r)
    unfolding AreAlike
    alike_bounds [] all r =
        elim (has_row rows r) as (λ b. AreAlike (cond b (Some x) None) (cond b (Some y) None)) [
          | true ↦ inr (refl, refl)
          | false ↦
              inl (refl, λ u e. absurd cc)
        ]
    alike_bounds (a ∷ answers) all r = alike_step (has_row a.rows r) a.value _ _ all.0 (alike_bounds answers all.1 r)

    module _ (answers : List Answer) (all : AllByRecursion (λ a. LiesAlike x y a.value) answers) where
      -- an old answer has the same extreme rows
      old_extremes : (a : Answer) → LiesAlike x y a.value → extremes (answers ++ asked_x ∷ []) a ≡ extremes (answers ++ asked_y ∷ []) a
      old_extremes a here = filters_agree _ _ (λ r. old_test _ _ a.value (alike_bounds answers all r) here) a.rows

      -- and so has the new one
      new_extremes : extremes (answers ++ asked_x ∷ []) asked_x ≡ extremes (answers ++ asked_y ∷ []) asked_y
      new_extremes = filters_agree _ _ (λ r. new_test _ _ (alike_bounds answers all r)) rows

      -- so what leaves few people with x does so with y
      pub moved : (n : ℕ) (people : Headcount) → LeavesFewPeople (guarding (known_max n answers) people []) rows x →
          LeavesFewPeople (guarding (known_max n answers) people []) rows y
      moved n people leaves =
          let some = all-front (λ a. 0 < length (extremes (answers ++ asked_x ∷ []) a)) answers asked_x leaves.possible in
          record {
            possible = all-push (λ a. 0 < length (extremes (answers ++ asked_y ∷ []) a)) answers asked_y
                (all_from (λ a. 0 < length (extremes (answers ++ asked_y ∷ []) a)) answers (λ a one.
                subst (λ l. 0 < length l) (old_extremes a (all_at (λ b. LiesAlike x y b.value) answers a all one))
                (all_at (λ b. 0 < length (extremes (answers ++ asked_x ∷ []) b)) answers a some.0 one)))
                (subst (λ l. 0 < length l) new_extremes some.1);
            few = elim (front_or_last answers asked_x leaves.few.0 leaves.few.1) [
              | inl one ↦ (
                leaves.few.0,
                one_of_front answers asked_y leaves.few.0 one,
                subst (AreFew people []) (old_extremes leaves.few.0 (all_at (λ b. LiesAlike x y b.value) answers leaves.few.0 all one)) leaves.few.2,
              )
              | inr last ↦ (
                asked_y,
                one_of_last answers asked_y,
                subst (AreFew people []) (ap (extremes (answers ++ asked_x ∷ [])) (sym last) ∙ new_extremes) leaves.few.2,
              )
            ];
          }
