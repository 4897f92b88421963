-- Records that get their rows one after another.
use Rattle.std.proofs.Common.{◌≡◌, ℕ, zero, suc, ◌+◌, ◌<◌, List, [], ◌∷◌, ◌++◌, length, get_or, set, take, drop, refl, sym, ap, ◌∙◌, arith, add-one}
use Rattle.audit_types.specs.declared.records.Answered.{Answered}
use Rattle.audit_types.specs.Widening.{wider, widened}

take-none : (xs : List Answered) → take 0 xs ≡ []
take-none [] = refl
take-none (x ∷ xs) = refl

drop-none : (xs : List Answered) → drop 0 xs ≡ xs
drop-none [] = refl
drop-none (x ∷ xs) = refl

module _ (n : ℕ) where
  -- the first records over n rows, and the others as they were
  abbrev pub partly : ℕ → List Answered → List Answered
  partly i list = widened n (take i list) ++ drop i list

  pub none_yet : (list : List Answered) → list ≡ partly 0 list
  none_yet list = sym (ap (λ l. widened n l ++ drop 0 list) (take-none list) ∙ drop-none list)

  -- the next one is as it was
  pub next_is : (i : ℕ) (list : List Answered) (d : Answered) → i < length list → get_or (partly i list) i d ≡ get_or list i d
  next_is i [] d lt = absurd (omega (arith, lt))
  next_is zero (x ∷ list) d lt = refl
  next_is (suc i) (x ∷ list) d lt = next_is i list d (omega (arith, lt))

  step : (i : ℕ) (list : List Answered) (d : Answered) → i < length list → set (partly i list) i (wider n (get_or list i d)) ≡ partly (suc i) list
  step i [] d lt = absurd (omega (arith, lt))
  step zero (x ∷ list) d lt = ap (λ l. wider n x ∷ l) (none_yet list)
  step (suc i) (x ∷ list) d lt = ap (λ l. wider n x ∷ l) (step i list d (omega (arith, lt)))

  -- and then it is over n rows too
  pub one_more : (i : ℕ) (list now : List Answered) (d : Answered) → i < length list → now ≡ partly i list → set now i (wider n (get_or now i d))
      ≡ partly (i + 1) list
  one_more i list now d lt is =
      ap (λ l. set l i (wider n (get_or l i d))) is ∙ ap (λ r. set (partly i list) i (wider n r)) (next_is i list d lt) ∙ step i list d lt
      ∙ ap (λ k. partly k list) (sym (add-one i))
