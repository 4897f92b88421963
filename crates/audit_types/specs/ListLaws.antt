-- Facts on what holds of each item of a list.
use Rattle.std.proofs.Common.{◌≡◌, ℕ, zero, suc, ◌<◌, Bool, true, false, cond, List, [], ◌∷◌, ◌++◌, map, length, take, get_or, set, Some, refl, arith}
use Rattle.std.specs.Prelude.{slice_get}
use Rattle.std.specs.List.{AllByRecursion, filter}

module _ {X : Type 0} (P : X → Type 0) where
  -- what holds of the items and of one more holds of all
  pub all-push : (xs : List X) (x : X) → AllByRecursion P xs → P x → AllByRecursion P (xs ++ x ∷ [])
  all-push [] x h p = (p, tt)
  all-push (y ∷ ys) x h p = (h.0, all-push ys x h.1 p)

  -- and back
  pub all-front : (xs : List X) (x : X) → AllByRecursion P (xs ++ x ∷ []) → AllByRecursion P xs × P x
  all-front [] x h = (tt, h.0)
  all-front (y ∷ ys) x h = let rest = all-front ys x h.1 in ((h.0, rest.0), rest.1)

  -- what holds of two lists holds of one after the other
  pub all-append : (xs ys : List X) → AllByRecursion P xs → AllByRecursion P ys → AllByRecursion P (xs ++ ys)
  all-append [] ys h k = k
  all-append (x ∷ xs) ys h k = (h.0, all-append xs ys h.1 k)

  -- what holds of all holds of the first ones
  pub all-take : (k : ℕ) (xs : List X) → AllByRecursion P xs → AllByRecursion P (take k xs)
  all-take zero [] h = tt
  all-take (suc k) [] h = tt
  all-take zero (x ∷ xs) h = tt
  all-take (suc k) (x ∷ xs) h = (h.0, all-take k xs h.1)

  -- and of those that pass a test
  pub all-filter : (test : X → Bool) (xs : List X) → AllByRecursion P xs → AllByRecursion P (filter test xs)
  all-filter test [] h = tt
  all-filter test (x ∷ xs) h = kept (test x) (filter test xs) (all-filter test xs h.1)
    where
      kept : (b : Bool) (rest : List X) → AllByRecursion P rest → AllByRecursion P (cond b (x ∷ rest) rest)
      kept true rest k = (h.0, k)
      kept false rest k = k

  -- what holds of all, and of a new item, holds with the new one in another's place
  pub all-set : (xs : List X) (i : ℕ) (x : X) → AllByRecursion P xs → P x → AllByRecursion P (set xs i x)
  all-set [] i x h p = tt
  all-set (y ∷ xs) zero x h p = (p, h.1)
  all-set (y ∷ xs) (suc i) x h p = (h.0, all-set xs i x h.1 p)

  -- what holds of all holds of the item at each place
  pub all-get_or : (xs : List X) (i : ℕ) (d : X) → AllByRecursion P xs → i < length xs → P (get_or xs i d)
  all-get_or [] i d h within = absurd (omega (arith, within))
  all-get_or (x ∷ xs) zero d h within = h.0
  all-get_or (x ∷ xs) (suc i) d h within = all-get_or xs i d h.1 (omega (arith, within))

  -- and back
  pub all_by_place : (xs : List X) → ((i : ℕ) (x : X) → slice_get xs i ≡ Some x → P x) → AllByRecursion P xs
  all_by_place [] each = tt
  all_by_place (x ∷ xs) each = (each 0 x refl, all_by_place xs (λ i y here. each (suc i) y here))

-- what follows from it for one item follows for all
pub all-weaker : {X : Type 0} (P Q : X → Type 0) → ((x : X) → P x → Q x) → (xs : List X) → AllByRecursion P xs → AllByRecursion Q xs
all-weaker P Q f [] h = tt
all-weaker P Q f (x ∷ xs) h = (f x h.0, all-weaker P Q f xs h.1)

module _ {X Y : Type 0} (f : X → Y) (P : Y → Type 0) where
  -- what holds of the value of each item holds of all values
  pub all-map : (xs : List X) → AllByRecursion (λ x. P (f x)) xs → AllByRecursion P (map f xs)
  all-map [] h = tt
  all-map (x ∷ xs) h = (h.0, all-map xs h.1)

  -- and back
  pub all-unmap : (xs : List X) → AllByRecursion P (map f xs) → AllByRecursion (λ x. P (f x)) xs
  all-unmap [] h = tt
  all-unmap (x ∷ xs) h = (h.0, all-unmap xs h.1)
