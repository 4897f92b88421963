-- Facts on the single rows of a list: the rows whose numbers one asker knows.
use Rattle.std.proofs.Common.{◌≡◌, ℕ, ◌+◌, ℤ, pos, List, [], ◌∷◌, ◌++◌, map, arith}
use Rattle.std.specs.List.{AllByRecursion}
use Rattle.std.proofs.lemmas.Int.{ints}
use Rattle.audit_types.specs.Rows.{AreRows, AscendsFrom}
use Rattle.audit_types.specs.Truth.{number_at, sum_over}
use Rattle.audit_types.specs.Column.{AreSameAt}
use Rattle.sum_audit.specs.Shifts.{moved_by, difference, number_at-moved_by, number_at-difference}

-- the single rows of a list
abbrev pub singles : List ℕ → List (List ℕ)
singles own = map (λ q. q ∷ []) own

pub singles_are : (low n : ℕ) (own : List ℕ) → AscendsFrom low n own → AllByRecursion (AreRows n) (singles own)
singles_are low n [] h = tt
singles_are low n (q ∷ own) h = ((omega arith, h.1, tt), singles_are (q + 1) n own h.2)

-- a list is 0 at some rows exactly if it sums to 0 over each alone
pub zero_alone : (d : List ℤ) (own : List ℕ) → AllByRecursion (λ r. number_at d r ≡ pos 0) own → AllByRecursion (λ s. sum_over d s ≡ pos 0) (singles own)
zero_alone d [] h = tt
zero_alone d (q ∷ own) h = (let here = h.0 in omega (arith, ints), zero_alone d own h.1)

pub alone_zero : (d : List ℤ) (own : List ℕ) → AllByRecursion (λ s. sum_over d s ≡ pos 0) (singles own) → AllByRecursion (λ r. number_at d r ≡ pos 0) own
alone_zero d [] h = tt
alone_zero d (q ∷ own) h = (let here = h.0 in omega (arith, ints), alone_zero d own h.1)

-- a list that is moved along one that is 0 at some rows is the same there
pub same_moved : (d w : List ℤ) (own : List ℕ) → AllByRecursion (λ r. number_at d r ≡ pos 0) own → AreSameAt own w (moved_by d w)
same_moved d w [] h = tt
same_moved d w (q ∷ own) h = (let here = h.0 in let moved = number_at-moved_by d w q in omega (arith, ints), same_moved d w own h.1)

-- and what is between two lists that are the same there is 0 there
pub zero_at_own : (v w : List ℤ) (own : List ℕ) → AreSameAt own w v → AllByRecursion (λ r. number_at (difference v w) r ≡ pos 0) own
zero_at_own v w [] h = tt
zero_at_own v w (q ∷ own) h = (let here = h.0 in let between = number_at-difference v w q in omega (arith, ints), zero_at_own v w own h.1)

-- what holds of all of two lists holds of all of each
pub both_parts : {X : Type 0} (P : X → Type 0) (xs ys : List X) → AllByRecursion P (xs ++ ys) → AllByRecursion P xs × AllByRecursion P ys
both_parts P [] ys h = (tt, h)
both_parts P (x ∷ xs) ys h = let rest = both_parts P xs ys h.1 in ((h.0, rest.0), rest.1)
