-- Another one of several people behind a row makes up for a change of one's number.
use Rattle.std.proofs.Common.{◌≡◌, ◌≢◌, ℕ, zero, suc, ◌<◌, ℤ, pos, List, [], ◌∷◌, length, sym, ap, ◌∙◌, arith, inl, inr}
use Rattle.std.specs.Prelude.{◌+ℤ◌, ◌-ℤ◌, ◌≤ℤ◌, slice_set}
use Rattle.std.specs.List.{fold}
use Rattle.std.specs.Int.{int_max}
use Rattle.std.proofs.lemmas.Bool.{cases_eq}
use Rattle.std.proofs.lemmas.Int.{ints, int_max_is}
use Rattle.std.proofs.lemmas.List.{get_or-set_same, get_or-set_other, length-set}
use Rattle.audit_types.specs.declared.shapes.Kind.TheVariants.{Sum, Max}
use Rattle.audit_types.specs.Truth.{number_at}
use Rattle.audit_types.specs.People.{told}
use Rattle.audit_types.specs.PeopleLaws.{AnotherMakesUp}

-- with another number at a place the sum is as much more as that number is
sum_with : (numbers : List ℤ) (place : ℕ) (number : ℤ) → place < length numbers →
    told Sum (slice_set numbers place number) +ℤ number_at numbers place ≡ told Sum numbers +ℤ number
sum_with [] place number below = absurd (omega arith)
sum_with (x ∷ numbers) zero number below = omega (arith, ints)
sum_with (x ∷ numbers) (suc place) number below = let rest = sum_with numbers place number (omega arith) in omega (arith, ints)

-- each of some numbers is at most so much
abbrev AreAtMost : ℤ → List ℤ → Type 0
AreAtMost most numbers = (place : ℕ) → place < length numbers → number_at numbers place ≤ℤ most

fold_at_most : (most a : ℤ) (numbers : List ℤ) → a ≤ℤ most → AreAtMost most numbers → fold int_max a numbers ≤ℤ most
fold_at_most most a [] le all = le
fold_at_most most a (x ∷ numbers) le all =
    let first : x ≤ℤ most = all 0 (omega arith) in
    fold_at_most most (int_max a x) numbers (omega (arith, ints, int_max_is a x, le, first)) (λ place below. all (suc place) (omega (arith, below)))

from_start : (a : ℤ) (numbers : List ℤ) → a ≤ℤ fold int_max a numbers
from_start a [] = omega (arith, ints)
from_start a (x ∷ numbers) = let rest = from_start (int_max a x) numbers in omega (arith, ints, int_max_is a x)

each_at_most : (a : ℤ) (numbers : List ℤ) → AreAtMost (fold int_max a numbers) numbers
each_at_most a [] place below = absurd (omega arith)
each_at_most a (x ∷ numbers) zero below = let rest = from_start (int_max a x) numbers in omega (arith, ints, int_max_is a x)
each_at_most a (x ∷ numbers) (suc place) below = each_at_most (int_max a x) numbers place (omega (arith, below))

-- no number is above the greatest
at_most_greatest : (numbers : List ℤ) → AreAtMost (told Max numbers) numbers
at_most_greatest [] place below = absurd (omega arith)
at_most_greatest (x ∷ numbers) zero below = from_start x numbers
at_most_greatest (x ∷ numbers) (suc place) below = each_at_most x numbers place (omega (arith, below))

-- the greatest is what one has and none is above
told_is : (numbers : List ℤ) (most : ℤ) (place : ℕ) → place < length numbers → number_at numbers place ≡ most →
    AreAtMost most numbers → told Max numbers ≡ most
told_is [] most place below has all = absurd (omega arith)
told_is (x ∷ numbers) most place below has all =
    let low = fold_at_most most x numbers (all 0 (omega arith)) (λ k within. all (suc k) (omega (arith, within))) in
    let high = at_most_greatest (x ∷ numbers) place below in
    omega (arith, ints, low, high, has)

module _ (numbers : List ℤ) (person another : ℕ) (two : person ≢ another) (one_below : person < length numbers) (other_below : another < length numbers) where
  makes_up : (amount : ℤ) →
      told Sum (slice_set (slice_set numbers person (number_at numbers person +ℤ amount)) another (number_at numbers another -ℤ amount)) ≡ told Sum numbers
  makes_up amount =
      let more = slice_set numbers person (number_at numbers person +ℤ amount) in
      let first = sum_with numbers person (number_at numbers person +ℤ amount) one_below in
      let same : number_at more another ≡ number_at numbers another =
      get_or-set_other numbers person another (number_at numbers person +ℤ amount) (pos 0) (λ e. two (sym e)) in
      let second = sum_with more another (number_at numbers another -ℤ amount)
      (omega (arith, other_below, length-set numbers person (number_at numbers person +ℤ amount))) in
      omega (arith, ints, first, same, second)

  stays_greatest : (number : ℤ) → number_at numbers another ≡ told Max numbers → number ≤ℤ told Max numbers →
      told Max (slice_set numbers person number) ≡ told Max numbers
  stays_greatest number has low =
      told_is (slice_set numbers person number) (told Max numbers) another (omega (arith, other_below, long))
      (get_or-set_other numbers person another number (pos 0) (λ e. two (sym e)) ∙ has) below
    where
      long : length (slice_set numbers person number) ≡ length numbers
      long = length-set numbers person number

      below : AreAtMost (told Max numbers) (slice_set numbers person number)
      below place within = elim (cases_eq place person) [
        | inl here ↦ let new = ap (number_at (slice_set numbers person number)) here ∙ get_or-set_same numbers person number (pos 0) one_below in
            omega (arith, ints, new, low)
        | inr there ↦ let old = get_or-set_other numbers person place number (pos 0) there in
            let most = at_most_greatest numbers place (omega (arith, within, long)) in
            omega (arith, ints, old, most)
      ]

pub another_makes_up : AnotherMakesUp
another_makes_up = record {
  sums = λ numbers person another amount two one other. makes_up numbers person another two one other amount;
  maxima = λ numbers person another number two one other has low. stays_greatest numbers person another two one other number has low;
}
