-- Every number lies, to the earlier answers, like some candidate.
--
-- A number that is an earlier answer is one itself. Otherwise take the greatest earlier answer below it, and the number above that; if
-- no earlier answer is below it, take the least of all, and the number below that.
use Rattle.std.proofs.Common.{◌≡◌, ℤ, pos, List, [], ◌∷◌, refl, arith, inl, inr, ◌⊎◌}
use Rattle.std.specs.Prelude.{◌≤ℤ◌, ◌<ℤ◌, ◌+ℤ◌, ◌-ℤ◌}
use Rattle.std.specs.List.{AllByRecursion}
use Rattle.std.proofs.lemmas.Int.{ints, by_lt_z}
use Rattle.audit_types.specs.Column.{Answer, IsOneOf}
use Rattle.audit_types.specs.Extremes.{IsCandidate}
use Rattle.audit_types.specs.Extremes.IsCandidate.{first, equal, above, below}
use Rattle.max_bounds.specs.AnswerLaws.{all_at, all_from}
use Rattle.max_audit.proofs.AnswersInOneGap.{LiesAlike}

-- a number is below another, equal or above
sides : (x a : ℤ) → (x <ℤ a) ⊎ ((x ≡ a) ⊎ (a <ℤ x))
sides x a = by_lt_z x a (λ less. inl less) (λ rest. by_lt_z a x (λ more. inr (inr more)) (λ not. inr (inl (omega (arith, ints)))))

-- where a number stands among the answers
data Place (answers : List Answer) (a : ℤ) : Type 0 where
  -- it is an answer
  answered : (b : Answer) → IsOneOf b answers → b.value ≡ a → Place answers a
  -- this answer is below it, and no other answer lies between
  behind : (b : Answer) → IsOneOf b answers → b.value <ℤ a → AllByRecursion (λ c. (c.value ≤ℤ b.value) ⊎ (a <ℤ c.value)) answers → Place answers a
  -- all answers are above it
  before_all : AllByRecursion (λ c. a <ℤ c.value) answers → Place answers a

-- one answer more, below the number
with_lower : (x : Answer) (answers : List Answer) (a : ℤ) → x.value <ℤ a → Place answers a → Place (x ∷ answers) a
with_lower x answers a less (answered b one e) = answered b (inr one) e
with_lower x answers a less (before_all all) =
    behind x (inl refl) less (inl (omega (arith, ints)), all_from _ answers (λ c one. inr (all_at (λ d. a <ℤ d.value) answers c all one)))
with_lower x answers a less (behind b one under all) = by_lt_z b.value x.value
    (λ higher. behind x (inl refl) less (
      inl (omega (arith, ints)),
      all_from _ answers (λ c among. elim (all_at (λ d. (d.value ≤ℤ b.value) ⊎ (a <ℤ d.value)) answers c all among) [
        | inl low ↦
            inl (omega (arith, ints))
        | inr high ↦ inr high
      ]),
    ))
    (λ lower. behind b (inr one) under (inl lower, all))

-- one answer more, above the number
with_higher : (x : Answer) (answers : List Answer) (a : ℤ) → a <ℤ x.value → Place answers a → Place (x ∷ answers) a
with_higher x answers a more (answered b one e) = answered b (inr one) e
with_higher x answers a more (behind b one under all) = behind b (inr one) under (inr more, all)
with_higher x answers a more (before_all all) = before_all (more, all)

-- every number has a place
place_of : (answers : List Answer) (a : ℤ) → Place answers a
place_of [] a = before_all tt
place_of (x ∷ answers) a = elim (sides x.value a) [
  | inl less ↦ with_lower x answers a less (place_of answers a)
  | inr (inl same) ↦ answered x (inl refl) same
  | inr (inr more) ↦ with_higher x answers a more (place_of answers a)
]

-- some answer is at most every other
least_answer : (x : Answer) (answers : List Answer) → (b : Answer) × IsOneOf b (x ∷ answers) × AllByRecursion (λ c. b.value ≤ℤ c.value) (x ∷ answers)
least_answer x [] = (x, inl refl, (omega (arith, ints), tt))
least_answer x (y ∷ answers) = let rest = least_answer y answers in let b = rest.0 in by_lt_z b.value x.value
    (λ less. (b, inr rest.1, (omega (arith, ints), rest.2)))
    (λ not. (
      x,
      inl refl,
      (
        omega (arith, ints),
        all_from _ (y ∷ answers)
            (λ c one. let low = all_at (λ d. b.value ≤ℤ d.value) (y ∷ answers) c rest.2 one in omega (arith, ints)),
      ),
    ))

-- the candidate that lies as a number does
pub candidate_for : (answers : List Answer) (a : ℤ) → (y : ℤ) × IsCandidate answers y × AllByRecursion (λ c. LiesAlike a y c.value) answers
candidate_for [] a = (pos 0, first, tt)
candidate_for (x ∷ answers) a = elim (place_of (x ∷ answers) a) [
  | answered b one e ↦ (
    b.value,
    equal b one,
    all_from _ (x ∷ answers) (λ c among. elim (sides c.value a) [
      | inl less ↦ inl (less, omega (arith, ints))
      | inr (inl same) ↦ inr (inl (same, omega (arith, ints)))
      | inr (inr more) ↦ inr (inr (more, omega (arith, ints)))
    ]),
  )
  | behind b one under all ↦ (
    b.value +ℤ pos 1,
    above b one,
    all_from _ (x ∷ answers) (λ c among. elim (all_at (λ d. (d.value ≤ℤ b.value) ⊎ (a <ℤ d.value)) (x ∷ answers) c all among) [
      | inl low ↦ inl (omega (arith, ints), omega (arith, ints))
      | inr high ↦ inr (inr (high, omega (arith, ints)))
    ]),
  )
  | before_all all ↦ let least = least_answer x answers in let b = least.0 in (
    b.value -ℤ pos 1,
    below b least.1 least.2,
    all_from _ (x ∷ answers) (λ c among.
        let high = all_at (λ d. a <ℤ d.value) (x ∷ answers) c all among in
        let low = all_at (λ d. b.value ≤ℤ d.value) (x ∷ answers) c least.2 among in
        inr (inr (high, omega (arith, ints)))),
  )
]
