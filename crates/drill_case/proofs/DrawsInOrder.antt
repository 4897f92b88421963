-- The draws, one after another.
use Rattle.std.proofs.Common.{◌≡◌, ℕ, zero, suc, ◌+◌, ◌<◌, ◌/◌, ◌^◌, List, [], ◌∷◌, get_or, refl, sym, ap, ◌∙◌, arith}
use Rattle.drill_case.specs.Draws.{next_state, state_after, draw}

-- the generator begins with the number
pub begins : (number : ℕ) → number ≡ state_after number 0
unfolding state_after
begins number = refl

one_more : (number place : ℕ) → state_after number (suc place) ≡ next_state (state_after number place)
unfolding state_after
one_more number place = refl

-- a step makes the next state
pub steps : (number place next state : ℕ) → place + 1 ≡ next → state ≡ state_after number place → next_state state ≡ state_after number next
steps number place next state is at =
    let one : suc place ≡ next = omega (arith, is) in
    ap next_state at ∙ sym (one_more number place) ∙ ap (state_after number) one

-- four steps make the next four draws
pub four_steps : (number place first second third fourth state : ℕ) → first ≡ next_state state → second ≡ next_state first → third ≡ next_state second
    → fourth ≡ next_state third → state ≡ state_after number place
    → (fourth ≡ state_after number (place + 4)) ×
    (◌≡◌ {A = List ℕ} (first / 2 ^ 33 ∷ second / 2 ^ 33 ∷ third / 2 ^ 33 ∷ fourth / 2 ^ 33 ∷ [])
    (draw number place ∷ draw number (place + 1) ∷ draw number (place + 2) ∷ draw number (place + 3) ∷ []))
four_steps number place first second third fourth state one two three four at =
    let a : first ≡ state_after number (place + 1) = one ∙ steps number place (place + 1) state refl at in
    let b : second ≡ state_after number (place + 2) = two ∙ steps number (place + 1) (place + 2) first (omega arith) a in
    let c : third ≡ state_after number (place + 3) = three ∙ steps number (place + 2) (place + 3) second (omega arith) b in
    let d : fourth ≡ state_after number (place + 4) = four ∙ steps number (place + 3) (place + 4) third (omega arith) c in
    let later : (before k : ℕ) → before ≡ k + 1 → state_after number before ≡ state_after number (k + 1) = λ before k is. ap (state_after number) is in (
      d,
      λ i. a i / 2 ^ 33 ∷ (b ∙ later (place + 2) (place + 1) (omega arith)) i / 2 ^ 33 ∷ (c ∙ later (place + 3) (place + 2) (omega arith)) i / 2 ^ 33 ∷
          (d ∙ later (place + 4) (place + 3) (omega arith)) i / 2 ^ 33 ∷ [],
    )

-- the draw at a place among four
pub one_of_four : (number start place : ℕ) (four : List ℕ) → place < 4
    → four ≡ draw number start ∷ draw number (start + 1) ∷ draw number (start + 2) ∷ draw number (start + 3) ∷ []
    → get_or four place 0 ≡ draw number (start + place)
one_of_four number start zero four within are = ap (λ (l : List ℕ). get_or l 0 0) are ∙ ap (draw number) (omega arith)
one_of_four number start (suc zero) four within are = ap (λ (l : List ℕ). get_or l 1 0) are
one_of_four number start (suc (suc zero)) four within are = ap (λ (l : List ℕ). get_or l 2 0) are
one_of_four number start (suc (suc (suc zero))) four within are = ap (λ (l : List ℕ). get_or l 3 0) are
one_of_four number start (suc (suc (suc (suc place)))) four within are = absurd (omega (arith, within))
