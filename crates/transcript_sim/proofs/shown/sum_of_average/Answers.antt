use Rattle.std.proofs.Common.{rules, ℕ, ◌≡◌, ◌<◌, ◌*◌, ◌/◌, ℤ, pos, sym, ◌∙◌, ap, arith}
use Rattle.std.specs.Prelude.{FitsSigned, int_rem, ◌*ℤ◌, unsigned_abs, MatchOption, Option, Some, None}
use Rattle.std.specs.Int.{w64, w128}
use Rattle.std.proofs.lemmas.Int.{to_z-of_z, unsigned_abs-mul}
use Rattle.std.proofs.Math.Nat.{mul-div_cancel}
use mir.Val.{of_z, to_z}
use Rattle.transcript_sim.proofs.Averages.{rest_of_multiple, multiple_without_rest}
use Rattle.transcript_sim.proofs.shown.sum_of_average.Goals as goal

-- what is said of either end, said of it otherwise
told : (r : Option ℤ) (N M : Type 0) (P Q : ℤ → Type 0) → (N → M) → ((z : ℤ) → P z → Q z) → MatchOption r N P → MatchOption r M Q
told None N M P Q none some h = none h
told (Some z) N M P Q none some h = some z h

-- a factor that isn't 0 cancels
cancel : (a b s : ℕ) → 0 < s → a * s ≡ b * s → a ≡ b
cancel a b s some same = sym (mul-div_cancel a some) ∙ ap (λ (m : ℕ). m / s) same ∙ mul-div_cancel b some

-- two numbers with the same multiple have the same size
same_size : (x y : ℤ) (s : ℕ) → 0 < s → x *ℤ pos s ≡ y *ℤ pos s → unsigned_abs x ≡ unsigned_abs y
same_size x y s some same =
    cancel (unsigned_abs x) (unsigned_abs y) s some (sym (unsigned_abs-mul x (pos s)) ∙ ap unsigned_abs same ∙ unsigned_abs-mul y (pos s))

pub returns-then-people-eq0 : goal.returns-then-people-eq0
returns-then-people-eq0 c = λ sum somebody is least. omega (arith, c.if-people-eq0.true, somebody)

pub returns-then-remainder-ne0 : goal.returns-then-remainder-ne0
returns-then-remainder-ne0 c = λ sum somebody is least.
    let fits : FitsSigned w128 c.product-shares.result = search rules in
    let small : FitsSigned w64 c.args.num = search rules in
    let shares = to_z-of_z w128 c.product-shares.result fits ∙ c.product-shares.ensures
    ∙ ap (λ (z : ℤ). z *ℤ pos c.args.people) (to_z-of_z w64 c.args.num small) ∙ is in
    let none : c.remainder.result ≡ pos 0 = c.remainder.ensures ∙ ap (λ (z : ℤ). int_rem z (pos c.args.den)) shares ∙ rest_of_multiple sum c.args.den in
    c.if-remainder-ne0.true (ap (λ (z : ℤ). of_z w128 z) none)

pub returns : goal.returns
returns c =
    let fits : FitsSigned w128 c.product-shares.result = search rules in
    let small : FitsSigned w64 c.args.num = search rules in
    let rest : FitsSigned w128 c.remainder.result = search rules in
    let whole : FitsSigned w128 c.quotient.result = search rules in
    let somebody : 0 < c.args.people = omega (arith, c.if-people-eq0.false) in
    let q = to_z w128 (of_z w128 c.quotient.result) in
    let shares = to_z-of_z w128 c.product-shares.result fits ∙ c.product-shares.ensures
    ∙ ap (λ (z : ℤ). z *ℤ pos c.args.people) (to_z-of_z w64 c.args.num small) in
    let none : c.remainder.result ≡ pos 0 = sym (to_z-of_z w128 c.remainder.result rest) ∙ ap (λ (x : ℕ). to_z w128 x) c.if-remainder-ne0.false in
    let multiple : c.args.num *ℤ pos c.args.people ≡ q *ℤ pos c.args.den =
    sym shares ∙ multiple_without_rest (to_z w128 (of_z w128 c.product-shares.result)) c.args.den (sym c.remainder.ensures ∙ none)
    ∙ ap (λ (z : ℤ). z *ℤ pos c.args.den) (sym (to_z-of_z w128 c.quotient.result whole ∙ c.quotient.ensures)) in
    told c.as_answer.result _ _ _ _
    (λ large sum some is least. let same = same_size q sum c.args.den c.requires.some (sym multiple ∙ is) in omega (arith, large, same, least))
    (λ answer h. (somebody, multiple ∙ ap (λ (z : ℤ). z *ℤ pos c.args.den) (sym h.0), rw h.0 h.1))
    c.as_answer.ensures
