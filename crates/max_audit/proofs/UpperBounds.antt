-- Upper bounds: a number that gives the answers is at most its row's bound.
use Rattle.std.proofs.Common.{◌≡◌, ℕ, ℤ, Bool, true, false, cond, List, [], ◌∷◌, refl, sym, ap, ◌∙◌, subst, arith, Option, Some, None}
use Rattle.std.specs.Prelude.{◌≤ℤ◌}
use Rattle.std.specs.Int.{int_min}
use Rattle.std.specs.List.{AllByRecursion}
use Rattle.std.proofs.lemmas.Int.{ints, clamps}
use Rattle.std.proofs.lemmas.Bool.{true≢false}
use Rattle.std.proofs.lemmas.Bool.Decides.{Decides-int_eq}
use Rattle.audit_types.specs.Rows.{has_row}
use Rattle.audit_types.specs.Truth.{number_at, greatest_over}
use Rattle.audit_types.specs.Column.{Answer}
use Rattle.audit_types.specs.Extremes.{least_of, upper_bound, is_bound}
use Rattle.audit_types.specs.GreatestLaws.{bound_and_reached}
use Rattle.max_audit.specs.Witnesses.{bound_or_zero}

-- a list of numbers that gives the answers
abbrev pub Gives : List ℤ → List Answer → Type 0
Gives w answers = AllByRecursion (λ a. greatest_over w a.rows ≡ a.value) answers

-- below the bound with one answer more
below_step : (has : Bool) (o : Option ℤ) (value b x : ℤ) → (has ≡ true → x ≤ℤ value) → ((c : ℤ) → o ≡ Some c → x ≤ℤ c) →
    cond has (Some (least_of value o)) o ≡ Some b → x ≤ℤ b
below_step true None value b x here later e = let same : value ≡ b = cc in let one = here refl in omega (arith, ints)
below_step true (Some c) value b x here later e =
    let same : int_min value c ≡ b = cc in let one = here refl in let two = later c refl in omega (arith, ints, clamps)
below_step false o value b x here later e = later b e

-- a number is at most the bound of its row
pub below_bound : (w : List ℤ) (answers : List Answer) (q : ℕ) (b : ℤ) → Gives w answers → upper_bound answers q ≡ Some b → number_at w q ≤ℤ b
below_bound w [] q b gives e = absurd cc
below_bound w (a ∷ answers) q b gives e =
    below_step (has_row a.rows q) (upper_bound answers q) a.value b (number_at w q)
    (λ there.
    let most = (bound_and_reached w a.rows (λ none. true≢false (sym there ∙ ap (λ l. has_row l q) none))).0 q there in
    subst (λ z. number_at w q ≤ℤ z) gives.0 most)
    (λ c f. below_bound w answers q c gives.1 f) e

-- if the bound is this number, it is the number that stands for it
pub bound_from : (o : Option ℤ) (a : ℤ) → is_bound o a ≡ true → bound_or_zero o ≡ a
bound_from None a h = absurd (true≢false (sym h))
bound_from (Some b) a h = (Decides-int_eq b a).0 h

-- the number that stands for a bound
pub some_is : (o : Option ℤ) (b : ℤ) → o ≡ Some b → bound_or_zero o ≡ b
some_is None b e = cc
some_is (Some c) b e = cc
