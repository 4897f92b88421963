-- Laws of upper bounds.
use Rattle.std.proofs.Common.{◌≡◌, ℕ, ℤ, Bool, true, false, cond, List, [], ◌∷◌, ◌++◌, refl, sym, ap, ◌∙◌, subst, arith, inl, inr, ◌⊎◌, Option, Some, None}
use Rattle.std.specs.Prelude.{◌≤ℤ◌}
use Rattle.std.specs.Int.{int_min}
use Rattle.std.proofs.lemmas.Int.{ints, clamps, by_lt_z}
use Rattle.std.proofs.lemmas.Bool.{true≢false}
use Rattle.std.proofs.lemmas.Bool.Decides.{Decides-int_eq}
use Rattle.audit_types.specs.Rows.{has_row}
use Rattle.audit_types.specs.Column.{Answer, IsOneOf}
use Rattle.audit_types.specs.Extremes.{least_of, upper_bound, is_bound}
use Rattle.max_bounds.specs.Reaching.{bound_with}

-- the least of two answers and a bound, in either order
either_first : (first last : Bool) (a b : ℤ) (o : Option ℤ) →
    cond first (Some (least_of a (cond last (Some (least_of b o)) o))) (cond last (Some (least_of b o)) o)
    ≡ cond last (Some (least_of b (cond first (Some (least_of a o)) o))) (cond first (Some (least_of a o)) o)
either_first true true a b None = ap Some (omega (arith, ints, clamps))
either_first true true a b (Some c) = ap Some (omega (arith, ints, clamps))
either_first true false a b o = refl
either_first false true a b o = refl
either_first false false a b o = refl

-- the upper bound with one answer more after the others
pub upper_bound-push : (answers : List Answer) (x : Answer) (r : ℕ) → upper_bound (answers ++ x ∷ []) r ≡ bound_with x.rows x.value r (upper_bound answers r)
upper_bound-push [] x r = refl
upper_bound-push (a ∷ answers) x r =
    rw (upper_bound-push answers x r) (either_first (has_row a.rows r) (has_row x.rows r) a.value x.value (upper_bound answers r))

-- the bound of a row is at most the first answer that holds it
bound_step : (has : Bool) (o : Option ℤ) (value : ℤ) → has ≡ true → (b : ℤ) × (cond has (Some (least_of value o)) o ≡ Some b) × (b ≤ℤ value)
bound_step true None value h = (value, refl, omega (arith, ints))
bound_step true (Some c) value h = (int_min value c, refl, omega (arith, ints, clamps))
bound_step false o value h = absurd cc

-- and stays below what it was below
later_step : (has : Bool) (o : Option ℤ) (value top : ℤ) → (b : ℤ) × (o ≡ Some b) × (b ≤ℤ top) → (b : ℤ) × (cond has (Some (least_of value o)) o ≡ Some b) × (b ≤ℤ top)
later_step true None value top (b, e, l) = absurd cc
later_step true (Some c) value top (b, e, l) = let same : c ≡ b = cc in (int_min value c, refl, omega (arith, ints, clamps))
later_step false o value top h = h

-- the bound of a row is at most the value of each answer that holds it
pub bound_below : (answers : List Answer) (a : Answer) (q : ℕ) → IsOneOf a answers → has_row a.rows q ≡ true → (b : ℤ) × (upper_bound answers q ≡ Some b) × (b ≤ℤ a.value)
bound_below [] a q one there = absurd one
bound_below (x ∷ answers) a q (inl e) there =
    subst (λ (y : Answer). (b : ℤ) × (upper_bound (x ∷ answers) q ≡ Some b) × (b ≤ℤ y.value)) e
    (bound_step (has_row x.rows q) (upper_bound answers q) x.value (ap (λ (y : Answer). has_row y.rows q) e ∙ there))
bound_below (x ∷ answers) a q (inr later) there = later_step (has_row x.rows q) (upper_bound answers q) x.value a.value (bound_below answers a q later there)

-- the least of a number and a bound is one of them
least_is_one : (has : Bool) (value b : ℤ) (o : Option ℤ) → cond has (Some (least_of value o)) o ≡ Some b → ((has ≡ true) × (value ≡ b)) ⊎ (o ≡ Some b)
least_is_one true value b None e = inl (refl, cc)
least_is_one true value b (Some c) e =
    let same : int_min value c ≡ b = cc in
    by_lt_z c value (λ less. inr (ap Some (omega (arith, ints, clamps)))) (λ not. inl (refl, omega (arith, ints, clamps)))
least_is_one false value b o e = inr e

-- and it is the value of an answer that holds it
pub bound_reached : (answers : List Answer) (q : ℕ) (b : ℤ) → upper_bound answers q ≡ Some b → (a : Answer) × IsOneOf a answers × (has_row a.rows q ≡ true) × (a.value ≡ b)
bound_reached [] q b e = absurd cc
bound_reached (x ∷ answers) q b e = elim (least_is_one (has_row x.rows q) x.value b (upper_bound answers q) e) [
  | inl (there, is) ↦ (x, inl refl, there, is)
  | inr later ↦ let found = bound_reached answers q b later in (found.0, inr found.1, found.2, found.3)
]

-- a bound that is this number
pub bound_is : (o : Option ℤ) (b a : ℤ) → o ≡ Some b → b ≡ a → is_bound o a ≡ true
bound_is o b a e f = rw e ((Decides-int_eq b a).1 f)

-- what a bound that is this number is
pub exact_bound : (o : Option ℤ) (a : ℤ) → is_bound o a ≡ true → o ≡ Some a
exact_bound None a h = absurd (true≢false (sym h))
exact_bound (Some b) a h = ap Some ((Decides-int_eq b a).0 h)
