-- Numbers whose signs are turned, and a multiple of a list.
use Rattle.std.proofs.Common.{◌≡◌, ◌≢◌, ℕ, ◌+◌, ◌^◌, ◌<◌, ◌≤◌, ℤ, pos, List, [], ◌∷◌, length, map, set, refl, sym, ap, ◌∙◌, subst, arith, inl, inr, to_z, of_z}
use Rattle.std.specs.Prelude.{◌*ℤ◌, ◌-ℤ◌, neg_ℤ, ◌<ℤ◌, ◌≤ℤ◌, unsigned_abs, FitsSigned}
use Rattle.std.specs.Int.{w128, ◌∣◌}
use Rattle.std.specs.List.{AllByRecursion}
use Rattle.std.proofs.Math.IntN.{*ℤ_comm, *ℤ-zero}
use Rattle.std.proofs.lemmas.Bool.{cases_eq, MatchBool-at_false}
use Rattle.std.proofs.lemmas.Int.{ints, to_z-of_z, fits_signed_from_abs}
use Rattle.std.proofs.lemmas.List.{same_lists, get_or_default, get_or-map, length-map, get_or-set_same, get_or-set_other}
use Rattle.audit_types.specs.Truth.{number_at}
use Rattle.audit_types.specs.Form.{IsContent, pivot_entry}
use Rattle.int_rows.specs.Primitive.{IsMadePrimitive}
use Rattle.audit_types.specs.Products.{neg-times, size_of_factor}
use Rattle.witness_build.specs.Directions.{IsDivided}
use Rattle.audit_types.specs.PrimitiveLines.{number_at-times}
use Rattle.audit_types.specs.Numbers.{size_negated, zero_less}
use Rattle.audit_types.specs.RowNumbers.{number_at-negated, some_entry}
use Rattle.audit_types.specs.ListLaws.{all-get_or, all-weaker}
use Rattle.audit_types.specs.Direction.{IsSmall}

-- the numbers below i are turned, and those from i on are as they were
pub record IsPartlyTurned (old new : List ℤ) (i : ℕ) : Type 0 where
  pub done : (k : ℕ) → k < i → number_at new k ≡ neg_ℤ (number_at old k)
  pub left : (k : ℕ) → i ≤ k → number_at new k ≡ number_at old k

one_turned : (old new : List ℤ) (v : ℤ) (i : ℕ) → i < length new → IsPartlyTurned old new i → v ≡ neg_ℤ (number_at new i) →
    IsPartlyTurned old (set new i v) (i + 1)
one_turned old new v i inside so_far is = record {
  done = λ k h. elim (cases_eq k i) [
    | inl e ↦ rw e (get_or-set_same new i v (pos 0) inside ∙ is ∙ ap neg_ℤ (so_far.left i (omega arith)))
    | inr n ↦ get_or-set_other new i k v (pos 0) n ∙ so_far.done k (omega arith)
  ];
  left = λ k h. get_or-set_other new i k v (pos 0) (λ e. omega arith) ∙ so_far.left k (omega arith);
}

pub all_turned : (old new : List ℤ) (i : ℕ) → length new ≡ length old → length old ≤ i → IsPartlyTurned old new i → new ≡ map neg_ℤ old
all_turned old new i same past so_far =
    same_lists new (map neg_ℤ old) (same ∙ sym (length-map old neg_ℤ)) (λ k e h.
    get_or_default new k e (pos 0) h ∙ so_far.done k (omega arith) ∙ sym (get_or-map neg_ℤ old k (pos 0) e (omega arith)))

-- a small number may be turned, and is its negative then
module _ (x : ℤ) (small : unsigned_abs x ≤ 2 ^ 126) where
  fits : FitsSigned w128 x
  fits = fits_signed_from_abs w128 x (omega arith)

  turned_size : unsigned_abs (pos 0 -ℤ x) ≤ 2 ^ 126
  turned_size = omega (arith, ints)

  turn_fits : FitsSigned w128 (pos 0 -ℤ to_z w128 (of_z w128 x))
  turn_fits = rw (to_z-of_z w128 x fits) (fits_signed_from_abs w128 (pos 0 -ℤ x) (let s = turned_size in omega arith))

  turn_is : to_z w128 (of_z w128 (pos 0 -ℤ to_z w128 (of_z w128 x))) ≡ neg_ℤ x
  turn_is = to_z-of_z w128 (pos 0 -ℤ to_z w128 (of_z w128 x)) turn_fits ∙ ap (λ z. pos 0 -ℤ z) (to_z-of_z w128 x fits) ∙ zero_less x

-- so far the numbers below i are turned: the one at i may be turned, and then those below i + 1 are
module _ (old new : List ℤ) (i : ℕ) (small : AllByRecursion (λ x. unsigned_abs x ≤ 2 ^ 126) old) (same : length new ≡ length old) (inside : i < length old)
    (so_far : IsPartlyTurned old new i) where
  small_here : unsigned_abs (number_at new i) ≤ 2 ^ 126
  small_here = rw (so_far.left i (omega arith)) (all-get_or (λ x. unsigned_abs x ≤ 2 ^ 126) old i (pos 0) small inside)

  pub next_fits : FitsSigned w128 (pos 0 -ℤ to_z w128 (of_z w128 (number_at new i)))
  next_fits = turn_fits (number_at new i) small_here

  pub next_turned : IsPartlyTurned old (set new i (to_z w128 (of_z w128 (pos 0 -ℤ to_z w128 (of_z w128 (number_at new i)))))) (i + 1)
  next_turned = one_turned old new _ i (omega arith) so_far (turn_is (number_at new i) small_here)

pub small_divided : (k : ℤ) (d : List ℤ) → k ≢ pos 0 → IsSmall (map (λ x. k *ℤ x) d) → IsSmall d
small_divided k [] h s = tt
small_divided k (x ∷ d) h s = (let more = size_of_factor k x h in let all = s.0 in omega arith, small_divided k d h s.1)

turned_multiple : (k : ℤ) (d : List ℤ) → map (λ x. k *ℤ x) d ≡ map (λ x. neg_ℤ k *ℤ x) (map neg_ℤ d)
turned_multiple k [] = refl
turned_multiple k (x ∷ d) =
    let both : k *ℤ x ≡ neg_ℤ k *ℤ neg_ℤ x =
    let first = neg-times k (neg_ℤ x) in
    let turned = *ℤ_comm k (neg_ℤ x) in
    let second = neg-times x k in
    let back = *ℤ_comm x k in
    omega (arith, ints) in
    ap (λ z. z ∷ map (λ x. k *ℤ x) d) both ∙ ap (λ l. (neg_ℤ k *ℤ neg_ℤ x) ∷ l) (turned_multiple k d)

divides_turned : (g : ℕ) (d : List ℤ) → AllByRecursion (λ x. g ∣ unsigned_abs x) d → AllByRecursion (λ x. g ∣ unsigned_abs x) (map neg_ℤ d)
divides_turned g [] h = tt
divides_turned g (x ∷ d) h = (rw (size_negated x) h.0, divides_turned g d h.1)

divides_back : (g : ℕ) (d : List ℤ) → AllByRecursion (λ x. g ∣ unsigned_abs x) (map neg_ℤ d) → AllByRecursion (λ x. g ∣ unsigned_abs x) d
divides_back g [] h = tt
divides_back g (x ∷ d) h = (rw (size_negated x) at h.0, divides_back g d h.1)

content_turned : (d : List ℤ) (g : ℕ) → IsContent d g → IsContent (map neg_ℤ d) g
content_turned d g h = record { divides = divides_turned g d h.divides; greatest = λ e all. h.greatest e (divides_back e d all) }

module _ (old new : List ℤ) (row : ℕ) (moves : number_at old row ≢ pos 0) (made : IsMadePrimitive old new) where
  content_one : IsContent new 1 × (pos 0 <ℤ pivot_entry new)
  content_one = MatchBool-at_false (new ≡ old) (IsContent new 1 × (pos 0 <ℤ pivot_entry new)) (some_entry old row moves) made.primitive

  still_moves : number_at new row ≢ pos 0
  still_moves e = moves (ap (λ l. number_at l row) made.is_multiple ∙ number_at-times made.factor new row ∙ ap (λ z. made.factor *ℤ z) e ∙ *ℤ-zero made.factor)

  -- if the number at the row isn't negative, it is positive
  pub divided_positive : pos 0 ≤ℤ number_at new row → IsDivided old row new
  divided_positive h =
      record { factor = made.factor; is_multiple = made.is_multiple; content = content_one.0; positive = let some = still_moves in omega (arith, ints) }

  -- and if it is, the turned one is
  pub divided_turned : (turned : List ℤ) → number_at new row <ℤ pos 0 → turned ≡ map neg_ℤ new → IsDivided old row turned
  divided_turned turned h e = subst (IsDivided old row) (sym e) (record {
    factor = neg_ℤ made.factor;
    is_multiple = made.is_multiple ∙ turned_multiple made.factor new;
    content = content_turned new 1 content_one.0;
    positive = let here = number_at-negated new row in omega (arith, ints);
  })

  -- the numbers that are to be turned are small
  pub made_small : IsSmall old → IsSmall new
  made_small s =
      small_divided made.factor new
      (λ e. moves (ap (λ l. number_at l row) made.is_multiple ∙ number_at-times made.factor new row ∙ ap (λ z. z *ℤ number_at new row) e
      ∙ *ℤ_comm (pos 0) (number_at new row) ∙ *ℤ-zero (number_at new row)))
      (subst IsSmall made.is_multiple s)

-- small numbers are within what may be divided and turned
pub within_126 : (d : List ℤ) → IsSmall d → AllByRecursion (λ x. unsigned_abs x ≤ 2 ^ 126) d
within_126 = all-weaker (λ x. unsigned_abs x ≤ 2 ^ 112) (λ x. unsigned_abs x ≤ 2 ^ 126) (λ x small. omega arith)
