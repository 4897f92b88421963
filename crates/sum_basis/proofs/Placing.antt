-- A new row in its place by pivots.
use Rattle.std.proofs.Common.{◌≡◌, ◌≢◌, ◌<◌, Bool, true, false, cond, ℤ, pos, List, [], ◌∷◌, refl, ap, ◌∙◌, arith}
use Rattle.std.specs.Prelude.{◌<ℤ◌, nat_lt}
use Rattle.std.specs.List.{AllByRecursion}
use Rattle.std.proofs.lemmas.Bool.{ltb-true, ltb-false}
use Rattle.audit_types.specs.Truth.{number_at}
use Rattle.audit_types.specs.Form.{IsEchelon, StandsBefore, pivot, pivot_entry}
use Rattle.audit_types.specs.Numbers.{positive_not_zero}
use Rattle.sum_basis.specs.Spans.{ZeroAtPivots}

-- the new row in its place by pivots
abbrev pub placed : List ℤ → List (List ℤ) → List (List ℤ)
placed new [] = new ∷ []
placed new (r ∷ rows) = cond (nat_lt (pivot new) (pivot r)) (new ∷ r ∷ rows) (r ∷ placed new rows)

module _ (P : List ℤ → Type 0) (new : List ℤ) where
  -- what holds of the new row and of the rows holds with it in its place
  pub all_placed : (rows : List (List ℤ)) → P new → AllByRecursion P rows → AllByRecursion P (placed new rows)
  all_placed [] p h = (p, tt)
  all_placed (r ∷ rows) p h = elim (nat_lt (pivot new) (pivot r)) as (λ b. AllByRecursion P (cond b (new ∷ r ∷ rows) (r ∷ placed new rows))) [
    | true ↦ (p, (h.0, h.1))
    | false ↦ (h.0, all_placed rows p h.1)
  ]

  -- and back
  pub parts_placed : (rows : List (List ℤ)) → AllByRecursion P (placed new rows) → P new × AllByRecursion P rows
  parts_placed [] h = (h.0, tt)
  parts_placed (r ∷ rows) h = go (nat_lt (pivot new) (pivot r)) h (λ k. parts_placed rows k)
    where
      go : (b : Bool) → AllByRecursion P (cond b (new ∷ r ∷ rows) (r ∷ placed new rows)) →
          (AllByRecursion P (placed new rows) → P new × AllByRecursion P rows) → P new × AllByRecursion P (r ∷ rows)
      go true k later = (k.0, k.1)
      go false k later = let rest = later k.1 in (rest.0, (k.0, rest.1))

-- a new row with the first pivot stands before all rows
before_all : (new r : List ℤ) (rows : List (List ℤ)) → pivot new < pivot r → AllByRecursion (StandsBefore r) rows → ZeroAtPivots (number_at new) rows →
    AllByRecursion (λ q. number_at q (pivot new) ≡ pos 0) rows → AllByRecursion (StandsBefore new) rows
before_all new r [] lt h z k = tt
before_all new r (q ∷ rows) lt h z k = let order = h.0.0 in ((omega arith, z.0, k.0), before_all new r rows lt h.1 z.1 k.1)

-- the rows with the new one in its place are in echelon form
pub placed_echelon : (new : List ℤ) (rows : List (List ℤ)) → IsEchelon rows → AllByRecursion (λ q. pos 0 <ℤ pivot_entry q) rows →
    ZeroAtPivots (number_at new) rows → AllByRecursion (λ q. number_at q (pivot new) ≡ pos 0) rows → IsEchelon (placed new rows)
placed_echelon new [] h l z k = (tt, tt)
placed_echelon new (r ∷ rows) h l z k = go (nat_lt (pivot new) (pivot r)) refl (placed_echelon new rows h.1 l.1 z.1 k.1)
  where
    go : (b : Bool) → nat_lt (pivot new) (pivot r) ≡ b → IsEchelon (placed new rows) → IsEchelon (cond b (new ∷ r ∷ rows) (r ∷ placed new rows))
    go true e later =
        let lt = ltb-true (pivot new) (pivot r) e in
        (((lt, z.0, k.0), before_all new r rows lt h.0 z.1 k.1), h)
    go false e later =
        let le = ltb-false (pivot new) (pivot r) e in
        let apart : pivot r ≢ pivot new = λ same. positive_not_zero (pivot_entry r) l.0 (ap (number_at r) same ∙ k.0) in
        (all_placed (StandsBefore r) new rows (omega arith, k.0, z.0) h.0, later)
