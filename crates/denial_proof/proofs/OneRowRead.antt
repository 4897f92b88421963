-- The numbers that one row of a marked form gives for the row of the table at its pivot: what it has there, and at the marks.
use Rattle.std.proofs.Common.{◌≡◌, ◌≢◌, ℕ, ◌+◌, ◌<◌, ◌≤◌, ◌^◌, ℤ, pos, List, [], ◌∷◌, refl, sym, ap, ◌∙◌, arith, inl, inr}
use Rattle.std.specs.Prelude.{◌*ℤ◌, ◌<ℤ◌, unsigned_abs}
use Rattle.std.specs.List.{AllByRecursion}
use Rattle.std.proofs.lemmas.Int.{ints}
use Rattle.std.proofs.Math.IntN.{*ℤ-zero, *ℤ_comm, zero-*ℤ}
use Rattle.audit_types.specs.Form.{set_row, combined, pivot, pivot_entry, IsEchelon, StandsBefore}
use Rattle.audit_types.specs.ListLaws.{all-weaker}
use Rattle.audit_types.specs.Products.{one-times}
use Rattle.audit_types.specs.RowLaws.{has_first}
use Rattle.audit_types.specs.RowNumbers.{number_at-set_row}
use Rattle.audit_types.specs.Truth.{number_at}
use Rattle.sum_basis.specs.RowsWith.{IsRowAt}
use Rattle.sum_basis.specs.Ties.{IsRowOf}
use Rattle.denial_proof.specs.Numbers.{AreReadSoFar, AreTaken, IsTakenSmall, IsDivided, AreMultipliers}
use Rattle.denial_proof.proofs.MultipliersRead.{multipliers_from}
use Rattle.denial_proof.proofs.OneRowTaken.{zero_elsewhere}

-- how often rows are taken, so that they come to the row
record AreTakenFor (common : ℤ) (f : ℕ → ℤ) (form : List (List ℤ)) (row : ℕ → ℤ) : Type 0 where
  taken : List ℤ
  are : AreTaken common f form taken
  small : AllByRecursion IsTakenSmall taken
  come : (j : ℕ) → combined taken form j ≡ row j

module _ (common : ℤ) (f : ℕ → ℤ) where
  -- one row more that isn't taken
  not_this : (g : List ℤ) (form : List (List ℤ)) (row : ℕ → ℤ) → f (pivot g) ≡ pos 0 → AreTakenFor common f form row → AreTakenFor common f (g ∷ form) row
  not_this g form row out rest = record {
    taken = pos 0 ∷ rest.taken;
    are = (zero-*ℤ (pivot_entry g) ∙ sym (ap (λ z. common *ℤ z) out ∙ *ℤ-zero common), rest.are);
    small = (omega arith, rest.small);
    come = λ j. let nothing = zero-*ℤ (number_at g j) in let more = rest.come j in omega (arith, ints);
  }

  -- no row is taken
  none_taken : (form : List (List ℤ)) → AllByRecursion (λ g. f (pivot g) ≡ pos 0) form → AreTakenFor common f form (λ j. pos 0)
  none_taken [] out = record { taken = []; are = refl; small = tt; come = λ j. refl }
  none_taken (g ∷ form) out = not_this g form (λ j. pos 0) out.0 (none_taken form out.1)

  -- one row is taken once
  module _ (r : List ℤ) (is_common : common ≡ pivot_entry r) (one : f (pivot r) ≡ pos 1) (elsewhere : (p : ℕ) → p ≢ pivot r → f p ≡ pos 0) where
    this_one : (g : List ℤ) (form : List (List ℤ)) → g ≡ r → AllByRecursion (StandsBefore g) form → AreTakenFor common f (g ∷ form) (number_at r)
    this_one g form same later =
        let after = ap pivot same in
        let out = all-weaker (StandsBefore g) (λ x. f (pivot x) ≡ pos 0) (λ x before. elsewhere (pivot x)
        (λ e. let order = before.0 in absurd (omega arith))) form later in
        let rest = none_taken form out in
        let entry = ap pivot_entry same in
        let times = ap f after ∙ one in
        let product = ap (λ z. common *ℤ z) times ∙ *ℤ_comm common (pos 1) ∙ one-times common in
        let once = one-times (pivot_entry g) in
        let whole = is_common in
        record {
          taken = pos 1 ∷ rest.taken;
          are = (omega (arith, ints), rest.are);
          small = (omega arith, rest.small);
          come = λ j.
              let here = one-times (number_at g j) in
              let at = ap (λ (x : List ℤ). number_at x j) same in
              let more = rest.come j in
              omega (arith, ints);
        }

    stands : (g : List ℤ) (form : List (List ℤ)) → AllByRecursion (StandsBefore g) form → IsRowOf r form → pivot g < pivot r
    stands g [] later among = absurd among
    stands g (h ∷ form) later (inl same) = let order = later.0.0 in let at = ap pivot same in omega arith
    stands g (h ∷ form) later (inr among) = stands g form later.1 among

    one_taken : (form : List (List ℤ)) → IsEchelon form → IsRowOf r form → AreTakenFor common f form (number_at r)
    one_taken [] echelon among = absurd among
    one_taken (g ∷ form) echelon (inl same) = this_one g form same echelon.0
    one_taken (g ∷ form) echelon (inr among) =
        let order = stands g form echelon.0 among in
        not_this g form (number_at r) (elsewhere (pivot g) (λ e. absurd (omega arith))) (one_taken form echelon.1 among)

-- the multipliers for the row of the table at the pivot
pub one_row_multipliers : (form : List (List ℤ)) (n m row : ℕ) (r old new : List ℤ) → IsEchelon form → IsRowAt form row r → row < n →
    pos 0 <ℤ number_at r row → unsigned_abs (number_at r row) ≤ 2 ^ 56 → AreReadSoFar (number_at r row) (λ k. number_at r (n + k)) m old →
    IsDivided old new → AreMultipliers form (set_row n (row ∷ [])) n m new
one_row_multipliers form n m row r old new echelon at inside positive small read divided =
    let here : number_at (set_row n (row ∷ [])) (pivot r) ≡ pos 1 = ap (number_at (set_row n (row ∷ []))) at.at_place
    ∙ number_at-set_row n (row ∷ []) row inside
    ∙ rw (has_first row []) refl in
    let taken = one_taken (number_at r row) (number_at (set_row n (row ∷ []))) r (ap (number_at r) (sym at.at_place)) here
    (λ p other. zero_elsewhere n row p (λ e. other (e ∙ sym at.at_place))) form echelon at.among in
    multipliers_from form (set_row n (row ∷ [])) n m (number_at r row) taken.taken old new positive small taken.are taken.small
    (record {
      one_each = read.one_each;
      first = read.first;
      exact = λ k l. read.exact k l ∙ sym (taken.come (n + k));
      small = read.small;
    }) divided
