-- Lists of numbers with another one at one row.
use Rattle.std.proofs.Common.{◌≡◌, ◌≢◌, ℕ, ◌<◌, true, false, ℤ, pos, List, [], ◌∷◌, ◌||◌, length, refl, sym, ap, ◌∙◌, arith, inl, inr}
use Rattle.std.specs.Prelude.{◌+ℤ◌, slice_set}
use Rattle.std.specs.List.{AllByRecursion}
use Rattle.std.proofs.lemmas.Int.{ints}
use Rattle.std.proofs.lemmas.Bool.{cases_eq, ne_eqb, true≢false}
use Rattle.std.proofs.lemmas.List.{get_or-set_same, get_or-set_other}
use Rattle.audit_types.specs.Rows.{has_row}
use Rattle.audit_types.specs.RowLaws.{has_first}
use Rattle.audit_types.specs.Truth.{greatest_over}
use Rattle.audit_types.specs.GreatestLaws.{bound_and_reached}
use Rattle.audit_types.specs.Column.{AreSameAt}

-- rows that a list lacks aren't in it
pub apart_from : (own : List ℕ) (q r : ℕ) → has_row (q ∷ own) r ≡ false → (q ≢ r) × (has_row own r ≡ false)
apart_from own q r e = elim (cases_eq q r) [
  | inl same ↦ absurd (true≢false (sym (ap (λ k. has_row (q ∷ own) k) (sym same) ∙ has_first q own) ∙ e))
  | inr differs ↦ (differs, sym (ap (λ b. b || has_row own r) (ne_eqb q r differs)) ∙ e)
]

-- none of them is the row
pub not_this : (own : List ℕ) (r : ℕ) → has_row own r ≡ false → AllByRecursion (λ q. has_row (r ∷ []) q ≡ false) own
not_this [] r e = tt
not_this (q ∷ own) r e =
    let parts = apart_from own q r e in (ap (λ b. b || false) (ne_eqb r q (λ same. parts.0 (sym same))), not_this own r parts.1)

-- a row of a set that has none of some rows isn't one of these
pub not_own : (rows own : List ℕ) → AllByRecursion (λ q. has_row rows q ≡ false) own → (r : ℕ) → has_row rows r ≡ true → has_row own r ≡ false
not_own rows [] none r there = refl
not_own rows (q ∷ own) none r there = elim (cases_eq q r) [
  | inl same ↦ absurd (true≢false (sym there ∙ ap (has_row rows) (sym same) ∙ none.0))
  | inr differs ↦ ap (λ b. b || has_row own r) (ne_eqb q r differs) ∙ not_own rows own none.1 r there
]

-- the list with another number at a row has the same numbers at rows that aren't it
pub same_but : (w : List ℤ) (i : ℕ) (x : ℤ) (own : List ℕ) → has_row own i ≡ false → AreSameAt own w (slice_set w i x)
same_but w i x [] e = tt
same_but w i x (q ∷ own) e = let parts = apart_from own q i e in (get_or-set_other w i q x (pos 0) parts.0, same_but w i x own parts.1)

-- the greatest number over some rows is another if one of them is raised above it
pub raised : (w : List ℤ) (rows : List ℕ) (r : ℕ) → r < length w → has_row rows r ≡ true →
    greatest_over (slice_set w r (greatest_over w rows +ℤ pos 1)) rows ≢ greatest_over w rows
raised w rows r inside there same =
    let more = greatest_over w rows +ℤ pos 1 in
    let bound = (bound_and_reached (slice_set w r more) rows (λ none. absurd (true≢false (sym there ∙ ap (λ l. has_row l r) none)))).0 r there in
    let here = get_or-set_same w r more (pos 0) inside in
    omega (arith, ints, bound, here, same)
