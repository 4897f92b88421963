-- A row reduced by the rows of a form, one after the other.
use Rattle.std.proofs.Common.{◌≡◌, ℕ, zero, suc, ◌<◌, ◌≤◌, ◌+◌, ◌*◌, ◌^◌, ℤ, pos, List, [], ◌∷◌, ◌++◌, length, take, get_or, refl, sym, ap, ◌∙◌, arith, subst, length-append}
use Rattle.std.specs.Prelude.{◌+ℤ◌, ◌*ℤ◌, unsigned_abs}
use Rattle.std.specs.List.{AllByRecursion}
use Rattle.std.proofs.lemmas.Int.{ints}
use Rattle.std.proofs.lemmas.List.{take_more}
use Rattle.std.proofs.lemmas.List.Elements.{All-from_recursion}
use Rattle.std.proofs.Math.IntN.{*ℤ-zero}
use Rattle.audit_types.specs.Truth.{number_at}
use Rattle.audit_types.specs.Form.{combined, IsEchelon, StandsBefore, pivot}
use Rattle.audit_types.specs.ListLaws.{all-push}
use Rattle.sum_basis.specs.Elimination.{IsSmall, IsZeroAtPivots, IsLessMultiple}
use Rattle.audit_types.specs.Numbers.{product_small}
use Rattle.sum_basis.proofs.Sizes.{small_at}

-- what is left of the row when multiples of the first k rows are taken
pub record IsPartRemainder (form : List (List ℤ)) (old new : List ℤ) (k : ℕ) : Type 0 where
  pub coefficients : List ℤ
  pub count : length coefficients ≡ k
  pub is : (j : ℕ) → number_at old j ≡ number_at new j +ℤ combined coefficients form j
  pub zeros : IsZeroAtPivots (take k form) new
  pub small : (j : ℕ) → unsigned_abs (number_at new j) ≤ 2 ^ 56 + k * 2 ^ 112

-- a combination of rows that are 0 at a column
combined_front : (cs : List ℤ) (rows : List (List ℤ)) (j : ℕ) → AllByRecursion (λ r. number_at r j ≡ pos 0) (take (length cs) rows) → combined cs rows j ≡ pos 0
combined_front [] rows j h = refl
combined_front (c ∷ cs) [] j h = refl
combined_front (c ∷ cs) (row ∷ rows) j h = let first = ap (λ z. c *ℤ z) h.0 ∙ *ℤ-zero c in let rest = combined_front cs rows j h.1 in omega (arith, ints)

-- a combination with one row more
combined_push : (cs : List ℤ) (rows : List (List ℤ)) (c : ℤ) (j : ℕ) → length cs < length rows →
    combined (cs ++ c ∷ []) rows j ≡ combined cs rows j +ℤ c *ℤ number_at (get_or rows (length cs) []) j
combined_push [] [] c j h = absurd (omega arith)
combined_push [] (row ∷ rows) c j h = omega (arith, ints)
combined_push (d ∷ cs) [] c j h = absurd (omega arith)
combined_push (d ∷ cs) (row ∷ rows) c j h = let rest = combined_push cs rows c j (omega arith) in omega (arith, ints)

-- the rows in front of a row of the form
stand_before : (form : List (List ℤ)) (k : ℕ) → k < length form → IsEchelon form → AllByRecursion (λ r. StandsBefore r (get_or form k [])) (take k form)
stand_before [] k h e = absurd (omega arith)
stand_before (row ∷ form) zero h e = tt
stand_before (row ∷ form) (suc k) h e = (All-from_recursion (StandsBefore row) form e.0 k [] (omega arith), stand_before form k (omega arith) e.1)

-- rows are 0 at the pivots of later rows
zero_at_later : (rows : List (List ℤ)) (later : List ℤ) → AllByRecursion (λ r. StandsBefore r later) rows →
    AllByRecursion (λ r. number_at r (pivot later) ≡ pos 0) rows
zero_at_later [] later h = tt
zero_at_later (r ∷ rows) later h = (h.0.1, zero_at_later rows later h.1)

-- up to row k the row is as it was at that row's pivot
pub as_it_was : (n : ℕ) (form : List (List ℤ)) (old new : List ℤ) (k : ℕ) → k < length form → IsEchelon form → IsPartRemainder form old new k →
    number_at new (pivot (get_or form k [])) ≡ number_at old (pivot (get_or form k []))
as_it_was n form old new k h e part =
    let row = get_or form k [] in
    let none = combined_front part.coefficients form (pivot row)
    (subst (λ m. AllByRecursion (λ r. number_at r (pivot row) ≡ pos 0) (take m form)) (sym part.count)
    (zero_at_later (take k form) row (stand_before form k h e))) in
    let is = part.is (pivot row) in
    omega (arith, ints)

-- a multiple of a later row changes nothing at the pivots before it
stay_zero : (rows : List (List ℤ)) (other old new : List ℤ) (times : ℤ) → ((j : ℕ) → number_at old j ≡ number_at new j +ℤ times *ℤ number_at other j) →
    AllByRecursion (λ r. StandsBefore r other) rows → IsZeroAtPivots rows old → IsZeroAtPivots rows new
stay_zero [] other old new times is h z = tt
stay_zero (r ∷ rows) other old new times is h z =
    let here = is (pivot r) in
    let gone = ap (λ x. times *ℤ x) h.0.2 ∙ *ℤ-zero times in
    let zero_there = z.0 in
    (omega (arith, ints), stay_zero rows other old new times is h.1 z.1)

-- one multiple more is taken
pub one_more_taken : (form : List (List ℤ)) (old new next : List ℤ) (k : ℕ) → k < length form → IsEchelon form → IsSmall (get_or form k []) →
    IsPartRemainder form old new k → IsLessMultiple (get_or form k []) new next → IsPartRemainder form old next (k + 1)
one_more_taken form old new next k h e s part less = record {
  coefficients = part.coefficients ++ less.times ∷ [];
  count = length-append part.coefficients (less.times ∷ []) ∙ let count = part.count in omega arith;
  is = λ j.
      let before = part.is j in
      let step = less.is j in
      let more = combined_push part.coefficients form less.times j (let count = part.count in omega arith) in
      let same = ap (λ m. less.times *ℤ number_at (get_or form m []) j) part.count in
      omega (arith, ints);
  zeros = rw (take_more form k [] h) (all-push (λ r. number_at next (pivot r) ≡ pos 0) (take k form) (get_or form k [])
      (stay_zero (take k form) (get_or form k []) new next less.times less.is (stand_before form k h e) part.zeros) less.zero_there);
  small = λ j.
      let before = part.small j in
      let step = less.is j in
      let other = product_small less.times (number_at (get_or form k []) j) less.small (small_at (get_or form k []) j s) in
      omega (arith, ints);
}
