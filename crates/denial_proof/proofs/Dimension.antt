-- Over n columns there are at most n independent rows.
--
-- The first of the rows has a column where it isn't 0. The others, cleared there, are independent over one column less: the last
-- column takes the place of the cleared one.
use Rattle.std.proofs.Common.{◌≡◌, ◌≢◌, ℕ, zero, suc, ◌<◌, ◌≤◌, true, false, cond, ◌==◌, ℤ, pos, List, [], ◌∷◌, map, length, refl, sym, ap, ◌∙◌, arith, inl, inr, ◌⊎◌}
use Rattle.std.specs.Prelude.{◌+ℤ◌, ◌*ℤ◌, neg_ℤ}
use Rattle.std.proofs.lemmas.Int.{ints}
use Rattle.std.proofs.lemmas.Bool.{cases_eq, eq-eqb, ne_eqb}
use Rattle.std.proofs.Math.IntN.{zero-*ℤ, *ℤ-zero, *ℤ_comm}
use Rattle.audit_types.specs.Truth.{number_at}
use Rattle.audit_types.specs.Numbers.{zero_or_not}
use Rattle.audit_types.specs.Form.{combined}
use Rattle.audit_types.specs.Products.{add-times, times-add, times_assoc, neg-times, one-times, zero_product}
use Rattle.audit_types.specs.PrimitiveLines.{times, number_at-times}

-- rows as functions of their columns, each taken some number of times, come to this at a column
abbrev sum_of : List ℤ → List (ℕ → ℤ) → ℕ → ℤ
sum_of [] rows j = pos 0
sum_of (c ∷ a) [] j = pos 0
sum_of (c ∷ a) (f ∷ rows) j = c *ℤ f j +ℤ sum_of a rows j

-- no rows but with zeros come to nothing
abbrev pub IsFree : ℕ → List (ℕ → ℤ) → Type 0
IsFree n rows = (a : List ℤ) → ((j : ℕ) → j < n → sum_of a rows j ≡ pos 0) → (k : ℕ) → k < length rows → number_at a k ≡ pos 0

-- a row with a multiple of another taken from it, so that it is 0 at column p
abbrev cleared : (ℕ → ℤ) → ℕ → (ℕ → ℤ) → ℕ → ℤ
cleared f p g j = f p *ℤ g j +ℤ neg_ℤ (g p *ℤ f j)

-- what products of sums are
spread : (c fp gj gp fj rest_j rest_p : ℤ) → c *ℤ (fp *ℤ gj +ℤ neg_ℤ (gp *ℤ fj)) +ℤ (fp *ℤ rest_j +ℤ neg_ℤ (rest_p *ℤ fj))
    ≡ fp *ℤ (c *ℤ gj +ℤ rest_j) +ℤ neg_ℤ ((c *ℤ gp +ℤ rest_p) *ℤ fj)
spread c fp gj gp fj rest_j rest_p =
    let one = times-add c (fp *ℤ gj) (neg_ℤ (gp *ℤ fj)) in
    let two = times-add fp (c *ℤ gj) rest_j in
    let three = add-times (c *ℤ gp) rest_p fj in
    let four : c *ℤ (fp *ℤ gj) ≡ fp *ℤ (c *ℤ gj) = sym (times_assoc c fp gj) ∙ ap (λ z. z *ℤ gj) (*ℤ_comm c fp) ∙ times_assoc fp c gj in
    let five : c *ℤ neg_ℤ (gp *ℤ fj) ≡ neg_ℤ ((c *ℤ gp) *ℤ fj) = *ℤ_comm c (neg_ℤ (gp *ℤ fj)) ∙ neg-times (gp *ℤ fj) c
    ∙ ap neg_ℤ (*ℤ_comm (gp *ℤ fj) c ∙ sym (times_assoc c gp fj)) in
    omega (arith, ints)

-- the rows cleared come to what the rows come to, cleared
sum-cleared : (f : ℕ → ℤ) (p : ℕ) (a : List ℤ) (rows : List (ℕ → ℤ)) (j : ℕ) → sum_of a (map (cleared f p) rows) j
    ≡ f p *ℤ sum_of a rows j +ℤ neg_ℤ (sum_of a rows p *ℤ f j)
sum-cleared f p [] rows j = let one = *ℤ-zero (f p) in let two = zero-*ℤ (f j) in omega (arith, ints)
sum-cleared f p (c ∷ a) [] j = let one = *ℤ-zero (f p) in let two = zero-*ℤ (f j) in omega (arith, ints)
sum-cleared f p (c ∷ a) (g ∷ rows) j = ap (λ z. c *ℤ cleared f p g j +ℤ z) (sum-cleared f p a rows j)
    ∙ spread c (f p) (g j) (g p) (f j) (sum_of a rows j) (sum_of a rows p)

-- column n stands in the place of column p
abbrev moved : ℕ → ℕ → ℕ → ℕ
moved n p j = cond (j == p) n j

sum-moved : (n p : ℕ) (a : List ℤ) (rows : List (ℕ → ℤ)) (j : ℕ) → sum_of a (map (λ g i. g (moved n p i)) rows) j ≡ sum_of a rows (moved n p j)
sum-moved n p [] rows j = refl
sum-moved n p (c ∷ a) [] j = refl
sum-moved n p (c ∷ a) (g ∷ rows) j = ap (λ z. c *ℤ g (moved n p j) +ℤ z) (sum-moved n p a rows j)

sum-times : (k : ℤ) (a : List ℤ) (rows : List (ℕ → ℤ)) (j : ℕ) → sum_of (times k a) rows j ≡ k *ℤ sum_of a rows j
sum-times k [] rows j = sym (*ℤ-zero k)
sum-times k (c ∷ a) [] j = sym (*ℤ-zero k)
sum-times k (c ∷ a) (g ∷ rows) j =
    let first = times_assoc k c (g j) in
    let rest = sum-times k a rows j in
    let whole = times-add k (c *ℤ g j) (sum_of a rows j) in
    omega (arith, ints)

-- a row is 0 at the first columns, or isn't at some
some_column : (f : ℕ → ℤ) (n : ℕ) → ((p : ℕ) × (p < n) × (f p ≢ pos 0)) ⊎ ((j : ℕ) → j < n → f j ≡ pos 0)
some_column f zero = inr (λ j l. absurd (omega arith))
some_column f (suc n) = elim (some_column f n) [
  | inl (p, below, some) ↦ inl (p, omega arith, some)
  | inr none ↦ elim (zero_or_not (f n)) [
    | inr some ↦ inl (n, omega arith, some)
    | inl last ↦ inr (λ j l. elim (cases_eq j n) [ inl same ↦ ap f same ∙ last | inr other ↦ none j (omega arith) ])
  ]
]

-- the other rows, cleared at a column of the first and without it
abbrev left_of : ℕ → (ℕ → ℤ) → ℕ → List (ℕ → ℤ) → List (ℕ → ℤ)
left_of n f p rows = map (λ g i. g (moved n p i)) (map (cleared f p) rows)

left_count : (n : ℕ) (f : ℕ → ℤ) (p : ℕ) (rows : List (ℕ → ℤ)) → length (left_of n f p rows) ≡ length rows
left_count n f p [] = refl
left_count n f p (g ∷ rows) = ap suc (left_count n f p rows)

-- if the cleared rows come to nothing at the other columns, they do at each
all_columns : (n p : ℕ) (h : ℕ → ℤ) → p < suc n → h p ≡ pos 0 → ((j : ℕ) → j < n → h (moved n p j) ≡ pos 0) → (i : ℕ) → i < suc n → h i ≡ pos 0
all_columns n p h below here others i l = elim (cases_eq i p) [
  | inl same ↦ ap h same ∙ here
  | inr apart ↦ elim (cases_eq i n) [
    | inr inner ↦ let test : (i == p) ≡ false = ne_eqb i p apart in rw test at (others i (omega arith))
    | inl last ↦
        let place : p < n = omega arith in
        let test : (p == p) ≡ true = eq-eqb p p refl in
        ap h last ∙ rw test at (others p place)
  ]
]

module _ (n : ℕ) (f : ℕ → ℤ) (p : ℕ) (below : p < suc n) (some : f p ≢ pos 0) (rows : List (ℕ → ℤ)) where
  -- it is 0 at its column
  cleared_here : (a : List ℤ) → sum_of a (map (cleared f p) rows) p ≡ pos 0
  cleared_here a = let is = sum-cleared f p a rows p in let turned = *ℤ_comm (f p) (sum_of a rows p) in omega (arith, ints)

  left_free : IsFree (suc n) (f ∷ rows) → IsFree n (left_of n f p rows)
  left_free free a nothing k l =
      let h = sum_of a (map (cleared f p) rows) in
      let zeros = all_columns n p h below (cleared_here a) (λ j m. sym (sum-moved n p a (map (cleared f p) rows) j) ∙ nothing j m) in
      let b : List ℤ = neg_ℤ (sum_of a rows p) ∷ times (f p) a in
      let all : (i : ℕ) → i < suc n → sum_of b (f ∷ rows) i ≡ pos 0 = λ i m.
      let here = zeros i m in
      let is = sum-cleared f p a rows i in
      let first = neg-times (sum_of a rows p) (f i) in
      let rest = sum-times (f p) a rows i in
      omega (arith, ints) in
      let count : length (left_of n f p rows) ≡ length rows = left_count n f p rows in
      zero_product (f p) (number_at a k) (sym (number_at-times (f p) a k) ∙ free b all (suc k) (omega arith)) some

-- so there are at most n
pub at_most : (n : ℕ) (rows : List (ℕ → ℤ)) → IsFree n rows → length rows ≤ n
at_most n [] free = omega arith
at_most zero (f ∷ rows) free = absurd (let none : pos 1 ≡ pos 0 = free (pos 1 ∷ []) (λ j l. absurd (omega arith)) 0 (omega arith) in omega (arith, ints))
at_most (suc n) (f ∷ rows) free = elim (some_column f (suc n)) [
  | inl (p, below, some) ↦
      let rest = at_most n (left_of n f p rows) (left_free n f p below some rows free) in
      let count : length (left_of n f p rows) ≡ length rows = left_count n f p rows in
      omega arith
  | inr none ↦
      let nothing : pos 1 ≡ pos 0 = free (pos 1 ∷ []) (λ j l. let here = none j l in let once = one-times (f j) in omega (arith, ints)) 0 (omega arith) in
      absurd (omega (arith, ints))
]

-- combinations of rows are such sums
pub as_sum : (a : List ℤ) (rows : List (List ℤ)) (j : ℕ) → combined a rows j ≡ sum_of a (map number_at rows) j
as_sum [] rows j = refl
as_sum (c ∷ a) [] j = refl
as_sum (c ∷ a) (row ∷ rows) j = ap (λ z. c *ℤ number_at row j +ℤ z) (as_sum a rows j)
