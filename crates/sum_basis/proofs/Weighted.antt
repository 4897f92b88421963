-- Weighted sums of lists of entries.
--
-- The sum of a list is the total, over the columns, of what the list has there times the weight. So if a multiple of a list is a combination of
-- two others, that of its sum is the same combination of theirs.
use Rattle.std.proofs.Common.{◌≡◌, ℕ, ◌+◌, cond, nat_eq, ℤ, pos, List, [], ◌∷◌, refl, sym, ap, ◌∙◌, arith}
use Rattle.std.specs.Prelude.{◌+ℤ◌, ◌-ℤ◌, ◌*ℤ◌, neg_ℤ}
use Rattle.std.proofs.lemmas.Int.{ints}
use Rattle.std.proofs.Math.IntN.{*ℤ_comm, *ℤ-zero}
use Rattle.audit_types.specs.Products.{neg-times, times-add, times_assoc, swapped}
use Rattle.audit_types.specs.Totals.{total, total-agree, total-add, total-single, total-times, total-zero}
use Rattle.sum_basis.specs.Points.{weighted, weighted_after}
use Rattle.sum_basis.specs.Sparse.{entry_at, IsListed}
use Rattle.sum_basis.specs.declared.sparse.FreeEntry.{FreeEntry}
use Rattle.sum_basis.proofs.SparseRows.{here, elsewhere, first_value}

-- a number times a difference
pub times-less : (k x y : ℤ) → k *ℤ (x -ℤ y) ≡ k *ℤ x -ℤ k *ℤ y
times-less k x y =
    let same : x -ℤ y ≡ x +ℤ neg_ℤ y = omega (arith, ints) in
    let whole = ap (λ z. k *ℤ z) same ∙ times-add k x (neg_ℤ y) in
    let minus = *ℤ_comm k (neg_ℤ y) ∙ neg-times y k in
    let turned = *ℤ_comm y k in
    omega (arith, ints)

module _ (weight : ℕ → ℤ) (n : ℕ) where
  -- the sum of a list as a total
  weighted_is : (from : ℕ) (es : List FreeEntry) → IsListed from n es → weighted weight es ≡ total (λ j. weight j *ℤ entry_at es j) n
  weighted_is from [] h = sym (total-zero _ n (λ j l. *ℤ-zero (weight j)))
  weighted_is from (e ∷ es) h =
      let split = total-agree (λ j. weight j *ℤ entry_at (e ∷ es) j)
      (λ j. weight j *ℤ cond (nat_eq e.place j) e.value (pos 0) +ℤ weight j *ℤ entry_at es j) n
      (λ j l. times-add (weight j) (cond (nat_eq e.place j) e.value (pos 0)) (entry_at es j)) in
      let apart = total-add (λ j. weight j *ℤ cond (nat_eq e.place j) e.value (pos 0)) (λ j. weight j *ℤ entry_at es j) n in
      let first = total-single (λ j. weight j *ℤ cond (nat_eq e.place j) e.value (pos 0)) n e.place h.1
      (λ j l other. ap (λ z. weight j *ℤ z) (elsewhere e j (λ same. other (sym same))) ∙ *ℤ-zero (weight j)) in
      let own = ap (λ z. weight e.place *ℤ z) (here e e.place refl) in
      let rest = weighted_is (e.place + 1) es h.3 in
      omega (arith, ints)

  -- a multiple of a list is a combination of two others
  module _ (a b c : ℤ) (xs ys zs : List FreeEntry) (x_listed : IsListed 0 n xs) (y_listed : IsListed 0 n ys) (z_listed : IsListed 0 n zs)
      (is : (j : ℕ) → a *ℤ entry_at xs j ≡ b *ℤ entry_at ys j +ℤ c *ℤ entry_at zs j) where
    at : (j : ℕ) → a *ℤ (weight j *ℤ entry_at xs j) ≡ b *ℤ (weight j *ℤ entry_at ys j) +ℤ c *ℤ (weight j *ℤ entry_at zs j)
    at j =
        swapped a (weight j) (entry_at xs j) ∙ ap (λ z. weight j *ℤ z) (is j)
        ∙ times-add (weight j) (b *ℤ entry_at ys j) (c *ℤ entry_at zs j)
        ∙ ap (λ z. z +ℤ weight j *ℤ (c *ℤ entry_at zs j)) (swapped (weight j) b (entry_at ys j))
        ∙ ap (λ z. b *ℤ (weight j *ℤ entry_at ys j) +ℤ z) (swapped (weight j) c (entry_at zs j))

    -- so is that of its sum
    pub weighted_line : a *ℤ weighted weight xs ≡ b *ℤ weighted weight ys +ℤ c *ℤ weighted weight zs
    weighted_line =
        ap (λ z. a *ℤ z) (weighted_is 0 xs x_listed) ∙ sym (total-times a (λ j. weight j *ℤ entry_at xs j) n)
        ∙ total-agree (λ j. a *ℤ (weight j *ℤ entry_at xs j)) (λ j. b *ℤ (weight j *ℤ entry_at ys j) +ℤ c *ℤ (weight j *ℤ entry_at zs j)) n (λ j l. at j)
        ∙ total-add (λ j. b *ℤ (weight j *ℤ entry_at ys j)) (λ j. c *ℤ (weight j *ℤ entry_at zs j)) n
        ∙ ap (λ z. z +ℤ total (λ j. c *ℤ (weight j *ℤ entry_at zs j)) n)
        (total-times b (λ j. weight j *ℤ entry_at ys j) n ∙ ap (λ z. b *ℤ z) (sym (weighted_is 0 ys y_listed)))
        ∙ ap (λ z. b *ℤ weighted weight ys +ℤ z)
        (total-times c (λ j. weight j *ℤ entry_at zs j) n ∙ ap (λ z. c *ℤ z) (sym (weighted_is 0 zs z_listed)))

-- what a new list leaves of two sums, one a multiple of the other but for those of the list
line_after : (a b c value x z x_there z_there y : ℤ) → a *ℤ x ≡ b *ℤ y +ℤ c *ℤ z → a *ℤ x_there ≡ b *ℤ value +ℤ c *ℤ z_there →
    a *ℤ (value *ℤ x -ℤ x_there *ℤ y) ≡ c *ℤ (value *ℤ z -ℤ z_there *ℤ y)
line_after a b c value x z x_there z_there y is there =
    let left = times-less a (value *ℤ x) (x_there *ℤ y) in
    let right = times-less c (value *ℤ z) (z_there *ℤ y) in
    let first = swapped a value x ∙ ap (λ k. value *ℤ k) is ∙ times-add value (b *ℤ y) (c *ℤ z) in
    let second = sym (times_assoc a x_there y) ∙ ap (λ k. k *ℤ y) there ∙ *ℤ_comm (b *ℤ value +ℤ c *ℤ z_there) y
    ∙ times-add y (b *ℤ value) (c *ℤ z_there) in
    let new = swapped value b y ∙ ap (λ k. b *ℤ k) (*ℤ_comm value y) ∙ swapped b y value in
    let other = swapped value c z in
    let last = swapped y c z_there ∙ ap (λ k. c *ℤ k) (*ℤ_comm y z_there) in
    omega (arith, ints)

-- the same of lists: what the new list leaves of the sum of the one is a multiple of what it leaves of that of the other
pub weighted_after_line : (weight : ℕ → ℤ) (n : ℕ) (a b c : ℤ) (xs new zs : List FreeEntry) → IsListed 0 n xs → IsListed 0 n new → IsListed 0 n zs →
    ((j : ℕ) → a *ℤ entry_at xs j ≡ b *ℤ entry_at new j +ℤ c *ℤ entry_at zs j) →
    a *ℤ weighted_after weight new xs ≡ c *ℤ weighted_after weight new zs
weighted_after_line weight n a b c xs [] zs x_listed listed z_listed is =
    let line = weighted_line weight n a b c xs [] zs x_listed listed z_listed is in
    let none = *ℤ-zero b in
    omega (arith, ints)
weighted_after_line weight n a b c xs (e ∷ new) zs x_listed listed z_listed is =
    line_after a b c e.value (weighted weight xs) (weighted weight zs) (entry_at xs e.place) (entry_at zs e.place) (weighted weight (e ∷ new))
    (weighted_line weight n a b c xs (e ∷ new) zs x_listed listed z_listed is)
    (is e.place ∙ ap (λ k. b *ℤ k +ℤ c *ℤ entry_at zs e.place) (first_value 0 n e new listed))
