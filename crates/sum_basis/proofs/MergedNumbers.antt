-- Numbers and lists as the code passes them to a merge.
use Rattle.std.proofs.Common.{◌≡◌, ◌≢◌, ℕ, zero, suc, ◌-◌, ◌≤◌, ◌^◌, ℤ, pos, List, [], ◌∷◌, ◌++◌, map, length, take, drop, ap, ◌∙◌, arith, sym}
use Rattle.std.specs.Prelude.{FitsSigned, ◌-ℤ◌, ◌*ℤ◌, neg_ℤ, unsigned_abs}
use Rattle.std.specs.Int.{w128}
use Rattle.std.specs.List.{AllByRecursion}
use mir.Val.{to_z, of_z}
use Rattle.std.proofs.lemmas.Int.{ints, to_z-of_z, fits_signed_from_abs}
use Rattle.audit_types.specs.Numbers.{zero_less}
use Rattle.sum_basis.specs.declared.sparse.FreeEntry.{FreeEntry}
use Rattle.sum_basis.specs.Sparse.{scaled}
use Rattle.sum_basis.proofs.Merges.{end_is, appended}
use Rattle.sum_basis.proofs.Wide.{product_of}

-- a number as the code passes it
pub passed : (x y : ℤ) → FitsSigned w128 x → x ≡ y → to_z w128 (of_z w128 x) ≡ y
passed x y fits e = to_z-of_z w128 x fits ∙ e

-- a number within the limit
pub limit_fits : (z : ℤ) → unsigned_abs z ≤ 2 ^ 56 → FitsSigned w128 z
limit_fits z h = fits_signed_from_abs w128 z (omega arith)

-- a product or difference of values as the code passes them
pub of_value : (by x : ℤ) → FitsSigned w128 x → by *ℤ to_z w128 (of_z w128 x) ≡ by *ℤ x
of_value by x fits = ap (λ z. by *ℤ z) (to_z-of_z w128 x fits)

pub of_values : (by x times y : ℤ) → FitsSigned w128 x → FitsSigned w128 y →
    by *ℤ to_z w128 (of_z w128 x) -ℤ times *ℤ to_z w128 (of_z w128 y) ≡ by *ℤ x -ℤ times *ℤ y
of_values by x times y p q = ap (λ z. z -ℤ times *ℤ to_z w128 (of_z w128 y)) (of_value by x p) ∙ ap (λ z. by *ℤ x -ℤ z) (of_value times y q)

-- such products and differences, as the code answers them
pub difference_of : (d by x times y : ℤ) → FitsSigned w128 d → unsigned_abs by ≤ 2 ^ 56 → FitsSigned w128 x → unsigned_abs times ≤ 2 ^ 56 → FitsSigned w128 y
    → d ≡ to_z w128 (of_z w128 by) *ℤ to_z w128 (of_z w128 x) -ℤ to_z w128 (of_z w128 times) *ℤ to_z w128 (of_z w128 y)
    → to_z w128 (of_z w128 d) ≡ by *ℤ x -ℤ times *ℤ y
difference_of d by x times y p b q t r e =
    passed d _ p (e ∙ of_values (to_z w128 (of_z w128 by)) x (to_z w128 (of_z w128 times)) y q r)
    ∙ ap (λ z. z *ℤ x -ℤ to_z w128 (of_z w128 times) *ℤ y) (to_z-of_z w128 by (limit_fits by b))
    ∙ ap (λ z. by *ℤ x -ℤ z *ℤ y) (to_z-of_z w128 times (limit_fits times t))

pub some_by : (z : ℤ) → FitsSigned w128 z → z ≢ pos 0 → to_z w128 (of_z w128 z) ≢ pos 0
some_by z fits n e = n (sym (to_z-of_z w128 z fits) ∙ e)

-- a value within the limit, as the code widens it
pub widened_small : (x v : ℤ) → FitsSigned w128 x → x ≡ v → unsigned_abs v ≤ 2 ^ 56 → unsigned_abs (to_z w128 (of_z w128 x)) ≤ 2 ^ 56
widened_small x v fits e h = rw (passed x v fits e) h

-- products and differences of widened values
pub product_with : (p by x v : ℤ) → FitsSigned w128 p → FitsSigned w128 by → FitsSigned w128 x → x ≡ v
    → p ≡ to_z w128 (of_z w128 by) *ℤ to_z w128 (of_z w128 x) → to_z w128 (of_z w128 p) ≡ by *ℤ v
product_with p by x v f g h is e = product_of p by x f g h e ∙ ap (λ z. by *ℤ z) is

pub product_by : (p x v y : ℤ) → FitsSigned w128 p → FitsSigned w128 x → FitsSigned w128 y → x ≡ v
    → p ≡ to_z w128 (of_z w128 x) *ℤ to_z w128 (of_z w128 y) → to_z w128 (of_z w128 p) ≡ v *ℤ y
product_by p x v y f g h is e = product_of p x y f g h e ∙ ap (λ z. z *ℤ y) is

pub difference_with : (d by x times y v w : ℤ) → FitsSigned w128 d → unsigned_abs by ≤ 2 ^ 56 → FitsSigned w128 x → unsigned_abs times ≤ 2 ^ 56
    → FitsSigned w128 y → x ≡ v → y ≡ w
    → d ≡ to_z w128 (of_z w128 by) *ℤ to_z w128 (of_z w128 x) -ℤ to_z w128 (of_z w128 times) *ℤ to_z w128 (of_z w128 y)
    → to_z w128 (of_z w128 d) ≡ by *ℤ v -ℤ times *ℤ w
difference_with d by x times y v w p b q t r one two e =
    difference_of d by x times y p b q t r e ∙ ap (λ z. by *ℤ z -ℤ times *ℤ y) one ∙ ap (λ z. by *ℤ v -ℤ times *ℤ z) two

-- no number within the limit passes the least number when its sign is turned
pub negated : (z : ℤ) → unsigned_abs z ≤ 2 ^ 56 → FitsSigned w128 (pos 0 -ℤ z)
negated z h = fits_signed_from_abs w128 (pos 0 -ℤ z) (omega (arith, ints))

pub minus_is : (z : ℤ) → FitsSigned w128 z → unsigned_abs z ≤ 2 ^ 56 → to_z w128 (of_z w128 (pos 0 -ℤ to_z w128 (of_z w128 z)))
    ≡ neg_ℤ (to_z w128 (of_z w128 z))
minus_is z fits small = rw (to_z-of_z w128 z fits) (to_z-of_z w128 (pos 0 -ℤ z) (negated z small) ∙ zero_less z)

pub minus_small : (z : ℤ) → FitsSigned w128 z → unsigned_abs z ≤ 2 ^ 56 → unsigned_abs (to_z w128 (of_z w128 (pos 0 -ℤ to_z w128 (of_z w128 z)))) ≤ 2 ^ 56
minus_small z fits small = rw (minus_is z fits small, to_z-of_z w128 z fits) (turned z small)
  where
    turned : (x : ℤ) → unsigned_abs x ≤ 2 ^ 56 → unsigned_abs (neg_ℤ x) ≤ 2 ^ 56
    turned x h = omega (arith, ints)

-- the end of a list of small values
pub end_small : (es : List FreeEntry) (k : ℕ) → AllByRecursion (λ (e : FreeEntry). unsigned_abs e.value ≤ 2 ^ 56) es →
    AllByRecursion (λ (e : FreeEntry). unsigned_abs e.value ≤ 2 ^ 56) (take (length es - k) (drop k es))
end_small es k all = rw (end_is es k) (later es k all)
  where
    later : (xs : List FreeEntry) (i : ℕ) → AllByRecursion (λ (e : FreeEntry). unsigned_abs e.value ≤ 2 ^ 56) xs →
        AllByRecursion (λ (e : FreeEntry). unsigned_abs e.value ≤ 2 ^ 56) (drop i xs)
    later xs zero h = h
    later [] (suc i) h = h
    later (x ∷ xs) (suc i) h = later xs i h.1

-- a product with a number whose sign is turned
pub turned_product_of : (p times y : ℤ) → FitsSigned w128 p → unsigned_abs times ≤ 2 ^ 56 → FitsSigned w128 y
    → p ≡ to_z w128 (of_z w128 (pos 0 -ℤ to_z w128 (of_z w128 times))) *ℤ to_z w128 (of_z w128 y) → to_z w128 (of_z w128 p) ≡ neg_ℤ times *ℤ y
turned_product_of p times y f small g e =
    passed p _ f (e ∙ ap (λ z. z *ℤ to_z w128 (of_z w128 y)) (minus_is times (limit_fits times small) small) ∙ of_value _ y g)
    ∙ ap (λ z. neg_ℤ z *ℤ y) (to_z-of_z w128 times (limit_fits times small))

pub turned_product_with : (p times y v : ℤ) → FitsSigned w128 p → unsigned_abs times ≤ 2 ^ 56 → FitsSigned w128 y → y ≡ v
    → p ≡ to_z w128 (of_z w128 (pos 0 -ℤ to_z w128 (of_z w128 times))) *ℤ to_z w128 (of_z w128 y) → to_z w128 (of_z w128 p) ≡ neg_ℤ times *ℤ v
turned_product_with p times y v f small g is e = turned_product_of p times y f small g e ∙ ap (λ z. neg_ℤ times *ℤ z) is

-- the combination, as the code appends the ends of the lists
pub appended_as : (out one two first second : List FreeEntry) (by times : ℤ) (i j : ℕ) → unsigned_abs by ≤ 2 ^ 56 → unsigned_abs times ≤ 2 ^ 56
    → one ≡ out ++ map (scaled (to_z w128 (of_z w128 by))) (take (length first - i) (drop i first))
    → two ≡ one ++ map (scaled (to_z w128 (of_z w128 (pos 0 -ℤ to_z w128 (of_z w128 times))))) (take (length second - j) (drop j second))
    → two ≡ (out ++ map (scaled by) (drop i first)) ++ map (scaled (neg_ℤ times)) (drop j second)
appended_as out one two first second by times i j p q e f =
    appended out one two first second by times _ i j
    (e ∙ ap (λ z. out ++ map (scaled z) (take (length first - i) (drop i first))) (to_z-of_z w128 by (limit_fits by p))) f
    (minus_is times (limit_fits times q) q ∙ ap neg_ℤ (to_z-of_z w128 times (limit_fits times q)))
