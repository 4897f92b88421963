-- Products of which one factor may be large, by the parts of this factor.
use Rattle.std.proofs.Common.{◌≡◌, ◌<◌, ◌≤◌, ◌^◌, ℤ, pos, ap, ◌∙◌, arith}
use Rattle.std.specs.Prelude.{◌+ℤ◌, ◌-ℤ◌, ◌*ℤ◌, unsigned_abs}
use Rattle.std.proofs.lemmas.Int.{ints, unsigned_abs-mul}
use Rattle.std.proofs.Math.IntN.{zero-*ℤ}
use Rattle.std.proofs.Math.Nat.{mul-le-mul}
use Rattle.audit_types.specs.Numbers.{zero_size}
use Rattle.audit_types.specs.Products.{add-times, times-add, times_assoc}

-- the high part is small
pub high_small : (x high low : ℤ) → x ≡ high *ℤ pos (2 ^ 62) +ℤ low → unsigned_abs x < 2 ^ 126 → unsigned_abs low < 2 ^ 62 → unsigned_abs high ≤ 2 ^ 64
high_small x high low is large small = let size = unsigned_abs-mul high (pos (2 ^ 62)) in omega (arith, ints)

-- what is between the products, by the parts
pub between_parts : (by x times y xh xl yh yl high low lh ll : ℤ) → x ≡ xh *ℤ pos (2 ^ 62) +ℤ xl → y ≡ yh *ℤ pos (2 ^ 62) +ℤ yl →
    high ≡ by *ℤ xh -ℤ times *ℤ yh → low ≡ by *ℤ xl -ℤ times *ℤ yl → low ≡ lh *ℤ pos (2 ^ 62) +ℤ ll →
    by *ℤ x -ℤ times *ℤ y ≡ (high +ℤ lh) *ℤ pos (2 ^ 62) +ℤ ll
between_parts by x times y xh xl yh yl high low lh ll x_is y_is high_is low_is parts =
    let first = ap (λ z. by *ℤ z) x_is ∙ times-add by (xh *ℤ pos (2 ^ 62)) xl in
    let second = ap (λ z. times *ℤ z) y_is ∙ times-add times (yh *ℤ pos (2 ^ 62)) yl in
    let turned = times_assoc by xh (pos (2 ^ 62)) in
    let other = times_assoc times yh (pos (2 ^ 62)) in
    let sum : by *ℤ xh ≡ high +ℤ times *ℤ yh = omega (arith, ints) in
    let spread = ap (λ z. z *ℤ pos (2 ^ 62)) sum ∙ add-times high (times *ℤ yh) (pos (2 ^ 62)) in
    let both = add-times high lh (pos (2 ^ 62)) in
    omega (arith, ints)

-- a number is 0 exactly if both of its parts are
pub zero_parts : (high low : ℤ) → unsigned_abs low < 2 ^ 62 → high *ℤ pos (2 ^ 62) +ℤ low ≡ pos 0 → (high ≡ pos 0) × (low ≡ pos 0)
zero_parts high low small none =
    let size = unsigned_abs-mul high (pos (2 ^ 62)) in
    let nothing : high ≡ pos 0 = zero_size high (omega (arith, ints)) in
    let product = ap (λ z. z *ℤ pos (2 ^ 62)) nothing ∙ zero-*ℤ (pos (2 ^ 62)) in
    (nothing, omega (arith, ints))

pub parts_zero : (high low : ℤ) → high ≡ pos 0 → low ≡ pos 0 → high *ℤ pos (2 ^ 62) +ℤ low ≡ pos 0
parts_zero high low first second = let product = ap (λ z. z *ℤ pos (2 ^ 62)) first ∙ zero-*ℤ (pos (2 ^ 62)) in omega (arith, ints)

-- how large a product of parts is
pub part_small : (x y : ℤ) → unsigned_abs x ≤ 2 ^ 56 → unsigned_abs y ≤ 2 ^ 64 → unsigned_abs (x *ℤ y) ≤ 2 ^ 120
part_small x y p q = rw (unsigned_abs-mul x y) (mul-le-mul {n₂ = 2 ^ 56} {m₂ = 2 ^ 64} p q)

pub between_small : (by x times y : ℤ) → unsigned_abs by ≤ 2 ^ 56 → unsigned_abs x ≤ 2 ^ 64 → unsigned_abs times ≤ 2 ^ 56 → unsigned_abs y ≤ 2 ^ 64 →
    unsigned_abs (by *ℤ x -ℤ times *ℤ y) ≤ 2 ^ 121
between_small by x times y p q r s = let one = part_small by x p q in let two = part_small times y r s in omega (arith, ints)
