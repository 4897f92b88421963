-- A row less a multiple of another, which makes it 0 at the other's pivot.
use Rattle.std.proofs.Common.{◌≡◌, ◌<◌, ◌≤◌, ◌*◌, ◌^◌, ℤ, pos, negsuc, List, sym, ap, ◌∙◌, arith}
use Rattle.std.specs.Prelude.{◌+ℤ◌, ◌*ℤ◌, ◌<ℤ◌, unsigned_abs}
use Rattle.std.proofs.lemmas.Int.{ints, unsigned_abs-mul}
use Rattle.std.proofs.Math.Nat.{le-mul_of_pos_right}
use Rattle.std.proofs.Math.IntN.{zero-*ℤ, +ℤ_idr}
use Rattle.audit_types.specs.Truth.{number_at}
use Rattle.audit_types.specs.Form.{pivot}
use Rattle.sum_basis.specs.Elimination.{IsLessMultiple}

-- a factor of a small number is small
pub factor_small : (x d times : ℤ) → x ≡ d *ℤ times → pos 0 <ℤ d → unsigned_abs x ≤ 2 ^ 56 → unsigned_abs times ≤ 2 ^ 56
factor_small x (pos n) times e p h =
    let size : unsigned_abs x ≡ n * unsigned_abs times = ap unsigned_abs e ∙ unsigned_abs-mul (pos n) times in
    let more = le-mul_of_pos_right (unsigned_abs times) (let above : 0 < n = omega (arith, ints) in above) in
    omega (arith, size, more)
factor_small x (negsuc n) times e p h = absurd (omega (arith, ints))

-- nothing has to be taken from a row that is 0 there
pub no_multiple : (other old : List ℤ) → number_at old (pivot other) ≡ pos 0 → IsLessMultiple other old old
no_multiple other old e = record {
  times = pos 0;
  small = omega arith;
  is = λ j. sym (ap (λ z. number_at old j +ℤ z) (zero-*ℤ (number_at other j)) ∙ +ℤ_idr (number_at old j));
  zero_there = e;
}
