-- A whole number that is divided without rest.
use Rattle.std.proofs.Common.{◌≡◌, ℕ, ℤ, pos, sym, subst, arith}
use Rattle.std.specs.Prelude.{unsigned_abs, int_div, int_rem, ◌*ℤ◌}
use Rattle.std.specs.Int.{◌∣◌}
use Rattle.std.proofs.lemmas.Int.{ints, quot-rem, unsigned_abs-mul}
use Rattle.std.proofs.Math.Nat.{dvd-mul_left}
use Rattle.std.proofs.Math.IntN.{*ℤ_comm}
use Rattle.int_rows.specs.Exact.{exact}

-- a multiple has no rest
pub rest_of_multiple : (whole : ℤ) (d : ℕ) → int_rem (whole *ℤ pos d) (pos d) ≡ pos 0
rest_of_multiple whole d =
    let a = whole *ℤ pos d in
    let is = exact a (pos d) (subst (λ (n : ℕ). d ∣ n) (sym (unsigned_abs-mul whole (pos d))) (dvd-mul_left d (unsigned_abs whole))) in
    let parts = quot-rem a (pos d) in
    omega (arith, ints, is, parts, *ℤ_comm (pos d) (int_div a (pos d)))

-- and what has none is a multiple
pub multiple_without_rest : (a : ℤ) (d : ℕ) → int_rem a (pos d) ≡ pos 0 → a ≡ int_div a (pos d) *ℤ pos d
multiple_without_rest a d none = let whole = quot-rem a (pos d) in omega (arith, ints, whole, none)
