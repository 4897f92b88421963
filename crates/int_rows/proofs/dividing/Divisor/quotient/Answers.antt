use Rattle.std.proofs.Common.{◌≡◌, ◌≢◌, ◌<◌, ◌≤◌, ◌^◌, ℕ, pos, sym, ap, ◌∙◌, arith, rules}
use Rattle.std.specs.Prelude.{FitsSigned, ◌*ℤ◌}
use Rattle.std.specs.Int.{w128}
use mir.Val.{to_z}
use Rattle.std.proofs.lemmas.Int.{ints, to_z-of_z, fits_signed_from_abs}
use Rattle.int_rows.proofs.dividing.Divisor.quotient.Goals as goal

size_as : (m : ℕ) → m ≤ 2 ^ 126 → to_z w128 m ≡ pos m
size_as m h = to_z-of_z w128 (pos m) (fits_signed_from_abs w128 (pos m) (omega arith))

pub quotient-requires-clause-divides : goal.quotient-requires-clause-divides
quotient-requires-clause-divides c =
    rw (size_as c.self.inside.size c.self.invariant.0, to_z-of_z w128 c.args.multiple c.ranges.multiple, c.self.view_is) c.requires.divides

not_zero : (m : ℕ) → 0 < m → pos m ≢ pos 0
not_zero m h = λ e. omega (arith, ints)

pub quotient-requires-clause-not_zero : goal.quotient-requires-clause-not_zero
quotient-requires-clause-not_zero c =
    rw (size_as c.self.inside.size c.self.invariant.0, c.self.view_is) (not_zero c.args.self.now c.requires.not_zero)

pub quotient-requires-clause-size : goal.quotient-requires-clause-size
quotient-requires-clause-size c = rw (to_z-of_z w128 c.args.multiple c.ranges.multiple) c.requires.size

pub returns-in-None : goal.returns-in-None
returns-in-None c =
    let fits : FitsSigned w128 c.quotient.result = search rules in
    sym (to_z-of_z w128 c.args.multiple c.ranges.multiple) ∙ c.quotient.ensures
    ∙ ap (λ z. z *ℤ c.quotient.result) (size_as c.self.inside.size c.self.invariant.0 ∙ ap pos c.self.view_is)
    ∙ ap (λ z. pos c.args.self.now *ℤ z) (sym (to_z-of_z w128 c.quotient.result fits))
