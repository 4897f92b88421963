use Rattle.std.proofs.Common.{◌≡◌, ℕ, ◌*◌, ◌^◌, ℤ, pos, sym, ap, ◌∙◌, arith, rules}
use Rattle.std.specs.Prelude.{FitsSigned, ◌*ℤ◌}
use Rattle.std.specs.Int.{w64, w128}
use mir.Val.{to_z, of_z}
use Rattle.std.proofs.lemmas.Int.{to_z-of_z, fits_signed_from_abs}
use Rattle.sum_basis.specs.Sparse.{scaled}
use Rattle.sum_basis.proofs.WithinLimit.{comes_within}
use Rattle.sum_basis.proofs.MergedNumbers.{passed}
use Rattle.sum_basis.proofs.cleared_list.quotient_entry.Goals as goal

pub quotient-value-requires-clause-divides : goal.quotient-value-requires-clause-divides
quotient-value-requires-clause-divides c =
    let x : FitsSigned w128 c.value.result = search rules in
    rw (passed c.value.result c.args.entry.now.value x c.value.ensures) c.requires.divides

pub quotient-value-requires-clause-size : goal.quotient-value-requires-clause-size
quotient-value-requires-clause-size c =
    let x : FitsSigned w128 c.value.result = search rules in
    rw (passed c.value.result c.args.entry.now.value x c.value.ensures) c.requires.size

-- the value is the multiple of the quotient
value_is : (by : ℕ) (v x q : ℤ) → FitsSigned w128 x → FitsSigned w128 q → x ≡ v → to_z w128 (of_z w128 x) ≡ pos by *ℤ q → v ≡ pos by *ℤ to_z w128 (of_z w128 q)
value_is by v x q f g e is = sym (passed x v f e) ∙ is ∙ ap (λ z. pos by *ℤ z) (sym (to_z-of_z w128 q g))

-- so the quotient is small
pub overflow_cast-result : goal.overflow_cast-result
overflow_cast-result c =
    let x : FitsSigned w128 c.value.result = search rules in
    let q : FitsSigned w128 c.quotient-value.result = search rules in
    let small = comes_within (2 ^ 56) c.args.by.now (c.args.by.now * 2 ^ 56) c.args.entry.now.value (to_z w128 (of_z w128 c.quotient-value.result))
    c.requires.not_zero (value_is c.args.by.now c.args.entry.now.value c.value.result c.quotient-value.result x q c.value.ensures c.quotient-value.ensures)
    c.requires.small (omega arith) in
    fits_signed_from_abs w64 (to_z w128 (of_z w128 c.quotient-value.result)) (omega arith)

pub returns : goal.returns
returns c =
    let x : FitsSigned w128 c.value.result = search rules in
    let q : FitsSigned w128 c.quotient-value.result = search rules in
    let number = to_z w128 (of_z w128 c.quotient-value.result) in
    let is = value_is c.args.by.now c.args.entry.now.value c.value.result c.quotient-value.result x q c.value.ensures c.quotient-value.ensures in
    let small = comes_within (2 ^ 56) c.args.by.now (c.args.by.now * 2 ^ 56) c.args.entry.now.value number c.requires.not_zero is
    c.requires.small (omega arith) in
    let short = to_z-of_z w64 number (fits_signed_from_abs w64 number (omega arith)) in
    ap (λ (p : ℕ). scaled (pos c.args.by.now) (record { place = p; value = to_z w64 (of_z w64 number) })) c.place.ensures
    ∙ ap (λ (z : ℤ). record { place = c.args.entry.now.place; value = pos c.args.by.now *ℤ z }) short
    ∙ ap (λ (z : ℤ). record { place = c.args.entry.now.place; value = z }) (sym is)
