use Rattle.std.proofs.Common.{◌≡◌, ℕ, ◌*◌, pos, sym, subst, arith}
use Rattle.sum_basis.specs.Points.{IsLeftModulo}
use Rattle.sum_basis.proofs.LeftModulo.{left_self}
use Rattle.sum_basis.proofs.keys.has_inverse.Goals as goal

pub returns-then-number-eq1 : goal.returns-then-number-eq1
returns-then-number-eq1 c = λ yes.
    let one : c.args.number ≡ 1 = omega (arith, c.if-number-eq1.true) in
    (1, subst (λ (m : ℕ). IsLeftModulo (pos (m * 1)) 1) (sym one) (left_self 1 (omega arith)))
