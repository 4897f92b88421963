use Rattle.std.proofs.Common.{ℕ, sym, subst}
use Rattle.std.specs.Int.{IsGcd}
use Rattle.std.specs.Prelude.{unsigned_abs}
use Rattle.int_rows.specs.ContentLaws.{size_is}
use Rattle.int_rows.proofs.dividing.Divisor.with.Goals as goal

pub returns-in-None : goal.returns-in-None
returns-in-None c =
    let number = size_is c.args.number c.unsigned_abs-size.result c.ranges.number c.unsigned_abs-size.ensures.value in
    subst (λ (g : ℕ). IsGcd c.args.self (unsigned_abs c.args.number) g) (sym c.prepare.ensures)
    (subst (λ (m : ℕ). IsGcd m (unsigned_abs c.args.number) c.common_divisor.result) c.self.view_is
    (subst (λ (m : ℕ). IsGcd c.self.inside.size m c.common_divisor.result) number c.common_divisor.ensures.divisor))
