use Rattle.std.proofs.Common.{◌++◌, cond, pos, [], ◌∷◌, sym, ap, ◌∙◌, rules}
use Rattle.std.specs.Prelude.{FitsSigned}
use Rattle.std.specs.Int.{w64, w128}
use Rattle.std.proofs.lemmas.Int.{to_z-of_z}
use Rattle.audit_types.specs.Truth.{is_zero}
use Rattle.sum_basis.proofs.OverDivisor.{put_scaled, some_divisor}
use Rattle.sum_basis.proofs.over_divisor.put_over.Goals as goal

pub returns-clause-items : goal.returns-clause-items
returns-clause-items c = λ yes.
    let fits : FitsSigned w64 c.in-Some.quotient = search rules in
    let out = c.args.out.now.items in
    put_scaled (pos c.args.divisor.now) c.in-Some.quotient c.args.value c.args.place out c.put_short.new.out.items
    (some_divisor c.args.divisor.now c.requires.positive)
    (sym (to_z-of_z w128 c.args.value c.ranges.value) ∙ c.in-Some.ensures)
    (c.put_short.ensures.items ∙ ap (λ v. cond (is_zero v) out (out ++ record { place = c.args.place; value = v } ∷ []))
    (to_z-of_z w64 c.in-Some.quotient fits))
