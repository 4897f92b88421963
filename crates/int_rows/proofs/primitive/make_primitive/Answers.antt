use Rattle.std.proofs.Common.{◌≡◌, ℤ, map, subst, sym, ap, rules}
use Rattle.std.specs.Prelude.{unsigned_abs, FitsSigned, ◌*ℤ◌}
use Rattle.std.specs.Int.{w128, ◌∣◌}
use Rattle.std.specs.List.{AllByRecursion}
use Rattle.std.proofs.lemmas.Int.{to_z-of_z}
use Rattle.int_rows.specs.PrimitiveLaws.{made_primitive, made_of_zeros, zero_from_bits}
use mir.Val.{of_z}
use Rattle.int_rows.proofs.primitive.make_primitive.Goals as goal

pub divide-requires-clause-divides : goal.divide-requires-clause-divides
divide-requires-clause-divides c =
    let fits : FitsSigned w128 c.signed_content-by.result = search rules in
    subst (λ (b : ℤ). AllByRecursion (λ x. unsigned_abs b ∣ unsigned_abs x) c.args.row.now)
    (sym (to_z-of_z w128 c.signed_content-by.result fits)) c.signed_content-by.ensures.content.divides

pub returns-then-by-ne0 : goal.returns-then-by-ne0
returns-then-by-ne0 c =
    let fits : FitsSigned w128 c.signed_content-by.result = search rules in
    made_primitive c.args.row.now c.divide.new.row c.signed_content-by.result (λ e. c.if-by-ne0.true (ap (of_z w128) e)) c.signed_content-by.ensures
    (subst (λ (b : ℤ). c.args.row.now ≡ map (λ x. b *ℤ x) c.divide.new.row) (to_z-of_z w128 c.signed_content-by.result fits) c.divide.ensures)

pub returns-else-by-ne0 : goal.returns-else-by-ne0
returns-else-by-ne0 c =
    let fits : FitsSigned w128 c.signed_content-by.result = search rules in
    made_of_zeros c.args.row.now c.signed_content-by.result (zero_from_bits c.signed_content-by.result fits c.if-by-ne0.false) c.signed_content-by.ensures
