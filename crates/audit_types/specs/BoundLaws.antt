-- Facts on upper bounds.
use Rattle.std.proofs.Common.{◌≡◌, ℤ, Option, Some, None, refl}
use Rattle.std.specs.Option.{option_eq}
use Rattle.std.specs.Ordering.{int_eq}
use Rattle.audit_types.specs.Extremes.{is_bound}

-- whether a bound is a number, as `==` tests it
pub is_bound-option_eq : (bound : Option ℤ) (answer : ℤ) → option_eq int_eq bound (Some answer) ≡ is_bound bound answer
is_bound-option_eq None answer = refl
is_bound-option_eq (Some b) answer = refl
