-- Facts on refusals.
use Rattle.std.proofs.Common.{◌≡◌, Result, Ok, Err, ap}
use Rattle.std.specs.Prelude.{IsErrOf}

-- what was given isn't a refusal
pub no_refusal : {X E P : Type 0} (x : X) (e : E) → IsErrOf (Ok x) e → P
no_refusal x e is = let none : ⊥ = cc in absurd none

-- a fault is the same in another answer
pub same_fault : {X Y E : Type 0} (given fault : E) → IsErrOf {T = X} (Err given) fault → IsErrOf {T = Y} (Err given) fault
same_fault {X} {Y} {E} given fault is = let same : given ≡ fault = cc in ap (λ (f : E). err f) same
  where
    err : E → Result Y E
    err f = Err f
