-- What a refusal of the store says, by its end.
use Rattle.std.proofs.Common.{◌≡◌, Result, Ok, Err, sym, subst}
use Rattle.std.specs.Prelude.{OnOk, OnErr}

-- what holds anyway holds of an answer
pub on_ok_always : {X E P : Type 0} (answer : Result X E) → P → OnOk answer P
on_ok_always (Ok x) holds = holds
on_ok_always (Err e) holds = tt

-- an answer whose end is known
module _ {X E : Type 0} (answer : Result X E) (e : E) (is : answer ≡ Err e) where
  pub no_answer : (P : Type 0) → OnOk answer P
  no_answer P = subst (λ (r : Result X E). OnOk r P) (sym is) tt

  pub on_refusal : (P : Type 0) → P → OnErr answer P
  on_refusal P holds = subst (λ (r : Result X E). OnErr r P) (sym is) holds
