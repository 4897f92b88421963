-- What is claimed of a call that failed.
use Rattle.std.specs.Prelude.{Result, Ok, Err, IsErr, OnOk, OnErr}

-- nothing that holds only of a success
pub no_ok : {A E : Type 0} (r : Result A E) (P : Type 0) → IsErr r → OnOk r P
no_ok (Ok u) P is = absurd cc
no_ok (Err e) P is = tt

-- what holds of every failure
pub at_err : {A E : Type 0} (r : Result A E) (P : Type 0) → P → OnErr r P
at_err (Ok u) P h = tt
at_err (Err e) P h = h
