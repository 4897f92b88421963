-- What a string holds after pushes.
use Rattle.std.proofs.Common.{◌≡◌, ℕ, cond, List, ◌++◌, ◌∙◌, ap, append_assoc}
use Rattle.std.specs.Prelude.{Result, Ok, Err, IsErr, OnOk}
use Rattle.std.specs.Result.{is_ok}

-- after a last push
pub pushed : {A E : Type 0} (r : Result A E) (new old bytes whole : List ℕ) → new ≡ cond (is_ok r) (old ++ bytes) old → old ++ bytes ≡ whole →
    OnOk r (new ≡ whole)
pushed (Ok u) new old bytes whole h e = h ∙ e
pushed (Err f) new old bytes whole h e = tt

-- what stands after a push
pub behind_push : (old new bytes rest : List ℕ) → new ≡ old ++ bytes → new ++ rest ≡ old ++ (bytes ++ rest)
behind_push old new bytes rest h = ap (λ xs. xs ++ rest) h ∙ append_assoc old bytes rest

-- what holds after Ok leads to what is wanted there
pub then_ok : {A E : Type 0} (r : Result A E) (P Q : Type 0) → OnOk r P → (P → Q) → OnOk r Q
then_ok (Ok u) P Q h f = f h
then_ok (Err e) P Q h f = tt

-- nothing is claimed if a push failed
pub where_refused : {A E : Type 0} (r : Result A E) (P : Type 0) → IsErr r → OnOk r P
where_refused (Ok u) P failed = absurd cc
where_refused (Err e) P failed = tt
