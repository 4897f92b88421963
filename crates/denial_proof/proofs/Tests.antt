-- Tests that say what they are asked.
use Rattle.std.proofs.Common.{◌≡◌, Bool, true, false, not, Option, None, Some, refl, sym}
use Rattle.std.specs.Prelude.{◌↔◌, IfSome, IfNone, IfOk, Result, Ok, Err}

-- two tests that say yes to the same are one
pub same_test : (p q : Bool) → (p ≡ true) ↔ (q ≡ true) → p ≡ q
same_test true q both = sym (both.0 refl)
same_test false true both = both.1 refl
same_test false false both = refl

-- the opposite of a test says yes where it says no
pub opposite : (p : Bool) → (not p ≡ true) ↔ (p ≡ false)
opposite true = (λ yes. sym yes, λ no. sym no)
opposite false = (λ yes. refl, λ no. refl)

-- what something says of what is there
pub some_weaker : {X : Type 0} {P Q : X → Type 0} → ((x : X) → P x → Q x) → (o : Option X) → IfSome o P → IfSome o Q
some_weaker weaker None holds = tt
some_weaker weaker (Some x) holds = weaker x holds

pub none_weaker : {X : Type 0} {P Q : Type 0} → (P → Q) → (o : Option X) → IfNone o P → IfNone o Q
none_weaker weaker None holds = weaker holds
none_weaker weaker (Some x) holds = tt

-- what is said of what a call gives
pub ok_weaker : {X E : Type 0} {P Q : X → Type 0} → ((x : X) → P x → Q x) → (result : Result X E) → IfOk result P → IfOk result Q
ok_weaker weaker (Ok x) holds = weaker x holds
ok_weaker weaker (Err e) holds = tt
