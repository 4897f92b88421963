-- What a refusal says.
use Rattle.std.proofs.Common.{◌≡◌, ℕ, ◌≤◌, Bool, true, false, Result, Ok, Err, refl, subst, ◌∙◌}
use Rattle.std.specs.Result.{IsErr}
use Rattle.std.proofs.lemmas.Bool.{false≢true}
use Rattle.bench_core.specs.declared.stops.Stop.{Stop}
use Rattle.bench_core.specs.declared.stops.Stop.TheVariants as end
use Rattle.bench_core.specs.Stops.{IsOfBenches}
use Rattle.bench_core.specs.declared.bench.Bench.{Ghosts}
use Rattle.bench_core.specs.Calls.{TellsFault}
use Rattle.bench_core.specs.Causes.{Rose}

-- whether an input goes on has one answer
pub no_more : {E P : Type 0} → (let given : Result Bool E = Ok false in given) ≡ Ok true → P
no_more is = let none : ⊥ = cc in absurd none

pub no_end : {E P : Type 0} → (let given : Result Bool E = Ok true in given) ≡ Ok false → P
no_end is = let none : ⊥ = cc in absurd none

-- a refusal isn't an answer
pub no_answer : {X E P : Type 0} (answer : Result X E) (x : X) → IsErr answer → answer ≡ Ok x → P
no_answer (Ok y) x is same = absurd (false≢true is)
no_answer (Err e) x is same = let none : ⊥ = cc in absurd none

-- what is so of a stop is so of the one that is answered
pub of_stop : {X : Type 0} (given why : Stop) (Claim : Stop → Type 0) → Claim given → (let answer : Result X Stop = Err given in answer) ≡ Err why
    → Claim why
of_stop given why Claim holds is = let same : given ≡ why = cc in subst Claim same holds

-- where no call failed, memory ran out
pub only_memory : {X : Type 0} (why : Stop) → IsOfBenches why → (let given : Result X Stop = Err why in given ≡ Err end.Bench → ⊥)
    → (let given : Result X Stop = Err why in given ≡ Err end.Spare → ⊥) → why ≡ end.NoMemory
only_memory end.Bench is bench spare = absurd (bench refl)
only_memory end.Spare is bench spare = absurd (spare refl)
only_memory end.NoMemory is bench spare = refl
only_memory other is bench spare = absurd is

-- a count that stood still before it rose
pub still_later : (before mid now : ℕ) → mid ≡ before → mid ≤ now → before ≤ now
still_later before mid now steady later = subst (λ (n : ℕ). n ≤ now) steady later

-- calls after some of which none failed tell what they tell alone
pub since_steady : {D : Type 0} (bench : Ghosts D) (old mid new : D) (Answered : Type 0) → bench.faults mid ≡ bench.faults old
    → TellsFault bench mid new Answered → TellsFault bench old new Answered
since_steady bench old mid new Answered same tells = record {
  later = still_later _ _ _ same tells.later;
  failed = λ answered. subst (λ (n : ℕ). Rose n (bench.faults new)) same (tells.failed answered);
  last_call = tells.last_call;
  steady = λ other. tells.steady other ∙ same;
}
