-- What is reported of a bench: of one that wasn't called, of one whose call failed, and of one whose call didn't.
use Rattle.std.proofs.Common.{◌≡◌, true, List, ℕ, Result, Ok, Err, refl, sym, subst, ap, arith}
use Rattle.std.specs.Prelude.{IsErrOf}
use Rattle.std.specs.Result.{IsErr, IsErrAnd}
use Rattle.std.proofs.lemmas.Bool.{false≢true}
use Rattle.bench_core.specs.declared.bench.Bench.{Ghosts}
use Rattle.bench_core.specs.Calls.{IsUntouched, OnlyReads, TellsFault}
use Rattle.bench_core.specs.Causes.{HasCause}
use Rattle.bench_core.specs.Moments.{started}

module _ {D : Type 0} (bench : Ghosts D) where
  -- nothing was called: no failure is reported
  pub not_called : (at : D) (Answered : Type 0) → (Answered → ⊥) → TellsFault bench at at Answered
  not_called at Answered none = record {
    later = omega arith;
    failed = λ answered. absurd (none answered);
    last_call = λ answered. absurd (none answered);
    steady = λ other. refl;
  }

  -- and the bench was only read
  pub not_written : (at : D) → ((image sent : List ℕ) → bench.since at (bench.moment at) image sent → bench.leaves at image × (sent ≡ bench.sent at)) →
      OnlyReads bench at at
  not_written at only_now = record {
    file = refl;
    sent = refl;
    crash = λ image left. left;
    untouched = λ quiet.
        started bench at (IsUntouched (bench.file at) (bench.sent at)) (λ image sent was.
        let now = only_now image sent was in (now.1, quiet image now.0));
  }

  -- the one call failed, and that is reported
  pub failed_call : {X E : Type 0} (old new : D) (e : E) (Answered : Type 0)
      → (let given : Result X E = Err e in HasCause (bench.faults old) (bench.faults new) given) → bench.last_failed new ≡ true → Answered → TellsFault bench old new Answered
  failed_call old new e Answered cause last is = record {
    later = cause.later;
    failed = λ answered. cause.failed;
    last_call = λ answered. last;
    steady = λ other. absurd (other is);
  }

  -- it didn't, and no failure is reported
  pub done_call : {X E : Type 0} (old new : D) (x : X) (Answered : Type 0)
      → (let given : Result X E = Ok x in HasCause (bench.faults old) (bench.faults new) given) → (Answered → ⊥) → TellsFault bench old new Answered
  done_call old new x Answered cause none = record {
    later = cause.later;
    failed = λ answered. absurd (none answered);
    last_call = λ answered. absurd (none answered);
    steady = λ other. cause.steady;
  }

  -- a failure that is reported of one answer is reported of another that fails alike
  pub told_as : (old new : D) (Told Answered : Type 0) → (Told → Answered) → (Answered → Told) → TellsFault bench old new Told
      → TellsFault bench old new Answered
  told_as old new Told Answered to from tells = record {
    later = tells.later;
    failed = λ answered. tells.failed (from answered);
    last_call = λ answered. tells.last_call (from answered);
    steady = λ other. tells.steady (λ told. other (to told));
  }

  -- a failure that is reported of a call is reported of the answer that passes its refusal on
  pub passed_on : {X Y E : Type 0} (old new : D) (given stop : E) (answer : Result Y E) → answer ≡ Err given →
      TellsFault bench old new (IsErrOf {T = X} (Err given) stop) → TellsFault bench old new (IsErrOf answer stop)
  passed_on old new given stop answer same tells = told_as old new _ _ (λ is. cc) (λ is. cc) tells

-- an answer that refuses with a fault is that refusal
pub is_refusal : {X E : Type 0} (answer : Result X E) (given : E) → IsErr answer × IsErrAnd answer (λ e. e ≡ given) → answer ≡ Err given
is_refusal (Ok x) given refuses = absurd (false≢true refuses.0)
is_refusal {X} {E} (Err e) given refuses = ap (λ (f : E). refusal f) refuses.1
  where
    refusal : E → Result X E
    refusal f = Err f

-- what holds of that refusal holds of the answer
pub of_refusal : {X E : Type 0} (answer : Result X E) (given : E) → IsErr answer × IsErrAnd answer (λ e. e ≡ given) → (P : Result X E → Type 0) →
    P (Err given) → P answer
of_refusal answer given refuses P holds = subst P (sym (is_refusal answer given refuses)) holds
