-- Facts on ends: what is said of one is said of it under another name, or turned.
use Rattle.std.proofs.Common.{◌≡◌, Result, Ok, Err, ap, refl, sym, subst, ◌∙◌}
use Rattle.std.specs.Prelude.{⊤, IsErrOf}
use Rattle.bench_core.specs.declared.bench.Bench.{Ghosts}
use Rattle.bench_core.specs.declared.stops.Stop.{Stop}
use Rattle.bench_core.specs.declared.stops.Stop.TheVariants as stop
use Rattle.bench_core.specs.declared.stops.End.{End}
use Rattle.bench_core.specs.declared.stops.End.TheVariants.{Stopped, Refused}
use Rattle.bench_core.specs.Calls.{TellsFault}
use Rattle.bench_core.specs.Ends.{EndsBy, IsDueUnlessStopped, IsRefusal, IsStop, refused_as, turned_end}
use Rattle.bench_core.specs.Reports.{told_as}
use Rattle.bench_core.specs.Stops.{IsOfBench, turned, turned-turned, turned_is}

-- what is said of an end says less of it, too
pub EndsBy-weaker : {R : Type 0} (end : End R) (may could : Stop → Type 0) (P Q : R → Type 0) → ((stop : Stop) → may stop → could stop) →
    ((refusal : R) → P refusal → Q refusal) → EndsBy may P end → EndsBy could Q end
EndsBy-weaker (Stopped stop) may could P Q stops refusals by = stops stop by
EndsBy-weaker (Refused refusal) may could P Q stops refusals by = refusals refusal by

-- if each refusal that has its cause is the one that is due, that is the one that was given
pub due_of_one : {R : Type 0} (end : End R) (may : Stop → Type 0) (P : R → Type 0) (due : R) → ((refusal : R) → P refusal → refusal ≡ due) →
    EndsBy may P end → IsDueUnlessStopped due end
due_of_one (Stopped stop) may P due one by = tt
due_of_one (Refused refusal) may P due one by = one refusal by

-- if no refusal has its cause, none was given
pub stopped_of_none : {R : Type 0} (end : End R) (may : Stop → Type 0) (P : R → Type 0) → ((refusal : R) → P refusal → ⊥) → EndsBy may P end → IsStop end
stopped_of_none (Stopped stop) may P none by = tt
stopped_of_none (Refused refusal) may P none by = none refusal by

-- an end that the outside brought about may be one of a call that was to be refused
pub stopped_is_due : {R : Type 0} (end : End R) (due : R) → IsStop end → IsDueUnlessStopped due end
stopped_is_due (Stopped stop) due stopped = tt
stopped_is_due (Refused refusal) due stopped = absurd stopped

-- what is said of an end is said of it under another name
module _ {R S : Type 0} (name : R → S) where
  pub renamed_by : (end : End R) (may : Stop → Type 0) (P : S → Type 0) → EndsBy may (λ refusal. P (name refusal)) end → EndsBy may P (refused_as name end)
  renamed_by (Stopped stop) may P by = by
  renamed_by (Refused refusal) may P by = by

  pub renamed_stopped : (end : End R) → IsStop end → IsStop (refused_as name end)
  renamed_stopped (Stopped stop) stopped = tt
  renamed_stopped (Refused refusal) stopped = absurd stopped

  pub renamed_due : (end : End R) (due : R) → IsDueUnlessStopped due end → IsDueUnlessStopped (name due) (refused_as name end)
  renamed_due (Stopped stop) due is = tt
  renamed_due (Refused refusal) due is = ap name is

-- what is known of each refusal that was given is known of the end
pub by_cause : {X R : Type 0} (end : End R) (may : Stop → Type 0) (P Q : R → Type 0) → EndsBy may Q end
    → ((refusal : R) → (let given : Result X (End R) = Err end in given) ≡ Err (Refused refusal) → P refusal) → EndsBy may P end
by_cause (Stopped stop) may P Q by cause = by
by_cause (Refused refusal) may P Q by cause = cause refusal refl

-- a stop that can't have ended the call didn't
pub not_stopped_by : {X R : Type 0} (end : End R) (may : Stop → Type 0) (P : R → Type 0) (stop : Stop) → (may stop → ⊥) → EndsBy may P end →
    IsErrOf {T = X} (Err end) (Stopped stop) → ⊥
not_stopped_by (Stopped other) may P stop not by is = let same : other ≡ stop = cc in not (subst may same by)
not_stopped_by (Refused refusal) may P stop not by is = cc

-- a failure that is reported of a call is reported of the answer that has its end under another name
pub renamed_tells : {D X Y R S : Type 0} (bench : Ghosts D) (old new : D) (name : R → S) (end : End R) (stop : Stop) (answer : Result Y (End S)) →
    answer ≡ Err (refused_as name end) → TellsFault bench old new (IsErrOf {T = X} (Err end) (Stopped stop)) →
    TellsFault bench old new (IsErrOf answer (Stopped stop))
renamed_tells bench old new name (Stopped other) stop answer same tells = told_as bench old new _ _ (λ is. cc) (λ is. cc) tells
renamed_tells bench old new name (Refused refusal) stop answer same tells =
    told_as bench old new _ _ (λ is. let none : ⊥ = cc in absurd none) (λ is. let none : ⊥ = cc in absurd none) tells

-- what is said of an end is said of it turned
pub turned_by : {R : Type 0} (end : End R) (may could : Stop → Type 0) (P : R → Type 0) → ((stop : Stop) → may stop → could (turned stop)) →
    EndsBy may P end → EndsBy could P (turned_end end)
turned_by (Stopped stop) may could P turns by = turns stop by
turned_by (Refused refusal) may could P turns by = by

pub turned_stopped : {R : Type 0} (end : End R) → IsStop end → IsStop (turned_end end)
turned_stopped (Stopped stop) stopped = tt
turned_stopped (Refused refusal) stopped = absurd stopped

pub turned_due : {R : Type 0} (end : End R) (due : R) → IsDueUnlessStopped due end → IsDueUnlessStopped due (turned_end end)
turned_due (Stopped stop) due is = tt
turned_due (Refused refusal) due is = is

-- an end that isn't a refusal is a stop
pub stopped_unless_refused : {R : Type 0} (end : End R) → (IsRefusal end → ⊥) → IsStop end
stopped_unless_refused (Stopped stop) not = tt
stopped_unless_refused (Refused refusal) not = not tt

-- a call of one bench was refused, or memory ran out, or a call of the bench failed
pub each_way : {X R : Type 0} (end : End R) (P : Type 0) → EndsBy IsOfBench (λ _. ⊤) end → (IsRefusal end → P)
    → (IsErrOf {T = X} (Err end) (Stopped stop.NoMemory) → P) → (IsErrOf {T = X} (Err end) (Stopped stop.Bench) → P) → P
each_way (Stopped stop.Input) P by refused memory bench = absurd by
each_way (Stopped stop.Limit) P by refused memory bench = absurd by
each_way (Stopped stop.Bench) P by refused memory bench = bench refl
each_way (Stopped stop.Spare) P by refused memory bench = absurd by
each_way (Stopped stop.NoMemory) P by refused memory bench = memory refl
each_way (Refused refusal) P by refused memory bench = refused tt

-- of an answer that has an end turned, and under another name
module _ {R S : Type 0} (name : R → S) (end : End R) (answer : End S) (is : answer ≡ refused_as name (turned_end end)) where
  -- what stopped it stopped the call, turned
  pub turned_back : {X Y : Type 0} (stop : Stop) → IsErrOf {T = X} (Err answer) (Stopped stop) → IsErrOf {T = Y} (Err end) (Stopped (turned stop))
  turned_back {X} {Y} stop given = ends end (sym is ∙ let same : answer ≡ Stopped stop = cc in same)
    where
      ends : (end : End R) → refused_as name (turned_end end) ≡ Stopped stop → IsErrOf {T = Y} (Err end) (Stopped (turned stop))
      ends (Stopped other) same = let turns : turned other ≡ stop = cc in ap (λ (s : Stop). err s) (turned_is other stop turns)
        where
          err : Stop → Result Y (End R)
          err s = Err (Stopped s)
      ends (Refused refusal) same = let none : ⊥ = cc in absurd none

  -- and what stopped the call stopped it
  pub turned_on : {X Y : Type 0} (stop : Stop) → IsErrOf {T = Y} (Err end) (Stopped stop) → IsErrOf {T = X} (Err answer) (Stopped (turned stop))
  turned_on {X} {Y} stop given =
      let same : end ≡ Stopped stop = cc in
      ap (λ (e : End S). err e) (is ∙ ap (λ (e : End R). refused_as name (turned_end e)) same)
    where
      err : End S → Result X (End S)
      err e = Err e

  -- it is refused if the call was
  pub turned_refused : IsRefusal answer → IsRefusal end
  turned_refused refused = ends end (subst (λ (e : End S). IsRefusal e) is refused)
    where
      ends : (end : End R) → IsRefusal (refused_as name (turned_end end)) → IsRefusal end
      ends (Stopped stop) refused = refused
      ends (Refused refusal) refused = tt

  -- a failure that is reported of the call is reported of the answer
  pub turned_tells : {X Y D : Type 0} (bench : Ghosts D) (old new : D) (stop : Stop) → TellsFault bench old new (IsErrOf {T = Y} (Err end) (Stopped stop)) →
      TellsFault bench old new (IsErrOf {T = X} (Err answer) (Stopped (turned stop)))
  turned_tells {X} {Y} bench old new stop tells =
      told_as bench old new _ _ (turned_on {X = X} {Y = Y} stop)
      (λ given. subst (λ (s : Stop). IsErrOf {T = Y} (Err end) (Stopped s)) (turned-turned stop) (turned_back {X = X} {Y = Y} (turned stop) given)) tells
