-- What is told of the objects that a step is lent, and of those that a run is handed: which of them failed.
use Rattle.std.proofs.Common.{◌≡◌, ◌≤◌, ℕ, Bool, Result, Err, None, Ok, OnOk, Option, Some, sym, ◌∙◌, ap, arith, refl, subst}
use Rattle.bench_core.specs.Calls.{TellsFault}
use Rattle.bench_core.specs.Causes.{Rose}
use Rattle.bench_core.specs.Reports.{told_as}
use Rattle.bench_core.specs.declared.bench.Bench.{Ghosts}
use Rattle.bench_core.specs.declared.source.Source as source
use Rattle.bench_core.specs.declared.stops.End.{End}
use Rattle.bench_core.specs.declared.stops.End.TheVariants.{Stopped, Refused}
use Rattle.bench_core.specs.declared.stops.Stop.{Stop}
use Rattle.bench_core.specs.declared.stops.Stop.TheVariants as stop
use Rattle.line_wire.specs.Talks.{TellsInput}
use Rattle.auditor_top.specs.declared.status.Object.TheVariants.{Input, Bench, Spare}
use Rattle.auditor_top.specs.declared.status.Refusal.{Refusal}
use Rattle.auditor_top.specs.declared.status.Status.{Status}
use Rattle.auditor_top.specs.declared.status.Status.TheVariants.{Done, Failed, InputLimit, NoMemory}
use Rattle.auditor_top.specs.Causes.{TellsFailure}
use Rattle.auditor_top.specs.Faults.{ended_status, step_status, stop_status}
use Rattle.auditor_top.specs.Reading.{TellsRead}

-- ---- one object

-- one that wasn't called, or of which no call failed
pub unfailed : (before after : ℕ) (last : Bool) (Told : Type 0) → after ≡ before → (Told → ⊥) → TellsFailure before after last Told
unfailed before after last Told same none = record {
  later = omega (arith, same);
  failed = λ told. absurd (none told);
  last_call = λ told. absurd (none told);
  steady = λ other. same;
}

pub unfailed_read : {P : Type 0} (files : source.Ghosts P) (most : ℕ) (old new : P) (Told : Type 0) → files.faults new ≡ files.faults old → (Told → ⊥) →
    TellsRead files most old new Told
unfailed_read files most old new Told same none = record {
  within = λ ptold told. absurd (none told);
  later = omega (arith, same);
  failed = λ told. absurd (none told);
  last_call = λ told. absurd (none told);
  steady = λ other. same;
}

pub unread_input : {I : Type 0} (lines : source.Ghosts I) (at : I) (Told : Type 0) → (Told → ⊥) → TellsInput lines at at Told
unread_input lines at Told none = record {
  later = omega arith;
  failed = λ told. absurd (none told);
  last_read = λ told. absurd (none told);
  steady = λ other. refl;
}

-- what is told of one answer is told of another that says the same
pub read_as : {P : Type 0} (files : source.Ghosts P) (most : ℕ) (old new : P) (Told Answered : Type 0) → (Told → Answered) → (Answered → Told) →
    TellsRead files most old new Told → TellsRead files most old new Answered
read_as files most old new Told Answered to from tells = record {
  within = λ ptold answered. tells.within ptold (from answered);
  later = tells.later;
  failed = λ answered. tells.failed (from answered);
  last_call = λ answered. tells.last_call (from answered);
  steady = λ other. tells.steady (λ told. other (to told));
}

-- a file, a source of lines, and a bench
pub of_file : {P : Type 0} {files : source.Ghosts P} {most : ℕ} {old new : P} {Told : Type 0} → TellsRead files most old new Told →
    TellsFailure (files.faults old) (files.faults new) (files.last_failed new) Told
of_file tells = record { later = tells.later; failed = tells.failed; last_call = tells.last_call; steady = tells.steady }

pub of_input : {I : Type 0} {lines : source.Ghosts I} {old new : I} {Told : Type 0} → TellsInput lines old new Told →
    TellsFailure (lines.faults old) (lines.faults new) (lines.last_failed new) Told
of_input tells = record { later = tells.later; failed = tells.failed; last_call = tells.last_read; steady = tells.steady }

pub of_bench : {B : Type 0} {bench : Ghosts B} {old new : B} {Told : Type 0} → TellsFault bench old new Told →
    TellsFailure (bench.faults old) (bench.faults new) (bench.last_failed new) Told
of_bench tells = record { later = tells.later; failed = tells.failed; last_call = tells.last_call; steady = tells.steady }

-- ---- what a step is lent

-- one call failed of the object that the stop says, the last one, and none of another
pub record TellsStop {I B : Type 0} (lines : source.Ghosts I) (outside : Ghosts B) (Told : Stop → Type 0) (from first : I) (old new before after : B) :
    Type 0 where
  pub input : TellsInput lines from first (Told stop.Input)
  pub bench : TellsFault outside old new (Told stop.Bench)
  pub spare : TellsFault outside before after (Told stop.Spare)

-- so it was of the bench before an opening in which no call failed
pub stop_after : {I B : Type 0} {lines : source.Ghosts I} (bench : Ghosts B) {Told : Stop → Type 0} {from first : I} {old mid : B} (new : B)
    {before after : B} → bench.faults mid ≡ bench.faults old → TellsStop lines bench Told from first mid new before after →
    TellsStop lines bench Told from first old new before after
stop_after bench new same tells = record {
  input = tells.input;
  bench = record {
    later = subst (λ (n : ℕ). n ≤ bench.faults new) same tells.bench.later;
    failed = λ told. subst (λ (n : ℕ). Rose n (bench.faults new)) same (tells.bench.failed told);
    last_call = tells.bench.last_call;
    steady = λ other. tells.bench.steady other ∙ same;
  };
  spare = tells.spare;
}

module _ {I B : Type 0} (lines : source.Ghosts I) (bench : Ghosts B) (from first : I) (old new before after : B) where
  -- what is told of one answer is told of another that says the same
  stop_as : (Told Answered : Stop → Type 0) → ((why : Stop) → Told why → Answered why) → ((why : Stop) → Answered why → Told why) →
      TellsStop lines bench Told from first old new before after → TellsStop lines bench Answered from first old new before after
  stop_as Told Answered to back tells = record {
    input = record {
      later = tells.input.later;
      failed = λ answered. tells.input.failed (back stop.Input answered);
      last_read = λ answered. tells.input.last_read (back stop.Input answered);
      steady = λ other. tells.input.steady (λ told. other (to stop.Input told));
    };
    bench = told_as bench old new _ _ (to stop.Bench) (back stop.Bench) tells.bench;
    spare = told_as bench before after _ _ (to stop.Spare) (back stop.Spare) tells.spare;
  }

-- ---- how a step ended, by its status

-- the stop that a status tells
abbrev stop_of : Status → Option Stop
stop_of (Failed Input) = Some stop.Input
stop_of (Failed Bench) = Some stop.Bench
stop_of (Failed Spare) = Some stop.Spare
stop_of InputLimit = Some stop.Limit
stop_of NoMemory = Some stop.NoMemory
stop_of status = None

stop_of-stop_status : (why : Stop) → stop_of (stop_status why) ≡ Some why
stop_of-stop_status stop.Input = refl
stop_of-stop_status stop.Limit = refl
stop_of-stop_status stop.Bench = refl
stop_of-stop_status stop.Spare = refl
stop_of-stop_status stop.NoMemory = refl

-- so it tells one alone, and isn't that of a step that is done
one_stop : (why other : Stop) → stop_status why ≡ stop_status other → why ≡ other
one_stop why other is =
    let same : ◌≡◌ {A = Option Stop} (Some why) (Some other) = sym (stop_of-stop_status why) ∙ ap stop_of is ∙ stop_of-stop_status other in cc

told_stop : {Y : Type 0} (status : Status) (why : Stop) → stop_of status ≡ None → status ≡ stop_status why → Y
told_stop status why none is =
    let same : ◌≡◌ {A = Option Stop} None (Some why) = sym none ∙ ap stop_of is ∙ stop_of-stop_status why in cc

pub stopped_by : {X R : Type 0} (name : R → Refusal) (ended : Result X (End R)) (why : Stop) → step_status name ended ≡ stop_status why →
    ended ≡ Err (Stopped why)
stopped_by name (Ok done) why is = told_stop Done why refl is
stopped_by name (Err (Stopped other)) why is = ap (λ (s : Stop). Err (Stopped s)) (one_stop other why is)
stopped_by name (Err (Refused refusal)) why is = told_stop _ why refl is

pub ended_by : {X : Type 0} (ended : Result X Stop) (why : Stop) → ended_status ended ≡ stop_status why → ended ≡ Err why
ended_by (Ok done) why is = told_stop Done why refl is
ended_by (Err other) why is = ap (λ (s : Stop). Err s) (one_stop other why is)

pub is_done : {X R : Type 0} (name : R → Refusal) (ended : Result X (End R)) (P : Type 0) → step_status name ended ≡ Done → OnOk ended P → P
is_done name (Ok done) P is holds = holds
is_done name (Err (Stopped why)) P is holds = told_stop Done why refl (sym is)
is_done name (Err (Refused refusal)) P is holds = let none : ⊥ = cc in absurd none

-- what is told of how it ended is told of its status
module _ {I B : Type 0} (lines : source.Ghosts I) (bench : Ghosts B) {from first : I} {old new before after : B} where
  pub step_tells : {X R : Type 0} (name : R → Refusal) (ended : Result X (End R)) →
      TellsStop lines bench (λ why. ended ≡ Err (Stopped why)) from first old new before after →
      TellsStop lines bench (λ why. step_status name ended ≡ stop_status why) from first old new before after
  step_tells name ended tells =
      stop_as lines bench from first old new before after (λ why. ended ≡ Err (Stopped why)) (λ why. step_status name ended ≡ stop_status why)
      (λ why is. ap (step_status name) is) (stopped_by name ended) tells

  pub ended_tells : {X : Type 0} (ended : Result X Stop) → TellsStop lines bench (λ why. ended ≡ Err why) from first old new before after →
      TellsStop lines bench (λ why. ended_status ended ≡ stop_status why) from first old new before after
  ended_tells ended tells =
      stop_as lines bench from first old new before after (λ why. ended ≡ Err why) (λ why. ended_status ended ≡ stop_status why)
      (λ why is. ap ended_status is) (ended_by ended) tells
