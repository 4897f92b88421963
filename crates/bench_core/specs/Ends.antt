-- How a call ended that isn't done: something of the outside ended it, or it was refused for a cause of its own.
use Rattle.std.specs.Prelude.{◌≡◌, Result, Ok, Err}
use Rattle.bench_core.specs.Stops.{turned}
use Rattle.bench_core.specs.declared.stops.Stop.{Stop}
use Rattle.bench_core.specs.declared.stops.End.{End}
use Rattle.bench_core.specs.declared.stops.End.TheVariants.{Stopped, Refused}

-- a stop that may end the call, or a refusal that has this
abbrev pub EndsBy : {R : Type 0} → (Stop → Type 0) → (R → Type 0) → End R → Type 0
EndsBy may P (Stopped stop) = may stop
EndsBy may P (Refused refusal) = P refusal

-- something of the outside ended it
abbrev pub IsStop : {R : Type 0} → End R → Type 0
IsStop (Stopped stop) = Unit {0}
IsStop (Refused refusal) = ⊥

-- it was refused
abbrev pub IsRefusal : {R : Type 0} → End R → Type 0
IsRefusal (Stopped stop) = ⊥
IsRefusal (Refused refusal) = Unit {0}

abbrev pub IsRefused : {X R : Type 0} → Result X (End R) → Type 0
IsRefused (Ok x) = ⊥
IsRefused (Err end) = IsRefusal end

-- this refusal ended it, unless something of the outside did
abbrev pub IsDueUnlessStopped : {R : Type 0} → R → End R → Type 0
IsDueUnlessStopped due (Stopped stop) = Unit {0}
IsDueUnlessStopped due (Refused refusal) = refusal ≡ due

-- it is done, unless something of the outside ended it
abbrev pub DoneUnlessStopped : {X R : Type 0} → Result X (End R) → Type 0
DoneUnlessStopped (Ok x) = Unit {0}
DoneUnlessStopped (Err end) = IsStop end

-- it is refused for this, unless something of the outside ended it
abbrev pub RefusedUnlessStopped : {X R : Type 0} → R → Result X (End R) → Type 0
RefusedUnlessStopped due (Ok x) = ⊥
RefusedUnlessStopped due (Err end) = IsDueUnlessStopped due end

-- the same end, of a call that refuses for this where another did for that
abbrev pub refused_as : {R S : Type 0} → (R → S) → End R → End S
refused_as name (Stopped stop) = Stopped stop
refused_as name (Refused refusal) = Refused (name refusal)

-- the same end, of a caller that lent its spare for the bench, and its bench for the spare
abbrev pub turned_end : {R : Type 0} → End R → End R
turned_end (Stopped stop) = Stopped (turned stop)
turned_end (Refused refusal) = Refused refusal
