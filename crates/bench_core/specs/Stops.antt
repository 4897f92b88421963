-- Which ends a call may answer, by the objects that it is lent.
use Rattle.std.proofs.Common.{◌≡◌, refl, sym, ap, ◌∙◌}
use Rattle.bench_core.specs.declared.stops.Stop.{Stop}
use Rattle.bench_core.specs.declared.stops.Stop.TheVariants.{Input, Limit, Bench, Spare, NoMemory}

-- a call that calls nothing of the outside
abbrev pub IsOfMemory : Stop → Type 0
IsOfMemory Input = ⊥
IsOfMemory Limit = ⊥
IsOfMemory Bench = ⊥
IsOfMemory Spare = ⊥
IsOfMemory NoMemory = Unit {0}

-- a call that calls one bench, and reads no input
abbrev pub IsOfBench : Stop → Type 0
IsOfBench Input = ⊥
IsOfBench Limit = ⊥
IsOfBench Bench = Unit {0}
IsOfBench Spare = ⊥
IsOfBench NoMemory = Unit {0}

-- a call that calls a bench and a spare, and reads no input
abbrev pub IsOfBenches : Stop → Type 0
IsOfBenches Input = ⊥
IsOfBenches Limit = ⊥
IsOfBenches Bench = Unit {0}
IsOfBenches Spare = Unit {0}
IsOfBenches NoMemory = Unit {0}

-- what may end a call that calls nothing may end one that calls a bench
pub of_bench : (stop : Stop) → IsOfMemory stop → IsOfBench stop
of_bench Input is = is
of_bench Limit is = is
of_bench Bench is = tt
of_bench Spare is = is
of_bench NoMemory is = tt

-- what may end a call of one bench may end a call of a bench and a spare
pub of_benches : (stop : Stop) → IsOfBench stop → IsOfBenches stop
of_benches Input is = is
of_benches Limit is = is
of_benches Bench is = tt
of_benches Spare is = tt
of_benches NoMemory is = tt

-- a call of one bench, if memory didn't run out, was ended by the bench
pub ended_by_bench : (stop : Stop) → IsOfBench stop → (stop ≡ NoMemory → ⊥) → stop ≡ Bench
ended_by_bench Input is other = absurd is
ended_by_bench Limit is other = absurd is
ended_by_bench Bench is other = refl
ended_by_bench Spare is other = absurd is
ended_by_bench NoMemory is other = absurd (other refl)

-- the same stop, of a caller that lent its spare for the bench, and its bench for the spare
abbrev pub turned : Stop → Stop
turned Input = Input
turned Limit = Limit
turned Bench = Spare
turned Spare = Bench
turned NoMemory = NoMemory

-- turned twice it is as it was
pub turned-turned : (stop : Stop) → turned (turned stop) ≡ stop
turned-turned Input = refl
turned-turned Limit = refl
turned-turned Bench = refl
turned-turned Spare = refl
turned-turned NoMemory = refl

pub turned_is : (stop other : Stop) → turned stop ≡ other → stop ≡ turned other
turned_is stop other is = sym (turned-turned stop) ∙ ap turned is

-- a call of one bench, of a caller that lent it its spare
abbrev pub IsOfSpare : Stop → Type 0
IsOfSpare Input = ⊥
IsOfSpare Limit = ⊥
IsOfSpare Bench = ⊥
IsOfSpare Spare = Unit {0}
IsOfSpare NoMemory = Unit {0}

pub turned_of_bench : (stop : Stop) → IsOfBench stop → IsOfSpare (turned stop)
turned_of_bench Input is = is
turned_of_bench Limit is = is
turned_of_bench Bench is = tt
turned_of_bench Spare is = is
turned_of_bench NoMemory is = tt

-- it is one of those of a bench and a spare
pub spare_of_benches : (stop : Stop) → IsOfSpare stop → IsOfBenches stop
spare_of_benches Input is = is
spare_of_benches Limit is = is
spare_of_benches Bench is = tt
spare_of_benches Spare is = tt
spare_of_benches NoMemory is = tt

-- and these are the same turned
pub turned_of_benches : (stop : Stop) → IsOfBenches stop → IsOfBenches (turned stop)
turned_of_benches Input is = is
turned_of_benches Limit is = is
turned_of_benches Bench is = tt
turned_of_benches Spare is = tt
turned_of_benches NoMemory is = tt
