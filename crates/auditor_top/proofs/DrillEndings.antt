-- What the end of the last step of `drill` comes to, by cases on it.
use Rattle.std.proofs.Common.{◌≡◌, ℕ, List, Result, Ok, Err, IfErr, IsErrOf, OnOk, refl}
use Rattle.bench_core.specs.Stops.{IsOfBench}
use Rattle.bench_core.specs.declared.stops.Stop.{Stop}
use Rattle.bench_core.specs.declared.stops.Stop.TheVariants.{Bench}
use Rattle.bench_core.specs.declared.stops.Stop.TheVariants as stop
use Rattle.drill_case.specs.Drills.{SendsSummary, SendsSummaryFront}
use Rattle.auditor_top.specs.Drills.{DrillEnds}
use Rattle.auditor_top.specs.Faults.{ended_status}

-- what was sent
pub drill_sends : {X : Type 0} (ended : Result X Stop) (number : ℕ) (before after : List ℕ) → IfErr ended IsOfBench →
    OnOk ended (SendsSummary number before after) → (IsErrOf ended Bench → SendsSummaryFront number before after) →
    (IsErrOf ended stop.NoMemory → after ≡ before) → DrillEnds (ended_status ended) number before after
drill_sends (Ok done) number before after ends all part none = all
drill_sends (Err Bench) number before after ends all part none = part refl
drill_sends (Err stop.NoMemory) number before after ends all part none = none refl
drill_sends (Err stopped) number before after ends all part none = absurd ends
