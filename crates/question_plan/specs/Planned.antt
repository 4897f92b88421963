-- What a call of the planner does, whose lines contracts see as a cutter.
use Rattle.std.specs.Prelude.{◌≡◌, Option, Some, None}
use Rattle.bench_core.specs.declared.source.Source.{Ghosts}
use Rattle.bench_core.specs.declared.stops.Stop.{Stop}
use Rattle.bench_core.specs.declared.stops.Stop.TheVariants.{NoMemory}
use Rattle.set_index.specs.Indexed.{IndexView, public_shape}
use Rattle.line_wire.specs.Lines.{CountedLine}
use Rattle.line_wire.specs.Cutter.{Cutter}
use Rattle.line_wire.specs.Calls.{GivesLine, GivesNone, IsStopped}
use Rattle.question_plan.specs.declared.planning.Plan.{Plan}
use Rattle.question_plan.specs.Plans.{CanBeServed}
use Rattle.question_plan.specs.Replies.{IsPlan}

-- it gave what this line comes to, which can be served
pub record GivesPlan {P : Type 0} (source : Ghosts P) (old new : Cutter) (before after : P) (index : IndexView) (plan : Plan) : Type 0 where
  pub line : CountedLine
  pub gives : GivesLine source old new before after line
  pub planned : IsPlan index.columns index.public line plan
  pub served : CanBeServed (public_shape index) plan

-- a plan, or no line is left
abbrev pub PlansNext : {P : Type 0} → Ghosts P → Cutter → Cutter → P → P → IndexView → Option Plan → Type 0
PlansNext source old new before after index None = GivesNone source old new before after
PlansNext source old new before after index (Some plan) = GivesPlan source old new before after index plan

-- why it gave nothing: the cutter stopped, or there was no memory for the plan of a line that was read
abbrev pub IsUnplanned : {P : Type 0} → Ghosts P → Cutter → Cutter → P → P → Stop → Type 0
IsUnplanned source old new before after NoMemory = source.faults after ≡ source.faults before
IsUnplanned source old new before after other = IsStopped source old new before after other

-- what stopped the cutter is why there is no plan
pub stops_planning : {P : Type 0} (source : Ghosts P) (old new : Cutter) (before after : P) (why : Stop) → IsStopped source old new before after why →
    IsUnplanned source old new before after why
stops_planning source old new before after NoMemory is = absurd is
stops_planning source old new before after other is = is
