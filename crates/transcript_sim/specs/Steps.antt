-- What the steps of a simulation do: reading a line, and telling what a reply comes to.
use Rattle.std.specs.Prelude.{◌≡◌, ◌⊎◌, ℕ, true, List, [], Option, Some, None, Result, Ok, Err, Bool, false}
use Rattle.std.specs.Option.{option_to_list}
use Rattle.audit_types.specs.History.{Setting, FitsShape, known_of}
use Rattle.audit_types.specs.Judgement.{IsWithinWidth}
use Rattle.audit_types.specs.declared.records.Answered.{Answered}
use Rattle.bench_core.specs.declared.bench.Bench.{Ghosts as BenchGhosts}
use Rattle.bench_core.specs.declared.source.Source.{Ghosts}
use Rattle.bench_core.specs.declared.stops.Stop.{Stop}
use Rattle.bench_core.specs.declared.stops.Stop.TheVariants as stop
use Rattle.bench_core.specs.declared.stops.End.{End}
use Rattle.bench_core.specs.declared.stops.End.TheVariants.{Refused}
use Rattle.set_index.specs.Indexed.{IndexView, public_setting}
use Rattle.line_wire.specs.Lines.{CountedLine}
use Rattle.line_wire.specs.Cutter.{Cutter}
use Rattle.line_wire.specs.Calls.{GivesLine, GivesNone}
use Rattle.line_wire.specs.Talks.{SendsAll, SendsPart}
use Rattle.question_plan.specs.declared.due.Due.{Due}
use Rattle.question_plan.specs.Planned.{IsUnplanned}
use Rattle.transcript_sim.specs.declared.expecting.Expected.{Expected}
use Rattle.transcript_sim.specs.declared.expecting.Expected.TheVariants.{Only, Answer}
use Rattle.transcript_sim.specs.declared.shown.Shown.{Shown}
use Rattle.transcript_sim.specs.declared.shown.Shown.TheVariants.{Agrees, Disagrees}
use Rattle.transcript_sim.specs.declared.simulating.SimulationRefusal.{SimulationRefusal}
use Rattle.transcript_sim.specs.declared.simulating.SimulationRefusal.TheVariants as refusal
use Rattle.transcript_sim.specs.Verdicts.{Expects, AgreesWith, line_of}

-- ---- what was called for

-- the record of an answer to the question may follow the history
abbrev pub CanBeTaken : Setting → List Answered → Expected → Type 0
CanBeTaken setting history (Only answer) = Unit {0}
CanBeTaken setting history (Answer take people asked follows) = FitsShape setting.shape asked.column asked.rows ×
    IsWithinWidth (known_of setting history asked.column) asked.rows.list

-- what a line that was shown comes to: it agrees, and makes this record, or it agrees with none
abbrev pub ComesTo : CountedLine → Expected → Shown → Type 0
ComesTo line expected (Agrees added) = AgreesWith line expected added
ComesTo line expected Disagrees = (added : Option Answered) → ¬ (AgreesWith line expected added)

-- ---- the two lines of an exchange

-- a question, and what it calls for
pub record GivesQuestion {P : Type 0} (source : Ghosts P) (old new : Cutter) (before after : P) (index : IndexView)
    (history : List Answered) (expected : Expected) : Type 0 where
  pub line : CountedLine
  pub gives : GivesLine source old new before after line
  pub expects : Expects index history line expected
  pub can : CanBeTaken (public_setting index) history expected

-- a question, or no line
abbrev pub AsksNext : {P : Type 0} → Ghosts P → Cutter → Cutter → P → P → IndexView → List Answered → Option Expected → Type 0
AsksNext source old new before after index history None = GivesNone source old new before after
AsksNext source old new before after index history (Some expected) = GivesQuestion source old new before after index history expected

-- a line that was shown, and what it comes to
pub record GivesShown {P : Type 0} (source : Ghosts P) (old new : Cutter) (before after : P) (expected : Expected) (shown : Shown) : Type 0 where
  pub line : CountedLine
  pub gives : GivesLine source old new before after line
  pub comes_to : ComesTo line expected shown

-- such a line, or no line
abbrev pub ShowsNext : {P : Type 0} → Ghosts P → Cutter → Cutter → P → P → Expected → Option Shown → Type 0
ShowsNext source old new before after expected None = GivesNone source old new before after
ShowsNext source old new before after expected (Some shown) = GivesShown source old new before after expected shown

-- the record that such a line makes, if it makes one
abbrev pub records_shown : Option Shown → List Answered
records_shown (Some (Agrees added)) = option_to_list added
records_shown (Some Disagrees) = []
records_shown None = []

-- the record that such a line makes may follow the history
abbrev pub CanFollow : Setting → List Answered → Option Shown → Type 0
CanFollow setting history (Some (Agrees (Some answered))) =
    FitsShape setting.shape answered.column answered.rows × IsWithinWidth (known_of setting history answered.column) answered.rows.list
CanFollow setting history (Some (Agrees None)) = Unit {0}
CanFollow setting history (Some Disagrees) = Unit {0}
CanFollow setting history None = Unit {0}

-- whether a transcript goes on after it: a line that disagrees is its end, and so is none
abbrev pub goes_on : Option Shown → ℕ → Due → Result Bool (End SimulationRefusal)
goes_on (Some (Agrees added)) line due = Ok true
goes_on (Some Disagrees) line due = Err (Refused (refusal.Disagrees line due))
goes_on None line due = Ok false

-- ---- the sending of a verdict

-- the verdict on a question was sent, and if there was none, nothing
abbrev pub SendsFor : {B : Type 0} → BenchGhosts B → B → B → Option Expected → Type 0
SendsFor bench old new None = new ≡ old
SendsFor bench old new (Some expected) = SendsAll bench old new (line_of expected)

-- a question whose verdict couldn't be sent
pub record GivesUnsent {P B : Type 0} (source : Ghosts P) (bench : BenchGhosts B) (old new : Cutter) (before after : P) (at now : B) (index : IndexView) (history : List Answered) : Type 0 where
  pub expected : Expected
  pub question : GivesQuestion source old new before after index history expected
  pub fails : SendsPart bench at now (line_of expected)

-- why no verdict was sent: no question was given and no call was made, or the call failed
abbrev pub IsUnjudged : {P B : Type 0} → Ghosts P → BenchGhosts B → Cutter → Cutter → P → P → B → B → IndexView → List Answered →
    Stop → Type 0
IsUnjudged source bench old new before after at now index history why =
    (IsUnplanned source old new before after why × (now ≡ at)) ⊎
    ((why ≡ stop.Bench) × GivesUnsent source bench old new before after at now index history)
