-- What a run of `serve` with two journals leaves, of which one history begins the other at first.
use Rattle.std.specs.Prelude.{◌≡◌, ◌⊎◌, List, [], ℕ}
use Rattle.audit_types.specs.declared.records.Answered.{Answered}
use Rattle.table_load.specs.Database.{Database}
use Rattle.line_wire.specs.Lines.{counted_lines}
use Rattle.audit_session.specs.Ends.{Serves, ServesWhole, ServesSome, limited}
use Rattle.audit_session.specs.Stops.{LeavesBoth, stands_over}
use Rattle.twin_journal.specs.Twins.{StandsBetween}
use Rattle.auditor_top.specs.declared.status.Object.TheVariants.{Schema, Table, Input, Bench, Spare}
use Rattle.auditor_top.specs.declared.status.Status.{Status}
use Rattle.auditor_top.specs.declared.status.Status.TheVariants.{Done, Failed, InputLimit, NoMemory}
use Rattle.auditor_top.specs.Ends.{Outside, StandsForWhat}

-- both files stand for a history with this
abbrev pub StandForWhat : List ℕ → List ℕ → Database → (List Answered → Type 0) → Type 0
StandForWhat file spare base P = (now : List Answered) × P now × stands_over base file now × stands_over base spare now

-- no line was read and nothing was sent, and each file stands for a history between its own and the whole
abbrev pub BothCatchUp : Database → List Answered → List Answered → List Answered → Outside → Outside → List ℕ → List ℕ → Type 0
BothCatchUp base main other whole before after file spare =
    (after.input ≡ before.input) × (after.sent ≡ before.sent) × StandsBetween base.secret.shape main whole file × StandsBetween base.secret.shape other whole spare

-- which lines were answered after the whole history, and that both files stand for it with their records. If memory ran out before a line was
-- read, both may still catch up. Files without fault and journals of which one begins the other are never refused. If the spare failed, all but
-- it is as it was, or the journal's file stands for the whole history with the records of the lines that were answered. What a crash then leaves
-- of the spare, and of both if the bench failed, is said apart
abbrev pub TwinEnds : ℕ → Status → Database → List Answered → List Answered → List Answered → Outside → Outside → List ℕ → Type 0
TwinEnds batch Done base main other whole before after spare =
    StandForWhat after.file spare base (λ now. Serves base whole (counted_lines before.input) now before.sent after.sent)
TwinEnds batch (Failed Input) base main other whole before after spare =
    StandForWhat after.file spare base (λ now. ServesWhole base whole batch before.input after.input now before.sent after.sent)
TwinEnds batch (Failed Schema) base main other whole before after spare = (after.sent ≡ before.sent) × (after.file ≡ before.file)
TwinEnds batch (Failed Table) base main other whole before after spare = (after.sent ≡ before.sent) × (after.file ≡ before.file)
TwinEnds batch (Failed Bench) base main other whole before after spare = Unit {0}
TwinEnds batch (Failed Spare) base main other whole before after spare =
    (after ≡ before) ⊎ StandsForWhat after.file base (λ now. ServesSome base whole batch (counted_lines before.input) now before.sent after.sent)
TwinEnds batch InputLimit base main other whole before after spare =
    StandForWhat after.file spare base (λ now. ServesWhole base whole batch (limited before.input) [] now before.sent after.sent)
TwinEnds batch NoMemory base main other whole before after spare =
    BothCatchUp base main other whole before after after.file spare
    ⊎ StandForWhat after.file spare base (λ now. ServesSome base whole batch (counted_lines before.input) now before.sent after.sent)
TwinEnds batch status base main other whole before after spare = ⊥

-- what a crash leaves of both files at the end: both still catch up, and no line was read; or that of the bench stands for the whole with the
-- records of some groups of lines, of which what was sent is a front, and the spare for the same, or for one group more
abbrev pub LeavesTwins : Database → ℕ → List Answered → List Answered → List Answered → Outside → Outside → List ℕ → List ℕ → Type 0
LeavesTwins base batch main other whole before after image spare =
    BothCatchUp base main other whole before after image spare
    ⊎ LeavesBoth base batch whole (counted_lines before.input) before.sent after.sent image spare
