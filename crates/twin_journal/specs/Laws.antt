-- A law of two journals of one table.
use Rattle.std.specs.Prelude.{ℕ, List}
use Rattle.audit_types.specs.declared.records.Answered.{Answered}
use Rattle.table_load.specs.Database.{Database, IsDatabase, table_in}
use Rattle.line_wire.specs.Lines.{CountedLine}
use Rattle.twin_journal.specs.Twins.{CatchesUpOrStops, KeepTogether, KeepWhole, SpareCatchesUpOrStops}

-- files that keep together at first still do, at whatever moment of a session a crash found each of them
abbrev pub StayTogether : Type 0
StayTogether =
    (base : Database) (batch : ℕ) (file spare : List ℕ) (main other whole : List Answered) (lines : List CountedLine) →
    (before sent image spare_before spare_sent spare_image : List ℕ) → IsDatabase base → KeepTogether (table_in base) file spare main other whole →
    CatchesUpOrStops base batch main whole lines before image sent → SpareCatchesUpOrStops base batch other whole lines spare_before spare_image spare_sent →
    (now : List Answered) × KeepWhole (table_in base) image spare_image now
