-- What a crash finds of a session over a legal history is harmless, whether the source tells its bytes or not.
use Rattle.std.proofs.Common.{List, ℕ}
use Rattle.audit_types.specs.declared.records.Answered.{Answered}
use Rattle.audit_types.specs.History.{IsLegal}
use Rattle.table_load.specs.Cells.{IsSecret}
use Rattle.table_load.specs.Database.{Database, IsDatabase, table_in}
use Rattle.line_wire.specs.Lines.{CountedLine}
use Rattle.audit_session.specs.Groups.{SpareAmong, StopsAmong}
use Rattle.audit_session.specs.Laws.{StopsAreLegal}
use Rattle.audit_session.specs.Stops.{IsHarmless}

module _ (stops : StopsAreLegal) (told : Type 0) (base : Database) (batch : ℕ) (history : List Answered) (lines : List CountedLine) (is : IsDatabase base)
    (numbers : IsSecret base.secret) (legal : IsLegal (table_in base) history) (before image sent : List ℕ) where
  pub harmless : StopsAmong told base batch history lines before image sent → IsHarmless (table_in base) image
  harmless among found stands = stops base batch history among.0.0 image among.0.1.0 found is numbers legal among.0.1.2 stands

  -- and so on a spare
  pub spare_harmless : SpareAmong told base batch history lines before image sent → IsHarmless (table_in base) image
  spare_harmless among found stands =
      let stop = among.1.1.0 in
      stops base batch history stop.0 image stop.1.0 found is numbers legal stop.1.2 stands
