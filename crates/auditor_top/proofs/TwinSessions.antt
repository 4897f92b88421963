-- What two journals go through in a run of `serve`: each is brought up to the longer history, and then the lines are answered.
use Rattle.std.proofs.Common.{◌≤◌, ℕ, List, [], refl, inl, inr}
use Rattle.audit_types.specs.declared.records.Answered.{Answered}
use Rattle.audit_types.specs.declared.shapes.Shape.{Shape}
use Rattle.audit_types.specs.History.{IsLegal, IsUndisclosed}
use Rattle.bench_core.specs.declared.bench.Bench.{Ghosts}
use Rattle.bench_core.specs.Calls.{LeavesOnly}
use Rattle.bench_core.specs.Moments.{joins, weakens}
use Rattle.table_load.specs.Database.{Database, table_in}
use Rattle.journal_form.specs.Journal.{StandsFor}
use Rattle.line_wire.specs.Lines.{CountedLine}
use Rattle.audit_session.specs.Stops.{IsHarmless, SpareStops, StopsOver}
use Rattle.twin_journal.specs.Fronts.{legal_begins}
use Rattle.twin_journal.specs.Twins.{CatchesUp, CatchesUpOrStops, SpareCatchesUpOrStops, StandsBetween}
use Rattle.auditor_top.specs.Commands.{AreSoundFilesOf}
use Rattle.auditor_top.proofs.OneTable.{untouched_stops}
use Rattle.auditor_top.proofs.Refusals.{StopsAreLegal}

-- what a crash leaves at the end of a start stands between
pub left_between : {B : Type 0} (bench : Ghosts B) (at started : B) (shape : Shape) (first whole : List Answered) (image : List ℕ) →
    (bench.moment at ≤ bench.moment started → bench.since started (bench.moment at) image (bench.sent started)) →
    LeavesOnly bench at started (CatchesUp shape first whole (bench.sent at)) → StandsBetween shape first whole image
left_between bench at started shape first whole image now only = (only.each image (bench.sent started) (now only.later)).1

-- every history for which a file stands meanwhile is legal, and discloses nothing
pub catching_is_harmless : StopsAreLegal → (schema table : List ℕ) (base : Database) → AreSoundFilesOf schema table base → (first whole : List Answered) →
    IsLegal (table_in base) whole → (before image sent : List ℕ) → CatchesUp base.secret.shape first whole before image sent → IsHarmless (table_in base) image
catching_is_harmless legal schema table base files first whole is before image sent catches = λ now stands.
    legal schema table before image sent base 1 catches.1.now now [] files (legal_begins (table_in base) catches.1.now whole catches.1.to is)
    (untouched_stops base 1 catches.1.now [] image before image sent catches.1.stands (catches.0, refl)) stands

module _ {B : Type 0} (bench : Ghosts B) (at started later : B) (base : Database) (first whole : List Answered)
    (catches : LeavesOnly bench at started (CatchesUp base.secret.shape first whole (bench.sent at))) where
  -- a journal is brought up, and is then at stops of the answers
  pub then_stops : (batch : ℕ) (lines : List CountedLine) → LeavesOnly bench started later (StopsOver base batch whole lines (bench.sent at)) →
      LeavesOnly bench at later (CatchesUpOrStops base batch first whole lines (bench.sent at))
  then_stops batch lines stops =
      joins bench at started later (CatchesUpOrStops base batch first whole lines (bench.sent at))
      (weakens bench at started (CatchesUp base.secret.shape first whole (bench.sent at)) _ (λ image sent is. inl is) catches)
      (weakens bench started later (StopsOver base batch whole lines (bench.sent at)) _ (λ image sent is. inr is) stops)

  pub then_spare_stops : (batch : ℕ) (lines : List CountedLine) → LeavesOnly bench started later (SpareStops base batch whole lines (bench.sent at)) →
      LeavesOnly bench at later (SpareCatchesUpOrStops base batch first whole lines (bench.sent at))
  then_spare_stops batch lines stops =
      joins bench at started later (SpareCatchesUpOrStops base batch first whole lines (bench.sent at))
      (weakens bench at started (CatchesUp base.secret.shape first whole (bench.sent at)) _ (λ image sent is. inl is) catches)
      (weakens bench started later (SpareStops base batch whole lines (bench.sent at)) _ (λ image sent is. inr is) stops)

  -- and at every moment it is harmless
  pub always_harmless : StopsAreLegal → (schema table : List ℕ) → AreSoundFilesOf schema table base → IsLegal (table_in base) whole →
      LeavesOnly bench started later (λ image sent. IsHarmless (table_in base) image) → (image sent : List ℕ) (now : List Answered) →
      bench.since later (bench.moment at) image sent → StandsFor image base.secret.shape now → IsLegal (table_in base) now × IsUndisclosed (table_in base) now
  always_harmless legal schema table files is session image sent now was stands =
      (joins bench at started later (λ image sent. IsHarmless (table_in base) image)
      (weakens bench at started (CatchesUp base.secret.shape first whole (bench.sent at)) (λ image sent. IsHarmless (table_in base) image)
      (catching_is_harmless legal schema table base files first whole is (bench.sent at)) catches) session).each image sent was now stands
