-- What a session says of the run whose last step it is: the store was opened over the table and the history that are given.
use Rattle.std.proofs.Common.{◌≡◌, ◌+◌, ℕ, List, [], subst}
use Rattle.audit_types.specs.declared.records.Answered.{Answered}
use Rattle.audit_types.specs.History.{IsLegal, IsUndisclosed}
use Rattle.bench_core.specs.declared.bench.Bench.{Ghosts}
use Rattle.bench_core.specs.Calls.{IsUntouched, LeavesOnly, OnlyReads}
use Rattle.bench_core.specs.Moments.{joins, weakens}
use Rattle.table_load.specs.Database.{Database, table_in}
use Rattle.journal_form.specs.Journal.{StandsFor}
use Rattle.line_wire.specs.Lines.{counted_lines}
use Rattle.audit_session.specs.Ends.{TakesCalls}
use Rattle.audit_session.specs.Stops.{IsHarmless, StopsOver}
use Rattle.auditor_top.specs.declared.status.Status.{Status}
use Rattle.auditor_top.specs.Commands.{ServesOver}
use Rattle.auditor_top.specs.Ends.{Outside, ServeEnds}
use Rattle.auditor_top.proofs.OneTable.{carried, untouched_stops}
use Rattle.auditor_top.proofs.Refusals.{StopsAreLegal}

module _ {B : Type 0} (bench : Ghosts B) (at opened later : B) (reads : OnlyReads bench at opened) (seen base : Database) (kept history : List Answered)
    (same : (seen ≡ base) × (kept ≡ history)) (batch : ℕ) (text : List ℕ) where
  pub ends_so : (status : Status) (after : Outside) →
      ServeEnds batch status seen kept (record { input = text; sent = bench.sent opened; file = bench.file at }) after →
      ServeEnds batch status base history (record { input = text; sent = bench.sent at; file = bench.file at }) after
  ends_so status after ends =
      carried (λ (b : Database) (h : List Answered). ServeEnds batch status b h (record { input = text; sent = bench.sent at; file = bench.file at }) after)
      seen
      base kept history same
      (subst (λ (sent : List ℕ). ServeEnds batch status seen kept (record { input = text; sent = sent; file = bench.file at }) after) reads.sent ends)

  pub stops_so : StandsFor (bench.file at) base.secret.shape history → LeavesOnly bench at opened (IsUntouched (bench.file at) (bench.sent at)) →
      LeavesOnly bench opened later (StopsOver seen batch kept (counted_lines text) (bench.sent opened)) →
      LeavesOnly bench at later (StopsOver base batch history (counted_lines text) (bench.sent at))
  stops_so stands untouched session =
      joins bench at opened later (StopsOver base batch history (counted_lines text) (bench.sent at))
      (weakens bench at opened (IsUntouched (bench.file at) (bench.sent at)) _
      (λ image sent is. untouched_stops base batch history (counted_lines text) (bench.file at) (bench.sent at) image sent stands is) untouched)
      (carried (λ (b : Database) (h : List Answered). LeavesOnly bench opened later (StopsOver b batch h (counted_lines text) (bench.sent at))) seen base kept
      history same
      (subst (λ (sent : List ℕ). LeavesOnly bench opened later (StopsOver seen batch kept (counted_lines text) sent)) reads.sent session))

  pub harmless_so : StopsAreLegal → (schema table : List ℕ) → ServesOver schema table (bench.file at) base history →
      LeavesOnly bench at opened (IsUntouched (bench.file at) (bench.sent at)) →
      LeavesOnly bench opened later (λ image sent. IsHarmless (table_in seen) image) → (image sent : List ℕ) (now : List Answered) →
      bench.since later (bench.moment at) image sent → StandsFor image base.secret.shape now →
      IsLegal (table_in base) now × IsUndisclosed (table_in base) now
  harmless_so legal schema table over untouched session image sent now was stands =
      (joins bench at opened later (λ image sent. IsHarmless (table_in base) image)
      (weakens bench at opened (IsUntouched (bench.file at) (bench.sent at)) _
      (λ image sent is now stands. legal schema table (bench.sent at) image sent base batch history now [] over.files over.legal
      (untouched_stops base batch history [] (bench.file at) (bench.sent at) image sent over.stands is) stands) untouched)
      (carried (λ (b : Database) (h : List Answered). LeavesOnly bench opened later (λ image sent. IsHarmless (table_in b) image)) seen base kept history same
      session)).each image sent was now stands

  pub calls_so : bench.moment opened ≡ bench.moment at + 2 → TakesCalls seen kept batch (counted_lines text) (bench.moment opened) (bench.moment later) →
      TakesCalls base history batch (counted_lines text) (bench.moment at + 2) (bench.moment later)
  calls_so two session =
      carried (λ (b : Database) (h : List Answered). TakesCalls b h batch (counted_lines text) (bench.moment at + 2) (bench.moment later)) seen base kept
      history
      same (subst (λ (n : ℕ). TakesCalls seen kept batch (counted_lines text) n (bench.moment later)) two session)
