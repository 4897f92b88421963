-- What a session owes: on the bench and of the input, and on a spare.
use Rattle.std.specs.Prelude.{◌≡◌, ◌≢◌, ◌≤◌, ◌<◌, ◌+◌, ℕ, true, List, [], length, Result, Err, OnOk}
use Rattle.bench_core.specs.declared.bench.Bench.{Ghosts}
use Rattle.bench_core.specs.declared.source.Source.{Ghosts as SourceGhosts}
use Rattle.bench_core.specs.declared.stops.Stop.{Stop}
use Rattle.bench_core.specs.declared.stops.Stop.TheVariants.{Input, Limit, Bench, Spare, NoMemory}
use Rattle.bench_core.specs.Calls.{IsQuiet, LeavesOnly, TellsFault}
use Rattle.bench_core.specs.Causes.{Rose}
use Rattle.journal_form.specs.Journal.{StandsFor}
use Rattle.table_load.specs.Database.{Database}
use Rattle.audit_store.specs.Stores.{StoreContents, IsAsLeft, IsStore, table_of}
use Rattle.line_wire.specs.Lines.{counted_lines, most_input}
use Rattle.audit_session.specs.Stops.{IsHarmless, LeavesBoth, SpareStops, StopsOver}
use Rattle.audit_session.specs.Ends.{KeepsCalls, Serves, ServesSome, ServesWhole, TakesCalls, limited}

-- the lines of an input were answered in groups of a batch, over a table and a store, and this ended it
pub record SessionOn {P B : Type 0} (source : SourceGhosts P) (bench : Ghosts B) (base : Database) (batch : ℕ) (store now : StoreContents) (answer : Result (Unit {0}) Stop)
    (from first : P) (old new : B) : Type 0 where
  -- the ends: which lines were answered. The file stands for the history, unless a call of the bench failed
  pub done : source.told → bench.told → OnOk answer (Serves base store.history (counted_lines (source.left from)) now.history (bench.sent old) (bench.sent new))
  pub input_end : source.told → bench.told → answer ≡ Err Input → ServesWhole base store.history batch (source.left from) (source.left first) now.history (bench.sent old) (bench.sent new)
  pub limit_end : source.told → bench.told → answer ≡ Err Limit → ServesWhole base store.history batch (limited (source.left from)) [] now.history (bench.sent old) (bench.sent new)
  pub memory_end : source.told → bench.told → answer ≡ Err NoMemory → ServesSome base store.history batch (counted_lines (source.left from)) now.history (bench.sent old) (bench.sent new)
  pub spare_end : source.told → bench.told → answer ≡ Err Spare → ServesSome base store.history batch (counted_lines (source.left from)) now.history (bench.sent old) (bench.sent new)
  pub stands : bench.told → answer ≢ Err Bench → StandsFor (bench.file new) now.secret.shape now.history
  pub quiet : bench.told → IsQuiet bench old → answer ≢ Err Bench → IsQuiet bench new
  -- after Ok it may be called again. Only if a call failed or memory ran out may the store be left unusable, and while it is usable the file is as the
  -- store left it
  pub again : OnOk answer ((now.usable ≡ true) × (bench.told → IsAsLeft (bench.file new) now))
  pub usable : answer ≢ Err Bench → answer ≢ Err Spare → answer ≢ Err NoMemory → now.usable ≡ true
  pub left : bench.told → now.usable ≡ true → IsAsLeft (bench.file new) now
  -- one send for each line, four calls for each group that makes a record, and no other call
  pub calls : source.told → bench.told → OnOk answer (TakesCalls base store.history batch (counted_lines (source.left from)) (bench.moment old) (bench.moment new))
  -- at every moment it is a stop
  pub any_moment : source.told → bench.told → IsQuiet bench old → LeavesOnly bench old new (StopsOver base batch store.history (counted_lines (source.left from)) (bench.sent old))
  -- whatever the input is, and whatever its source tells, every history for which an image then stands is legal and discloses nothing
  pub legal : bench.told → IsQuiet bench old → LeavesOnly bench old new (λ image sent. IsHarmless (table_of store) image)
  pub table : (now.secret ≡ store.secret) × (now.protected ≡ store.protected)
  pub is : IsStore now
  -- how much of the input there was
  pub read : source.told → OnOk answer (source.left first ≡ [])
  pub within : source.told → OnOk answer (length (source.left from) ≤ most_input)
  pub input_within : source.told → answer ≡ Err Input → length (source.left from) ≤ most_input + length (source.left first)
  pub limit : source.told → answer ≡ Err Limit → most_input + length (source.left first) < length (source.left from)
  -- it doesn't give up by itself, and passes over no failed call
  pub later : source.faults from ≤ source.faults first
  pub input : answer ≡ Err Input → Rose (source.faults from) (source.faults first)
  pub last_read : answer ≡ Err Input → source.last_failed first ≡ true
  pub steady : answer ≢ Err Input → source.faults first ≡ source.faults from
  pub fault : TellsFault bench old new (answer ≡ Err Bench)

-- the same of a spare; what its file holds is said if Told holds. At every end a crash leaves each of both at a stop with what was sent, the spare at most
-- one group ahead; unless a call of one of them failed, both stand for one history
pub record SpareSessionOn {P B S : Type 0} (source : SourceGhosts P) (bench : Ghosts B) (spare : Ghosts S) (Told : Type 0) (base : Database) (batch : ℕ)
    (store now : StoreContents) (answer : Result (Unit {0}) Stop) (from : P) (old new : B) (before after : S) : Type 0 where
  pub stands : Told → answer ≢ Err Bench → answer ≢ Err Spare → StandsFor (spare.file after) now.secret.shape now.history
  pub moments : source.told → Told → IsQuiet spare before
      → LeavesOnly spare before after (SpareStops base batch store.history (counted_lines (source.left from)) (spare.sent before))
  pub legal : Told → IsQuiet spare before → LeavesOnly spare before after (λ image sent. IsHarmless (table_of store) image)
  pub quiet : Told → IsQuiet spare before → answer ≢ Err Spare → IsQuiet spare after
  pub sent : spare.sent after ≡ spare.sent before
  pub both : source.told → bench.told → Told → IsQuiet bench old → IsQuiet spare before → (image other : List ℕ) → bench.leaves new image → spare.leaves after other
      → LeavesBoth base batch store.history (counted_lines (source.left from)) (bench.sent old) (bench.sent new) image other
  pub calls : source.told → Told → OnOk answer (KeepsCalls base store.history batch (counted_lines (source.left from)) (spare.moment before) (spare.moment after))
  pub fault : TellsFault spare before after (answer ≡ Err Spare)

-- what is said of the spare if one thing holds is said if another does that brings it with it
pub spare_told_by : {P B S : Type 0} {source : SourceGhosts P} {bench : Ghosts B} {spare : Ghosts S} {Told Also : Type 0} {base : Database} {batch : ℕ}
    {store now : StoreContents} {answer : Result (Unit {0}) Stop} {from : P} {old new : B} {before after : S} → (Also → Told)
    → SpareSessionOn source bench spare Told base batch store now answer from old new before after
    → SpareSessionOn source bench spare Also base batch store now answer from old new before after
spare_told_by brings session = record {
  stands = λ also. session.stands (brings also);
  moments = λ told also. session.moments told (brings also);
  legal = λ also. session.legal (brings also);
  quiet = λ also. session.quiet (brings also);
  sent = session.sent;
  both = λ told bench_told also. session.both told bench_told (brings also);
  calls = λ told also. session.calls told (brings also);
  fault = session.fault;
}
