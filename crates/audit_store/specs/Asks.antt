-- What a group of questions owes: on the bench, and on a spare.
use Rattle.std.specs.Prelude.{◌≡◌, ℕ, ◌+◌, ◌++◌, true, false, List, [], Result, Vec, IfOk, OnOk, OnErr, IsErrOf}
use Rattle.std.specs.declared.alloc.Global.{Global}
use Rattle.audit_types.specs.declared.records.Asked.{Asked}
use Rattle.audit_core.specs.declared.outcome.Outcome.{Outcome}
use Rattle.audit_core.specs.Outcomes.{AreOutcomes, records_made}
use Rattle.bench_core.specs.declared.bench.Bench.{Ghosts}
use Rattle.bench_core.specs.Calls.{IsQuiet, LeavesOnly, TellsFault}
use Rattle.bench_core.specs.declared.stops.Stop.{Stop}
use Rattle.bench_core.specs.declared.stops.Stop.TheVariants.{Bench, Spare, NoMemory}
use Rattle.journal_form.specs.Journal.{StandsAt}
use Rattle.answer_journal.specs.Moments.{IsBeforeOrAfter}
use Rattle.audit_store.specs.Stores.{StoreContents, IsAsLeft, IsStore, HasGroup, Keeps, KeptAhead, calls_for, table_of}

-- a store decided a group of questions, and kept their records on a bench before it gave this answer
pub record AsksOn {B : Type 0} (bench : Ghosts B) (store now : StoreContents) (questions : List Asked) (answer : Result (Vec Outcome Global) Stop) (old new : B) : Type 0 where
  -- one outcome for each question, and the history has the records that they make
  pub outcomes : IfOk answer (λ v. AreOutcomes (table_of store) store.history questions v.items)
  pub history : IfOk answer (λ v. now.history ≡ store.history ++ records_made questions v.items)
  pub stands : bench.told → OnOk answer (IsAsLeft (bench.file new) now)
  pub usable : OnOk answer (now.usable ≡ true)
  -- a refusal leaves the history as it was
  pub kept : OnErr answer ((now.history ≡ store.history) × (now.usable ≡ false))
  pub no_memory : IsErrOf answer NoMemory → new ≡ old
  pub fault : TellsFault bench old new (IsErrOf answer Bench)
  pub table : (now.secret ≡ store.secret) × (now.protected ≡ store.protected)
  pub is : IsStore now
  -- a crash at any moment leaves the history before, or that with the records of the group; if outcomes are given, with theirs
  pub any_moment : bench.told → IsQuiet bench old → (IsErrOf answer NoMemory → ⊥) → Keeps bench old new (table_of store) store.history questions (bench.sent old)
  pub moments : bench.told → IsQuiet bench old
      → IfOk answer (λ v. LeavesOnly bench old new (IsBeforeOrAfter store.secret.shape store.history (records_made questions v.items) (bench.sent old)))
  -- a group that makes no record leaves the bench as it was, any other takes four calls
  pub written : bench.told → IfOk answer (λ v. HasGroup store.secret.shape (records_made questions v.items) store.journal.gate (bench.file old) (bench.file new))
  pub quiet : bench.told → IsQuiet bench old → (IsErrOf answer Bench → ⊥) → IsQuiet bench new
  pub sent : bench.sent new ≡ bench.sent old
  pub ticks : bench.told → IfOk answer (λ v. bench.moment new ≡ bench.moment old + calls_for (records_made questions v.items))
  pub unasked : IfOk answer (λ v. records_made questions v.items ≡ [] → new ≡ old)

-- the same of a spare, whose journal ended at the first gate and ends at the second. What its file holds is said if Told holds
pub record SpareAsksOn {B S : Type 0} (bench : Ghosts B) (spare : Ghosts S) (Told : Type 0) (store now : StoreContents) (gate ended : ℕ) (questions : List Asked)
    (answer : Result (Vec Outcome Global) Stop) (old new : B) (before after : S) : Type 0 where
  pub stands : Told → OnOk answer (StandsAt (spare.file after) now.secret.shape now.history ended)
  pub no_memory : IsErrOf answer NoMemory → after ≡ before
  pub fault : TellsFault spare before after (IsErrOf answer Spare)
  pub moments : Told → IsQuiet spare before → (IsErrOf answer NoMemory → ⊥) → Keeps spare before after (table_of store) store.history questions (spare.sent before)
  pub written : Told → IfOk answer (λ v. HasGroup store.secret.shape (records_made questions v.items) gate (spare.file before) (spare.file after))
  pub quiet : Told → IsQuiet spare before → (IsErrOf answer Spare → ⊥) → IsQuiet spare after
  pub sent : spare.sent after ≡ spare.sent before
  pub ticks : Told → IfOk answer (λ v. spare.moment after ≡ spare.moment before + calls_for (records_made questions v.items))
  pub unasked : IfOk answer (λ v. records_made questions v.items ≡ [] → after ≡ before)
  -- the spare comes first: if a call of it failed the bench wasn't called, and if one of the bench did the spare has the group
  pub first : IsErrOf answer Spare → new ≡ old
  pub ahead : bench.told → Told → IsQuiet bench old → IsErrOf answer Bench → (image : List ℕ) → bench.leaves new image
      → KeptAhead (spare.file after) image (table_of store) store.history questions
