-- How a session ends, by what ended it.
use Rattle.std.proofs.Common.{◌≡◌, ℕ, List, ◌++◌, length, take, Err, sym, ◌∙◌, ap, subst}
use Rattle.std.specs.Prelude.{IsErrOf}
use Rattle.std.proofs.Math.Seq.{take-append_seam}
use Rattle.audit_types.specs.declared.records.Answered.{Answered}
use Rattle.table_load.specs.Cells.{SecretView}
use Rattle.line_wire.specs.Lines.{most_input}
use Rattle.bench_core.specs.declared.stops.Stop.{Stop}
use Rattle.bench_core.specs.declared.stops.Stop.TheVariants as end
use Rattle.bench_core.specs.Stops.{IsOfBenches}
use Rattle.bench_core.specs.declared.bench.Bench.{Ghosts}
use Rattle.bench_core.specs.Calls.{IsQuiet}
use Rattle.journal_form.specs.Journal.{StandsFor}
use Rattle.audit_store.specs.Stores.{StoreContents}
use Rattle.audit_session.specs.Ends.{limited}
use Rattle.audit_session.proofs.DecidedGroup.{by_kind}

-- the file stands for the history, and a quiet bench is still quiet
pub record Rests {B : Type 0} (bench : Ghosts B) (old new : B) (store : StoreContents) : Type 0 where
  pub stands : bench.told → StandsFor (bench.file new) store.secret.shape store.history
  pub quiet : bench.told → IsQuiet bench old → IsQuiet bench new

-- an answer that was refused without a call of the bench leaves all as it stood
pub rests_by : {B X : Type 0} (why : Stop) → IsOfBenches why → (IsErrOf {T = X} (Err why) end.Bench → ⊥)
    → (bench : Ghosts B) (old mid new : B) (was now : StoreContents)
    → (IsErrOf {T = X} (Err why) end.NoMemory → (new ≡ mid) × (now.history ≡ was.history))
    → (IsErrOf {T = X} (Err why) end.Spare → (new ≡ mid) × (now.history ≡ was.history)) → now.secret ≡ was.secret → Rests bench old mid was →
    Rests bench old new now
rests_by why is no_bench bench old mid new was now memory spare secret rests =
    let still = by_kind why is memory (λ bench_failed. absurd (no_bench bench_failed)) spare in
    record {
      stands = λ t.
          subst (λ (h : List Answered). StandsFor (bench.file new) now.secret.shape h) (sym still.1)
          (subst (λ (s : SecretView). StandsFor (bench.file new) s.shape was.history) (sym secret)
          (subst (λ b. StandsFor (bench.file b) was.secret.shape was.history) (sym still.0) (rests.stands t)));
      quiet = λ t quiet. subst (λ b. IsQuiet bench b) (sym still.0) (rests.quiet t quiet);
    }

-- the bytes below the limit
front_is : (most : ℕ) (input read rest : List ℕ) → input ≡ read ++ rest → length read ≡ most → take most input ≡ read
front_is most input read rest split as_long =
    ap (λ (n : ℕ). take n input) (sym as_long) ∙ ap (λ (l : List ℕ). take (length read) l) split ∙ take-append_seam read rest

pub limited_is : (input read rest : List ℕ) → input ≡ read ++ rest → length read ≡ most_input → limited input ≡ read
unfolding limited
limited_is input read rest split as_long = front_is most_input input read rest split as_long
