-- What is owed of a group of questions that a store decided, at each way out of a call that keeps its records.
use Rattle.std.proofs.Common.{◌≡◌, ℕ, ◌+◌, ◌-◌, ◌≤◌, Bool, true, Result, Ok, Err, List, [], ◌++◌, length, length-append, take, drop, refl, sym, ap, subst, ◌∙◌, arith}
use Rattle.std.specs.Prelude.{IsErrOf, Vec}
use Rattle.std.specs.declared.alloc.Global.{Global}
use Rattle.audit_types.specs.declared.shapes.Shape.{Shape}
use Rattle.audit_types.specs.declared.records.Asked.{Asked}
use Rattle.audit_types.specs.declared.records.Answered.{Answered}
use Rattle.audit_core.specs.declared.outcome.Outcome.{Outcome}
use Rattle.audit_core.specs.Audited.{Audited}
use Rattle.audit_core.specs.Outcomes.{AreOutcomes, records_made}
use Rattle.bench_core.specs.declared.bench.Bench.{Ghosts}
use Rattle.bench_core.specs.declared.stops.Stop.{Stop}
use Rattle.bench_core.specs.declared.stops.Stop.TheVariants as stop
use Rattle.bench_core.specs.Calls.{IsQuiet, LeavesOnly, TellsFault}
use Rattle.bench_core.specs.Reports.{not_called}
use Rattle.journal_form.specs.Journal.{StandsAt}
use Rattle.table_load.specs.Cells.{SecretView}
use Rattle.answer_journal.specs.Contents.{JournalContents}
use Rattle.answer_journal.specs.Moments.{IsBeforeOrAfter}
use Rattle.audit_store.specs.Asks.{AsksOn, SpareAsksOn}
use Rattle.audit_store.specs.Refusals.{no_refusal}
use Rattle.audit_store.specs.Stores.{StoreContents, IsAsLeft, IsStore, IsAuditedBy, HasGroup, Keeps, calls_for, table_by, table_of}
use Rattle.audit_store.specs.StoreLaws.{core_is_history, nothing_appended, store_in, taken_since}
use Rattle.audit_store.specs.Twice.{IsJournalOf, MayAppend, WasAppended}
use Rattle.audit_store.proofs.InsideStores.{HasKept, HasRefused}

-- ---- memory ran out before the first call

module _ {B : Type 0} (bench : Ghosts B) (at : B) {store now : StoreContents} {questions : List Asked} {answer : Result (Vec Outcome Global) Stop}
    (is : answer ≡ Err stop.NoMemory) where
  pub unasked : HasRefused store now → AsksOn bench store now questions answer at at
  unasked refused = subst (λ (a : Result (Vec Outcome Global) Stop). AsksOn bench store now questions a at at) (sym is) (record {
    outcomes = tt;
    history = tt;
    stands = λ told. tt;
    usable = tt;
    kept = (refused.history, refused.usable);
    no_memory = λ same. refl;
    fault = not_called bench at _ (λ same. let none : ⊥ = cc in none);
    table = refused.table;
    is = refused.is;
    any_moment = λ told quiet other. absurd (other refl);
    moments = λ told quiet. tt;
    written = λ told. tt;
    quiet = λ told quiet other. quiet;
    sent = refl;
    ticks = λ told. tt;
    unasked = tt;
  })

  pub spare_unasked : {S : Type 0} (spare : Ghosts S) (Told : Type 0) {gate ended : ℕ} (from : S)
      → SpareAsksOn bench spare Told store now gate ended questions answer at at from from
  spare_unasked spare Told {gate} {ended} from =
      subst (λ (a : Result (Vec Outcome Global) Stop). SpareAsksOn bench spare Told store now gate ended questions a at at from from) (sym is) (record {
        stands = λ told. tt;
        no_memory = λ same. refl;
        fault = not_called spare from _ (λ same. let none : ⊥ = cc in none);
        moments = λ told quiet other. absurd (other refl);
        written = λ told. tt;
        quiet = λ told quiet other. quiet;
        sent = refl;
        ticks = λ told. tt;
        unasked = tt;
        first = λ same. refl;
        ahead = λ told spare_told quiet same. let none : ⊥ = cc in absurd none;
      })

-- no spare failed
pub not_of_spare : {X P : Type 0} {answer : Result X Stop} → answer ≡ Err stop.NoMemory → IsErrOf answer stop.Spare → P
not_of_spare is failed = let none : ⊥ = cc in absurd none

-- ---- the group was decided

-- the outcomes are due to the questions, and the group has the records that they make, for a journal of the store's table and history
pub record IsDecided (store : StoreContents) (questions : List Asked) (outcomes : List Outcome) (journal : JournalContents) (group : List Answered)
    : Type 0 where
  pub due : AreOutcomes (table_of store) store.history questions outcomes
  pub group_is : group ≡ records_made questions outcomes
  pub same_shape : journal.shape ≡ store.secret.shape
  pub counted : length store.history ≡ journal.count

-- as the store's core took them, for the store's own journal
pub decided : {secret : SecretView} {old : Audited} (new : Audited) {released : ℕ} {journal : JournalContents} {usable : Bool} {store : StoreContents}
    (questions : List Asked) (outcomes : List Outcome) (shown group : List Answered) → store_in secret old released journal usable ≡ store
    → store.usable ≡ true → IsStore (store_in secret old released journal usable) × IsAuditedBy (table_by secret old) old released usable
    → AreOutcomes (table_by secret old) old.history questions outcomes → new.history ≡ old.history ++ records_made questions outcomes
    → shown ≡ new.history → group ≡ take (length shown - released) (drop released shown) → IsDecided store questions outcomes journal group
decided {secret} {old} new {released} {journal} {usable} {store} questions outcomes shown group view store_usable inside due took shown_is group_is =
    let is_usable : usable ≡ true = ap (λ (s : StoreContents). s.usable) view ∙ store_usable in
    let all = core_is_history (table_by secret old) old released usable (take released old.history) inside.1 is_usable refl in
    record {
      due =
          subst (λ (s : StoreContents). AreOutcomes (table_of s) s.history questions outcomes) view
          (subst (λ (h : List Answered). AreOutcomes (table_by secret old) h questions outcomes) all due);
      group_is =
          group_is
          ∙ taken_since old.history new.history shown (records_made questions outcomes) released shown_is (inside.1.all is_usable) took;
      same_shape = inside.0.same_shape is_usable ∙ ap (λ (s : StoreContents). s.secret.shape) view;
      counted = sym (inside.0.counted is_usable ∙ ap (λ (s : StoreContents). length s.history) view);
    }

module _ {store : StoreContents} {questions : List Asked} {outcomes : List Outcome} {journal : JournalContents} {group : List Answered}
    (is : IsDecided store questions outcomes journal group) where
  -- the same for another journal of the same table and history
  pub over_other : (other : JournalContents) → IsJournalOf store.secret.shape store.history other → IsDecided store questions outcomes other group
  over_other other of = record { due = is.due; group_is = is.group_is; same_shape = of.same_shape; counted = sym of.counted }

  -- once the group is kept the journal is that of the history with the records
  pub journal_after : (after : JournalContents) {over : Shape} {now : List Answered} → over ≡ store.secret.shape
      → now ≡ store.history ++ records_made questions outcomes → after.usable ≡ true → after.shape ≡ journal.shape
      → after.count ≡ journal.count + length group → IsJournalOf over now after
  journal_after after {over} {now} over_is now_is usable shape counted = record {
    usable = usable;
    same_shape = shape ∙ is.same_shape ∙ sym over_is;
    counted =
        omega
        (arith, counted, is.counted, ap length is.group_is, ap length now_is, length-append store.history (records_made questions outcomes));
  }

  module _ {D : Type 0} (bench : Ghosts D) (old new : D) (stands : bench.told → StandsAt (bench.file old) store.secret.shape store.history journal.gate) where
    -- the file stands for the store's history over the journal's shape
    here : bench.told → StandsAt (bench.file old) journal.shape store.history journal.gate
    here told = subst (λ (s : Shape). StandsAt (bench.file old) s store.history journal.gate) (sym is.same_shape) (stands told)

    -- a crash meanwhile leaves the history before, or that with the records
    pub found : MayAppend bench journal group old new → bench.told → IsQuiet bench old
        → LeavesOnly bench old new (IsBeforeOrAfter store.secret.shape store.history (records_made questions outcomes) (bench.sent old))
    found may told quiet =
        subst (λ (l : List Answered). LeavesOnly bench old new (IsBeforeOrAfter store.secret.shape store.history l (bench.sent old))) is.group_is
        (subst (λ (s : Shape). LeavesOnly bench old new (IsBeforeOrAfter s store.history group (bench.sent old))) is.same_shape
        (may store.history told (here told) is.counted quiet))

    pub keeps_group : MayAppend bench journal group old new → bench.told → IsQuiet bench old
        → Keeps bench old new (table_of store) store.history questions (bench.sent old)
    keeps_group may told quiet = record { outcomes = outcomes; due = is.due; moments = found may told quiet }

    module _ (after : JournalContents) (appended : WasAppended bench journal after group old new) where
      -- once it is kept the file stands for the latter
      pub stands_after : (over : Shape) (now : List Answered) → over ≡ store.secret.shape → now ≡ store.history ++ records_made questions outcomes
          → bench.told → StandsAt (bench.file new) over now after.gate
      stands_after over now over_is now_is told =
          subst (λ (s : Shape). StandsAt (bench.file new) s now after.gate) (appended.shape ∙ is.same_shape ∙ sym over_is)
          (subst (λ (h : List Answered). StandsAt (bench.file new) after.shape h after.gate)
          (ap (λ (l : List Answered). store.history ++ l) is.group_is ∙ sym now_is) (appended.done store.history told (here told) is.counted))

      -- behind its gate it has the records
      pub has_made : bench.told → HasGroup store.secret.shape (records_made questions outcomes) journal.gate (bench.file old) (bench.file new)
      has_made told =
          subst (λ (l : List Answered). HasGroup store.secret.shape l journal.gate (bench.file old) (bench.file new)) is.group_is
          (subst (λ (s : Shape). HasGroup s group journal.gate (bench.file old) (bench.file new)) is.same_shape (appended.written told))

      pub ticks_made : bench.told → bench.moment new ≡ bench.moment old + calls_for (records_made questions outcomes)
      ticks_made told = appended.ticks told ∙ ap (λ (l : List Answered). bench.moment old + calls_for l) is.group_is

-- ---- what became of it on the bench

-- no call failed, and no failure is told
none_failed : {D : Type 0} (bench : Ghosts D) (old new : D) (Answered : Type 0) → bench.faults new ≡ bench.faults old → (Answered → ⊥)
    → TellsFault bench old new Answered
none_failed bench old new Answered steady none = record {
  later = omega (arith, steady);
  failed = λ answered. absurd (none answered);
  last_call = λ answered. absurd (none answered);
  steady = λ other. steady;
}

module _ {store : StoreContents} {questions : List Asked} (outcomes : Vec Outcome Global) {journal : JournalContents} {group : List Answered}
    (is : IsDecided store questions outcomes.items journal group) (own : journal.gate ≡ store.journal.gate) {B : Type 0} (bench : Ghosts B) (old : B)
    (as_left : bench.told → IsAsLeft (bench.file old) store) where
  stands : bench.told → StandsAt (bench.file old) store.secret.shape store.history journal.gate
  stands told = subst (λ (n : ℕ). StandsAt (bench.file old) store.secret.shape store.history n) (sym own) (as_left told)

  -- a call of the spare failed, and the bench wasn't called
  pub uncalled : {now : StoreContents}
      → ((image sent : List ℕ) → bench.since old (bench.moment old) image sent → bench.leaves old image × (sent ≡ bench.sent old))
      → HasRefused store now → AsksOn bench store now questions (Err stop.Spare) old old
  uncalled only_now refused = record {
    outcomes = tt;
    history = tt;
    stands = λ told. tt;
    usable = tt;
    kept = (refused.history, refused.usable);
    no_memory = λ no_memory. refl;
    fault = not_called bench old _ (λ failed. let none : ⊥ = cc in none);
    table = refused.table;
    is = refused.is;
    any_moment =
        λ told quiet other.
        keeps_group is bench old old stands (λ history told here counted quiet.
        nothing_appended bench old journal.shape history group journal.gate only_now quiet here) told quiet;
    moments = λ told quiet. tt;
    written = λ told. tt;
    quiet = λ told quiet other. quiet;
    sent = refl;
    ticks = λ told. tt;
    unasked = tt;
  }

  module _ (new : B) (may : MayAppend bench journal group old new) (sent : bench.sent new ≡ bench.sent old) where
    -- a call of the bench failed
    pub asked_in_vain : {now : StoreContents} {answer : Result (Vec Outcome Global) Stop} → answer ≡ Err stop.Bench → HasRefused store now
        → ((Answered : Type 0) → Answered → TellsFault bench old new Answered) → AsksOn bench store now questions answer old new
    asked_in_vain {now} same refused tells = subst (λ (a : Result (Vec Outcome Global) Stop). AsksOn bench store now questions a old new) (sym same) (record {
      outcomes = tt;
      history = tt;
      stands = λ told. tt;
      usable = tt;
      kept = (refused.history, refused.usable);
      no_memory = λ no_memory. let none : ⊥ = cc in absurd none;
      fault = tells _ refl;
      table = refused.table;
      is = refused.is;
      any_moment = λ told quiet other. keeps_group is bench old new stands may told quiet;
      moments = λ told quiet. tt;
      written = λ told. tt;
      quiet = λ told quiet other. absurd (other refl);
      sent = sent;
      ticks = λ told. tt;
      unasked = tt;
    })

    -- none did
    pub asked : {now : StoreContents} (after : JournalContents) → WasAppended bench journal after group old new → bench.faults new ≡ bench.faults old
        → (group ≡ [] → new ≡ old) → HasKept store now (records_made questions outcomes.items) after → AsksOn bench store now questions (Ok outcomes) old new
    asked {now} after appended steady unasked kept = record {
      outcomes = is.due;
      history = kept.history;
      stands = λ told.
          subst (λ (j : JournalContents). StandsAt (bench.file new) now.secret.shape now.history j.gate) (sym kept.journal_is)
          (stands_after is bench old new stands after appended now.secret.shape now.history
          (ap (λ (s : SecretView). s.shape) kept.table.0) kept.history told);
      usable = kept.usable;
      kept = tt;
      no_memory = λ refused. no_refusal _ _ refused;
      fault = none_failed bench old new _ steady (λ refused. no_refusal _ _ refused);
      table = kept.table;
      is = kept.is;
      any_moment = λ told quiet other. keeps_group is bench old new stands may told quiet;
      moments = λ told quiet. found is bench old new stands may told quiet;
      written = λ told.
          subst (λ (n : ℕ). HasGroup store.secret.shape (records_made questions outcomes.items) n (bench.file old) (bench.file new)) own
          (has_made is bench old new stands after appended told);
      quiet = λ told quiet other. appended.quiet told quiet;
      sent = sent;
      ticks = λ told. ticks_made is bench old new stands after appended told;
      unasked = λ none. unasked (is.group_is ∙ none);
    }

-- ---- what became of it on the spare, which comes first, if there is one

module _ {store : StoreContents} {questions : List Asked} (outcomes : Vec Outcome Global) {other : JournalContents} {group : List Answered} {Spared : Type 0}
    (is : Spared → IsDecided store questions outcomes.items other group) {B S : Type 0} (bench : Ghosts B) (spare : Ghosts S) (old new : B) (before after : S)
    (stands : Spared → spare.told → StandsAt (spare.file before) store.secret.shape store.history other.gate) {now : StoreContents}
    (may : Spared → MayAppend spare other group before after) (sent : spare.sent after ≡ spare.sent before) (ended : JournalContents) where
  -- a call of it failed
  pub spare_asked_in_vain : ((Answered : Type 0) → Answered → TellsFault spare before after Answered) → new ≡ old
      → SpareAsksOn bench spare (Spared × spare.told) store now other.gate ended.gate questions (Err stop.Spare) old new before after
  spare_asked_in_vain tells uncalled = record {
    stands = λ told. tt;
    no_memory = λ no_memory. let none : ⊥ = cc in absurd none;
    fault = tells _ refl;
    moments = λ told quiet no_memory. keeps_group (is told.0) spare before after (stands told.0) (may told.0) told.1 quiet;
    written = λ told. tt;
    quiet = λ told quiet no. absurd (no refl);
    sent = sent;
    ticks = λ told. tt;
    unasked = tt;
    first = λ failed. uncalled;
    ahead = λ told spare_told quiet failed. let none : ⊥ = cc in absurd none;
  }

  module _ (appended : Spared → WasAppended spare other ended group before after) (steady : spare.faults after ≡ spare.faults before) where
    -- none did, and then a call of the bench failed
    pub spare_is_ahead : ((image : List ℕ) → bench.moment old ≤ bench.moment new → bench.leaves new image
        → bench.since new (bench.moment old) image (bench.sent new))
        → (bench.told → IsQuiet bench old
        → LeavesOnly bench old new (IsBeforeOrAfter store.secret.shape store.history (records_made questions outcomes.items) (bench.sent old)))
        → SpareAsksOn bench spare (Spared × spare.told) store now other.gate ended.gate questions (Err stop.Bench) old new before after
    spare_is_ahead counts_now moments = record {
      stands = λ told. tt;
      no_memory = λ no_memory. let none : ⊥ = cc in absurd none;
      fault = none_failed spare before after _ steady (λ failed. let none : ⊥ = cc in none);
      moments = λ told quiet no_memory. keeps_group (is told.0) spare before after (stands told.0) (may told.0) told.1 quiet;
      written = λ told. tt;
      quiet = λ told quiet no. (appended told.0).quiet told.1 quiet;
      sent = sent;
      ticks = λ told. tt;
      unasked = tt;
      first = λ failed. let none : ⊥ = cc in absurd none;
      ahead = λ told spare_told quiet failed image left. record {
        outcomes = outcomes.items;
        due = (is spare_told.0).due;
        spare_stands = (
          ended.gate,
          stands_after (is spare_told.0) spare before after (stands spare_told.0) ended (appended spare_told.0) store.secret.shape
              (store.history ++ records_made questions outcomes.items) refl refl spare_told.1,
        );
        image_stands = ((moments told quiet).each image (bench.sent new) (counts_now image (moments told quiet).later left)).1;
      };
    }

    -- none did, of either
    pub spare_asked : (records_made questions outcomes.items ≡ [] → after ≡ before) → HasKept store now (records_made questions outcomes.items) now.journal
        → SpareAsksOn bench spare (Spared × spare.told) store now other.gate ended.gate questions (Ok outcomes) old new before after
    spare_asked unasked kept = record {
      stands = λ told.
          stands_after (is told.0) spare before after (stands told.0) ended (appended told.0) now.secret.shape now.history
          (ap (λ (s : SecretView). s.shape) kept.table.0) kept.history told.1;
      no_memory = λ refused. no_refusal _ _ refused;
      fault = none_failed spare before after _ steady (λ refused. no_refusal _ _ refused);
      moments = λ told quiet no_memory. keeps_group (is told.0) spare before after (stands told.0) (may told.0) told.1 quiet;
      written = λ told. has_made (is told.0) spare before after (stands told.0) ended (appended told.0) told.1;
      quiet = λ told quiet no. (appended told.0).quiet told.1 quiet;
      sent = sent;
      ticks = λ told. ticks_made (is told.0) spare before after (stands told.0) ended (appended told.0) told.1;
      unasked = unasked;
      first = λ refused. no_refusal _ _ refused;
      ahead = λ told spare_told quiet refused. no_refusal _ _ refused;
    }
