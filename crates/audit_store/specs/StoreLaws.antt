-- Laws of stores: what they show of their cores and journals, and that one that was opened, one that kept a group and one that refused one are
-- stores.
use Rattle.std.proofs.Common.{◌≡◌, ℕ, ◌+◌, ◌<◌, ◌≤◌, Bool, true, false, List, [], ◌∷◌, refl, ◌-◌, ◌++◌, length, length-append, length-take, length-drop, take, drop, sym, ap, subst, ◌∙◌, arith, inl, Result, Ok, Err}
use Rattle.std.specs.Prelude.{OnErr}
use Rattle.std.proofs.Math.Seq.{take-length, drop-append_seam}
use Rattle.std.proofs.lemmas.List.{take_all}
use Rattle.audit_types.specs.declared.records.Answered.{Answered}
use Rattle.audit_types.specs.declared.shapes.Shape.{Shape}
use Rattle.audit_types.specs.History.{Protection, Table, Setting, AreProtected, IsLegal, setting_of}
use Rattle.audit_core.specs.Audited.{Audited}
use Rattle.table_load.specs.Cells.{SecretView}
use Rattle.bench_core.specs.declared.bench.Bench.{Ghosts}
use Rattle.bench_core.specs.Calls.{IsQuiet, LeavesOnly}
use Rattle.bench_core.specs.Moments.{started}
use Rattle.journal_form.specs.Journal.{StandsAt, StandsFor}
use Rattle.answer_journal.specs.Moments.{IsBeforeOrAfter}
use Rattle.answer_journal.specs.Contents.{JournalContents}
use Rattle.audit_store.specs.Stores.{StoreContents, IsStore, IsAuditedBy, calls_for, table_by}
use Rattle.audit_store.specs.Starting.{IsSealed}
use Rattle.table_load.specs.Database.{secret_table}

-- while a store is usable the records of its core are its history
pub core_is_history : (table : Table) (core : Audited) (released : ℕ) (usable : Bool) (history : List Answered) →
    IsAuditedBy table core released usable → usable ≡ true → take released core.history ≡ history → core.history ≡ history
core_is_history table core released usable history audited is_usable view =
    sym (ap (λ n. take n core.history) (audited.all is_usable) ∙ take-length core.history) ∙ view

-- the records that the core took after those released
pub taken_since : (old new shown made : List Answered) (released : ℕ) → shown ≡ new → released ≡ length old → new ≡ old ++ made →
    take (length shown - released) (drop released shown) ≡ made
taken_since old new shown made released same all is =
    take_all (length shown - released) (drop released shown) (omega (arith, length-drop released shown))
    ∙ ap (drop released) (same ∙ is) ∙ ap (λ n. drop n (old ++ made)) all ∙ drop-append_seam old made

-- all that the core took is released
pub more_released : (old new shown made : List Answered) (released now : ℕ) → released ≡ length old → new ≡ old ++ made → now ≡ length new
    → take released old ≡ shown
    → take now new ≡ shown ++ made
more_released old new shown made released now all is now_is view =
    ap (λ n. take n new) now_is ∙ take-length new ∙ is ∙ ap (λ h. h ++ made) (sym (take-length old) ∙ ap (λ n. take n old) (sym all) ∙ view)

-- if nothing is called the file stands for the history before
pub nothing_appended : {D : Type 0} (bench : Ghosts D) (at : D) (shape : Shape) (history group : List Answered) (gate : ℕ)
    → ((image sent : List ℕ) → bench.since at (bench.moment at) image sent → bench.leaves at image × (sent ≡ bench.sent at)) → IsQuiet bench at
    → StandsAt (bench.file at) shape history gate → LeavesOnly bench at at (IsBeforeOrAfter shape history group (bench.sent at))
nothing_appended bench at shape history group gate only_now quiet stands =
    started bench at (IsBeforeOrAfter shape history group (bench.sent at)) (λ image sent was.
    let now = only_now image sent was in
    (now.1, inl (subst (λ (file : List ℕ). StandsFor file shape history) (sym (quiet image now.0)) (gate, stands))))

-- a group with a record takes four calls
pub four_calls : (group : List Answered) → 0 < length group → calls_for group ≡ 4
four_calls [] some = absurd (omega (arith, some))
four_calls (r ∷ group) some = refl

-- what the store of these secrets shows of its core
abbrev pub store_in : SecretView → Audited → ℕ → JournalContents → Bool → StoreContents
store_in secret core released journal usable =
    record { secret = secret; protected = core.setting.protected; history = take released core.history; journal = journal; usable = usable }

-- a journal of the same history and what is sealed make a store, all of whose records are released
pub sealed_store : (table : Table) (history : List Answered) (secret : SecretView) (core : Audited) (journal : JournalContents) (released : ℕ) →
    IsSealed table history secret core → journal.usable ≡ true → journal.shape ≡ table.setting.shape → journal.count ≡ length history →
    released ≡ journal.count → IsStore (store_in secret core released journal true) × IsAuditedBy (table_by secret core) core released true
sealed_store table history secret core journal released is usable same_shape counted released_is =
    let all : released ≡ length core.history = released_is ∙ counted ∙ ap length (sym is.same_history) in
    let whole : take released core.history ≡ core.history = ap (λ n. take n core.history) all ∙ take-length core.history in (
      record {
        numbers = is.numbers;
        fit = subst (λ (t : Table). AreProtected t.setting.shape t.setting.protected) (sym is.same_table) is.fit;
        legal = subst (λ (t : Table). IsLegal t (take released core.history)) (sym is.same_table)
            (subst (λ (h : List Answered). IsLegal table h) (sym (whole ∙ is.same_history)) is.legal);
        journal_usable = λ _. usable;
        same_shape = λ _. same_shape ∙ ap (λ (t : Table). t.setting.shape) (sym is.same_table);
        counted = λ _. sym released_is ∙ all ∙ ap length (sym whole);
      },
      record {
        same_setting = is.same_setting ∙ ap (λ (t : Table). t.setting) (sym is.same_table);
        within = omega (arith, all);
        all = λ _. all;
      },
    )

-- a core that goes on over the same setting audits the same table
same_table : (secret : SecretView) (old new : Audited) → new.setting ≡ old.setting → old.setting ≡ (table_by secret old).setting
    → new.setting ≡ (table_by secret new).setting
same_table secret old new same was =
    subst (λ (s : Setting). s ≡ setting_of secret.shape s.protected) (sym same) was

-- a refused group leaves the history, whatever the core took and whatever became of the journal
pub refused_store : (secret : SecretView) (old new : Audited) (released : ℕ) (before after : JournalContents) (usable : Bool) → usable ≡ true →
    IsStore (store_in secret old released before usable) → IsAuditedBy (table_by secret old) old released usable →
    take (length old.history) new.history ≡ old.history → length old.history ≤ length new.history → new.setting ≡ old.setting →
    IsStore (store_in secret new released after false) × IsAuditedBy (table_by secret new) new released false
refused_store secret old new released before after usable is_usable store audited begins within setting =
    let all : released ≡ length old.history = audited.all is_usable in
    let whole : take released old.history ≡ old.history = ap (λ n. take n old.history) all ∙ take-length old.history in
    let same : take released old.history ≡ take released new.history = whole ∙ sym begins ∙ ap (λ n. take n new.history) (sym all) in
    let groups : old.setting.protected ≡ new.setting.protected = ap (λ (s : Setting). s.protected) (sym setting) in (
      record {
        numbers = store.numbers;
        fit = subst (λ (p : Protection). AreProtected secret.shape p) groups store.fit;
        legal = subst (λ (p : Protection). IsLegal (secret_table secret p) (take released new.history)) groups
            (subst (λ (h : List Answered). IsLegal (table_by secret old) h) same store.legal);
        journal_usable = λ is. let none : ⊥ = cc in absurd none;
        same_shape = λ is. let none : ⊥ = cc in absurd none;
        counted = λ is. let none : ⊥ = cc in absurd none;
      },
      record {
        same_setting = same_table secret old new setting audited.same_setting;
        within = omega (arith, all, within);
        all = λ is. let none : ⊥ = cc in absurd none;
      },
    )

-- its history is what was released before
pub still_released : (old new shown : List Answered) (released : ℕ) → released ≡ length old → take (length old) new ≡ old → take released old ≡ shown →
    take released new ≡ shown
still_released old new shown released all begins view =
    ap (λ n. take n new) all ∙ begins ∙ sym (take-length old) ∙ ap (λ n. take n old) (sym all) ∙ view

-- and its refusal says so
pub refused_history : {X E : Type 0} (answer : Result X E) (old new shown : List Answered) (released : ℕ) → released ≡ length old → take (length old) new ≡ old
    → take released old ≡ shown → OnErr answer ((take released new ≡ shown) × (false ≡ false))
refused_history (Ok x) old new shown released all begins view = tt
refused_history (Err e) old new shown released all begins view = (still_released old new shown released all begins view, refl)

-- a group that was kept belongs to the history
pub kept_store : (secret : SecretView) (old new : Audited) (released now : ℕ) (before after : JournalContents) (usable : Bool) (group made : List Answered) →
    usable ≡ true → IsStore (store_in secret old released before usable) →
    IsAuditedBy (table_by secret old) old released usable → new.history ≡ old.history ++ made → new.setting ≡ old.setting →
    IsLegal (table_by secret old) new.history → now ≡ length new.history →
    group ≡ made → after.usable ≡ true → after.shape ≡ before.shape → after.count ≡ before.count + length group →
    IsStore (store_in secret new now after true) × IsAuditedBy (table_by secret new) new now true
kept_store secret old new released now before after usable group made is_usable store audited grown setting legal now_is group_is usable_after shape counted =
    let all : released ≡ length old.history = audited.all is_usable in
    let whole : take now new.history ≡ new.history = ap (λ n. take n new.history) now_is ∙ take-length new.history in
    let was : before.count ≡ length old.history = omega (arith, store.counted is_usable, length-take released old.history, all) in
    let is : length (take now new.history) ≡ length old.history + length made = ap length whole ∙ ap length grown ∙ length-append old.history made in
    let count_is : after.count ≡ length (take now new.history) = omega (arith, counted, ap length group_is, was, is) in
    let groups : old.setting.protected ≡ new.setting.protected = ap (λ (s : Setting). s.protected) (sym setting) in (
      record {
        numbers = store.numbers;
        fit = subst (λ (p : Protection). AreProtected secret.shape p) groups store.fit;
        legal = subst (λ (p : Protection). IsLegal (secret_table secret p) (take now new.history)) groups
            (subst (λ (h : List Answered). IsLegal (table_by secret old) h) (sym whole) legal);
        journal_usable = λ _. usable_after;
        same_shape = λ _. shape ∙ store.same_shape is_usable;
        counted = λ _. count_is;
      },
      record { same_setting = same_table secret old new setting audited.same_setting; within = omega (arith, now_is); all = λ _. now_is },
    )
