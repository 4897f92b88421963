-- A store and what is inside it: once it refused what it was to keep, and once it kept it.
use Rattle.std.proofs.Common.{◌≡◌, ◌≤◌, ◌+◌, ℕ, Bool, true, false, List, ◌++◌, length, take, refl, sym, ap, subst, ◌∙◌}
use Rattle.audit_types.specs.declared.records.Answered.{Answered}
use Rattle.audit_types.specs.History.{IsLegal, Setting}
use Rattle.audit_core.specs.Audited.{Audited}
use Rattle.table_load.specs.Cells.{SecretView}
use Rattle.answer_journal.specs.Contents.{JournalContents}
use Rattle.audit_store.specs.Stores.{StoreContents, IsStore, IsAuditedBy, table_by}
use Rattle.audit_store.specs.StoreLaws.{kept_store, more_released, refused_store, still_released, store_in}

-- after a refusal the store has its table and its history, and isn't usable
pub record HasRefused (store now : StoreContents) : Type 0 where
  pub table : (now.secret ≡ store.secret) × (now.protected ≡ store.protected)
  pub history : now.history ≡ store.history
  pub usable : now.usable ≡ false
  pub is : IsStore now

-- the store kept these records, in a journal that is then this one
pub record HasKept (store now : StoreContents) (made : List Answered) (journal : JournalContents) : Type 0 where
  pub table : (now.secret ≡ store.secret) × (now.protected ≡ store.protected)
  pub history : now.history ≡ store.history ++ made
  pub journal_is : now.journal ≡ journal
  pub usable : now.usable ≡ true
  pub is : IsStore now

module _ {secret : SecretView} {old : Audited} {released : ℕ} {journal : JournalContents} {was : Bool} {store : StoreContents}
    (view : store_in secret old released journal was ≡ store) (is_usable : store.usable ≡ true)
    (inside : IsStore (store_in secret old released journal was) × IsAuditedBy (table_by secret old) old released was)
    (later : SecretView) (new : Audited) (same : later ≡ secret) (setting : new.setting ≡ old.setting) where
  was_usable : was ≡ true
  was_usable = ap (λ (s : StoreContents). s.usable) view ∙ is_usable

  same_table : (later ≡ store.secret) × (new.setting.protected ≡ store.protected)
  same_table = (
    same ∙ ap (λ (s : StoreContents). s.secret) view,
    ap (λ (s : Setting). s.protected) setting ∙ ap (λ (s : StoreContents). s.protected) view,
  )

  -- whatever the core took, and whatever became of the journal
  pub refused : (after : JournalContents) → take (length old.history) new.history ≡ old.history → length old.history ≤ length new.history
      → HasRefused store (store_in later new released after false) × IsAuditedBy (table_by later new) new released false
  refused after begins within =
      let holds = λ (s : SecretView). IsStore (store_in s new released after false) × IsAuditedBy (table_by s new) new released false in
      let is = subst holds (sym same) (refused_store secret old new released journal after was was_usable inside.0 inside.1 begins within setting) in (
        record {
          table = same_table;
          history =
              still_released old.history new.history store.history released (inside.1.all was_usable) begins
              (ap (λ (s : StoreContents). s.history) view);
          usable = refl;
          is = is.0;
        },
        is.1,
      )

  -- the core took the records, and the journal has them
  pub kept : (now : ℕ) (after : JournalContents) (group made : List Answered) → new.history ≡ old.history ++ made → IsLegal (table_by secret old) new.history
      → now ≡ length new.history → group ≡ made → after.usable ≡ true → after.shape ≡ journal.shape → after.count ≡ journal.count + length group
      → HasKept store (store_in later new now after true) made after × IsAuditedBy (table_by later new) new now true
  kept now after group made took legal now_is group_is usable shape counted =
      let holds = λ (s : SecretView). IsStore (store_in s new now after true) × IsAuditedBy (table_by s new) new now true in
      let is =
      subst holds (sym same)
      (kept_store secret old new released now journal after was group made was_usable inside.0 inside.1 took setting legal now_is group_is usable shape
      counted) in (
        record {
          table = same_table;
          history =
              more_released old.history new.history store.history made released now (inside.1.all was_usable) took now_is
              (ap (λ (s : StoreContents). s.history) view);
          journal_is = refl;
          usable = refl;
          is = is.0;
        },
        is.1,
      )
