-- Histories that are replayed record by record stay legal.
use Rattle.std.proofs.Common.{◌≡◌, inl, inr, ℕ, ◌+◌, ◌<◌, ◌≤◌, List, [], ◌∷◌, ◌++◌, length, get_or, take, Some, sym, ap, subst, ◌∙◌, arith, refl, length-take, length-append}
use Rattle.std.specs.Prelude.{slice_get}
use Rattle.std.specs.List.{All}
use Rattle.std.proofs.lemmas.Bool.{cases_lt}
use Rattle.std.proofs.Math.Seq.{take-append-add}
use Rattle.std.proofs.lemmas.List.{take_more, take-take, get_or-take, get_or-append-add}
use Rattle.std.proofs.lemmas.Option.{same_Some, slice_get_within, get_or_from_slice_get, slice_get-get_or, slice_get_read}
use Rattle.audit_types.specs.declared.records.Answered.{Answered}
use Rattle.audit_types.specs.Headcount.{one_person_each}
use Rattle.audit_types.specs.Limits.{most_rows, most_width}
use Rattle.audit_types.specs.History.{Protection, Table, FitsShape, IsLegal, IsLegalRecord, IsPossibleHistory}
use Rattle.audit_types.specs.Laws.{LegalIsPossible}
use Rattle.audit_core.specs.Laws.{LegalGrows}
use Rattle.table_load.specs.Cells.{SecretView, IsSecret}
use Rattle.answer_journal.specs.declared.refusals.JournalRefusal.{JournalRefusal}
use Rattle.answer_journal.specs.declared.refusals.JournalRefusal.TheVariants.{NotMade, Damaged, OtherShape, Untrue, Illegal}
use Rattle.audit_store.specs.Starting.{AreTrue, HistoryCause, IsFirstIllegal, IsTrue, IsReleasedAfter, TellsIllegal}
use Rattle.table_load.specs.Database.{secret_table}
use Rattle.table_load.specs.SecretLists.{are_secrets}

-- a legal history of the secrets of a table is possible
pub legal_is_possible : (secret : SecretView) (protected : Protection) (history : List Answered) → LegalIsPossible → IsSecret secret →
    IsLegal (secret_table secret protected) history → IsPossibleHistory (secret_table secret protected).setting history
legal_is_possible secret protected history law is legal = law (secret_table secret protected) history (are_secrets secret is) legal

-- the table of these secrets, one person behind each row, of which no group is protected
abbrev pub plain_table : SecretView → Table
plain_table secret = secret_table secret (record { groups = []; people = one_person_each; width = most_width; reach = most_rows })

module _ (table : Table) (list : List Answered) (k : ℕ) (legal : IsLegal table (take k list)) where
  -- a record more that fits, is true and was to be released
  pub legal_more : (r : Answered) → LegalGrows → k < length list → length list ≤ 65536 → get_or list k r ≡ r → FitsShape table.setting.shape r.column r.rows →
      IsTrue table r → IsReleasedAfter table (take k list) r → IsLegal table (take (k + 1) list)
  legal_more r law inside few here fits is_true released =
      let grown : take (k + 1) list ≡ take k list ++ r ∷ [] = take_more list k r inside ∙ ap (λ x. take k list ++ x ∷ []) here in
      subst (λ h. IsLegal table h) (sym grown)
      (law table (take k list) r legal (omega (arith, inside, few, length-take k list)) (record { fits = fits; true_answer = is_true; released = released }))

  -- each of the records so far was to be released
  pub released_before : (i : ℕ) (r : Answered) → i < k → slice_get list i ≡ Some r → IsReleasedAfter table (take i list) r
  released_before i r lt here =
      let inside : i < length list = slice_get_within list i r here in
      let there : slice_get (take k list) i ≡ Some r = slice_get-get_or (take k list) i r (omega (arith, lt, inside, length-take k list))
      ∙ ap (λ x. Some x) (get_or-take k list i r lt ∙ get_or_from_slice_get list i r r here) in
      subst (λ h. IsReleasedAfter table h r) (take-take i k list (omega (arith, lt))) (legal.each i r there).released

-- the next record is true, as those before it are
pub next_is_true : (table : Table) (list : List Answered) (place : ℕ) (at : Answered) → slice_get list place ≡ Some at → IsTrue table at
    → ((i : ℕ) (r : Answered) → i < place → slice_get list i ≡ Some r → IsTrue table r)
    → (i : ℕ) (r : Answered) → i < place + 1 → slice_get list i ≡ Some r → IsTrue table r
next_is_true table list place at stands is before i r lt here = elim (cases_lt i place) [
  | inl lower ↦ before i r lower here
  | inr from ↦
      let same : place ≡ i = omega (arith, lt, from) in
      subst (IsTrue table) (same_Some at r (sym stands ∙ ap (slice_get list) same ∙ here)) is
]

-- a record after the first ones of a legal history may follow them
pub legal_record_after : (table : Table) (history list : List Answered) (k : ℕ) (r : Answered) → IsLegal table (history ++ list) → k < length list → r
    ≡ get_or list k r →
    IsLegalRecord table (history ++ take k list) r
legal_record_after table history list k r legal inside is =
    let long : length (history ++ list) ≡ length history + length list = length-append history list in
    let here : slice_get (history ++ list) (length history + k) ≡ Some r =
    slice_get_read (history ++ list) (length (history ++ list)) (length history + k) r refl (omega (arith, long, inside))
    (is ∙ sym (get_or-append-add history list k r)) in
    subst (λ (h : List Answered). IsLegalRecord table h r) (take-append-add history list k) (legal.each (length history + k) r here)

-- the records after the first ones of a legal history fit
pub legal_fits_after : (table : Table) (history list : List Answered) → IsLegal table (history ++ list) →
    All (λ r. FitsShape table.setting.shape r.column r.rows) list
legal_fits_after table history list legal k d lt =
    (legal.each (length history + k) (get_or list k d)
    (slice_get-get_or (history ++ list) (length history + k) d (omega (arith, length-append history list, lt))
    ∙ ap (λ x. Some x) (get_or-append-add history list k d))).fits

-- what is told of the first record that wasn't to be released is the cause in the history
pub cause_of_illegal : (table : Table) (list : List Answered) (place : ℕ) (r : Answered) → AreTrue table list → slice_get list place ≡ Some r →
    (IsReleasedAfter table (take place list) r → ⊥) → ((i : ℕ) (s : Answered) → i < place → slice_get list i ≡ Some s → IsReleasedAfter table (take i list) s) →
    (refusal : JournalRefusal) → TellsIllegal (record { setting = table.setting; history = take place list }) place r refusal →
    HistoryCause refusal table.setting.shape list table
cause_of_illegal table list place r all_true stands denied before (Illegal at group) tells = (
  refl,
  subst (λ k. IsFirstIllegal table list k group) (sym tells.0) (record {
    all_true = all_true;
    at = r;
    stands = stands;
    denied = denied;
    blamed = tells.1;
    before = before;
  }),
)
cause_of_illegal table list place r all_true stands denied before NotMade tells = absurd tells
cause_of_illegal table list place r all_true stands denied before (Damaged at) tells = absurd tells
cause_of_illegal table list place r all_true stands denied before (OtherShape kept now) tells = absurd tells
cause_of_illegal table list place r all_true stands denied before (Untrue at kept now) tells = absurd tells
