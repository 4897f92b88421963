-- What the kept sets and the asked one span, for the proof of a sum.
use Rattle.std.proofs.Common.{◌≡◌, ℕ, suc, ◌+◌, ◌<◌, ◌≤◌, ℤ, Option, None, Some, List, [], ◌∷◌, ◌++◌, map, length, refl, sym, ap, ◌∙◌, subst, arith}
use Rattle.std.specs.Prelude.{slice_get}
use Rattle.std.specs.List.{AllByRecursion}
use Rattle.std.proofs.lemmas.List.{map-append, take_all, append_assoc}
use Rattle.std.proofs.lemmas.Option.{get_or_from_slice_get, slice_get_within}
use Rattle.audit_types.specs.declared.records.Answered.{Answered}
use Rattle.audit_types.specs.declared.records.Asked.{Asked}
use Rattle.audit_types.specs.Rows.{AreRows}
use Rattle.audit_types.specs.Column.{Answer}
use Rattle.audit_types.specs.Form.{set_row, InSpan, Reduced}
use Rattle.audit_types.specs.Headcount.{Headcount, CountPeople}
use Rattle.audit_types.specs.HeadcountLaws.{one_is_few}
use Rattle.audit_types.specs.History.{Protection, answers_of}
use Rattle.audit_types.specs.ListLaws.{all-front, all-get_or, all-push, all-weaker}
use Rattle.sum_audit.specs.Laws.{SpannedOrMoved}
use Rattle.sum_basis.specs.Basis.{Echelon}
use Rattle.sum_basis.specs.Spans.{span_trans}
use Rattle.denial_proof.specs.Weights.{rows_at, own_rows, with_own}
use Rattle.denial_proof.specs.declared.proof_parts.Target.{Target}
use Rattle.denial_proof.specs.declared.proof_parts.Target.TheVariants.{Row, Group}
use Rattle.denial_proof.specs.Certificates.{IsAsker, rows_of}
use Rattle.audit_core.specs.Laws.{sets_before}
use Rattle.denial_proof.specs.Kept.{AreKept, AreIndependent, IsMarked, kept_sets, marks_for}
use Rattle.denial_proof.specs.Canonical.{sets_with_asked, IsFirstTarget, IsNoLater, Tells}
use Rattle.denial_proof.proofs.MarkedFronts.{enough_marks}
use Rattle.denial_proof.proofs.SpannedTargets.{first_of_sets, span_longer, span_moved, tells_moved}
use Rattle.denial_proof.proofs.KeptFew.{independent_few, independent_with, independent_beside, spanned_by_all}
use Rattle.denial_proof.proofs.CanonicalSums.{count_sets}
use Rattle.denial_proof.proofs.AskedIsNew.{span_self}
use Rattle.denial_proof.proofs.KeptSpan.{all_in_span}

-- the sets before the end are all sets of the column
pub sets_at_end : (column : ℕ) (history : List Answered) → sets_before column history (length history) ≡ map (λ a. a.rows) (answers_of column history)
sets_at_end column history = ap (λ (h : List Answered). map (λ a. a.rows) (answers_of column h)) (take_all (length history) history (omega arith))

module _ (decided : SpannedOrMoved) (n : ℕ) (history : List Answered) (asked : Asked) (fit : AllByRecursion (λ (r : Answered). AreRows n r.rows.list) history)
    (places : List ℕ)
    (kept : AreKept n asked.column history places) where
  -- a record's rows are rows of the table
  each_fits : (i : ℕ) (r : Answered) → slice_get history i ≡ Some r → AreRows n r.rows.list
  each_fits i r there =
      subst (λ (q : Answered). AreRows n q.rows.list) (get_or_from_slice_get history i r r there)
      (all-get_or (λ (q : Answered). AreRows n q.rows.list) history i r fit (slice_get_within history i r there))

  -- so what all sets and the asked one span, the kept ones and it do
  pub spanned_by_kept : (row : List ℤ) → InSpan (map (set_row n) (sets_with_asked history asked)) row →
      InSpan (map (set_row n) (kept_sets history places asked.rows.list None)) row
  spanned_by_kept row span =
      let sets : List (List ℕ) = map (λ a. a.rows) (answers_of asked.column history) in
      let few : List (List ℕ) = map (rows_at history) places in
      let own = set_row n asked.rows.list in
      let all = subst (λ (some : List (List ℕ)). AllByRecursion (InSpan (map (set_row n) few)) (map (set_row n) some)) (sets_at_end asked.column history)
      (all_in_span decided n asked.column history fit places kept each_fits (length history) (omega arith)) in
      let longer = all-weaker (InSpan (map (set_row n) few)) (InSpan (map (set_row n) few ++ own ∷ []))
      (λ r spanned. span_longer (map (set_row n) few) own r spanned) (map (set_row n) sets) all in
      let with_last = all-push (InSpan (map (set_row n) few ++ own ∷ [])) (map (set_row n) sets) own longer
      (all-front (InSpan (map (set_row n) few ++ own ∷ [])) (map (set_row n) few) own (span_self (map (set_row n) few ++ own ∷ []))).1 in
      let before : map (set_row n) (sets ++ asked.rows.list ∷ []) ≡ map (set_row n) sets ++ own ∷ [] = map-append (set_row n) sets (asked.rows.list ∷ []) in
      let after : map (set_row n) (few ++ asked.rows.list ∷ []) ≡ map (set_row n) few ++ own ∷ [] = map-append (set_row n) few (asked.rows.list ∷ []) in
      subst (λ (rows : List (List ℤ)). InSpan rows row) (sym after)
      (span_trans (map (set_row n) few ++ own ∷ []) (map (set_row n) sets ++ own ∷ []) row with_last
      (subst (λ (rows : List (List ℤ)). InSpan rows row) before span))

  -- and what these span, all do
  spanned_by_sets : (row : List ℤ) → InSpan (map (set_row n) (kept_sets history places asked.rows.list None)) row →
      InSpan (map (set_row n) (sets_with_asked history asked)) row
  spanned_by_sets row span =
      let sets : List (List ℕ) = map (λ a. a.rows) (answers_of asked.column history) in
      let few : List (List ℕ) = map (rows_at history) places in
      let own = set_row n asked.rows.list in
      let all = map (set_row n) sets ++ own ∷ [] in
      let first : AllByRecursion (InSpan all) (map (set_row n) few)
      = all-weaker (InSpan (map (set_row n) few)) (InSpan all)
      (λ r s. span_longer (map (set_row n) sets) own r
      (subst (λ (list : List (List ℕ)). InSpan (map (set_row n) list) r) (sets_at_end asked.column history)
      (spanned_by_all n asked.column history places kept r s)))
      (map (set_row n) few) (span_self (map (set_row n) few)) in
      let with_last = all-push (InSpan all) (map (set_row n) few) own first (all-front (InSpan all) (map (set_row n) sets) own (span_self all)).1 in
      let before : map (set_row n) (sets ++ asked.rows.list ∷ []) ≡ all = map-append (set_row n) sets (asked.rows.list ∷ []) in
      let after : map (set_row n) (few ++ asked.rows.list ∷ []) ≡ map (set_row n) few ++ own ∷ [] = map-append (set_row n) few (asked.rows.list ∷ []) in
      subst (λ (rows : List (List ℤ)). InSpan rows row) (sym before)
      (span_trans all (map (set_row n) few ++ own ∷ []) row with_last (subst (λ (rows : List (List ℤ)). InSpan rows row) after span))

  -- with the row of an asker, the kept sets are these rows
  with_own_kept : (own : Option ℕ) → with_own n (map (set_row n) (kept_sets history places asked.rows.list None)) own
      ≡ map (set_row n) (kept_sets history places asked.rows.list own)
  with_own_kept None = refl
  with_own_kept (Some q) =
      let few : List (List ℕ) = map (rows_at history) places in
      sym (map-append (set_row n) (few ++ asked.rows.list ∷ []) ((q ∷ []) ∷ []))
      ∙ ap (map (set_row n)) (append_assoc few (asked.rows.list ∷ []) ((q ∷ []) ∷ []))

  -- what the proof of a target needs, once it is found
  module _ (protected : Protection) (people : CountPeople n protected.people)
      (new : ¬ (InSpan (map (set_row n) (sets_before asked.column history (length history))) (set_row n asked.rows.list)))
      (target : Target) (own : Option ℕ)
      (first : IsFirstTarget n protected asked.column (map (set_row n) (sets_with_asked history asked)) target own) where
    -- the kept sets span it
    pub target_spanned : InSpan (map (set_row n) (kept_sets history places asked.rows.list own)) (set_row n (rows_of protected target))
    target_spanned =
        let rows = map (set_row n) (sets_with_asked history asked) in
        let kept_rows = map (set_row n) (kept_sets history places asked.rows.list None) in
        subst (λ (all : List (List ℤ)). InSpan all (set_row n (rows_of protected target))) (with_own_kept own)
        (span_moved n rows kept_rows (all-weaker (InSpan rows) (InSpan kept_rows) spanned_by_kept rows (span_self rows)) own
        (set_row n (rows_of protected target)) first.told.spanned)

    -- an asker's own number isn't known to all
    own_unknown : (o : Option ℕ) → own ≡ o → AllByRecursion (IsAsker n protected.people) (own_rows o) →
        AllByRecursion (λ q. ¬ (InSpan (map (set_row n) (kept_sets history places asked.rows.list None)) (set_row n (q ∷ [])))) (own_rows o)
    own_unknown None is askers = tt
    own_unknown (Some q) is askers = (
      λ span.
          later target (subst (λ (o : Option ℕ). IsNoLater target o (Row q) None) is
          (first.first (Row q) None (record {
            askers = tt;
            is_target = (askers.0.below, refl, one_is_few n protected.people people [] q (omega arith) askers.0.one);
            spanned = spanned_by_sets (set_row n (q ∷ [])) span;
          }))),
      tt,
    )
      where
        later : (goal : Target) → ¬ (IsNoLater goal (Some q) (Row q) None)
        later (Row i) none = none
        later (Group g) none = none

    -- so with her row they are independent
    pub independent_for : AreIndependent n (kept_sets history places asked.rows.list own)
    independent_for =
        independent_beside n history places asked.rows.list own (independent_with n asked.column history places kept asked.rows.list new)
        (own_unknown own refl first.told.askers)

-- one asker at most knows her number, if she is in the table
pub few_askers : (n : ℕ) (people : Headcount) (own : Option ℕ) → AllByRecursion (IsAsker n people) (own_rows own) → length (own_rows own) ≤ people.own
few_askers n people None askers = omega arith
few_askers n people (Some q) askers = let some = askers.0.inside in omega arith

-- so many sets may be counted
pub few_sets : (n : ℕ) (history : List Answered) (places rows : List ℕ) (own : Option ℕ) → AreIndependent n (kept_sets history places rows own) →
    length places + suc (length (own_rows own)) ≤ n
few_sets n history places rows own independent =
    let most = independent_few n (kept_sets history places rows own) independent in
    let all = count_sets history places rows own in
    omega arith

-- ---- the target that the form tells

module _ (n : ℕ) (history : List Answered) (protected : Protection) (asked : Asked) (answers : List Answer)
    (same : answers ≡ answers_of asked.column history) (rows : List (List ℤ))
    (reduced : Reduced n (map (λ a. a.rows) answers ++ asked.rows.list ∷ []) rows) where
  form_is : Reduced n (sets_with_asked history asked) rows
  form_is = subst (λ (list : List Answer). Reduced n (map (λ a. a.rows) list ++ asked.rows.list ∷ []) rows) same reduced

  -- is that of the sets
  pub first_found : (target : Target) (own : Option ℕ) → IsFirstTarget n protected asked.column rows target own →
      IsFirstTarget n protected asked.column (map (set_row n) (sets_with_asked history asked)) target own
  first_found = first_of_sets n protected asked.column (sets_with_asked history asked) rows form_is

  -- and what the sets tell the form does
  pub told_by_form : (target : Target) (own : Option ℕ) → Tells n protected asked.column (map (set_row n) (sets_with_asked history asked)) own target →
      Tells n protected asked.column rows own target
  told_by_form target own = tells_moved n (map (set_row n) (sets_with_asked history asked)) rows form_is.spans protected asked.column own target

-- so many sets have marks
pub room_for : (n more : ℕ) (places : List ℕ) (own : Option ℕ) (sets : List (List ℕ)) (form : Echelon) → length places + suc (length (own_rows own)) ≤ n →
    length (own_rows own) ≤ more → IsMarked n (marks_for n (suc more) (length places)) sets form → n + (length places + length (own_rows own)) < form.n
room_for n more places own sets form few most marked =
    let enough = enough_marks n (suc more) (length places) (suc (length (own_rows own))) few (omega arith) in
    let columns = marked.columns in
    omega arith
