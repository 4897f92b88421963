-- What is kept of a legal history has the same reduced forms, decides every question alike, and is legal.
--
-- A sum that is left out has its row in the span of those before it, so the form is as it was; one set more changes two equal forms in the
-- same way. Danger, of a number or of a group's total, asks for nothing but the lists that agree, and these are the same.
use Rattle.std.proofs.Common.{◌≡◌, ℕ, ◌<◌, ℤ, pos, List, [], ◌∷◌, ◌++◌, map, length, refl, sym, ap, ◌∙◌, subst, arith, inl, inr}
use Rattle.std.specs.Prelude.{◌↔◌}
use Rattle.std.specs.List.{AllByRecursion}
use Rattle.std.proofs.lemmas.Bool.{cases_eq}
use Rattle.std.proofs.lemmas.List.{map-append}
use Rattle.audit_types.specs.declared.shapes.Kind.{Kind}
use Rattle.audit_types.specs.declared.shapes.Kind.TheVariants.{Sum, Max}
use Rattle.audit_types.specs.declared.records.Answered.{Answered}
use Rattle.audit_types.specs.declared.records.Verdict.{Verdict}
use Rattle.audit_types.specs.declared.records.Verdict.TheVariants.{Released, DeniedUnsafe, DeniedWide}
use Rattle.audit_types.specs.Rows.{AreRows}
use Rattle.audit_types.specs.Shapes.{columns, kind_at}
use Rattle.audit_types.specs.Form.{set_row, InSpan, IsReducedForm, Reduced}
use Rattle.audit_types.specs.Reach.{Changes, IsWithinBounds}
use Rattle.audit_types.specs.Totals.{products_from_sums, products_in_span, sums_from_products}
use Rattle.audit_types.specs.Truth.{number_at, sum_over}
use Rattle.audit_types.specs.FormRows.{lengths_of_form}
use Rattle.audit_types.specs.RowNumbers.{length-set_row, lengths_of_sets}
use Rattle.audit_types.specs.Column.{Known, Answer, Agrees, IsPossible, IsGuarded, IsDangerous, known_sum, with_answer}
use Rattle.audit_types.specs.Judgement.{IsWideFor, IsWithinWidthFor, IsDecision}
use Rattle.audit_types.specs.History.{Protection, Table, AreSecrets, IsLegal, IsDecisionAfter, setting_of, known_of, groups_of, answers_of, answer_in, list_of}
use Rattle.audit_types.specs.Laws.{LegalIsPossible}
use Rattle.audit_types.specs.WidthLaws.{guarded_alike}
use Rattle.audit_types.specs.ListLaws.{all-front, all-push, all-map, all_by_place}
use Rattle.sum_basis.specs.Laws.{FormsAreUnique, EveryRowSpaceHasAForm, SpanKeepsForm, OneMoreSet}
use Rattle.audit_core.specs.Laws.{LegalGrows}
use Rattle.implied_records.specs.Kept.{IsKeptOf, IsImplied, IsImpliedBy, no_groups}
use Rattle.implied_records.specs.Kept.IsKeptOf.{none, left_out, stays}
use Rattle.implied_records.specs.Laws.{ImpliedBySpan, SameForms, SameDecisions, KeptIsLegal, sets_in}
use Rattle.implied_records.proofs.Pushes.{own_answers, other_answers, all_answers, legal_before, legal_last, room_before}
use Rattle.implied_records.proofs.KeptRecords.{same_lists, no_more}

-- two lists of sets have the same reduced forms
abbrev pub AreAlike : ℕ → List (List ℕ) → List (List ℕ) → Type 0
AreAlike n sets others = (form : List (List ℤ)) → Reduced n sets form ↔ Reduced n others form

-- the laws of reduced forms
pub record FormLaws : Type 0 where
  pub unique : FormsAreUnique
  pub exist : EveryRowSpaceHasAForm
  pub span_keeps : SpanKeepsForm
  pub one_more : OneMoreSet

module _ (laws : FormLaws) (n : ℕ) where
  -- the form of a set more, if the forms without it are the same
  moved : (sets others : List (List ℕ)) (rows : List ℕ) (form : List (List ℤ)) → ((f : List (List ℤ)) → Reduced n sets f → Reduced n others f) →
      Reduced n (sets ++ rows ∷ []) form → Reduced n (others ++ rows ∷ []) form
  moved sets others rows form to is =
      let old = laws.exist n (map (set_row n) sets) (lengths_of_sets n sets) in
      let lengths = all-push (λ r. length r ≡ n) old.0 (set_row n rows) (lengths_of_form n old.0 old.1.primitive) (length-set_row n rows) in
      let new = laws.exist n (old.0 ++ set_row n rows ∷ []) lengths in
      let here = laws.one_more n sets rows old.0 new.0 old.1 new.1 in
      let there = laws.one_more n others rows old.0 new.0 (to old.0 old.1) new.1 in
      subst (λ f. Reduced n (others ++ rows ∷ []) f) (laws.unique n (map (set_row n) (sets ++ rows ∷ [])) new.0 form here is) there

  push_alike : (sets others : List (List ℕ)) (rows : List ℕ) → AreAlike n sets others → AreAlike n (sets ++ rows ∷ []) (others ++ rows ∷ [])
  push_alike sets others rows alike form = (moved sets others rows form (λ f. (alike f).0), moved others sets rows form (λ f. (alike f).1))

  -- a set in the span leaves the form as it is
  with_spanned : (sets : List (List ℕ)) (rows : List ℕ) (form : List (List ℤ)) → InSpan (map (set_row n) sets) (set_row n rows) → Reduced n sets form →
      Reduced n (sets ++ rows ∷ []) form
  with_spanned sets rows form span is =
      subst (λ l. IsReducedForm n l form) (sym (map-append (set_row n) sets (rows ∷ [])))
      (laws.span_keeps n (map (set_row n) sets) form (set_row n rows) is span)

  span_alike : (sets : List (List ℕ)) (rows : List ℕ) → InSpan (map (set_row n) sets) (set_row n rows) → AreAlike n (sets ++ rows ∷ []) sets
  span_alike sets rows span form = (
    λ is.
        let old = laws.exist n (map (set_row n) sets) (lengths_of_sets n sets) in
        subst (λ f. Reduced n sets f) (laws.unique n (map (set_row n) (sets ++ rows ∷ [])) old.0 form (with_spanned sets rows old.0 span old.1) is) old.1,
    λ is. with_spanned sets rows form span is,
  )

  -- what sums to 0 over the sets does over the others
  sums_alike : (sets others : List (List ℕ)) → AreAlike n sets others → AllByRecursion (AreRows n) sets → AllByRecursion (AreRows n) others → (d : List ℤ) →
      AllByRecursion (λ s. sum_over d s ≡ pos 0) sets → AllByRecursion (λ s. sum_over d s ≡ pos 0) others
  sums_alike sets others alike are others_are d zeros =
      let form = laws.exist n (map (set_row n) sets) (lengths_of_sets n sets) in
      let of_form = products_in_span n (number_at d) (map (set_row n) sets) form.0 (products_from_sums n d sets are zeros) form.1.within in
      sums_from_products n d others others_are (products_in_span n (number_at d) form.0 (map (set_row n) others) of_form ((alike form.0).0 form.1).spans)

  -- so with one set more the same changes along a form's directions
  changes_alike : (sets others : List (List ℕ)) (rows : List ℕ) → AreAlike n sets others → AllByRecursion (AreRows n) sets → AllByRecursion (AreRows n) others →
      (form : List (List ℤ)) (most : ℕ) (value : List ℤ → ℤ) → Changes n (sets ++ rows ∷ []) form most value → Changes n (others ++ rows ∷ []) form most value
  changes_alike sets others rows alike are others_are form most value c =
      let zeros = all-front (λ s. sum_over c.direction s ≡ pos 0) sets rows c.still.zero_sums in
      record {
        direction = c.direction;
        still = record {
          one_each = c.still.one_each;
          zero_sums = all-push (λ s. sum_over c.direction s ≡ pos 0) others rows (sums_alike sets others alike are others_are c.direction zeros.0) zeros.1;
        };
        column = c.column;
        only = c.only;
        near = c.near;
        changed = c.changed;
      }

-- the sets of answers
abbrev sets_of : List Answer → List (List ℕ)
sets_of answers = map (λ a. a.rows) answers

-- what is known of a column, with these groups of what is guarded
abbrev knows : ℕ → Protection → List (List ℕ) → Kind → List Answer → Known
knows n protected groups kind answers = record {
  kind = kind;
  n = n;
  answers = answers;
  groups = groups;
  people = protected.people;
  width = protected.width;
  reach = protected.reach;
}

module _ (n : ℕ) (protected : Protection) (groups : List (List ℕ)) where
  guarded : (kind : Kind) (answers others : List Answer) (own : List ℕ) {value : List ℤ → ℤ} → IsGuarded (knows n protected groups kind answers) own value →
      IsGuarded (knows n protected groups kind others) own value
  guarded kind answers others own is = guarded_alike (knows n protected groups kind answers) (knows n protected groups kind others) refl refl refl refl own is

  -- if the same lists agree, the same questions are dangerous
  dangerous : (kind : Kind) (answers others : List Answer) (rows : List ℕ) →
      ((w : List ℤ) → Agrees (knows n protected groups kind answers) w ↔ Agrees (knows n protected groups kind others) w) →
      IsDangerous (knows n protected groups kind answers) rows → IsDangerous (knows n protected groups kind others) rows
  dangerous kind answers others rows lists danger = record {
    w = danger.w;
    agrees = (lists danger.w).0 danger.agrees;
    own = danger.own;
    are_own = danger.are_own;
    value = danger.value;
    guarded = guarded kind answers others danger.own danger.guarded;
    disclosed = λ v gives also. danger.disclosed v (record { agrees = (lists v).1 gives.agrees; same = gives.same }) also;
  }

  module _ (laws : FormLaws) where
    -- sets with the same forms, all of rows of the table
    record AreSame (answers others : List Answer) : Type 0 where
      alike : AreAlike n (sets_of answers) (sets_of others)
      are : AllByRecursion (AreRows n) (sets_of answers)
      others_are : AllByRecursion (AreRows n) (sets_of others)

    turned : (answers others : List Answer) → AreSame answers others → AreSame others answers
    turned answers others same = record {
      alike = λ form. ((same.alike form).1, (same.alike form).0);
      are = same.others_are;
      others_are = same.are;
    }

    within_bounds : (answers others : List Answer) (rows : List ℕ) → AreSame answers others → (form : List (List ℤ)) →
        IsWithinBounds (knows n protected groups Sum answers) (sets_of answers ++ rows ∷ []) form →
        IsWithinBounds (knows n protected groups Sum others) (sets_of others ++ rows ∷ []) form
    within_bounds answers others rows same form within = record {
      narrow = within.narrow;
      near = λ value told changes.
          changes_alike laws n (sets_of answers) (sets_of others) rows same.alike same.are same.others_are form protected.reach value
          (within.near value (guarded Sum others answers [] told)
          (changes_alike laws n (sets_of others) (sets_of answers) rows (λ f. ((same.alike f).1, (same.alike f).0)) same.others_are same.are form n value
          changes));
    }

    within_width : (kind : Kind) (answers others : List Answer) (rows : List ℕ) → (kind ≡ Sum → AreSame answers others) →
        IsWithinWidthFor kind (knows n protected groups kind answers) rows → IsWithinWidthFor kind (knows n protected groups kind others) rows
    within_width Sum answers others rows same (form, reduced, within) = (
      form,
      (push_alike laws n (sets_of answers) (sets_of others) rows (same refl).alike form).0 reduced,
      within_bounds answers others rows (same refl) form within,
    )
    within_width Max answers others rows same has = has

    too_wide : (kind : Kind) (answers others : List Answer) (rows : List ℕ) → (kind ≡ Sum → AreSame answers others) →
        IsWideFor kind (knows n protected groups kind answers) rows → IsWideFor kind (knows n protected groups kind others) rows
    too_wide Sum answers others rows same (form, reduced, wide) = (
      form,
      (push_alike laws n (sets_of answers) (sets_of others) rows (same refl).alike form).0 reduced,
      λ within. wide (within_bounds others answers rows (turned answers others (same refl)) form within),
    )
    too_wide Max answers others rows same has = has

    -- a question is decided after some answers as after others
    decided : (kind : Kind) (answers others : List Answer) (rows : List ℕ) (verdict : Verdict) →
        ((w : List ℤ) → Agrees (knows n protected groups kind answers) w ↔ Agrees (knows n protected groups kind others) w) →
        (kind ≡ Sum → AreSame answers others) → IsDecision (knows n protected groups kind answers) rows verdict →
        IsDecision (knows n protected groups kind others) rows verdict
    decided kind answers others rows DeniedWide lists same is = too_wide kind answers others rows same is
    decided kind answers others rows DeniedUnsafe lists same is = (
      within_width kind answers others rows same is.0,
      dangerous kind answers others rows lists is.1,
    )
    decided kind answers others rows Released lists same is = (
      within_width kind answers others rows same is.0,
      λ danger. is.1 (dangerous kind others answers rows (λ w. ((lists w).1, (lists w).0)) danger),
    )

-- the set of a record of the column, after those before it
sets_push : (column : ℕ) (before : List Answered) (r : Answered) → r.column ≡ column → sets_in column (before ++ r ∷ [])
    ≡ sets_in column before ++ r.rows.list ∷ []
sets_push column before r own =
    ap (map (λ (a : Answer). a.rows)) (own_answers column before r own) ∙ map-append (λ (a : Answer). a.rows) (answers_of column before) (answer_in r ∷ [])

-- the laws that legal histories want
pub record LegalLaws : Type 0 where
  pub forms : FormLaws
  pub spanned : ImpliedBySpan
  pub possible : LegalIsPossible
  pub grows : LegalGrows

module _ (laws : LegalLaws) (table : Table) (secrets : AreSecrets table.setting.shape table.secrets) where
  -- the number of rows
  abbrev rows_in : ℕ
  rows_in = table.setting.shape.rows

  -- the sets of a column are over the rows of the table
  sets_are : (column : ℕ) (history : List Answered) → IsLegal table history → AllByRecursion (λ b. AreRows rows_in b.rows) (answers_of column history)
  sets_are column history legal = all_answers (λ b. AreRows rows_in b.rows) column history (all_by_place (λ r. AreRows rows_in r.rows.list) history
      (λ i r here. let fits = (legal.each i r here).fits in subst (λ m. AreRows m r.rows.list) fits.same_n fits.are_rows))

  -- some list gives the sums of a legal history with one more
  sums_possible : (column : ℕ) (before : List Answered) (r : Answered) → IsLegal table (before ++ r ∷ []) → column < columns table.setting.shape →
      kind_at table.setting.shape column ≡ Sum →
      r.column ≡ column → IsPossible (with_answer (known_sum rows_in (answers_of column before)) r.rows.list r.answer)
  sums_possible column before r legal below is own =
      let possible = laws.possible table (before ++ r ∷ []) secrets legal in
      let agrees = possible.2 column below in
      let of_sums = subst (λ (k : Kind). Agrees (knows rows_in no_groups [] k (answers_of column (before ++ r ∷ []))) (list_of possible.0 column)) is
      (record { one_each = agrees.one_each; same = agrees.same }) in
      (list_of possible.0 column, subst (λ l. Agrees (known_sum rows_in l) (list_of possible.0 column)) (own_answers column before r own) of_sums)

  -- an implied sum of a legal history has its row in the span of those before it
  in_span : (column : ℕ) (before : List Answered) (r : Answered) → IsLegal table (before ++ r ∷ []) → column < columns table.setting.shape →
      kind_at table.setting.shape column ≡ Sum →
      r.column ≡ column → IsImpliedBy table.setting.shape before r → InSpan (map (set_row rows_in) (sets_in column before)) (set_row rows_in r.rows.list)
  in_span column before r legal below is own implied =
      let fits = (legal_last table before r legal).fits in
      let of_column = subst (λ c. IsImplied (known_of (setting_of table.setting.shape no_groups) before c) (answer_in r)) own implied in
      let of_sums = subst (λ (k : Kind). IsImplied (knows rows_in no_groups [] k (answers_of column before)) (answer_in r)) is of_column in
      (laws.spanned rows_in (answers_of column before) (answer_in r) (sets_are column before (legal_before table before r legal))
      (subst (λ m. AreRows m r.rows.list) fits.same_n fits.are_rows) (sums_possible column before r legal below is own)).0 of_sums

  module _ (column : ℕ) (below : column < columns table.setting.shape) (is : kind_at table.setting.shape column ≡ Sum) where
    forms : {history kept : List Answered} → IsKeptOf table.setting.shape history kept → IsLegal table history →
        AreAlike rows_in (sets_in column history) (sets_in column kept)
    forms none legal form = (λ f. f, λ f. f)
    forms (left_out {before} {kept} r so_far implied) legal form =
        let rest = forms so_far (legal_before table before r legal) form in
        elim (cases_eq r.column column) [
          | inl own ↦
              let span = span_alike laws.forms rows_in (sets_in column before) r.rows.list (in_span column before r legal below is own implied) form in
              let pushed = sets_push column before r own in
              subst (λ l. Reduced rows_in l form ↔ Reduced rows_in (sets_in column kept) form) (sym pushed) (λ f. rest.0 (span.0 f), λ f. span.1 (rest.1 f))
          | inr apart ↦ subst (λ l. Reduced rows_in (map (λ a. a.rows) l) form ↔ Reduced rows_in (sets_in column kept) form)
              (sym (other_answers column before r apart)) rest
        ]
    forms (stays {before} {kept} r so_far new) legal form =
        let rest = forms so_far (legal_before table before r legal) in
        elim (cases_eq r.column column) [
          | inl own ↦ subst (λ l. Reduced rows_in l form ↔ Reduced rows_in (sets_in column (kept ++ r ∷ [])) form) (sym (sets_push column before r own))
              (subst (λ l. Reduced rows_in (sets_in column before ++ r.rows.list ∷ []) form ↔ Reduced rows_in l form) (sym (sets_push column kept r own))
              (push_alike laws.forms rows_in (sets_in column before) (sets_in column kept) r.rows.list rest form))
          | inr apart ↦ subst (λ l. Reduced rows_in (map (λ a. a.rows) l) form ↔ Reduced rows_in (sets_in column (kept ++ r ∷ [])) form)
              (sym (other_answers column before r apart))
              (subst (λ l. Reduced rows_in (sets_in column before) form ↔ Reduced rows_in (map (λ a. a.rows) l) form) (sym (other_answers column kept r apart))
              (rest form))
        ]

  -- the kept sets are rows of the table too
  kept_are : (column : ℕ) {history kept : List Answered} → IsKeptOf table.setting.shape history kept → IsLegal table history →
      AllByRecursion (λ b. AreRows rows_in b.rows) (answers_of column kept)
  kept_are column none legal = tt
  kept_are column (left_out {before} {kept} r so_far implied) legal = kept_are column so_far (legal_before table before r legal)
  kept_are column (stays {before} {kept} r so_far new) legal =
      let rest = kept_are column so_far (legal_before table before r legal) in
      let fits = (legal_last table before r legal).fits in
      elim (cases_eq r.column column) [
        | inl own ↦ subst (AllByRecursion (λ b. AreRows rows_in b.rows)) (sym (own_answers column kept r own))
            (all-push (λ (b : Answer). AreRows rows_in b.rows) (answers_of column kept) (answer_in r) rest
            (subst (λ m. AreRows m r.rows.list) fits.same_n fits.are_rows))
        | inr apart ↦ subst (AllByRecursion (λ b. AreRows rows_in b.rows)) (sym (other_answers column kept r apart)) rest
      ]

  as_sets : (answers : List Answer) → AllByRecursion (λ b. AreRows rows_in b.rows) answers → AllByRecursion (AreRows rows_in) (sets_of answers)
  as_sets answers are = all-map (λ (b : Answer). b.rows) (AreRows rows_in) answers are

  decisions : {history kept : List Answered} → IsKeptOf table.setting.shape history kept → IsLegal table history →
      (column : ℕ) (rows : List ℕ) (verdict : Verdict) → column < columns table.setting.shape →
      IsDecisionAfter table.setting history column rows verdict ↔ IsDecisionAfter table.setting kept column rows verdict
  decisions {history} {kept} is legal column rows verdict below =
      let kind = kind_at table.setting.shape column in
      let groups = groups_of column table.setting.protected.groups in
      let answers = answers_of column history in
      let others = answers_of column kept in (
        λ d. decided rows_in table.setting.protected groups laws.forms kind answers others rows verdict (λ w. same_lists table.setting column w is)
            (λ sum. record {
              alike = forms column below sum is legal;
              are = as_sets answers (sets_are column history legal);
              others_are = as_sets others (kept_are column is legal);
            }) d,
        λ d. decided rows_in table.setting.protected groups laws.forms kind others answers rows verdict
            (λ w. let both = same_lists table.setting column w is in (both.1, both.0))
            (λ sum. record {
              alike = λ form. let both = forms column below sum is legal form in (both.1, both.0);
              are = as_sets others (kept_are column is legal);
              others_are = as_sets answers (sets_are column history legal);
            }) d,
      )

  kept_legal : {history kept : List Answered} → IsKeptOf table.setting.shape history kept → IsLegal table history → IsLegal table kept
  kept_legal none legal = legal
  kept_legal (left_out {before} {kept} r so_far implied) legal = kept_legal so_far (legal_before table before r legal)
  kept_legal (stays {before} {kept} r so_far new) legal =
      let front = legal_before table before r legal in
      let last = legal_last table before r legal in
      laws.grows table kept r (kept_legal so_far front) (omega (arith, no_more table.setting.shape so_far, room_before table before r legal)) (record {
        fits = last.fits;
        true_answer = last.true_answer;
        released = (decisions so_far front r.column r.rows.list Released last.fits.column_below).0 last.released;
      })

pub same_forms : LegalLaws → SameForms
same_forms laws table history kept column form secrets legal is below sum = forms laws table secrets column below sum is legal form

pub same_decisions : LegalLaws → SameDecisions
same_decisions laws table history kept column rows verdict secrets legal is below = decisions laws table secrets is legal column rows verdict below

pub kept_is_legal : LegalLaws → KeptIsLegal
kept_is_legal laws table history kept secrets legal is = kept_legal laws table secrets is legal
