-- The lines on the rows of a column of sums.
use Rattle.std.proofs.Common.{◌≡◌, ℕ, ◌+◌, ◌<◌, ℤ, List, [], ◌∷◌, ◌++◌, ap, ◌∙◌, subst, sym, refl, arith, inl, inr, ◌⊎◌, ◌||◌, ◌==◌, Bool, true, false, not}
use Rattle.std.proofs.lemmas.Bool.{true≢false, not-true}
use Rattle.std.specs.Prelude.{◌↔◌}
use Rattle.std.proofs.lemmas.Bool.Decides.{nat_tests}
use Rattle.audit_types.specs.Headcount.{Headcount, CountPeople, AreFew, shared_in}
use Rattle.audit_types.specs.HeadcountLaws.{few_by_rows}
use Rattle.audit_types.specs.Rows.{has_row, with_row}
use Rattle.audit_types.specs.RowLaws.{rows_that_agree, rows-again}
use Rattle.audit_types.specs.Column.{Answer, Known}
use Rattle.audit_types.specs.Judgement.{PinSomeNumber, SpanSomeGroup}
use Rattle.audit_types.specs.Form.{Reduced}
use Rattle.audit_types.specs.Direction.{IsPinned, IsCanonicalDirection}
use Rattle.audit_types.specs.History.{answers_of}
use Rattle.sum_audit.specs.Sets.{sets_of}
use Rattle.journal_audit.specs.Texts.{direction_line}
use Rattle.journal_audit.specs.Reports.{Audit, Subject, row_of, secret_name, sets_of_column, RowHasLine, HasLine, IsRowLine}
use Rattle.journal_audit.proofs.Subjects.{rows_before, rows_before-more, rows_after}

-- what is written of a column's own form is a row's line
pub is_row_line : (audit : Audit) (column row n : ℕ) (answers : List Answer) (name line : List ℕ) → n ≡ audit.shape.rows
    → answers ≡ answers_of column audit.history → name ≡ secret_name audit.schema column
    → (form : List (List ℤ)) → Reduced n (sets_of answers) form → (d : List ℤ) → IsCanonicalDirection n (sets_of answers) form row d →
    line ≡ direction_line name row d → IsRowLine audit column row line
is_row_line audit column row n answers name line same_n same_answers same_name form reduced d canonical line_is = record {
  form = form;
  reduced = subst (λ a. Reduced audit.shape.rows (sets_of a) form) same_answers (subst (λ k. Reduced k (sets_of answers) form) same_n reduced);
  direction = d;
  canonical =
      subst (λ a. IsCanonicalDirection audit.shape.rows (sets_of a) form row d) same_answers
      (subst (λ k. IsCanonicalDirection k (sets_of answers) form row d) same_n canonical);
  line_is = line_is ∙ ap (λ s. direction_line s row d) same_name;
}

-- a row that the history leaves free is free in its column
pub not_pinned_here : (audit : Audit) (column row n : ℕ) (answers : List Answer) → n ≡ audit.shape.rows → answers ≡ answers_of column audit.history
    → ¬ (IsPinned audit.shape.rows (sets_of_column column audit.history) row) → ¬ (IsPinned n (sets_of answers) row)
not_pinned_here audit column row n answers same_n same_answers free pinned =
    free (subst (λ a. IsPinned audit.shape.rows (sets_of a) row) same_answers (subst (λ k. IsPinned k (sets_of answers) row) same_n pinned))

-- whether the row has a line its column tells
pub has_line_here : (audit : Audit) (column row : ℕ) (people : Headcount) (n : ℕ) (answers : List Answer) → people ≡ audit.people → n ≡ audit.shape.rows →
    answers ≡ answers_of column audit.history → RowHasLine people n (sets_of answers) row ↔ HasLine audit (row_of column row)
has_line_here audit column row people n answers same_people same_n same_answers =
    let P : Headcount → ℕ → List Answer → Type 0 = λ p k a. RowHasLine p k (sets_of a) row in (
      λ has. subst (P audit.people audit.shape.rows) same_answers (subst (λ k. P audit.people k answers) same_n (subst (λ p. P p n answers) same_people has)),
      λ has. subst (λ p. P p n answers) (sym same_people) (subst (λ k. P audit.people k answers) (sym same_n)
          (subst (P audit.people audit.shape.rows) (sym same_answers) has)),
    )

-- a row whose number is guarded isn't known to all, if the sets pin no number that is
pub guarded_is_free : (known : Known) (sets : List (List ℕ)) (row : ℕ) → ¬ (PinSomeNumber known sets ⊎ SpanSomeGroup known sets) →
    AreFew known.people [] (row ∷ []) → ¬ (IsPinned known.n sets row)
guarded_is_free known sets row free few pinned = free (inl (record {
  own = [];
  are_own = (tt, omega arith, tt);
  row = row;
  guarded = few;
  pinned = record { below = pinned.below; other = refl; still = λ d along alone. pinned.still d along };
}))

-- a row that has a line isn't known to all
pub not_known_to_all : (audit : Audit) (column row : ℕ) → HasLine audit (row_of column row) →
    (AreFew audit.people [] (row ∷ []) → ¬ (IsPinned audit.shape.rows (sets_of_column column audit.history) row)) →
    ¬ (IsPinned audit.shape.rows (sets_of_column column audit.history) row)
not_known_to_all audit column row (inl guarded) free = free guarded
not_known_to_all audit column row (inr (inside, unpinned)) free = unpinned

-- a row is guarded from all exactly if it isn't found to be shared
pub guarded : (n : ℕ) (people : Headcount) (count : CountPeople n people) (row : ℕ) (rows : List ℕ) (shared : Bool) → rows ≡ shared_in people →
    shared ≡ has_row rows row → AreFew people [] (row ∷ []) ↔ (shared ≡ false)
guarded n people count row rows shared same told =
    let by = few_by_rows n people count [] row (omega arith) in
    let is : shared ≡ has_row (shared_in people) row = told ∙ ap (λ l. has_row l row) same in
    (λ few. is ∙ by.0 few, λ out. by.1 (sym is ∙ out))

not_so : (b : Bool) → ¬ (b ≡ true) → not b ≡ true
not_so true never = absurd (never refl)
not_so false never = refl

module _ (people : Headcount) (n : ℕ) (sets : List (List ℕ)) (row : ℕ) (shared : Bool) (few : AreFew people [] (row ∷ []) ↔ (shared ≡ false)) where
  -- outside a row has a line exactly if it isn't shared
  pub outside_line : people.own ≡ 0 → (not shared ≡ true) ↔ RowHasLine people n sets row
  outside_line none = (λ yes. inl (few.1 (not-true shared yes)), back)
    where
      back : RowHasLine people n sets row → not shared ≡ true
      back (inl guarded) = ap not (few.0 guarded)
      back (inr (inside, unpinned)) = absurd (omega (arith, inside, none))

  -- inside a shared one does exactly if it isn't pinned
  pub inside_line : shared ≡ true → 0 < people.own → (pinned : Bool) → ((pinned ≡ true) ↔ IsPinned n sets row) →
      (not pinned ≡ true) ↔ RowHasLine people n sets row
  inside_line same inside pinned tells = (λ yes. inr (inside, λ is. true≢false (sym (tells.1 is) ∙ not-true pinned yes)), back)
    where
      back : RowHasLine people n sets row → not pinned ≡ true
      back (inl guarded) = absurd (true≢false (sym same ∙ few.0 guarded))
      back (inr (there, unpinned)) = not_so pinned (λ yes. unpinned (tells.0 yes))

-- the empty set with one row is this row
pub only_row : (n : ℕ) (set : List ℕ) (row : ℕ) → set ≡ [] → row < n → with_row n set row ≡ row ∷ []
only_row n set row none below =
    ap (λ s. with_row n s row) none
    ∙ rows_that_agree (λ q. has_row [] q || (q == row)) (has_row (row ∷ [])) n (λ q within. grind (arith, nat_tests))
    ∙ rows-again n (row ∷ []) (omega arith, below, tt)

-- a row among all rows
pub row_among : (column row n : ℕ) → row < n →
    (others : List Subject) × (rows_before column n ≡ rows_before column row ++ row_of column row ∷ [] ++ others)
row_among column row n below =
    let rest = rows_after column (row + 1) n (omega (arith, below)) in
    (rest.0, rest.1 ∙ ap (λ l. l ++ rest.0) (rows_before-more column row))
