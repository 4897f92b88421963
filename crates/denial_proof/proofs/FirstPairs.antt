-- The answer that leaves few extreme rows, and the record that has them.
use Rattle.std.proofs.Common.{◌≡◌, ℕ, zero, suc, ◌+◌, ◌-◌, ◌<◌, true, false, ℤ, pos, List, [], ◌∷◌, ◌++◌, length, Some, refl, sym, ap, ◌∙◌, subst, arith, inl, inr}
use Rattle.std.specs.Prelude.{slice_get, ◌<ℤ◌, ◌≤ℤ◌, slice_index_or}
use Rattle.std.proofs.lemmas.Int.{ints}
use Rattle.std.proofs.lemmas.Grind.{common_steps}
use Rattle.std.proofs.lemmas.Bool.{cases_lt}
use Rattle.std.proofs.lemmas.List.{get_or_past, get_or_append_left, get_or-append-add}
use Rattle.audit_types.specs.declared.records.Answered.{Answered}
use Rattle.audit_types.specs.Rows.{has_row}
use Rattle.audit_types.specs.Truth.{number_at}
use Rattle.audit_types.specs.PrimitiveLines.{same_rows}
use Rattle.audit_types.specs.Column.{Answer, Known, known_max, guarding}
use Rattle.audit_types.specs.declared.records.Asked.{Asked}
use Rattle.audit_types.specs.Headcount.{Headcount}
use Rattle.audit_types.specs.History.{answer_in}
use Rattle.audit_types.specs.Extremes.{least_of, upper_bound, extremes}
use Rattle.max_bounds.specs.BoundLaws.{upper_bound-push}
use Rattle.max_bounds.specs.Maxima.{and_answer}
use Rattle.max_audit.specs.Candidates.{AreCandidates}
use Rattle.max_audit.specs.HighestLaws.{number_at-highest, length-highest}
use Rattle.max_audit.specs.Laws.{LeavesFewPeople, HasBadCandidate}
use Rattle.max_audit.specs.Witnesses.{highest, bound_or_zero}
use Rattle.denial_proof.specs.Certificates.{answers_after}
use Rattle.denial_proof.specs.Canonical.{IsFirstAnswer, IsFewAt}

-- ---- the record

pub not_few_at : (history : List Answered) (asked : Asked) (answer : ℤ) (rows : List ℕ) (place : ℕ) (r : Answered) → slice_get history place ≡ Some r →
    ¬ ((r.column ≡ asked.column) × (extremes (answers_after history asked answer) (answer_in r) ≡ rows)) → ¬ (IsFewAt history asked answer rows place)
not_few_at history asked answer rows place r there none (s, own, left) =
    let one : Some s ≡ Some r = sym own.there ∙ there in
    let same : s ≡ r = cc in
    none (
      ap (λ (q : Answered). q.column) (sym same) ∙ own.own,
      subst (λ (q : Answered). extremes (answers_after history asked answer) (answer_in q) ≡ rows) same left,
    )

-- ---- the heights

pub height_lowered : (answers : List Answer) (rows : List ℕ) (answer : ℤ) (row : ℕ) → has_row rows row ≡ true → least_of answer (upper_bound answers row)
    ≡ bound_or_zero (upper_bound (and_answer answers rows answer) row)
height_lowered answers rows answer row holds =
    let is : upper_bound (and_answer answers rows answer) row ≡ Some (least_of answer (upper_bound answers row)) =
    upper_bound-push answers (record { rows = rows; value = answer }) row ∙ rw holds refl in
    sym (ap bound_or_zero is)

pub height_kept : (answers : List Answer) (rows : List ℕ) (answer : ℤ) (row : ℕ) → has_row rows row ≡ false → bound_or_zero (upper_bound answers row)
    ≡ bound_or_zero (upper_bound (and_answer answers rows answer) row)
height_kept answers rows answer row none =
    let is : upper_bound (and_answer answers rows answer) row ≡ upper_bound answers row = upper_bound-push answers (record { rows = rows; value = answer }) row
    ∙ rw none refl in
    sym (ap bound_or_zero is)

-- the heights of the first rows
pub record AreHeightsSoFar (answers : List Answer) (row : ℕ) (list : List ℤ) : Type 0 where
  pub one_each : length list ≡ row
  pub each : (k : ℕ) → k < row → number_at list k ≡ bound_or_zero (upper_bound answers k)

pub heights_end : (n : ℕ) (answers : List Answer) (list : List ℤ) → AreHeightsSoFar answers n list → list ≡ highest n answers
heights_end n answers list far =
    let size : length list ≡ length (highest n answers) = far.one_each ∙ sym (length-highest n answers) in
    same_rows list (highest n answers) size (λ k. elim (cases_lt k n) [
      | inl inside ↦ far.each k inside ∙ sym (number_at-highest n answers k inside)
      | inr past ↦
          get_or_past list k (pos 0) (let all = far.one_each in omega arith) ∙ sym
          (get_or_past (highest n answers) k (pos 0) (let all = length-highest n answers in omega arith))
    ])

pub heights_push : (answers : List Answer) (row : ℕ) (list : List ℤ) (x : ℤ) → AreHeightsSoFar answers row list → x ≡ bound_or_zero (upper_bound answers row) →
    AreHeightsSoFar answers (row + 1) (list ++ x ∷ [])
heights_push answers row list x far is = record {
  one_each = let all = far.one_each in grind (arith, common_steps);
  each = λ k l. elim (cases_lt k row) [
    | inl earlier ↦ get_or_append_left list (x ∷ []) (pos 0) k (let all = far.one_each in omega arith) ∙ far.each k earlier
    | inr last ↦
        let all = far.one_each in
        let here : k ≡ row = omega arith in
        let place : k ≡ length list + 0 = omega arith in
        ap (number_at (list ++ x ∷ [])) place ∙ get_or-append-add list (x ∷ []) 0 (pos 0) ∙ is ∙ ap (λ i. bound_or_zero (upper_bound answers i)) (sym here)
  ];
}

-- ---- the answer

-- a later candidate is greater
greater_later : (list : List ℤ) → ((k : ℕ) → k + 1 < length list → slice_index_or list k (pos 0) <ℤ slice_index_or list (k + 1) (pos 0)) → (i d : ℕ) →
    i + d < length list →
    slice_index_or list i (pos 0) ≤ℤ slice_index_or list (i + d) (pos 0)
greater_later list ascending i zero l =
    let same : slice_index_or list (i + 0) (pos 0) ≡ slice_index_or list i (pos 0) = ap (λ k. slice_index_or list k (pos 0)) (omega arith) in
    omega (arith, ints)
greater_later list ascending i (suc d) l =
    let rest = greater_later list ascending i d (omega arith) in
    let step = ascending (i + d) (omega arith) in
    let same : slice_index_or list (i + suc d) (pos 0) ≡ slice_index_or list (i + d + 1) (pos 0) = ap (λ k. slice_index_or list k (pos 0)) (omega arith) in
    omega (arith, ints)

-- what stands past a list doesn't matter within it
pub same_default : (xs : List ℤ) (i : ℕ) (d e : ℤ) → i < length xs → slice_index_or xs i e ≡ slice_index_or xs i d
same_default [] i d e l = absurd (omega arith)
same_default (y ∷ xs) zero d e l = refl
same_default (y ∷ xs) (suc i) d e l = same_default xs i d e (omega arith)

module _ (n : ℕ) (people : Headcount) (answers : List Answer) (rows : List ℕ) (list : List ℤ) (are : AreCandidates answers list) where
  -- what is known of the column
  abbrev known : Known
  known = guarding (known_max n answers) people []

  -- no earlier candidate leaves few
  abbrev pub NoneBefore : ℕ → Type 0
  NoneBefore i = (k : ℕ) → k < i → ¬ (LeavesFewPeople (guarding (known_max n answers) people []) rows (slice_index_or list k (pos 0)))

  -- what the list has at a place, whatever stands past it
  at_place : (k : ℕ) (x : ℤ) → k < length list → slice_index_or list k x ≡ x → slice_index_or list k (pos 0) ≡ x
  at_place k x below is = same_default list k x (pos 0) below ∙ is

  -- so a candidate that does is the least
  pub first_found : (i : ℕ) (answer : ℤ) → i < length list → slice_index_or list i answer ≡ answer → NoneBefore i →
      LeavesFewPeople (guarding (known_max n answers) people []) rows answer → IsFirstAnswer (guarding (known_max n answers) people []) rows answer
  first_found i answer below is none leaves = record {
    candidate = (are.each answer).0 (i, below, is);
    leaves = leaves;
    least = λ other candidate less others.
        let found = (are.each other).1 candidate in
        let here = at_place i answer below is in
        let there = at_place found.0 other found.1 found.2 in
        elim (cases_lt found.0 i) [
          | inl earlier ↦ none found.0 earlier (subst (LeavesFewPeople known rows) (sym there) others)
          | inr later ↦
              let order = greater_later list are.ascending i (found.0 - i) (omega arith) in
              let same : slice_index_or list (i + (found.0 - i)) (pos 0) ≡ slice_index_or list found.0 (pos 0) =
              ap (λ k. slice_index_or list k (pos 0)) (omega arith) in
              absurd (omega (arith, ints))
        ];
  }

  -- and if none does, none is bad
  pub none_found : NoneBefore (length list) → ¬ (HasBadCandidate (guarding (known_max n answers) people []) rows)
  none_found none bad =
      let found = (are.each bad.answer).1 bad.candidate in
      none found.0 found.1 (subst (LeavesFewPeople known rows) (sym (at_place found.0 bad.answer found.1 found.2)) bad.leaves)
