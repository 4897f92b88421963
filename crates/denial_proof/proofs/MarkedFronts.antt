-- Fronts of marked rows.
use Rattle.std.proofs.Common.{◌≡◌, ℕ, zero, suc, ◌+◌, ◌<◌, ◌≤◌, Bool, true, false, cond, ℤ, Option, None, Some, List, [], ◌∷◌, ◌++◌, map, length, take, get_or, refl, sym, ap, ◌∙◌, subst, arith, add-one, inl, inr, length-append}
use Rattle.std.specs.Prelude.{nat_le}
use Rattle.std.proofs.lemmas.Bool.{cases_lt, leb-true}
use Rattle.std.proofs.lemmas.List.{length-map, get_or-map, take-append-le, take_all, append_assoc}
use Rattle.std.proofs.Math.Nat.{one-dvd}
use Rattle.audit_types.specs.declared.records.Answered.{Answered}
use Rattle.denial_proof.specs.Weights.{rows_at}
use Rattle.audit_types.specs.Limits.{most_width}
use Rattle.audit_types.specs.Form.{IsReducedForm, IsNarrow}
use Rattle.audit_types.specs.Rows.{Rows}
use Rattle.sum_basis.specs.Basis.{Echelon}
use Rattle.sum_basis.specs.Laws.{FormsAreUnique}
use Rattle.denial_proof.specs.Kept.{marked_row, marked_rows, marks_for, MarksNext, HasWideFormOf, HasWideFront, HasWideMarks, IsMarked, kept_sets}

-- one marked row more
take_from : (n m mark : ℕ) (sets : List (List ℕ)) (k at : ℕ) → at ≡ mark + k → k < length sets →
    take (suc k) (marked_rows n m mark sets) ≡ take k (marked_rows n m mark sets) ++ marked_row n m at (get_or sets k []) ∷ []
take_from n m mark [] k at is l = absurd (omega arith)
take_from n m mark (s ∷ sets) zero at is l = let same : mark ≡ at = omega arith in ap (λ i. marked_row n m i s ∷ []) same
take_from n m mark (s ∷ sets) (suc k) at is l = ap (λ rows. marked_row n m mark s ∷ rows) (take_from n m (mark + 1) sets k at (omega arith) (omega arith))

pub take_marked : (n m : ℕ) (sets : List (List ℕ)) (k : ℕ) → k < length sets → take (k + 1) (marked_rows n m 0 sets)
    ≡ take k (marked_rows n m 0 sets) ++ marked_row n m k (get_or sets k []) ∷ []
take_marked n m sets k l = rw add-one (take_from n m 0 sets k k (omega arith) l)

-- there is a marked row for each set
length_from : (n m mark : ℕ) (sets : List (List ℕ)) → length (marked_rows n m mark sets) ≡ length sets
length_from n m mark [] = refl
length_from n m mark (s ∷ sets) = ap suc (length_from n m (mark + 1) sets)

pub length-marked_rows : (n m : ℕ) (sets : List (List ℕ)) → length (marked_rows n m 0 sets) ≡ length sets
length-marked_rows n m sets = length_from n m 0 sets

-- the set at a place of a place
pub set_at : (history : List Answered) (places : List ℕ) (k : ℕ) (r : Answered) → k < length places → get_or places k 0 < length history → r
    ≡ get_or history (get_or places k 0) r →
    get_or (map (rows_at history) places) k [] ≡ r.rows.list
set_at history places k r l within is =
    get_or-map (rows_at history) places k 0 [] l ∙ get_or-map (λ (x : Answered). x.rows.list) history (get_or places k 0) r [] within
    ∙ ap (λ (x : Answered). x.rows.list) (sym is)

-- what holds of a front with the next marked row holds of the next front
pub front_step : (Q : ℕ → List (List ℤ) → Type 0) (n m : ℕ) (history : List Answered) (places : List ℕ) (k : ℕ) (r : Answered) (form : Echelon) →
    k < length places → get_or places k 0 < length history →
    r ≡ get_or history (get_or places k 0) r → r.rows.n ≡ n → form.n ≡ n + m →
    IsReducedForm (n + m) (take k (marked_rows n m 0 (map (rows_at history) places))) form.rows →
    MarksNext form r.rows k (Q form.n) → Q (n + m) (take (k + 1) (marked_rows n m 0 (map (rows_at history) places)))
front_step Q n m history places k r form l within is same_n form_n reduced next =
    let sets = map (rows_at history) places in
    let front = take k (marked_rows n m 0 sets) in
    let count : length sets ≡ length places = length-map places (rows_at history) in
    let whole : form.n ≡ r.rows.n + m = form_n ∙ ap (λ x. x + m) (sym same_n) in
    let told = next m whole front (subst (λ c. IsReducedForm c front form.rows) (sym form_n) reduced) in
    let over_n = subst (λ x. Q form.n (front ++ marked_row x m k r.rows.list ∷ [])) same_n told in
    let of_set = subst (λ (rows : List ℕ). Q form.n (front ++ marked_row n m k rows ∷ [])) (sym (set_at history places k r l within is)) over_n in
    subst (λ c. Q c (take (k + 1) (marked_rows n m 0 sets))) form_n (subst (Q form.n) (sym (take_marked n m sets k (omega arith))) of_set)

-- ---- fronts that aren't wide

-- no rows have a narrow form
narrow_nil : IsNarrow most_width []
narrow_nil = record { entries = tt; common = 1; common_is = record { multiple = tt; least = λ k all. one-dvd k }; common_small = omega arith }

no_wide_form : FormsAreUnique → (n : ℕ) (rows form : List (List ℤ)) → IsReducedForm n rows form → IsNarrow most_width form → ¬ (HasWideFormOf n rows)
no_wide_form unique n rows form reduced narrow (other, is, wide) = wide (subst (IsNarrow most_width) (unique n rows form other reduced is) narrow)

pub no_wide_front : FormsAreUnique → (n : ℕ) (rows : List (List ℤ)) → ¬ (HasWideFront n (take 0 rows))
no_wide_front unique n rows (k, most, wide) =
    let none : take k (take 0 rows) ≡ [] = first_of_none k rows in
    no_wide_form unique n [] [] (record { primitive = tt; echelon = tt; within = tt; spans = tt }) narrow_nil (subst (HasWideFormOf n) none wide)
  where
    first_of_none : (k : ℕ) (rows : List (List ℤ)) → take k (take 0 rows) ≡ []
    first_of_none zero [] = refl
    first_of_none (suc k) [] = refl
    first_of_none zero (r ∷ rows) = refl
    first_of_none (suc k) (r ∷ rows) = refl

-- with one row more the fronts are those before and the whole
pub wide_front_push : (n : ℕ) (rows : List (List ℤ)) (row : List ℤ) → HasWideFront n rows → HasWideFront n (rows ++ row ∷ [])
wide_front_push n rows row (k, most, wide) =
    (k, let all = length-append rows (row ∷ []) in omega arith, subst (HasWideFormOf n) (sym (take-append-le k rows (row ∷ []) most)) wide)

pub wide_front_whole : (n : ℕ) (rows : List (List ℤ)) → HasWideFormOf n rows → HasWideFront n rows
wide_front_whole n rows wide = (length rows, omega arith, subst (HasWideFormOf n) (sym (take_all (length rows) rows (omega arith))) wide)

pub narrow_push : FormsAreUnique → (n : ℕ) (rows : List (List ℤ)) (row : List ℤ) (form : List (List ℤ)) → ¬ (HasWideFront n rows) →
    IsReducedForm n (rows ++ row ∷ []) form → IsNarrow most_width form →
    ¬ (HasWideFront n (rows ++ row ∷ []))
narrow_push unique n rows row form before reduced narrow (k, most, wide) = elim (cases_lt (length rows) k) [
  | inr front ↦ before (k, front, subst (HasWideFormOf n) (take-append-le k rows (row ∷ []) front) wide)
  | inl whole ↦
      let all = length-append rows (row ∷ []) in
      no_wide_form unique n (rows ++ row ∷ []) form reduced narrow (subst (HasWideFormOf n) (take_all k (rows ++ row ∷ []) (omega arith)) wide)
]

-- the marked rows of one set more
push_from : (n m mark at : ℕ) (sets : List (List ℕ)) (s : List ℕ) → at ≡ mark + length sets → marked_rows n m mark (sets ++ s ∷ [])
    ≡ marked_rows n m mark sets ++ marked_row n m at s ∷ []
push_from n m mark at [] s is = let same : mark ≡ at = omega arith in ap (λ i. marked_row n m i s ∷ []) same
push_from n m mark at (t ∷ sets) s is = ap (λ rows. marked_row n m mark t ∷ rows) (push_from n m (mark + 1) at sets s (omega arith))

pub marked_rows-push : (n m at : ℕ) (sets : List (List ℕ)) (s : List ℕ) → at ≡ length sets → marked_rows n m 0 (sets ++ s ∷ [])
    ≡ marked_rows n m 0 sets ++ marked_row n m at s ∷ []
marked_rows-push n m at sets s is = push_from n m 0 at sets s (omega arith)

-- ---- one set more

module _ (n m mark : ℕ) (sets : List (List ℕ)) (count : mark ≡ length sets) (rows : Rows) (same_n : rows.n ≡ n) where
  -- the marked rows with that of the set
  whole : marked_rows n m 0 (sets ++ rows.list ∷ []) ≡ marked_rows n m 0 sets ++ marked_row n m mark rows.list ∷ []
  whole = marked_rows-push n m mark sets rows.list count

  -- what holds of the next marked row of a form holds of them all
  next_of_all : (Q : ℕ → List (List ℤ) → Type 0) (old : Echelon) → IsMarked n m sets old → MarksNext old rows mark (Q old.n) →
      Q (n + m) (marked_rows n m 0 sets ++ marked_row n m mark rows.list ∷ [])
  next_of_all Q old marked next =
      let front = marked_rows n m 0 sets in
      let over_old : Q old.n (front ++ marked_row rows.n m mark rows.list ∷ [])
      = next m (marked.columns ∙ ap (λ x. x + m) (sym same_n)) front (subst (λ c. IsReducedForm c front old.rows) (sym marked.columns) marked.reduced) in
      subst (λ c. Q c (front ++ marked_row n m mark rows.list ∷ [])) marked.columns
      (subst (λ x. Q old.n (front ++ marked_row x m mark rows.list ∷ [])) same_n over_old)

  pub marked_with : FormsAreUnique → (old new : Echelon) → IsMarked n m sets old → new.n ≡ old.n → new.width ≡ old.width → IsNarrow most_width new.rows →
      MarksNext old rows mark (λ all. IsReducedForm old.n all new.rows) → IsMarked n m (sets ++ rows.list ∷ []) new
  marked_with unique old new marked same same_width narrow next =
      let front = marked_rows n m 0 sets in
      let row = marked_row n m mark rows.list in
      let over_n = next_of_all (λ c all. IsReducedForm c all new.rows) old marked next in
      record {
        columns = same ∙ marked.columns;
        width = same_width ∙ marked.width;
        reduced = subst (λ all. IsReducedForm (n + m) all new.rows) (sym whole) over_n;
        narrow = subst (λ all. ¬ (HasWideFront (n + m) all)) (sym whole) (narrow_push unique (n + m) front row new.rows marked.narrow over_n narrow);
      }

  -- or without it, if the form isn't narrow
  pub wide_with : (old : Echelon) → IsMarked n m sets old → MarksNext old rows mark (HasWideFormOf old.n) → HasWideMarks n m (sets ++ rows.list ∷ [])
  wide_with old marked next =
      subst (HasWideFront (n + m)) (sym whole)
      (wide_front_whole (n + m) (marked_rows n m 0 sets ++ marked_row n m mark rows.list ∷ []) (next_of_all HasWideFormOf old marked next))

-- if some front of the marks is wide, it is one with a set more
pub wide_without : (n m : ℕ) (sets : List (List ℕ)) (rows : List ℕ) → HasWideMarks n m sets → HasWideMarks n m (sets ++ rows ∷ [])
wide_without n m sets rows wide =
    subst (HasWideFront (n + m)) (sym (marked_rows-push n m (length sets) sets rows refl))
    (wide_front_push (n + m) (marked_rows n m 0 sets) (marked_row n m (length sets) rows) wide)

-- with the row of an asker too
pub wide_beside : (n m : ℕ) (history : List Answered) (places rows : List ℕ) (own : Option ℕ) → HasWideMarks n m (kept_sets history places rows None) →
    HasWideMarks n m (kept_sets history places rows own)
wide_beside n m history places rows None wide = wide
wide_beside n m history places rows (Some q) wide =
    subst (HasWideMarks n m) (append_assoc (map (rows_at history) places) (rows ∷ []) ((q ∷ []) ∷ []))
    (wide_without n m (kept_sets history places rows None) (q ∷ []) wide)

-- ---- how many marks there are

-- there are enough of them
pub enough_marks : (n more sets some : ℕ) → sets + some ≤ n → some ≤ more → sets + some ≤ marks_for n more sets
enough_marks n more sets some few most = go (nat_le (sets + more) n)
  where
    go : (b : Bool) → sets + some ≤ cond b (sets + more) n
    go true = omega arith
    go false = few

-- but no more than rows
pub few_marks : (n more sets : ℕ) → marks_for n more sets ≤ n
few_marks n more sets = go (nat_le (sets + more) n) refl
  where
    go : (b : Bool) → nat_le (sets + more) n ≡ b → cond b (sets + more) n ≤ n
    go true e = leb-true (sets + more) n e
    go false e = omega arith
