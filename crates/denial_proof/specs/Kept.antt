-- The sets that a canonical proof may count, those of the records that earlier ones don't imply and the asked one, and their marks.
use Rattle.std.specs.Prelude.{◌≡◌, ◌↔◌, ℕ, nat_le, cond, ◌+◌, ◌<◌, ◌≤◌, ℤ, pos, true, List, [], ◌∷◌, ◌++◌, map, length, take, Option, IfSome, IfNone}
use Rattle.audit_types.specs.declared.records.Answered.{Answered}
use Rattle.audit_types.specs.declared.records.Asked.{Asked}
use Rattle.audit_types.specs.Rows.{Rows, AscendsFrom, has_row}
use Rattle.audit_types.specs.Truth.{number_at}
use Rattle.sum_basis.specs.Basis.{Echelon}
use Rattle.audit_types.specs.Limits.{most_width}
use Rattle.audit_types.specs.Form.{set_row, combined, InSpan, IsReducedForm, IsNarrow}
use Rattle.audit_core.specs.Laws.{sets_before}
use Rattle.denial_proof.specs.Weights.{rows_at, own_rows}
use Rattle.denial_proof.specs.Certificates.{IsOwnRecord}

-- the record at this place is of the column, and its set doesn't lie in the span of the column's sets before it
pub record IsKept (n column : ℕ) (history : List Answered) (place : ℕ) : Type 0 where
  pub r : Answered
  pub own : IsOwnRecord history column place r
  pub new : ¬ (InSpan (map (set_row n) (sets_before column history place)) (set_row n r.rows.list))

-- the places of the kept records, in order
pub record AreKept (n column : ℕ) (history : List Answered) (places : List ℕ) : Type 0 where
  pub ascending : AscendsFrom 0 (length history) places
  pub each : (place : ℕ) → (has_row places place ≡ true) ↔ IsKept n column history place

-- their sets, after them the asked one, and then the row that the asker knows, if she knows one
abbrev pub kept_sets : List Answered → List ℕ → List ℕ → Option ℕ → List (List ℕ)
kept_sets history places rows own = map (rows_at history) places ++ rows ∷ map (λ q. q ∷ []) (own_rows own)

-- no sets come to nothing, but each taken 0 times
abbrev pub AreIndependent : ℕ → List (List ℕ) → Type 0
AreIndependent n sets = (a : List ℤ) → ((j : ℕ) → j < n → combined a (map (set_row n) sets) j ≡ pos 0) → (k : ℕ) → k < length sets → number_at a k ≡ pos 0

-- the row of a set over n columns, and after it one over m marks: 1 at its own mark, 0 at the others
abbrev pub marked_row : ℕ → ℕ → ℕ → List ℕ → List ℤ
marked_row n m mark rows = set_row n rows ++ set_row m (mark ∷ [])

-- the marked rows of sets, their marks from this one on
abbrev pub marked_rows : ℕ → ℕ → ℕ → List (List ℕ) → List (List ℤ)
marked_rows n m mark [] = []
marked_rows n m mark (rows ∷ sets) = marked_row n m mark rows ∷ marked_rows n m (mark + 1) sets

-- rows whose reduced form isn't narrow, by the greatest width: a certificate goes by no other
abbrev pub HasWideFormOf : ℕ → List (List ℤ) → Type 0
HasWideFormOf n rows = (form : List (List ℤ)) × IsReducedForm n rows form × ¬ (IsNarrow most_width form)

-- the first rows up to some place are such rows
abbrev pub HasWideFront : ℕ → List (List ℤ) → Type 0
HasWideFront n rows = (k : ℕ) × (k ≤ length rows) × HasWideFormOf n (take k rows)

-- some front of the marked rows of sets, over m marks, has a form that isn't narrow
abbrev pub HasWideMarks : ℕ → ℕ → List (List ℕ) → Type 0
HasWideMarks n m sets = HasWideFront (n + m) (marked_rows n m 0 sets)

-- the form of the marked rows of sets over n columns and m marks, of which no front is wide
pub record IsMarked (n m : ℕ) (sets : List (List ℕ)) (form : Echelon) : Type 0 where
  pub columns : form.n ≡ n + m
  pub width : form.width ≡ most_width
  pub reduced : IsReducedForm (n + m) (marked_rows n m 0 sets) form.rows
  pub narrow : ¬ (HasWideMarks n m sets)

-- how many marks there are: one for each of so many sets, and so many more, but no more than rows, as more sets aren't independent
abbrev pub marks_for : ℕ → ℕ → ℕ → ℕ
marks_for n more sets = cond (nat_le (sets + more) n) (sets + more) n

-- the places of the kept records of a column, and the form of their marked rows, with so many marks more, for the set of a question and for the
-- row that an asker knows; none if some front of them is wide, or there are as many as rows, so that their span holds each set
pub record AreMarksOf (n column : ℕ) (history : List Answered) (more : ℕ) (places : List ℕ) (form : Option Echelon) : Type 0 where
  pub kept : AreKept n column history places
  pub marked : IfSome form (IsMarked n (marks_for n more (length places)) (map (rows_at history) places))
  pub wide : IfNone form (length places < n →
      HasWideMarks n (marks_for n more (length places)) (map (rows_at history) places))

-- the places of the kept records before a question, and the form of their marked rows, its own, and that of the row that the asker knows
pub record AreMarks (n : ℕ) (history : List Answered) (asked : Asked) (more : ℕ) (own : Option ℕ) (places : List ℕ) (form : Echelon) : Type 0 where
  pub kept : AreKept n asked.column history places
  pub marked : IsMarked n (marks_for n more (length places)) (kept_sets history places asked.rows.list own) form

-- whatever rows a form stands for, this holds of them with the marked row of a set after them, the form's columns being those of the
-- table and m marks
abbrev pub MarksNext : Echelon → Rows → ℕ → (List (List ℤ) → Type 0) → Type 0
MarksNext form rows mark P = (m : ℕ) → form.n ≡ rows.n + m → (before : List (List ℤ)) → IsReducedForm form.n before form.rows → P (before ++ marked_row rows.n m mark rows.list ∷ [])
