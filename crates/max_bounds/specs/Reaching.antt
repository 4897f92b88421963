-- The rows of answers that reach their bound, whatever gives the bounds.
use Rattle.std.specs.Prelude.{◌≡◌, ℕ, ℤ, cond, List, [], ◌∷◌, Option, Some, None, min}
use Rattle.std.specs.List.{filter, slice_index_or}
use Rattle.audit_types.specs.Rows.{has_row}
use Rattle.audit_types.specs.Column.{Answer, IsOneOf}
use Rattle.audit_types.specs.Extremes.{least_of, is_bound}

-- the bound of a row, in a list with one for each row
abbrev pub bound_at : List (Option ℤ) → ℕ → Option ℤ
bound_at bounds r = slice_index_or bounds r None

-- the bound of a row with one answer more
abbrev pub bound_with : List ℕ → ℤ → ℕ → Option ℤ → Option ℤ
bound_with rows answer r bound = cond (has_row rows r) (Some (least_of answer bound)) bound

-- the rows of a set whose bound is the answer
abbrev pub reaching : (ℕ → Option ℤ) → List ℕ → ℤ → List ℕ
reaching bound rows answer = filter (λ r. is_bound (bound r) answer) rows

-- the row of a list of one row
abbrev pub lone_of : List ℕ → Option ℕ
lone_of [] = None
lone_of (r ∷ []) = Some r
lone_of (r ∷ q ∷ rows) = None

-- the lesser of two rows, if there are two
abbrev pub lesser_of : Option ℕ → Option ℕ → Option ℕ
lesser_of None b = b
lesser_of (Some a) None = Some a
lesser_of (Some a) (Some b) = Some (min a b)

-- the row alone reaches the bound for some answer
abbrev pub IsAlone : (ℕ → Option ℤ) → List Answer → ℕ → Type 0
IsAlone bound answers r = (a : Answer) × IsOneOf a answers × (reaching bound a.rows a.value ≡ r ∷ [])
