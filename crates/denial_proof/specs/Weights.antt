-- Sets of rows that are counted some number of times, and what they add up to in a row.
use Rattle.std.specs.Prelude.{ℕ, ℤ, pos, neg_ℤ, ◌+ℤ◌, cond, List, [], ◌∷◌, ◌++◌, map, Option, None, Some, slice_index_or}
use Rattle.audit_types.specs.Rows.{has_row}
use Rattle.audit_types.specs.declared.records.Answered.{Answered}
use Rattle.audit_types.specs.Form.{set_row}
use Rattle.denial_proof.specs.declared.proof_parts.Term.{Term}
use Rattle.denial_proof.specs.declared.proof_parts.OwnShare.{OwnShare}

-- a set of rows, and how often it is counted
pub record Weight : Type 0 where
  pub rows : List ℕ
  pub times : ℤ

-- what a set adds to a row: as much as it is counted, if it holds the row
abbrev pub adds : List ℕ → ℤ → ℕ → ℤ
adds rows times row = cond (has_row rows row) times (pos 0)

-- what the sets add up to in a row
abbrev pub sum_at : List Weight → ℕ → ℤ
sum_at [] row = pos 0
sum_at (w ∷ weights) row = adds w.rows w.times row +ℤ sum_at weights row

-- the rows of the record at a place, none if there is no record
abbrev pub rows_at : List Answered → ℕ → List ℕ
rows_at history place = slice_index_or (map (λ r. r.rows.list) history) place []

-- the set that a term counts
abbrev pub weight_of : List Answered → Term → Weight
weight_of history term = record { rows = rows_at history term.place; times = term.times }

-- the asked set, counted `count` times, and the sets that the terms count
abbrev pub weights_of : List Answered → List ℕ → ℤ → List Term → List Weight
weights_of history rows count terms = record { rows = rows; times = count } ∷ map (weight_of history) terms

-- ---- an asker's own row

-- the row whose number the asker knows, if she knows one
abbrev pub own_in : Option OwnShare → Option ℕ
own_in None = None
own_in (Some s) = Some s.own

-- that row as a list
abbrev pub own_rows : Option ℕ → List ℕ
own_rows None = []
own_rows (Some q) = q ∷ []

-- how often it is in what sets come to
abbrev pub shares_in : Option OwnShare → List ℤ
shares_in None = []
shares_in (Some s) = s.share ∷ []

-- its share, if its set is counted so often
abbrev pub share_for : Option ℕ → ℤ → Option OwnShare
share_for None x = None
share_for (Some q) x = Some (record { own = q; share = neg_ℤ x })

-- what that adds to a row
abbrev pub share_adds : Option OwnShare → ℕ → ℤ
share_adds None row = pos 0
share_adds (Some s) row = adds (s.own ∷ []) s.share row

-- rows over n columns, and the unit row of hers
abbrev pub with_own : ℕ → List (List ℤ) → Option ℕ → List (List ℤ)
with_own n rows None = rows
with_own n rows (Some q) = rows ++ set_row n (q ∷ []) ∷ []
