-- The entry of a protected group of a column.
use Rattle.std.proofs.Common.{◌≡◌, ℕ, zero, suc, Bool, true, false, cond, ◌==◌, List, [], ◌∷◌, map, Some, refl, arith}
use Rattle.std.specs.Prelude.{Contains, slice_get}
use Rattle.std.specs.List.{filter}
use Rattle.std.proofs.lemmas.Bool.{eqb-true}
use Rattle.audit_types.specs.declared.records.Protected.{Protected}
use Rattle.audit_types.specs.History.{groups_of}

-- a protected entry of the column with these rows
pub record HasEntry (protected : List Protected) (column : ℕ) (rows : List ℕ) : Type 0 where
  pub place : ℕ
  pub entry : Protected
  pub there : slice_get protected place ≡ Some entry
  pub own : entry.column ≡ column
  pub rows_are : entry.rows.list ≡ rows

-- each group of the column is that of an entry
pub entry_of_group : (protected : List Protected) (column : ℕ) (group : List ℕ) → Contains (groups_of column protected) group → HasEntry protected column group
entry_of_group [] column group (k, within, is) = absurd (omega arith)
entry_of_group (p ∷ protected) column group among = by (p.column == column) refl (entry_of_group protected column group) among
  where
    after : HasEntry protected column group → HasEntry (p ∷ protected) column group
    after found = record { place = suc found.place; entry = found.entry; there = found.there; own = found.own; rows_are = found.rows_are }

    by : (b : Bool) → (p.column == column) ≡ b → (Contains (groups_of column protected) group → HasEntry protected column group) →
        Contains (map (λ (q : Protected). q.rows.list) (cond b (p ∷ filter (λ (q : Protected). q.column == column) protected) (filter (λ (q : Protected). q.column == column) protected))) group →
        HasEntry (p ∷ protected) column group
    by true own rest (zero, within, is) = record { place = 0; entry = p; there = refl; own = eqb-true p.column column own; rows_are = is }
    by true own rest (suc k, within, is) = after (rest (k, omega arith, is))
    by false other rest among = after (rest among)
