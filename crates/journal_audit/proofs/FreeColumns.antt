-- What a store's history leaves free in one column.
use Rattle.std.proofs.Common.{◌≡◌, ℕ, Bool, List, [], ◌∷◌, map, refl, ap}
use Rattle.std.specs.List.{AllByRecursion, filter}
use Rattle.audit_types.specs.Rows.{Rows}
use Rattle.audit_types.specs.Column.{Answer}
use Rattle.audit_types.specs.declared.records.Answered.{Answered}
use Rattle.audit_types.specs.History.{Table, IsLegal}
use Rattle.audit_types.specs.ListLaws.{all_by_place, all-map, all-filter}
use Rattle.witness_check.specs.Directions.{lists_of}

-- the sets of a column's records, as lists of rows
pub lists_of_records : (records : List Answered) →
    lists_of (map (λ r. r.rows) records) ≡ map (λ (a : Answer). a.rows) (map (λ (r : Answered). record { rows = r.rows.list; value = r.answer }) records)
lists_of_records [] = refl
lists_of_records (r ∷ records) = ap (λ l. r.rows.list ∷ l) (lists_of_records records)

-- a legal history's sets are over the table's rows
pub same_n : (table : Table) (history : List Answered) → IsLegal table history → AllByRecursion (λ r. r.rows.n ≡ table.setting.shape.rows) history
same_n table history legal = all_by_place (λ r. r.rows.n ≡ table.setting.shape.rows) history (λ i r here. (legal.each i r here).fits.same_n)

-- the sets of some of the records are over as many rows as those of all
pub sets_same_n : (n : ℕ) (keeps : Answered → Bool) (records : List Answered) → AllByRecursion (λ r. r.rows.n ≡ n) records →
    AllByRecursion (λ (s : Rows). s.n ≡ n) (map (λ (r : Answered). r.rows) (filter keeps records))
sets_same_n n keeps records all =
    all-map (λ (r : Answered). r.rows) (λ (s : Rows). s.n ≡ n) (filter keeps records) (all-filter (λ r. r.rows.n ≡ n) keeps records all)
