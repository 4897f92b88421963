-- The protected groups of a table and those of its first rows: what a group has of these is a group of them.
use Rattle.std.proofs.Common.{◌≡◌, ◌≢◌, ℕ, zero, ◌<◌, Bool, true, false, cond, ◌==◌, List, [], ◌∷◌, ◌++◌, map, refl, sym, ap, ◌∙◌, subst, arith}
use Rattle.std.specs.Prelude.{All, Contains}
use Rattle.std.specs.List.{filter}
use Rattle.std.proofs.lemmas.Bool.{true≢false}
use Rattle.std.proofs.lemmas.List.{map-append}
use Rattle.std.proofs.lemmas.List.Elements.{All-nil, All-cons, All-head, All-tail, All-weaker, Contains-append_right, filter-append}
use Rattle.audit_types.specs.declared.records.Protected.{Protected}
use Rattle.audit_types.specs.declared.shapes.Shape.{Shape}
use Rattle.audit_types.specs.Rows.{AreRows, has_row, rows_that}
use Rattle.audit_types.specs.RowLaws.{has-rows_that}
use Rattle.audit_types.specs.History.{IsProtected, groups_of, entry_of}
use Rattle.audit_types.specs.Widening.{groups_among}

-- the groups of a column of two lists, one after the other
groups_of-append : (column : ℕ) (front rest : List Protected) → groups_of column (front ++ rest) ≡ groups_of column front ++ groups_of column rest
groups_of-append column front rest =
    ap (map (λ (q : Protected). q.rows.list)) (filter-append (λ (q : Protected). q.column == column) front rest)
    ∙ map-append (λ (q : Protected). q.rows.list) (filter (λ (q : Protected). q.column == column) front) (filter (λ (q : Protected). q.column == column) rest)

-- a group of the rest is a group
later_group : (column : ℕ) (front rest : List Protected) (group : List ℕ) → Contains (groups_of column rest) group →
    Contains (groups_of column (front ++ rest)) group
later_group column front rest group there =
    subst (λ (groups : List (List ℕ)). Contains groups group) (sym (groups_of-append column front rest))
    (Contains-append_right (groups_of column front) (groups_of column rest) group there)

-- an entry of a column is one of its groups
entry_is_group : (owner column place m : ℕ) (rows : List ℕ) (rest : List Protected) → rows ≢ [] → (owner == column) ≡ true →
    Contains (groups_of column (entry_of owner place m rows ++ rest)) rows
entry_is_group owner column place m [] rest some own = absurd (some refl)
entry_is_group owner column place m (r ∷ rows) rest some own =
    rw own (zero, omega arith, refl)

module _ (shape : Shape) (m column : ℕ) where
  -- rows of the table, and those of the first m among them, if there are any, are a group of these
  pub record IsFirstPart (among : List Protected) (group : List ℕ) : Type 0 where
    pub are : AreRows shape.rows group
    pub first : (row : ℕ) → row < m → has_row group row ≡ true → Contains (groups_of column among) (rows_that (has_row group) m)

  -- the group of one entry
  of_entry : (p : Protected) (protected : List Protected) → IsProtected shape p → (p.column == column) ≡ true →
      IsFirstPart (groups_among m (p ∷ protected)) p.rows.list
  of_entry p protected fits own = record {
    are = subst (λ n. AreRows n p.rows.list) fits.0.same_n fits.0.are_rows;
    first = λ row below there. entry_is_group p.column column p.place m (rows_that (has_row p.rows.list) m) (groups_among m protected)
        (λ none. true≢false (sym there ∙ sym (has-rows_that (has_row p.rows.list) m row below) ∙ ap (λ l. has_row l row) none)) own;
  }

  all_first_parts : (protected : List Protected) → All (IsProtected shape) protected → All (IsFirstPart (groups_among m protected)) (groups_of column protected)
  all_first_parts [] fit = All-nil (IsFirstPart [])
  all_first_parts (p ∷ protected) fit =
      by (p.column == column) refl
      (All-weaker (IsFirstPart (groups_among m protected)) (IsFirstPart (groups_among m (p ∷ protected))) later
      (groups_of column protected) (all_first_parts protected (All-tail (IsProtected shape) p protected fit)))
    where
      later : (group : List ℕ) → IsFirstPart (groups_among m protected) group → IsFirstPart (groups_among m (p ∷ protected)) group
      later group part = record {
        are = part.are;
        first = λ row below there. later_group column (entry_of p.column p.place m (rows_that (has_row p.rows.list) m)) (groups_among m protected)
            (rows_that (has_row group) m) (part.first row below there);
      }

      by : (b : Bool) → (p.column == column) ≡ b → All (IsFirstPart (groups_among m (p ∷ protected))) (groups_of column protected) →
          All (IsFirstPart (groups_among m (p ∷ protected))) (map (λ (q : Protected). q.rows.list)
          (cond b (p ∷ filter (λ (q : Protected). q.column == column) protected) (filter (λ (q : Protected). q.column == column) protected)))
      by true own rest = All-cons (IsFirstPart (groups_among m (p ∷ protected))) p.rows.list _
          (of_entry p protected (All-head (IsProtected shape) p protected fit) own) rest
      by false other rest = rest

  pub first_part : (protected : List Protected) → All (IsProtected shape) protected → (group : List ℕ) → Contains (groups_of column protected) group →
      IsFirstPart (groups_among m protected) group
  first_part protected fit group there =
      subst (IsFirstPart (groups_among m protected)) there.2 (all_first_parts protected fit there.0 group there.1)
