-- An answer more lowers the bounds of its rows; the extreme rows of a record as a set.
use Rattle.std.proofs.Common.{◌≡◌, ◌≢◌, ℕ, ◌+◌, ◌<◌, ◌≤◌, ℤ, Bool, true, false, cond, ◌&&◌, ◌||◌, ◌==◌, List, [], ◌∷◌, ◌++◌, refl, sym, ap, ◌∙◌, arith, Option, Some, None, length, take, get_or, inl, inr}
use Rattle.std.specs.List.{filter}
use Rattle.std.specs.Int.{int_min}
use Rattle.std.proofs.lemmas.Int.{ints, int_min_is}
use Rattle.std.proofs.lemmas.Bool.{cases_lt, eq-eqb, ne_eqb}
use Rattle.std.proofs.lemmas.Bool.Decides.{nat_tests}
use Rattle.std.proofs.lemmas.List.Folds.{list_any-append}
use Rattle.audit_types.specs.Rows.{has_row, rows_that, AreRows, AscendsFrom}
use Rattle.audit_types.specs.RowLaws.{rows_that_agree, has-rows_that, has-rows_that_above, AreRows-rows_that, ascending_same, none_above}
use Rattle.audit_types.specs.FilteredRows.{from_lower, has_filtered}
use Rattle.audit_types.specs.Column.{Answer}
use Rattle.audit_types.specs.declared.records.Answered.{Answered}
use Rattle.audit_types.specs.History.{answers_of, answer_in}
use Rattle.oracles.proofs.Histories.{answers_of-own, answers_of-other}
use Rattle.audit_types.specs.Extremes.{least_of, upper_bound}
use Rattle.oracles.specs.Ranges.{AreOver, HaveRow}

-- the less of two in either order
min_swap : (a b : ℤ) → int_min a b ≡ int_min b a
min_swap a b = omega (arith, ints, int_min_is a b, int_min_is b a)

-- the least of three in either order
min_turn : (a b c : ℤ) → int_min a (int_min b c) ≡ int_min b (int_min a c)
min_turn a b c = omega (arith, ints, int_min_is a (int_min b c), int_min_is b (int_min a c), int_min_is b c, int_min_is a c)

-- two answers lower a bound in either order
least_turn : (a b : ℤ) (bound : Option ℤ) → least_of a (Some (least_of b bound)) ≡ least_of b (Some (least_of a bound))
least_turn a b None = min_swap a b
least_turn a b (Some c) = min_turn a b c

-- the bound of a row after an answer: the least of both if the answer's set has the row
abbrev pub bound_with : Bool → ℤ → Option ℤ → Option ℤ
bound_with has a bound = cond has (Some (least_of a bound)) bound

-- two answers lower a bound in either order, if their sets have the row
turn : (has also : Bool) (a b : ℤ) (bound : Option ℤ) → bound_with has a (bound_with also b bound) ≡ bound_with also b (bound_with has a bound)
turn true true a b bound = ap Some (least_turn a b bound)
turn true false a b bound = refl
turn false also a b bound = refl

-- a bound with one answer more
pub upper_bound-push : (answers : List Answer) (a : Answer) (r : ℕ) →
    upper_bound (answers ++ a ∷ []) r ≡ bound_with (has_row a.rows r) a.value (upper_bound answers r)
upper_bound-push [] a r = refl
upper_bound-push (b ∷ answers) a r =
    ap (bound_with (has_row b.rows r) b.value) (upper_bound-push answers a r)
    ∙ turn (has_row b.rows r) (has_row a.rows r) b.value a.value (upper_bound answers r)

module _ (column : ℕ) (history : List Answered) (i : ℕ) (r : Answered) (row : ℕ) (bound : Option ℤ)
    (l : i < length history) (is : r ≡ get_or history i r) (before : bound ≡ upper_bound (answers_of column (take i history)) row) where
  -- a bound with a record of the column
  with_answer : (r.column == column) ≡ true → bound_with (has_row r.rows.list row) r.answer bound ≡ upper_bound (answers_of column (take (i + 1) history)) row
  with_answer own =
      ap (bound_with (has_row r.rows.list row) r.answer) before
      ∙ sym (upper_bound-push (answers_of column (take i history)) (answer_in r) row)
      ∙ ap (λ answers. upper_bound answers row) (sym (answers_of-own column history i r l is own))

  -- a record of the column whose set has the row
  pub bound-lowered : r.column ≡ column → has_row r.rows.list row ≡ true →
      Some (least_of r.answer bound) ≡ upper_bound (answers_of column (take (i + 1) history)) row
  bound-lowered own has = ap (λ b. bound_with b r.answer bound) (sym has) ∙ with_answer (eq-eqb r.column column own)

  -- one whose set has not
  pub bound-apart : r.column ≡ column → has_row r.rows.list row ≡ false → bound ≡ upper_bound (answers_of column (take (i + 1) history)) row
  bound-apart own has = ap (λ b. bound_with b r.answer bound) (sym has) ∙ with_answer (eq-eqb r.column column own)

  -- one of another column
  pub bound-other : r.column ≢ column → bound ≡ upper_bound (answers_of column (take (i + 1) history)) row
  bound-other other = before ∙ ap (λ answers. upper_bound answers row) (sym (answers_of-other column history i r l is (ne_eqb r.column column other)))

-- a row that passes stays in its place
kept : (b : Bool) (low n r : ℕ) (rest : List ℕ) → low ≤ r → r < n → AscendsFrom (r + 1) n rest → AscendsFrom low n (cond b (r ∷ rest) rest)
kept true low n r rest l m h = (l, m, h)
kept false low n r rest l m h = from_lower low (r + 1) n rest (omega arith) h

-- rows that pass still ascend
ascends-filter : (p : ℕ → Bool) (low n : ℕ) (rows : List ℕ) → AscendsFrom low n rows → AscendsFrom low n (filter p rows)
ascends-filter p low n [] h = tt
ascends-filter p low n (r ∷ rows) h = kept (p r) low n r (filter p rows) h.0 h.1 (ascends-filter p (r + 1) n rows h.2)

-- the rows of a set that pass are a set
pub filter-rows : (p : ℕ → Bool) (n : ℕ) (rows : List ℕ) → AreRows n rows → filter p rows ≡ rows_that (λ r. has_row rows r && p r) n
filter-rows p n rows h =
    ascending_same 0 n n (filter p rows) (rows_that (λ r. has_row rows r && p r) n) (ascends-filter p 0 n rows h)
    (AreRows-rows_that (λ r. has_row rows r && p r) n) (λ r.
    has_filtered p rows r ∙ elim (cases_lt r n) [
      | inl l ↦ sym (has-rows_that (λ q. has_row rows q && p q) n r l)
      | inr l ↦ ap (λ b. b && p r) (none_above 0 n rows h r l) ∙ sym (has-rows_that_above (λ q. has_row rows q && p q) n r l)
    ])

-- a row that passes joins those that were yielded
takes : (here rest test : Bool) (r row : ℕ) → (r ≡ row → test ≡ true) → ((here && test) || (r == row)) ≡ ((here || ((row == r) || false)) && test)
takes here rest true r row h = grind (arith, nat_tests)
takes here rest false r row h = grind (arith, nat_tests)

-- a row that passes is added
pub rows-taken : (p : ℕ → Bool) (n : ℕ) (yielded : List ℕ) (row : ℕ) → p row ≡ true →
    rows_that (λ r. has_row (rows_that (λ q. has_row yielded q && p q) n) r || (r == row)) n ≡ rows_that (λ r. has_row (yielded ++ row ∷ []) r && p r) n
rows-taken p n yielded row h = rows_that_agree _ _ n (λ r l.
    ap (λ b. b || (r == row)) (has-rows_that (λ q. has_row yielded q && p q) n r l)
    ∙ takes (has_row yielded r) false (p r) r row (λ e. ap p e ∙ h)
    ∙ sym (ap (λ b. b && p r) (list_any-append (λ x. x == r) yielded (row ∷ []))))

-- a row that does not pass joins none
passes : (here test : Bool) (r row : ℕ) → (r ≡ row → test ≡ false) → (here && test) ≡ ((here || ((row == r) || false)) && test)
passes here true r row h = grind (arith, nat_tests)
passes here false r row h = grind (arith, nat_tests)

-- a row that does not pass is passed over
pub rows-passed : (p : ℕ → Bool) (n : ℕ) (yielded : List ℕ) (row : ℕ) → p row ≡ false →
    rows_that (λ r. has_row yielded r && p r) n ≡ rows_that (λ r. has_row (yielded ++ row ∷ []) r && p r) n
rows-passed p n yielded row h = rows_that_agree _ _ n (λ r l.
    passes (has_row yielded r) (p r) r row (λ e. ap p e ∙ h)
    ∙ sym (ap (λ b. b && p r) (list_any-append (λ x. x == r) yielded (row ∷ []))))

-- a row below n is a row of each record's table
pub rows_of_all : (n row : ℕ) (history : List Answered) → AreOver n history → row < n → HaveRow row history
rows_of_all n row [] over l = tt
rows_of_all n row (r ∷ history) over l = (omega (arith, over.0), rows_of_all n row history over.1 l)
