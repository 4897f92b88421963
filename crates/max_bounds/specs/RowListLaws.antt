-- Laws of ascending lists of rows, filtered.
use Rattle.std.proofs.Common.{◌≡◌, ◌≢◌, ℕ, ◌+◌, ◌<◌, Bool, true, false, cond, ◌==◌, List, [], ◌∷◌, length, refl, sym, ap, ◌∙◌, arith, inl, inr, ◌⊎◌, not, ◌&&◌}
use Rattle.std.specs.List.{filter}
use Rattle.std.proofs.lemmas.Bool.{eq-eqb, or_left, cases_eq, true≢false, cases_lt}
use Rattle.max_bounds.specs.Outside.{outside}
use Rattle.audit_types.specs.Rows.{has_row, AscendsFrom, AreRows, intersection, complement}
use Rattle.audit_types.specs.FilteredRows.{from_lower, has_filtered}
use Rattle.audit_types.specs.RowLaws.{has_first, ascending_same, AreRows-rows_that, has-rows_that, has-rows_that_above, none_above}
use Rattle.audit_types.specs.WalkLaws.{has_later, first_or_later}

-- what a filter leaves passes, and was there
pub filter-has : (test : ℕ → Bool) (rows : List ℕ) (q : ℕ) → has_row (filter test rows) q ≡ true → (has_row rows q ≡ true) × (test q ≡ true)
filter-has test [] q h = absurd (true≢false (sym h))
filter-has test (r ∷ rows) q h = go (test r) refl h (λ k. filter-has test rows q k)
  where
    go : (b : Bool) → test r ≡ b → has_row (cond b (r ∷ filter test rows) (filter test rows)) q ≡ true →
        (has_row (filter test rows) q ≡ true → (has_row rows q ≡ true) × (test q ≡ true)) → (has_row (r ∷ rows) q ≡ true) × (test q ≡ true)
    go true e k later = elim (first_or_later r q (filter test rows) k) [
      | inl same ↦ (or_left (r == q) (has_row rows q) (eq-eqb r q same), ap test (sym same) ∙ e)
      | inr rest ↦ let found = later rest in (has_later r q rows found.0, found.1)
    ]
    go false e k later = let found = later k in (has_later r q rows found.0, found.1)

-- what is there and passes stays
pub has-filter : (test : ℕ → Bool) (rows : List ℕ) (q : ℕ) → has_row rows q ≡ true → test q ≡ true → has_row (filter test rows) q ≡ true
has-filter test [] q there passes = absurd (true≢false (sym there))
has-filter test (r ∷ rows) q there passes =
    elim (first_or_later r q rows there) [
      | inl same ↦ let at : test r ≡ true = ap test same ∙ passes in rw at (or_left (r == q) (has_row (filter test rows) q) (eq-eqb r q same))
      | inr h ↦ elim (test r) as (λ b. has_row (cond b (r ∷ filter test rows) (filter test rows)) q ≡ true) [
        | true ↦ has_later r q (filter test rows) (has-filter test rows q h passes)
        | false ↦ has-filter test rows q h passes
      ]
    ]

-- a filtered list ascends
pub filter-ascends : (low n : ℕ) (test : ℕ → Bool) (rows : List ℕ) → AscendsFrom low n rows → AscendsFrom low n (filter test rows)
filter-ascends low n test [] h = tt
filter-ascends low n test (r ∷ rows) h = elim (test r) as (λ b. AscendsFrom low n (cond b (r ∷ filter test rows) (filter test rows))) [
  | true ↦ (h.0, h.1, filter-ascends (r + 1) n test rows h.2)
  | false ↦ from_lower low (r + 1) n (filter test rows) (omega (arith, h.0)) (filter-ascends (r + 1) n test rows h.2)
]

-- a list is the one row, or it isn't
pub only_or_not : (i : ℕ) (rows : List ℕ) → (rows ≡ i ∷ []) ⊎ (rows ≢ i ∷ [])
only_or_not i [] = inr (λ e. cc)
only_or_not i (x ∷ []) = elim (cases_eq x i) [ inl e ↦ inl (ap (λ y. y ∷ []) e) | inr n ↦ inr (λ e. n cc) ]
only_or_not i (x ∷ y ∷ rows) = inr (λ e. cc)

-- a list with a row, and not just row i, has a row that isn't i
pub other_row : (n : ℕ) (rows : List ℕ) (i : ℕ) → AreRows n rows → 0 < length rows → rows ≢ i ∷ [] → (e : ℕ) × (has_row rows e ≡ true) × (e ≢ i)
other_row n [] i are some not = absurd (omega arith)
other_row n (x ∷ rows) i are some not = elim (cases_eq x i) [
  | inr apart ↦ (x, has_first x rows, apart)
  | inl same ↦ second rows are.2 (λ e. not (ap (λ y. y ∷ rows) same ∙ ap (λ l. i ∷ l) e)) same
]
  where
    second : (l : List ℕ) → AscendsFrom (x + 1) n l → (l ≡ [] → ⊥) → x ≡ i → (e : ℕ) × (has_row (x ∷ l) e ≡ true) × (e ≢ i)
    second [] k full same = absurd (full refl)
    second (y ∷ l) k full same = (y, has_later x y (y ∷ l) (has_first y l), λ e. let up = k.0 in absurd (omega arith))

-- a list with a row has a first one
pub some_row : (rows : List ℕ) → 0 < length rows → (r : ℕ) × (has_row rows r ≡ true)
some_row [] h = absurd (omega arith)
some_row (x ∷ rows) h = (x, has_first x rows)

-- a list that has a row isn't empty
pub not_empty : (rows : List ℕ) (r : ℕ) → has_row rows r ≡ true → 0 < length rows
not_empty [] r h = absurd (true≢false (sym h))
not_empty (x ∷ rows) r h = omega arith

-- a list that is not empty has a row
pub some_length : (rows : List ℕ) → (rows ≡ [] → ⊥) → 0 < length rows
some_length [] full = absurd (full refl)
some_length (r ∷ rows) full = omega arith

-- the row of a list of one
pub one_row : (rows : List ℕ) → length rows ≡ 1 → (r : ℕ) × (rows ≡ r ∷ [])
one_row [] e = absurd (omega arith)
one_row (r ∷ []) e = (r, refl)
one_row (r ∷ q ∷ rows) e = absurd (omega arith)

-- the rows of a list that are among the others than a set's are those outside the set
pub outside_is : (n : ℕ) (set rows : List ℕ) → AreRows n rows → intersection n rows (complement n set) ≡ outside set rows
outside_is n set rows are = ascending_same 0 n n (intersection n rows (complement n set)) (outside set rows)
    (AreRows-rows_that (λ r. has_row rows r && has_row (complement n set) r) n) (filter-ascends 0 n (λ r. not (has_row set r)) rows are)
    (λ r. elim (cases_lt r n) [
      | inl below ↦
          has-rows_that (λ q. has_row rows q && has_row (complement n set) q) n r below
          ∙ ap (λ b. has_row rows r && b) (has-rows_that (λ q. not (has_row set q)) n r below)
          ∙ sym (has_filtered (λ q. not (has_row set q)) rows r)
      | inr above ↦
          has-rows_that_above (λ q. has_row rows q && has_row (complement n set) q) n r above
          ∙ sym (none_above 0 n (outside set rows) (filter-ascends 0 n (λ q. not (has_row set q)) rows are) r above)
    ])
