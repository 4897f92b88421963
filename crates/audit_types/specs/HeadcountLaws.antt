-- Facts on the people behind rows.
use Rattle.std.proofs.Common.{◌≡◌, ℕ, ◌+◌, ◌<◌, ◌≤◌, Bool, true, false, cond, ◌||◌, ◌==◌, List, [], ◌∷◌, ◌++◌, length, refl, sym, ap, ◌∙◌, arith, inl, inr, append-nil}
use Rattle.std.specs.Prelude.{◌↔◌, nat_le}
use Rattle.std.proofs.lemmas.Bool.{lt-leb, leb-false, cases_lt, eq-eqb, ne_eqb}
use Rattle.std.proofs.lemmas.List.{get_or_past}
use Rattle.std.proofs.Math.Bool.{or-false}
use Rattle.audit_types.specs.Rows.{AreRows, has_row, rows_that, with_row}
use Rattle.audit_types.specs.RowLaws.{has-rows_that, has-rows_that_above, rows_that_agree, rows_that_longer, rows_that_more, AreRows-rows_that, AscendsFrom-wider}
use Rattle.audit_types.specs.ListLaws.{all-get_or}
use Rattle.audit_types.specs.Headcount.{Headcount, CountPeople, AreFew, count_at, crowded, several_in, unguarded}

-- ---- sets of rows that grow by their last

-- of no rows none passes
pub no_rows : (test : ℕ → Bool) → rows_that test 0 ≡ []
unfolding rows_that
no_rows test = refl

-- a set with one row more, above all others of it
pub with_last : (n : ℕ) (test : ℕ → Bool) (row : ℕ) → row < n → test row ≡ true → with_row n (rows_that test row) row ≡ rows_that test (row + 1)
with_last n test row below passes =
    rows_that_longer (λ r. has_row (rows_that test row) r || (r == row)) (row + 1) n (omega arith) (λ k high. later k high)
    ∙ rows_that_agree (λ r. has_row (rows_that test row) r || (r == row)) test (row + 1) (λ r low. earlier r low)
  where
    both_false : (a b : Bool) → a ≡ false → b ≡ false → (a || b) ≡ false
    both_false a b first second = ap (λ x. x || b) first ∙ second

    later : (k : ℕ) → row + 1 ≤ k → (has_row (rows_that test row) k || (k == row)) ≡ false
    later k high = both_false _ _ (has-rows_that_above test row k (omega (arith, high))) (ne_eqb k row (λ same. omega (arith, high, same)))

    earlier : (r : ℕ) → r < row + 1 → (has_row (rows_that test row) r || (r == row)) ≡ test r
    earlier r low = elim (cases_lt r row) [
      | inl before ↦ ap (λ b. has_row (rows_that test row) r || b) (ne_eqb r row (λ same. omega (arith, before, same)))
          ∙ or-false (has_row (rows_that test row) r)
          ∙ has-rows_that test row r before
      | inr other ↦ let same : r ≡ row = omega (arith, low, other) in
          ap (λ q. has_row (rows_that test row) q || (q == row)) same
          ∙ ap (λ b. b || (row == row)) (has-rows_that_above test row row (omega arith))
          ∙ eq-eqb row row refl
          ∙ sym passes
          ∙ ap test (sym same)
    ]

-- the same set, if the row doesn't pass
pub without_last : (test : ℕ → Bool) (row : ℕ) → test row ≡ false → rows_that test (row + 1) ≡ rows_that test row
without_last test row fails = rows_that_more test row ∙ ap (λ b. rows_that test row ++ cond b (row ∷ []) []) fails ∙ append-nil (rows_that test row)

-- ---- the rows that so many people stand behind

-- a row beyond the counts stands for one person
count_beyond : (counts : List ℕ) (row : ℕ) → length counts ≤ row → count_at counts row ≡ 1
count_beyond counts row beyond = get_or_past counts row 1 beyond

-- whether a row is one of them
pub has_crowded : (least : ℕ) (counts : List ℕ) (row : ℕ) → 1 < least → has_row (crowded least counts) row ≡ nat_le least (count_at counts row)
has_crowded least counts row more = elim (cases_lt row (length counts)) [
  | inl below ↦ has-rows_that (λ r. nat_le least (count_at counts r)) (length counts) row below
  | inr beyond ↦ has-rows_that_above (λ r. nat_le least (count_at counts r)) (length counts) row (omega (arith, beyond))
      ∙ sym (ap (nat_le least) (count_beyond counts row (omega (arith, beyond))) ∙ lt-leb least 1 more)
]

-- a row isn't one of them exactly if fewer people stand behind it
pub not_crowded : (least : ℕ) (counts : List ℕ) (row : ℕ) → 1 < least → (has_row (crowded least counts) row ≡ false) ↔ (count_at counts row < least)
not_crowded least counts row more = (
  λ out. leb-false least (count_at counts row) (sym (has_crowded least counts row more) ∙ out),
  λ few. has_crowded least counts row more ∙ lt-leb least (count_at counts row) few,
)

-- they are rows of the table
pub crowded_rows : (least n : ℕ) (counts : List ℕ) → length counts ≤ n → AreRows n (crowded least counts)
crowded_rows least n counts within = AscendsFrom-wider 0 (length counts) n (crowded least counts) within (AreRows-rows_that (λ row. nat_le least (count_at counts row)) (length counts))

module _ (n : ℕ) (people : Headcount) (count : CountPeople n people) where
  -- a row's number is guarded against one who knows those of some others exactly if the row isn't an unguarded one
  pub few_by_rows : (own : List ℕ) (row : ℕ) → length own ≤ people.own → AreFew people own (row ∷ []) ↔ (has_row (unguarded people own) row ≡ false)
  few_by_rows [] row most =
      let by = not_crowded (people.fewest + people.own) people.counts row (omega (arith, count.fewest)) in
      (λ few. by.1 (omega (arith, few)), λ out. let less = by.0 out in omega (arith, less))
  few_by_rows (q ∷ []) row most =
      let by = not_crowded people.fewest people.counts row count.fewest in
      (λ few. by.1 (omega (arith, few, most, count.own)), λ out. let less = by.0 out in omega (arith, less, most, count.own))
  few_by_rows (q ∷ p ∷ own) row most = absurd (omega (arith, most, count.own))

  -- a row stands for no more than one person exactly if it isn't one of several
  pub one_by_rows : (row : ℕ) → (count_at people.counts row ≤ 1) ↔ (has_row (several_in people) row ≡ false)
  one_by_rows row =
      let by = not_crowded 2 people.counts row (omega arith) in
      (λ one. by.1 (omega (arith, one)), λ out. let less = by.0 out in omega (arith, less))

  -- a row of one person is guarded
  pub one_is_few : (own : List ℕ) (row : ℕ) → length own ≤ people.own → count_at people.counts row ≤ 1 → AreFew people own (row ∷ [])
  one_is_few own row most one = omega (arith, most, one, count.fewest)

  -- somebody stands behind each row
  pub somebody_behind : (row : ℕ) → 0 < count_at people.counts row
  somebody_behind row = elim (cases_lt row (length people.counts)) [
    | inl below ↦ all-get_or (λ count. 0 < count) people.counts row 1 count.somebody below
    | inr beyond ↦ omega (arith, count_beyond people.counts row (omega (arith, beyond)))
  ]
