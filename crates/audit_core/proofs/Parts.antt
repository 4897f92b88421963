-- The rows of a longer table in two parts: those that were there, and those that came later.
use Rattle.std.proofs.Common.{◌≡◌, ℕ, ◌+◌, ◌<◌, ◌≤◌, Bool, true, false, ◌||◌, ◌==◌, List, [], ◌∷◌, ◌++◌, ℤ, refl, sym, ap, ◌∙◌, subst, arith, inl, inr, ◌⊎◌, length, length-append}
use Rattle.std.specs.Prelude.{◌+ℤ◌}
use Rattle.std.specs.List.{AllByRecursion}
use Rattle.std.proofs.lemmas.Bool.{cases_lt, or_cases, or_right, true≢false}
use Rattle.std.proofs.lemmas.List.Folds.{list_any-append}
use Rattle.audit_types.specs.Rows.{AscendsFrom, has_row, rows_that}
use Rattle.audit_types.specs.RowLaws.{has_first, rows_that_agree, rows-again}
use Rattle.audit_types.specs.SumLaws.{sum_over-append}
use Rattle.audit_types.specs.Truth.{number_at, sum_over}
use Rattle.audit_types.specs.WalkLaws.{first_or_later, has_later}

-- rows of a table of n rows, none of them below m
abbrev pub AreFrom : ℕ → ℕ → List ℕ → Type 0
AreFrom m n rows = AllByRecursion (λ r. (m ≤ r) × (r < n)) rows

-- the rows below m, and those from it on
pub record Parts (m low n : ℕ) (rows : List ℕ) : Type 0 where
  pub old : List ℕ
  pub new : List ℕ
  pub are : rows ≡ old ++ new
  pub below : AscendsFrom low m old
  pub from : AreFrom m n new

all_from : (m low n : ℕ) (rows : List ℕ) → m ≤ low → AscendsFrom low n rows → AreFrom m n rows
all_from m low n [] le are = tt
all_from m low n (r ∷ rows) le are = ((omega (arith, are.0, le), are.1), all_from m (r + 1) n rows (omega (arith, are.0, le)) are.2)

pub parts : (m low n : ℕ) (rows : List ℕ) → AscendsFrom low n rows → Parts m low n rows
parts m low n [] are = record { old = []; new = []; are = refl; below = tt; from = tt }
parts m low n (r ∷ rows) are = elim (cases_lt r m) [
  | inl lt ↦
      let rest = parts m (r + 1) n rows are.2 in
      record { old = r ∷ rest.old; new = rest.new; are = ap (λ l. r ∷ l) rest.are; below = (are.0, lt, rest.below); from = rest.from }
  | inr ge ↦ record { old = []; new = r ∷ rows; are = refl; below = tt; from = ((ge, are.1), all_from m (r + 1) n rows (omega (arith, ge)) are.2) }
]

-- no rows have no part
pub no_part : (m low n : ℕ) (are : AscendsFrom low n []) → (parts m low n [] are).old ≡ []
unfolding parts
no_part m low n are = refl

-- what is so of all rows is so of each
pub all_has : (P : ℕ → Type 0) (rows : List ℕ) → AllByRecursion P rows → (r : ℕ) → has_row rows r ≡ true → P r
all_has P [] all r there = absurd (true≢false (sym there))
all_has P (q ∷ rows) all r there = elim (first_or_later q r rows there) [
  | inl same ↦ subst P same all.0
  | inr later ↦ all_has P rows all.1 r later
]

-- a row of the second part is no row before m
pub new_from : (m n : ℕ) (rows : List ℕ) → AreFrom m n rows → (r : ℕ) → has_row rows r ≡ true → m ≤ r
new_from m n rows from r there = (all_has (λ q. (m ≤ q) × (q < n)) rows from r there).0

-- one of the rows isn't among some others, or all are
pub one_out_or_all : (own rows : List ℕ) → ((r : ℕ) × (has_row rows r ≡ true) × (has_row own r ≡ false)) ⊎ AllByRecursion (λ r. has_row own r ≡ true) rows
one_out_or_all own [] = inr tt
one_out_or_all own (r ∷ rows) = by (has_row own r) refl (one_out_or_all own rows)
  where
    by : (b : Bool) → has_row own r ≡ b → ((q : ℕ) × (has_row rows q ≡ true) × (has_row own q ≡ false)) ⊎ AllByRecursion (λ q. has_row own q ≡ true) rows →
        ((q : ℕ) × (has_row (r ∷ rows) q ≡ true) × (has_row own q ≡ false)) ⊎ AllByRecursion (λ q. has_row own q ≡ true) (r ∷ rows)
    by false out rest = inl (r, has_first r rows, out)
    by true among (inl found) = inl (found.0, has_later r found.0 rows found.1, found.2)
    by true among (inr all) = inr (among, all)

-- numbers that are the same at some rows have the same total
pub same_total : (w v : List ℤ) (rows : List ℕ) → AllByRecursion (λ r. number_at v r ≡ number_at w r) rows → sum_over v rows ≡ sum_over w rows
same_total w v [] all = refl
same_total w v (r ∷ rows) all = ap (λ z. z +ℤ sum_over v rows) all.0 ∙ ap (λ z. number_at w r +ℤ z) (same_total w v rows all.1)

module _ (m n : ℕ) (rows : List ℕ) (halves : Parts m 0 n rows) where
  has_either : (r : ℕ) → has_row rows r ≡ (has_row halves.old r || has_row halves.new r)
  has_either r = ap (λ l. has_row l r) halves.are ∙ list_any-append (λ x. x == r) halves.old halves.new

  -- a row of one part is one of the rows
  pub from_old : (r : ℕ) → has_row halves.old r ≡ true → has_row rows r ≡ true
  from_old r there = has_either r ∙ ap (λ b. b || has_row halves.new r) there

  pub from_new : (r : ℕ) → has_row halves.new r ≡ true → has_row rows r ≡ true
  from_new r there = has_either r ∙ or_right (has_row halves.old r) (has_row halves.new r) there

  -- and each row is of one part
  pub either : (r : ℕ) → has_row rows r ≡ true → (has_row halves.old r ≡ true) ⊎ (has_row halves.new r ≡ true)
  either r there = or_cases (has_row halves.old r) (has_row halves.new r) (sym (has_either r) ∙ there)

  -- a row that isn't there is in no part
  pub not_old : (r : ℕ) → has_row rows r ≡ false → has_row halves.old r ≡ false
  not_old r out = by (has_row halves.old r) refl
    where
      by : (b : Bool) → has_row halves.old r ≡ b → has_row halves.old r ≡ false
      by false e = e
      by true e = absurd (true≢false (sym (from_old r e) ∙ out))

  -- the first part are the rows below m
  pub old_are : rows_that (has_row rows) m ≡ halves.old
  old_are =
      rows_that_agree (has_row rows) (has_row halves.old) m (λ r lt. by r lt (has_row rows r) refl (has_row halves.old r) refl)
      ∙ rows-again m halves.old halves.below
    where
      by : (r : ℕ) → r < m → (b : Bool) → has_row rows r ≡ b → (a : Bool) → has_row halves.old r ≡ a → has_row rows r ≡ has_row halves.old r
      by r lt b e true there = from_old r there ∙ sym there
      by r lt false e false out = e ∙ sym out
      by r lt true e false out = elim (either r e) [
        | inl there ↦ e ∙ sym there
        | inr new ↦ absurd (let from = new_from m n halves.new halves.from r new in omega (arith, lt, from))
      ]

  pub fewer : length halves.old ≤ length rows
  fewer = omega (arith, ap length halves.are, length-append halves.old halves.new)

  -- the total over the rows is that over the first part and that over the other one
  pub total_of_parts : (w : List ℤ) → sum_over w rows ≡ sum_over w halves.old +ℤ sum_over w halves.new
  total_of_parts w = ap (sum_over w) halves.are ∙ sum_over-append w halves.old halves.new
