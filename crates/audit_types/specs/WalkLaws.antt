-- Laws of walks over the rows of a set, row by row, and of the rows that a list has.
use Rattle.std.proofs.Common.{◌≡◌, ◌≢◌, ℕ, ◌+◌, ◌<◌, ◌≤◌, true, false, ◌||◌, ◌==◌, List, [], ◌∷◌, ◌++◌, refl, sym, ap, ◌∙◌, subst, arith, inl, inr, ◌⊎◌}
use Rattle.std.proofs.lemmas.List.Folds.{list_any-append}
use Rattle.std.proofs.lemmas.Bool.{or_cases, or_left, or_right, eqb-true, eq-eqb, ne_eqb, cases_lt, true≢false}
use Rattle.audit_types.specs.Rows.{has_row, AscendsFrom, AreRows}
use Rattle.audit_types.specs.RowLaws.{ascends_more}

-- ---- a list with one row more

-- whether it has a row
pub has_more : (rows : List ℕ) (r q : ℕ) → has_row (rows ++ r ∷ []) q ≡ (has_row rows q || ((r == q) || false))
has_more rows r q = list_any-append (λ x. x == q) rows (r ∷ [])

-- a row of it is one of the list, or the last
pub has-push : (rows : List ℕ) (r q : ℕ) → has_row (rows ++ r ∷ []) q ≡ true → (has_row rows q ≡ true) ⊎ (r ≡ q)
has-push rows r q there = elim (or_cases (has_row rows q) ((r == q) || false) (sym (has_more rows r q) ∙ there)) [
  | inl front ↦ inl front
  | inr last ↦ elim (or_cases (r == q) false last) [ inl same ↦ inr (eqb-true r q same) | inr none ↦ absurd (true≢false (sym none)) ]
]

-- the rows before are still there
pub has-front : (rows : List ℕ) (r q : ℕ) → has_row rows q ≡ true → has_row (rows ++ r ∷ []) q ≡ true
has-front rows r q there = has_more rows r q ∙ or_left (has_row rows q) ((r == q) || false) there

-- and so is the last
pub has-last : (rows : List ℕ) (r : ℕ) → has_row (rows ++ r ∷ []) r ≡ true
has-last rows r = has_more rows r r ∙ or_right (has_row rows r) ((r == r) || false) (or_left (r == r) false (eq-eqb r r refl))

-- ---- a list with a row before it

-- the rows after the first are there
pub has_later : (x r : ℕ) (rows : List ℕ) → has_row rows r ≡ true → has_row (x ∷ rows) r ≡ true
has_later x r rows there = or_right (x == r) (has_row rows r) there

-- a row of a list is its first or a later one
pub first_or_later : (x r : ℕ) (rows : List ℕ) → has_row (x ∷ rows) r ≡ true → (x ≡ r) ⊎ (has_row rows r ≡ true)
first_or_later x r rows there = elim (or_cases (x == r) (has_row rows r) there) [ inl e ↦ inl (eqb-true x r e) | inr later ↦ inr later ]

-- ---- ascending rows

-- what a list ascends below, its rows are below
pub below_end : (low n : ℕ) (rows : List ℕ) (r : ℕ) → AscendsFrom low n rows → has_row rows r ≡ true → r < n
below_end low n [] r are there = absurd (true≢false (sym there))
below_end low n (x ∷ rows) r are there = elim (first_or_later x r rows there) [
  | inl e ↦ let below = are.1 in omega arith
  | inr later ↦ below_end (x + 1) n rows r are.2 later
]

-- the rows of a table are below their number
pub row_within : (n : ℕ) (rows : List ℕ) (r : ℕ) → AreRows n rows → has_row rows r ≡ true → r < n
row_within n rows r are there = below_end 0 n rows r are there

-- what a list has that ascends from a row is not before it
pub row_from : (low n : ℕ) (rows : List ℕ) (r : ℕ) → AscendsFrom low n rows → has_row rows r ≡ true → low ≤ r
row_from low n rows r ascends there = elim (cases_lt r low) [
  | inl less ↦ absurd (true≢false (sym there ∙ ascends_more low n rows ascends r less))
  | inr late ↦ late
]

-- a row in the middle of ascending rows is not below them
pub from_low : (low n : ℕ) (before later : List ℕ) (r : ℕ) → AscendsFrom low n (before ++ r ∷ later) → low ≤ r
from_low low n [] later r h = h.0
from_low low n (x ∷ before) later r h = let after = from_low (x + 1) n before later r h.2 in omega (arith, h.0)

-- and not among those before it
pub not_before : (low n : ℕ) (before later : List ℕ) (r : ℕ) → AscendsFrom low n (before ++ r ∷ later) → has_row before r ≡ false
not_before low n [] later r h = refl
not_before low n (x ∷ before) later r h =
    let after = from_low (x + 1) n before later r h.2 in
    let apart : (x == r) ≡ false = ne_eqb x r (λ e. omega arith) in
    let rest = not_before (x + 1) n before later r h.2 in
    rw (apart, rest) refl

-- ---- a walk: the rows so far, and those that are left

-- the rows so far are rows of the set
pub of_walk : (yielded left rows : List ℕ) (q : ℕ) → yielded ++ left ≡ rows → has_row yielded q ≡ true → has_row rows q ≡ true
of_walk yielded left rows q together there =
    subst (λ (l : List ℕ). has_row l q ≡ true) together (list_any-append (λ x. x == q) yielded left ∙ or_left (has_row yielded q) (has_row left q) there)

-- and so is the next one
pub next_of_walk : (yielded left later rows : List ℕ) (r : ℕ) → yielded ++ left ≡ rows → left ≡ r ∷ later → has_row rows r ≡ true
next_of_walk yielded left later rows r together first =
    subst (λ (l : List ℕ). has_row l r ≡ true) (ap (λ xs. yielded ++ xs) (sym first) ∙ together)
    (list_any-append (λ x. x == r) yielded (r ∷ later) ∙ or_right (has_row yielded r) ((r == r) || has_row later r)
    (or_left (r == r) (has_row later r) (eq-eqb r r refl)))

-- which is none of those before it
pub apart_from : (n : ℕ) (yielded left later rows : List ℕ) (r q : ℕ) → AreRows n rows → yielded ++ left ≡ rows → left ≡ r ∷ later →
    has_row yielded q ≡ true → q ≢ r
apart_from n yielded left later rows r q are together first there same =
    let ascends : AscendsFrom 0 n (yielded ++ r ∷ later) = subst (AreRows n) (sym (ap (λ xs. yielded ++ xs) (sym first) ∙ together)) are in
    true≢false (sym there ∙ ap (has_row yielded) same ∙ not_before 0 n yielded later r ascends)
