-- The rows between two places of an order: walked, and as the first rows of one count without those of another.
use Rattle.std.proofs.Common.{◌≡◌, ℕ, zero, suc, ◌+◌, ◌-◌, ◌*◌, ◌<◌, ◌≤◌, Bool, true, false, ◌&&◌, ◌||◌, not, List, [], ◌∷◌, ◌++◌, length, take, drop, get_or, refl, sym, ap, ◌∙◌, arith, inl, inr, All, IsPermutation, length-append, take-append-drop, take-add, get_or-take, get_or-drop, length-take, length-drop}
use Rattle.std.proofs.Math.Bool.{or-false}
use Rattle.std.proofs.lemmas.Bool.{false≢true, or_cases, eqb-true, cases_lt}
use Rattle.std.proofs.lemmas.Bool.Decides.{nat_tests}
use Rattle.std.specs.Prelude.{◌==◌}
use Rattle.std.proofs.lemmas.List.Folds.{list_any-append, list_any_more}
use Rattle.std.proofs.lemmas.List.Sorted.{list_any-IsPermutation, All-permutation}
use Rattle.std.proofs.lemmas.List.Elements.{All-drop, All-nil, All-push, All-take, All-weaker}
use Rattle.std.proofs.lemmas.List.{get_or_append_left, get_or_push}
use Rattle.audit_types.specs.Rows.{Rows, has_row, rows_that, intersection, union, complement, with_row, AreRows}
use Rattle.audit_types.specs.RowLaws.{rows_that_agree, has-rows_that, rows_that_none, rows-again, AreRows-rows_that}
use Rattle.set_index.specs.Marks.{first_rows}
use Rattle.set_index.specs.Ranges.{IsRange}
use Rattle.set_index.proofs.Sets.{complement_of, both_of}

-- what each element of a list answers, a row of the list answers
alike : (test : ℕ → Bool) (b : Bool) (xs : List ℕ) (r : ℕ) → ((k : ℕ) → k < length xs → test (get_or xs k 0) ≡ b) → has_row xs r ≡ true → test r ≡ b
alike test b [] r all there = absurd (false≢true there)
alike test b (x ∷ xs) r all there = elim (or_cases (x == r) (has_row xs r) there) [
  | inl e ↦ ap test (sym (eqb-true x r e)) ∙ all 0 (omega arith)
  | inr later ↦ alike test b xs r (λ k h. all (suc k) (omega arith)) later
]

-- the rows from one place up to another
abbrev pub part : List ℕ → ℕ → ℕ → List ℕ
part order from to = take (to - from) (drop from order)

-- the first rows of a count are those of a smaller one and the rows between
has-take : (order : List ℕ) (from to r : ℕ) → from ≤ to → has_row (take to order) r ≡ (has_row (take from order) r || has_row (part order from to) r)
has-take order from to r le =
    let split : from + (to - from) ≡ to = omega arith in
    ap (λ k. has_row (take k order) r) (sym split) ∙ ap (λ xs. has_row xs r) (take-add from (to - from) order)
    ∙ list_any-append (λ x. x == r) (take from order) (part order from to)

-- all rows are the first ones and the rest
has-order : (order : List ℕ) (to r : ℕ) → has_row order r ≡ (has_row (take to order) r || has_row (drop to order) r)
has-order order to r = ap (λ xs. has_row xs r) (sym (take-append-drop to order)) ∙ list_any-append (λ x. x == r) (take to order) (drop to order)

-- ---- if the rows that pass stand between two places

before_fails : (test : ℕ → Bool) (order : List ℕ) (from to r : ℕ) → IsRange test order from to → has_row (take from order) r ≡ true → test r ≡ false
before_fails test order from to r range =
    alike test false (take from order) r (λ k h.
    let low : k < from = omega (arith, length-take from order) in
    ap test (get_or-take from order k 0 low) ∙ range.before k 0 (omega arith) low)

inside_passes : (test : ℕ → Bool) (order : List ℕ) (from to r : ℕ) → IsRange test order from to → has_row (part order from to) r ≡ true → test r ≡ true
inside_passes test order from to r range =
    alike test true (part order from to) r (λ k h.
    let low : k < to - from = omega (arith, length-take (to - from) (drop from order)) in
    ap test (get_or-take (to - from) (drop from order) k 0 low ∙ get_or-drop from order k 0) ∙ range.inside (from + k) 0 (omega arith) (omega arith))

after_fails : (test : ℕ → Bool) (order : List ℕ) (from to r : ℕ) → IsRange test order from to → has_row (drop to order) r ≡ true → test r ≡ false
after_fails test order from to r range =
    alike test false (drop to order) r (λ k h.
    ap test (get_or-drop to order k 0) ∙ range.after (to + k) 0 (omega arith) (omega (arith, length-drop to order)))

-- one of three places holds a row, and says how it is tested
walked_row : (t front mid back : Bool) → (front || mid) || back ≡ true → (front ≡ true → t ≡ false) → (mid ≡ true → t ≡ true) → (back ≡ true → t ≡ false) →
    mid ≡ t
walked_row t front true back one f m b = sym (m refl)
walked_row t true false back one f m b = sym (f refl)
walked_row t false false true one f m b = sym (b refl)
walked_row t false false false one f m b = absurd (false≢true one)

left_row : (t front mid back : Bool) → (front || mid) || back ≡ true → (front ≡ true → t ≡ false) → (mid ≡ true → t ≡ true) → (back ≡ true → t ≡ false) →
    (not front && (front || mid)) ≡ t
left_row t true mid back one f m b = sym (f refl)
left_row t false true back one f m b = sym (m refl)
left_row t false false true one f m b = sym (b refl)
left_row t false false false one f m b = absurd (false≢true one)

one_of : (n : ℕ) (order : List ℕ) (from to r : ℕ) → IsPermutation (rows_that (λ q. true) n) order → from ≤ to → r < n →
    ((has_row (take from order) r || has_row (part order from to) r) || has_row (drop to order) r) ≡ true
one_of n order from to r once le low =
    ap (λ b. b || has_row (drop to order) r) (sym (has-take order from to r le)) ∙ sym (has-order order to r)
    ∙ sym (list_any-IsPermutation (λ x. x == r) (rows_that (λ q. true) n) order once) ∙ has-rows_that (λ q. true) n r low

-- a walk over the part finds them
pub range_walked : (n : ℕ) (order : List ℕ) (from to : ℕ) (test : ℕ → Bool) → IsPermutation (rows_that (λ q. true) n) order → from ≤ to →
    IsRange test order from to → union n [] (part order from to) ≡ rows_that test n
range_walked n order from to test once le range =
    rows_that_agree (has_row (part order from to)) test n (λ r low.
    walked_row (test r) (has_row (take from order) r) (has_row (part order from to) r) (has_row (drop to order) r) (one_of n order from to r once le low)
    (before_fails test order from to r range) (inside_passes test order from to r range) (after_fails test order from to r range))

-- and so do the first rows of the greater count without those of the smaller
pub range_left : (n : ℕ) (order : List ℕ) (from to : ℕ) (test : ℕ → Bool) → IsPermutation (rows_that (λ q. true) n) order → from ≤ to →
    IsRange test order from to → intersection n (complement n (first_rows n order from)) (first_rows n order to) ≡ rows_that test n
range_left n order from to test once le range =
    ap (λ xs. intersection n xs (first_rows n order to)) (complement_of n (has_row (take from order)))
    ∙ both_of n (λ r. not (has_row (take from order) r)) (has_row (take to order))
    ∙ rows_that_agree (λ r. not (has_row (take from order) r) && has_row (take to order) r) test n (λ r low.
    ap (λ b. not (has_row (take from order) r) && b) (has-take order from to r le)
    ∙ left_row (test r) (has_row (take from order) r) (has_row (part order from to) r) (has_row (drop to order) r) (one_of n order from to r once le low)
    (before_fails test order from to r range) (inside_passes test order from to r range) (after_fails test order from to r range))

-- ---- the sets of the first rows

pub first_none : (n : ℕ) (order : List ℕ) → first_rows n order 0 ≡ []
first_none n order = rows_that_none (λ r. false) n (λ r low. refl)

-- the first rows of a count are those of a smaller one, with the rows between added
pub first_more : (n : ℕ) (order : List ℕ) (from to : ℕ) → from ≤ to → union n (first_rows n order from) (part order from to) ≡ first_rows n order to
first_more n order from to le =
    rows_that_agree (λ r. has_row (first_rows n order from) r || has_row (part order from to) r) (has_row (take to order)) n (λ r low.
    ap (λ b. b || has_row (part order from to) r) (has-rows_that (has_row (take from order)) n r low) ∙ sym (has-take order from to r le))

-- if the rows that pass are the first ones
pub range_first : (n : ℕ) (order : List ℕ) (to : ℕ) (test : ℕ → Bool) → IsPermutation (rows_that (λ q. true) n) order → IsRange test order 0 to →
    first_rows n order to ≡ rows_that test n
range_first n order to test once range =
    sym (first_more n order 0 to (omega arith)) ∙ ap (λ xs. union n xs (part order 0 to)) (first_none n order)
    ∙ range_walked n order 0 to test once (omega arith) range

rest_passes : (test : ℕ → Bool) (order : List ℕ) (from r : ℕ) → IsRange test order from (length order) → has_row (drop from order) r ≡ true → test r ≡ true
rest_passes test order from r range =
    alike test true (drop from order) r (λ k h.
    ap test (get_or-drop from order k 0) ∙ range.inside (from + k) 0 (omega arith) (omega (arith, length-drop from order)))

rest_row : (t front back : Bool) → (front || back) ≡ true → (front ≡ true → t ≡ false) → (back ≡ true → t ≡ true) → not front ≡ t
rest_row t true back one f b = sym (f refl)
rest_row t false true one f b = sym (b refl)
rest_row t false false one f b = absurd (false≢true one)

-- and if they are all but the first ones
pub range_rest : (n : ℕ) (order : List ℕ) (from : ℕ) (test : ℕ → Bool) → IsPermutation (rows_that (λ q. true) n) order →
    IsRange test order from (length order) → complement n (first_rows n order from) ≡ rows_that test n
range_rest n order from test once range =
    complement_of n (has_row (take from order))
    ∙ rows_that_agree (λ r. not (has_row (take from order) r)) test n (λ r low.
    rest_row (test r) (has_row (take from order) r) (has_row (drop from order) r)
    (sym (has-order order from r) ∙ sym (list_any-IsPermutation (λ x. x == r) (rows_that (λ q. true) n) order once) ∙ has-rows_that (λ q. true) n r low)
    (before_fails test order from (length order) r range) (rest_passes test order from r range))

same_row : (a b : ℕ) → (a == b) ≡ (b == a)
same_row a b = grind (arith, nat_tests)

joined : (a b c d : Bool) → c ≡ d → ((a || b) || c) ≡ (a || (b || d))
joined true b c d e = refl
joined false true c d e = refl
joined false false c d e = e

-- a step of a walk over a list
pub added_more : (n : ℕ) (old list : List ℕ) (i row : ℕ) → i < length list → row ≡ get_or list i 0 →
    with_row n (union n old (take i list)) row ≡ union n old (take (i + 1) list)
added_more n old list i row low is =
    rows_that_agree (λ r. has_row (union n old (take i list)) r || (r == row)) (λ r. has_row old r || has_row (take (i + 1) list) r) n (λ r below.
    ap (λ b. b || (r == row)) (has-rows_that (λ q. has_row old q || has_row (take i list) q) n r below)
    ∙ joined (has_row old r) (has_row (take i list) r) (r == row) (get_or list i 0 == r) (same_row r row ∙ ap (λ x. x == r) is)
    ∙ ap (λ b. has_row old r || b) (sym (list_any_more (λ x. x == r) list i 0 low)))

-- nothing is added at the start
pub added_none : (n : ℕ) (old : List ℕ) → AreRows n old → union n old [] ≡ old
added_none n old are =
    rows_that_agree (λ r. has_row old r || false) (has_row old) n (λ r low. or-false (has_row old r)) ∙ rows-again n old are

-- ---- the rows of a table are below its number of rows

all_below : (n : ℕ) → All (λ r. r < n) (rows_that (λ r. true) n)
unfolding rows_that
all_below zero = All-nil (λ r. r < 0)
all_below (suc n) =
    All-push (λ r. r < suc n) (rows_that (λ r. true) n) n
    (All-weaker (λ r. r < n) (λ r. r < suc n) (λ r low. omega arith) (rows_that (λ r. true) n) (all_below n)) (omega arith)

pub part_below : (n : ℕ) (order : List ℕ) (from to : ℕ) → IsPermutation (rows_that (λ r. true) n) order → All (λ r. r < n) (part order from to)
part_below n order from to once =
    All-take (λ r. r < n) (to - from) (drop from order)
    (All-drop (λ r. r < n) from order (All-permutation (λ r. r < n) (rows_that (λ r. true) n) order once (all_below n)))

pub first_are_rows : (n : ℕ) (order : List ℕ) (count : ℕ) → AreRows n (first_rows n order count)
first_are_rows n order count = AreRows-rows_that (has_row (take count order)) n

-- an empty set that takes over one of the first rows has them
pub first_taken : (n m : ℕ) (order old new : List ℕ) (mark : Rows) (count : ℕ) → mark ≡ record { n = n; list = first_rows n order count } → m ≡ n →
    old ≡ [] → new ≡ union m old mark.list → new ≡ first_rows n order count
first_taken n m order old new mark count is same empty taken =
    taken ∙ ap (λ k. union k old mark.list) same ∙ ap (λ xs. union n xs mark.list) empty ∙ ap (λ (r : Rows). union n [] r.list) is
    ∙ rows-again n (first_rows n order count) (first_are_rows n order count)

-- ---- the sets that are kept

-- each of the sets is that of the first 16 k rows
abbrev pub Hold : ℕ → List ℕ → List Rows → Type 0
Hold n order marks = (k : ℕ) (d : Rows) → k < length marks → get_or marks k d ≡ record { n = n; list = first_rows n order (16 * k) }

-- one set more
pub hold_more : (n : ℕ) (order : List ℕ) (marks new : List Rows) (mark : Rows) (k : ℕ) → Hold n order marks → length marks ≡ k →
    mark ≡ record { n = n; list = first_rows n order (16 * k) } → new ≡ marks ++ mark ∷ [] → Hold n order new
hold_more n order marks new mark k held long is more j d low = elim (cases_lt j (length marks)) [
  | inl l ↦ ap (λ xs. get_or xs j d) more ∙ get_or_append_left marks (mark ∷ []) d j l ∙ held j d l
  | inr h ↦
      let last : j ≡ k = omega (arith, simp length-append at (ap length more)) in
      ap (λ xs. get_or xs j d) more ∙ get_or_push marks mark d j (omega arith) ∙ is ∙ ap (λ i. record { n = n; list = first_rows n order (16 * i) }) (sym last)
]

-- the first of the sets
pub hold_first : (n : ℕ) (order : List ℕ) (new : List Rows) (mark : Rows) → mark ≡ record { n = n; list = first_rows n order 0 } → new ≡ mark ∷ [] →
    Hold n order new
hold_first n order new mark is one = hold_more n order [] new mark 0 (λ k d low. absurd (omega arith)) refl is one

abbrev set_with : ℕ → List ℕ → Rows
set_with n list = record { n = n; list = list }

-- a set by its parts
pub rows_are : (set : Rows) (n : ℕ) (list : List ℕ) → set.n ≡ n → set.list ≡ list → set ≡ record { n = n; list = list }
rows_are set n list p q = ap (λ m. set_with m set.list) p ∙ ap (set_with n) q
