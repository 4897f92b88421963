-- Walks over the rows of a set, row by row.
use Rattle.std.proofs.Common.{◌≡◌, ℕ, ◌+◌, ◌≤◌, Bool, true, false, cond, not, ◌||◌, ◌==◌, ℤ, List, [], ◌∷◌, ◌++◌, length, length-append, refl, sym, ap, ◌∙◌, subst, arith, inl, inr, append-nil, Option, Some, None}
use Rattle.std.specs.Option.{option_eq, is_some}
use Rattle.std.specs.Ordering.{int_eq}
use Rattle.std.specs.List.{filter}
use Rattle.std.proofs.lemmas.List.Elements.{filter-append}
use Rattle.std.proofs.lemmas.List.Filters.{length-filter_both}
use Rattle.std.proofs.lemmas.List.Folds.{list_any-append}
use Rattle.std.proofs.lemmas.Bool.{or_left, cases_lt}
use Rattle.std.proofs.lemmas.Bool.Decides.{nat_tests, Decides-int_eq}
use Rattle.audit_types.specs.Rows.{has_row, with_row, AscendsFrom, AreRows}
use Rattle.audit_types.specs.RowLaws.{ascending_same, AreRows-rows_that, has-rows_that, has-rows_that_above, none_above, walk_more}
use Rattle.audit_types.specs.WalkLaws.{has_more, not_before}
use Rattle.max_bounds.specs.OneMoreLaws.{filters_agree_on}
use Rattle.max_bounds.specs.RowListLaws.{filter-ascends}

-- the first rows of an ascending list ascend
pub ascends_front : (low n : ℕ) (rows later : List ℕ) → AscendsFrom low n (rows ++ later) → AscendsFrom low n rows
ascends_front low n [] later h = tt
ascends_front low n (r ∷ rows) later h = (h.0, h.1, ascends_front (r + 1) n rows later h.2)

-- a filter, with one row more
pub filter-push : (test : ℕ → Bool) (rows : List ℕ) (r : ℕ) (b : Bool) → test r ≡ b → filter test (rows ++ r ∷ []) ≡ filter test rows ++ cond b (r ∷ []) []
filter-push test rows r b is = filter-append test rows (r ∷ []) ∙ ap (λ t. filter test rows ++ cond t (r ∷ []) []) is

-- a test of equality, turned
turned : (r k : ℕ) → (k == r) ≡ ((r == k) || false)
turned r k = grind (arith, nat_tests)

-- a row after all others is added after them
pub added_last : (n : ℕ) (rows later : List ℕ) (r : ℕ) → AreRows n (rows ++ r ∷ []) → with_row n rows r ≡ rows ++ r ∷ []
added_last n rows later r are =
    ascending_same 0 n n (with_row n rows r) (rows ++ r ∷ []) (AreRows-rows_that (λ k. has_row rows k || (k == r)) n) are (λ k. elim (cases_lt k n) [
      | inl below ↦ has-rows_that (λ q. has_row rows q || (q == r)) n k below ∙ ap (λ b. has_row rows k || b) (turned r k) ∙ sym (has_more rows r k)
      | inr above ↦ has-rows_that_above (λ q. has_row rows q || (q == r)) n k above ∙ sym (none_above 0 n (rows ++ r ∷ []) are k above)
    ])

-- a row that passes joins those that passed
pub joined_if : (n : ℕ) (test : ℕ → Bool) (yielded later rows : List ℕ) (r : ℕ) → AreRows n rows → (yielded ++ r ∷ []) ++ later ≡ rows →
    cond (test r) (with_row n (filter test yielded) r) (filter test yielded) ≡ filter test (yielded ++ r ∷ [])
joined_if n test yielded later rows r are together = by_test (test r) refl
  where
    front : AreRows n (yielded ++ r ∷ [])
    front = ascends_front 0 n (yielded ++ r ∷ []) later (subst (AreRows n) (sym together) are)

    by_test : (b : Bool) → test r ≡ b → cond (test r) (with_row n (filter test yielded) r) (filter test yielded) ≡ filter test (yielded ++ r ∷ [])
    by_test true is =
        let pushed = filter-push test yielded r true is in
        ap (λ t. cond t (with_row n (filter test yielded) r) (filter test yielded)) is
        ∙ added_last n (filter test yielded) later r (subst (AreRows n) pushed (filter-ascends 0 n test (yielded ++ r ∷ []) front)) ∙ sym pushed
    by_test false is =
        ap (λ t. cond t (with_row n (filter test yielded) r) (filter test yielded)) is
        ∙ sym (filter-push test yielded r false is ∙ append-nil (filter test yielded))

-- at the end of a walk all rows were seen
pub walk_ends : (yielded left rows : List ℕ) → yielded ++ left ≡ rows → left ≡ [] → yielded ≡ rows
walk_ends yielded left rows together none = sym (append-nil yielded) ∙ ap (λ l. yielded ++ l) (sym none) ∙ together

-- a row that comes was not seen
pub fresh : (n : ℕ) (yielded left later rows : List ℕ) (r : ℕ) → AreRows n rows → yielded ++ left ≡ rows → left ≡ r ∷ later → has_row yielded r ≡ false
fresh n yielded left later rows r are together first =
    not_before 0 n yielded later r (subst (AreRows n) (sym (ap (λ xs. yielded ++ xs) (sym first) ∙ together)) are)

-- a row that was seen is one of all
pub seen_before : (yielded left later rows : List ℕ) (r q : ℕ) → yielded ++ left ≡ rows → left ≡ r ∷ later → has_row (yielded ++ r ∷ []) q ≡ true →
    has_row rows q ≡ true
seen_before yielded left later rows r q together first there =
    subst (λ l. has_row l q ≡ true) (walk_more yielded left later rows r together first)
    (list_any-append (λ x. x == q) (yielded ++ r ∷ []) later ∙ or_left (has_row (yielded ++ r ∷ []) q) (has_row later q) there)

-- bounds that a test finds equal
pub equal_bounds : (o p : Option ℤ) → option_eq int_eq o p ≡ true → o ≡ p
equal_bounds None None e = refl
equal_bounds None (Some c) e = absurd cc
equal_bounds (Some b) None e = absurd cc
equal_bounds (Some b) (Some c) e = ap Some ((Decides-int_eq b c).0 e)

-- and bounds that it finds different
pub other_bounds : (o p : Option ℤ) → option_eq int_eq o p ≡ false → o ≡ p → ⊥
other_bounds None None e same = absurd cc
other_bounds None (Some c) e same = absurd cc
other_bounds (Some b) None e same = absurd cc
other_bounds (Some b) (Some c) e same = let equal : b ≡ c = cc in absurd (let clash : true ≡ false = sym ((Decides-int_eq b c).1 equal) ∙ e in cc)

-- what is not some bound is none
pub without_bound : (o : Option ℤ) (free : Bool) → is_some o ≡ not free → free ≡ true → o ≡ None
without_bound None free e f = refl
without_bound (Some b) free e f = absurd (let clash : true ≡ false = e ∙ ap not f in cc)

-- a set that a row joins if it passes is what passed so far
pub joined : (n m : ℕ) (test : ℕ → Bool) (yielded later rows list after : List ℕ) (r : ℕ) (b : Bool) → AreRows n rows → (yielded ++ r ∷ []) ++ later ≡ rows →
    m ≡ n → list ≡ filter test yielded → b ≡ test r → after ≡ cond b (with_row m list r) list → after ≡ filter test (yielded ++ r ∷ [])
joined n m test yielded later rows list after r b are together same so_far passes is =
    is ∙ ap (λ k. cond b (with_row k list r) list) same ∙ ap (λ l. cond b (with_row n l r) l) so_far
    ∙ ap (λ t. cond t (with_row n (filter test yielded) r) (filter test yielded)) passes ∙ joined_if n test yielded later rows r are together

-- what passes is no more than all
shorter : (test : ℕ → Bool) (rows : List ℕ) → length (filter test rows) ≤ length rows
shorter test rows = let both = length-filter_both test (λ r. not (test r)) (λ r. refl) rows in omega arith

-- so is its count
pub filter-shorter : (test : ℕ → Bool) (rows : List ℕ) (count : ℕ) → count ≡ length (filter test rows) → count ≤ length rows
filter-shorter test rows count is = let less = shorter test rows in omega arith

-- a count of what passes, with a row that does
pub counted-push : (test : ℕ → Bool) (rows : List ℕ) (r count : ℕ) → count ≡ length (filter test rows) → test r ≡ true →
    count + 1 ≡ length (filter test (rows ++ r ∷ []))
counted-push test rows r count is passes =
    let longer = length-append (filter test rows) (r ∷ []) in
    let more : length (filter test (rows ++ r ∷ [])) ≡ length (filter test rows ++ r ∷ []) = ap length (filter-push test rows r true passes) in
    omega arith

-- and with one that does not
pub counted-same : (test : ℕ → Bool) (rows : List ℕ) (r count : ℕ) → count ≡ length (filter test rows) → test r ≡ false →
    count ≡ length (filter test (rows ++ r ∷ []))
counted-same test rows r count is fails = is ∙ ap length (sym (append-nil (filter test rows)) ∙ sym (filter-push test rows r false fails))

-- what passed so far is no more than what passes
pub no_more : (test : ℕ → Bool) (seen later rows : List ℕ) → seen ++ later ≡ rows → length (filter test seen) ≤ length (filter test rows)
no_more test seen later rows together =
    let apart : length (filter test rows) ≡ length (filter test seen ++ filter test later) = ap (λ l. length (filter test l)) (sym together)
    ∙ ap length (filter-append test seen later) in
    let longer = length-append (filter test seen) (filter test later) in
    omega arith

-- an empty list
pub empty : (rows : List ℕ) → length rows ≡ 0 → rows ≡ []
empty [] e = refl
empty (r ∷ rows) e = absurd (omega arith)

-- a filter that nothing passes
pub filter-none : (test : ℕ → Bool) (rows : List ℕ) → ((r : ℕ) → has_row rows r ≡ true → test r ≡ false) → filter test rows ≡ []
filter-none test rows fails = filters_agree_on test (λ r. false) rows fails ∙ nothing rows
  where
    nothing : (l : List ℕ) → filter (λ r. false) l ≡ []
    nothing [] = refl
    nothing (r ∷ l) = nothing l

-- and one that every row passes leaves all
pub filter-all : (test : ℕ → Bool) (rows : List ℕ) → ((r : ℕ) → has_row rows r ≡ true → test r ≡ true) → filter test rows ≡ rows
filter-all test rows passes = filters_agree_on test (λ r. true) rows passes ∙ all rows
  where
    all : (l : List ℕ) → filter (λ r. true) l ≡ l
    all [] = refl
    all (r ∷ l) = ap (λ k. r ∷ k) (all l)
