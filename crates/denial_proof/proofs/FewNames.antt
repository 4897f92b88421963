-- The order of names, and what a name says of the rows that it names.
use Rattle.std.proofs.Common.{◌≡◌, ◌≢◌, ℕ, ◌<◌, Bool, true, false, not, cond, ◌&&◌, ◌==◌, List, [], ◌∷◌, refl, sym, ap, ◌∙◌, subst, arith, inl, inr}
use Rattle.std.specs.Prelude.{Some}
use Rattle.std.proofs.lemmas.Bool.{and_parts, eqb-true, eq-eqb, not-true, lt-ltb, le-ltb, cases_lt}
use Rattle.audit_types.specs.Rows.{Rows, AreRows, has_row}
use Rattle.audit_types.specs.Headcount.{Headcount, CountPeople, several_in, beside_in}
use Rattle.audit_types.specs.HeadcountLaws.{few_by_rows, one_by_rows}
use Rattle.audit_types.specs.Column.{Answer}
use Rattle.audit_types.specs.Extremes.{extremes}
use Rattle.denial_proof.specs.declared.few_rows.FewRows.{FewRows}
use Rattle.denial_proof.specs.declared.few_rows.FewRows.TheVariants.{One, Beside, Several}
use Rattle.denial_proof.specs.FewRows.{in_order, named_rows, AreRowsNamed, IsBeside, is_beside, name_of, IsBefore, order_of, ComesBefore, IsFirstName, IsLeastFew}

-- ---- the order of lists

pub not_itself : (rows : List ℕ) → ¬ (IsBefore rows rows)
not_itself [] before = before
not_itself (a ∷ rows) before = elim before [ inl less ↦ omega (arith, less) | inr later ↦ not_itself rows later.1 ]

pub before_through : (xs ys zs : List ℕ) → IsBefore xs ys → IsBefore ys zs → IsBefore xs zs
before_through [] [] zs first second = absurd first
before_through [] (y ∷ ys) [] first second = absurd second
before_through [] (y ∷ ys) (z ∷ zs) first second = tt
before_through (x ∷ xs) [] zs first second = absurd first
before_through (x ∷ xs) (y ∷ ys) [] first second = absurd second
before_through (x ∷ xs) (y ∷ ys) (z ∷ zs) first second = elim first [
  | inl less ↦ elim second [ inl more ↦ inl (omega (arith, less, more)) | inr later ↦ inl (let same = later.0 in omega (arith, less, same)) ]
  | inr earlier ↦ elim second [
    | inl more ↦ inl (let same = earlier.0 in omega (arith, more, same))
    | inr later ↦ inr (earlier.0 ∙ later.0, before_through xs ys zs earlier.1 later.1)
  ]
]

-- of two lists one comes before the other, or they are one
pub neither_before : (xs ys : List ℕ) → ¬ (IsBefore xs ys) → ¬ (IsBefore ys xs) → xs ≡ ys
neither_before [] [] first second = refl
neither_before [] (y ∷ ys) first second = absurd (first tt)
neither_before (x ∷ xs) [] first second = absurd (second tt)
neither_before (x ∷ xs) (y ∷ ys) first second = elim (cases_lt x y) [
  | inl less ↦ absurd (first (inl less))
  | inr rest ↦ elim (cases_lt y x) [
    | inl more ↦ absurd (second (inl more))
    | inr most ↦
        let same : x ≡ y = omega (arith, rest, most) in
        ap (λ r. r ∷ xs) same ∙ ap (λ rows. y ∷ rows) (neither_before xs ys (λ later. first (inr (same, later))) (λ later. second (inr (sym same, later))))
  ]
]

-- ---- the order of names

-- several rows are those of a table of n rows
abbrev IsSized : ℕ → FewRows → Type 0
IsSized n (One row) = Unit {0}
IsSized n (Beside row own) = Unit {0}
IsSized n (Several rows) = rows.n ≡ n

name_sized : (n : ℕ) (people : Headcount) (rows : List ℕ) → IsSized n (name_of n people rows)
name_sized n people [] = refl
name_sized n people (a ∷ []) = tt
name_sized n people (a ∷ b ∷ []) = by (is_beside people a b) (is_beside people b a)
  where
    by : (x y : Bool) → IsSized n (cond x (Beside a b) (cond y (Beside b a) (Several (record { n = n; list = a ∷ b ∷ [] }))))
    by true y = tt
    by false true = tt
    by false false = refl
name_sized n people (a ∷ b ∷ c ∷ rows) = refl

-- names with one order are one
same_order : (n : ℕ) (a b : FewRows) → order_of a ≡ order_of b → IsSized n a → IsSized n b → a ≡ b
same_order n (One row) (One other) same here there = let is : row ≡ other = cc in ap (λ r. One r) is
same_order n (One row) (Beside other own) same here there = absurd cc
same_order n (One row) (Several others) same here there = absurd cc
same_order n (Beside row own) (One other) same here there = absurd cc
same_order n (Beside row own) (Beside other else) same here there =
    let rows : row ≡ other = cc in
    let owned : own ≡ else = cc in
    ap (λ r. Beside r own) rows ∙ ap (λ q. Beside other q) owned
same_order n (Beside row own) (Several others) same here there = absurd cc
same_order n (Several rows) (One other) same here there = absurd cc
same_order n (Several rows) (Beside other own) same here there = absurd cc
same_order n (Several rows) (Several others) same here there =
    let lists : rows.list ≡ others.list = cc in
    let made : ℕ → List ℕ → Rows = λ m list. record { n = m; list = list } in
    ap (λ r. Several r) (ap (λ m. made m rows.list) (here ∙ sym there) ∙ ap (λ list. made others.n list) lists)

-- there is one first name
pub one_first : (n : ℕ) (people : Headcount) (answers seen : List Answer) (a b : FewRows) → IsLeastFew n people answers seen a →
    IsLeastFew n people answers seen b → a ≡ b
one_first n people answers seen a b first second =
    same_order n a b
    (neither_before (order_of a) (order_of b)
    (subst (λ (f : FewRows). ¬ (ComesBefore f b)) first.named (second.least first.answer first.one first.are_few))
    (subst (λ (f : FewRows). ¬ (ComesBefore f a)) second.named (first.least second.answer second.one second.are_few)))
    (subst (IsSized n) first.named (name_sized n people (extremes answers first.answer)))
    (subst (IsSized n) second.named (name_sized n people (extremes answers second.answer)))

-- what is first of a name so far and another: neither is before it, and what is before it is before the old one
pub not_itself_first : (few first : FewRows) → first ≡ few → ¬ (ComesBefore few first)
not_itself_first few first same before = not_itself (order_of few) (subst (ComesBefore few) same before)

pub through_first : (old few first other : FewRows) → IsFirstName (Some old) few first → ComesBefore other first → ComesBefore other old
through_first old few first other is before = elim is [
  | inl (same, sooner) ↦ before_through (order_of other) (order_of few) (order_of old) (subst (ComesBefore other) same before) sooner
  | inr (same, later) ↦ subst (ComesBefore other) same before
]

pub not_before_first : (old few first : FewRows) → IsFirstName (Some old) few first → ¬ (ComesBefore few first)
not_before_first old few first is = elim is [
  | inl (same, sooner) ↦ not_itself_first few first same
  | inr (same, later) ↦ λ before. later (subst (ComesBefore few) same before)
]

-- ---- a row beside an asker's own

module _ (n : ℕ) (people : Headcount) (count : CountPeople n people) (row own : ℕ) where
  pub beside_from : is_beside people row own ≡ true → IsBeside people (Beside row own)
  beside_from test =
      let parts = and_parts (people.own == 1) (not (has_row (several_in people) own) && not (has_row (beside_in people) row)) test in
      let rows = and_parts (not (has_row (several_in people) own)) (not (has_row (beside_in people) row)) parts.1 in
      let inside = eqb-true people.own 1 parts.0 in (
        inside,
        (one_by_rows n people count own).1 (not-true (has_row (several_in people) own) rows.0),
        (few_by_rows n people count (own ∷ []) row (omega (arith, inside))).1 (not-true (has_row (beside_in people) row) rows.1),
      )

  pub beside_test : IsBeside people (Beside row own) → is_beside people row own ≡ true
  beside_test (inside, one, few) =
      let alone = (one_by_rows n people count own).0 one in
      let guarded = (few_by_rows n people count (own ∷ []) row (omega (arith, inside))).0 few in
      rw (eq-eqb people.own 1 inside, alone, guarded) refl

-- ---- how rows are named

-- two rows in their order
pub ascending_two : (a b : ℕ) → a < b → in_order a b ≡ a ∷ b ∷ []
ascending_two a b less = ap (λ t. cond t (a ∷ b ∷ []) (b ∷ a ∷ [])) (lt-ltb a b less)

pub descending_two : (a b : ℕ) → b < a → in_order a b ≡ b ∷ a ∷ []
descending_two a b less = ap (λ t. cond t (a ∷ b ∷ []) (b ∷ a ∷ [])) (le-ltb a b (omega (arith, less)))

-- a name of rows
pub record IsNameOf (n : ℕ) (people : Headcount) (rows : List ℕ) (few : FewRows) : Type 0 where
  pub named : named_rows few ≡ rows
  pub are_rows : AreRowsNamed n few
  pub beside : IsBeside people few

name_of_three : (n : ℕ) (people : Headcount) (rows : List ℕ) → AreRows n rows → rows ≢ [] → IsNameOf n people rows (Several (record { n = n; list = rows }))
name_of_three n people rows are some = record { named = refl; are_rows = record { same_n = refl; are_rows = are; some = some }; beside = tt }

pub name_is : (n : ℕ) (people : Headcount) → CountPeople n people → (rows : List ℕ) → AreRows n rows → rows ≢ [] →
    IsNameOf n people rows (name_of n people rows)
name_is n people count [] are some = absurd (some refl)
name_is n people count (a ∷ []) are some = record { named = refl; are_rows = are.1; beside = tt }
name_is n people count (a ∷ b ∷ []) are some = by (is_beside people a b) refl (is_beside people b a) refl
  where
    less : a < b
    less = let at = are.2.0 in omega arith

    by : (x : Bool) → is_beside people a b ≡ x → (y : Bool) → is_beside people b a ≡ y →
        IsNameOf n people (a ∷ b ∷ []) (cond x (Beside a b) (cond y (Beside b a) (Several (record { n = n; list = a ∷ b ∷ [] }))))
    by true first y second = record {
      named = ascending_two a b less;
      are_rows = (are.1, are.2.1, λ same. omega (arith, less, same));
      beside = beside_from n people count a b first;
    }
    by false first true second = record {
      named = descending_two b a less;
      are_rows = (are.2.1, are.1, λ same. omega (arith, less, same));
      beside = beside_from n people count b a second;
    }
    by false first false second = name_of_three n people (a ∷ b ∷ []) are some
name_is n people count (a ∷ b ∷ c ∷ rows) are some = name_of_three n people (a ∷ b ∷ c ∷ rows) are some

-- named rows are rows of the table, in ascending order
pub named_ascend : (n : ℕ) (few : FewRows) → AreRowsNamed n few → AreRows n (named_rows few) × (named_rows few ≢ [])
named_ascend n (One row) here = ((omega arith, here, tt), λ none. absurd cc)
named_ascend n (Beside row own) (row_below, own_below, apart) = elim (cases_lt row own) [
  | inl less ↦ rw (ascending_two row own less) ((omega arith, row_below, (omega (arith, less), own_below, tt)), λ none. absurd cc)
  | inr rest ↦
      let less : own < row = elim (cases_lt own row) [ inl more ↦ more | inr most ↦ absurd (apart (omega (arith, rest, most))) ] in
      rw (descending_two row own less) ((omega arith, own_below, (omega (arith, less), row_below, tt)), λ none. absurd cc)
]
named_ascend n (Several rows) here = (here.are_rows, here.some)
