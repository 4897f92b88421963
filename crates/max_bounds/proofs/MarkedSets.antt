-- Sets and their marks: what a mark shows, and lists of sets with their marks.
use Rattle.std.proofs.Common.{◌≡◌, ◌≢◌, ℕ, zero, suc, ◌+◌, ◌*◌, ◌/◌, ◌%◌, ◌^◌, ◌<◌, ◌≤◌, true, false, cond, not, List, [], ◌∷◌, ◌++◌, length, ◌⊎◌, add-one, take, drop, set, get_or, refl, sym, ap, ◌∙◌, subst, arith, inl, inr}
use Rattle.std.specs.Prelude.{nat_lt, bit_and}
use Rattle.std.specs.Int.{bit_at, bit_not, w64}
use Rattle.std.specs.List.{filter, AllByRecursion}
use Rattle.std.specs.Int.Count.{ones, ones_cat}
use Rattle.std.proofs.lemmas.Nat.{mod-pow-add, pow_pos, and_le_l, div-mul-add, zero_from_ones}
use Rattle.std.proofs.lemmas.Nat.Bits.{bit_at-zero, bit_at-lt, bit_at_and, bit_at_not}
use Rattle.std.proofs.lemmas.Bool.{true≢false, not-true, not-false, cases_lt, lt-ltb, le-ltb}
use Rattle.audit_types.specs.Rows.{Rows, AreRows, has_row, complement}
use Rattle.audit_types.specs.RowLaws.{has-rows_that}
use Rattle.audit_types.specs.WalkLaws.{first_or_later, row_within}
use Rattle.audit_types.specs.ListLaws.{all-get_or}
use Rattle.max_bounds.specs.Groups.{step_of, IsSample, IsInGroup, AreGroups}
use Rattle.max_bounds.specs.Marks.{IsMark, AreLacking, ShowsLeft, lost_by, AreMarkedBy}
use Rattle.max_bounds.specs.Outside.{outside}
use Rattle.max_bounds.specs.RowListLaws.{has-filter}
use Rattle.max_bounds.specs.declared.answered.AnsweredMax.{AnsweredMax}
use Rattle.max_bounds.specs.declared.marks.Lost.{Lost}
use Rattle.max_bounds.specs.declared.marks.Marking.{Marking}
use Rattle.max_bounds.specs.declared.marks.Marking.TheVariants.{Samples, Touched, Filled}

-- ---- what a mark shows

-- a bit of two numbers is one of each
in_both : (a b g : ℕ) → bit_at (bit_and a b) g ≡ 1 → (bit_at a g ≡ 1) × (bit_at b g ≡ 1)
in_both a b g one =
    let both = bit_at_and a b g in
    let x = bit_at-lt a g in
    let y = bit_at-lt b g in
    (omega arith, omega arith)

-- a row of the set that a question's set lacks is outside it
left_there : (set : Rows) (rows : List ℕ) (r : ℕ) → has_row set.list r ≡ true → has_row rows r ≡ false → has_row (outside rows set.list) r ≡ true
left_there set rows r there missing = has-filter (λ q. not (has_row rows q)) set.list r there (ap not missing)

-- what is in a mark and is lacking shows rows outside
pub shows : (marking : Marking) (set : Rows) (rows : List ℕ) (mark lacking : ℕ) → IsMark marking set mark → AreLacking marking set.n rows lacking →
    ShowsLeft set rows (bit_and mark lacking)
shows Samples set rows mark lacking is are = record {
  group_of = λ r. r / step_of set.n;
  row = λ g small one.
      let both = in_both mark lacking g one in
      let found = is g small both.0 in
      let whole : g * step_of set.n ≡ g * step_of set.n + 0 = omega arith in (
        found.0,
        left_there set rows found.0 found.1 (are g found.0 small both.1 found.2),
        ap (λ k. k / step_of set.n) (found.2 ∙ whole) ∙ div-mul-add g (step_of set.n) 0 (omega arith),
      );
}
shows Touched set rows mark lacking is are = record {
  group_of = λ r. r % 64;
  row = λ g small one.
      let both = in_both mark lacking g one in
      let found = is g small both.0 in
      (found.0, left_there set rows found.0 found.1 (are g found.0 small both.1 found.2), found.2);
}
shows Filled set rows mark lacking is are = record {
  group_of = λ r. r % 64;
  row = λ g small one.
      let both = in_both mark lacking g one in
      let found = are g small both.1 in
      (found.0, left_there set rows found.0 (is g found.0 small both.0 found.1 found.3) found.2, found.3);
}

-- ---- how many groups a mark shows

-- the rows of a list whose groups are below a number
abbrev below : (ℕ → ℕ) → ℕ → List ℕ → List ℕ
below group i rows = filter (λ r. nat_lt (group r) i) rows

-- with one group more there are at least as many, and one more if a row is in it
more_below : (group : ℕ → ℕ) (i : ℕ) (rows : List ℕ) → length (below group i rows) ≤ length (below group (i + 1) rows)
more_below group i [] = omega arith
more_below group i (x ∷ rows) = go (cases_lt (group x) i) (more_below group i rows)
  where
    go : ((group x < i) ⊎ (i ≤ group x)) → length (below group i rows) ≤ length (below group (i + 1) rows) →
        length (below group i (x ∷ rows)) ≤ length (below group (i + 1) (x ∷ rows))
    go (inl less) h = let wide : group x < i + 1 = omega arith in rw (lt-ltb (group x) i less, lt-ltb (group x) (i + 1) wide) (omega (arith, h))
    go (inr late) h = rw (le-ltb (group x) i late)
        (elim (nat_lt (group x) (i + 1)) as (λ b. length (below group i rows) ≤ length (cond b (x ∷ below group (i + 1) rows) (below group (i + 1) rows))) [
          | true ↦ omega (arith, h)
          | false ↦ h
        ])

one_below : (group : ℕ → ℕ) (i : ℕ) (rows : List ℕ) (r : ℕ) → has_row rows r ≡ true → group r ≡ i →
    length (below group i rows) + 1 ≤ length (below group (i + 1) rows)
one_below group i [] r there is = absurd (true≢false (sym there))
one_below group i (x ∷ rows) r there is = go (cases_lt (group x) i) (first_or_later x r rows there) (λ later. one_below group i rows r later is)
  where
    go : ((group x < i) ⊎ (i ≤ group x)) → ((x ≡ r) ⊎ (has_row rows r ≡ true)) →
        (has_row rows r ≡ true → length (below group i rows) + 1 ≤ length (below group (i + 1) rows)) →
        length (below group i (x ∷ rows)) + 1 ≤ length (below group (i + 1) (x ∷ rows))
    go (inl less) (inl same) rest = absurd (let e = ap group same in omega (arith, less, e, is))
    go (inl less) (inr later) rest =
        let wide : group x < i + 1 = omega arith in
        let h = rest later in
        rw (lt-ltb (group x) i less, lt-ltb (group x) (i + 1) wide) (omega (arith, h))
    go (inr late) (inl same) rest =
        let wide : group x < i + 1 = let e = ap group same in omega (arith, e, is) in
        let h = more_below group i rows in
        rw (le-ltb (group x) i late, lt-ltb (group x) (i + 1) wide) (omega (arith, h))
    go (inr late) (inr later) rest =
        let h = rest later in
        rw (le-ltb (group x) i late)
        (elim (nat_lt (group x) (i + 1)) as (λ b. length (below group i rows) + 1 ≤ length (cond b (x ∷ below group (i + 1) rows) (below group (i + 1) rows))) [
          | true ↦ omega (arith, h)
          | false ↦ h
        ])

-- there are at most as many as in the list
below_all : (group : ℕ → ℕ) (i : ℕ) (rows : List ℕ) → length (below group i rows) ≤ length rows
below_all group i [] = omega arith
below_all group i (x ∷ rows) =
    let h = below_all group i rows in
    elim (nat_lt (group x) i) as (λ b. length (cond b (x ∷ below group i rows) (below group i rows)) ≤ suc (length rows)) [
      | true ↦ omega (arith, h)
      | false ↦ omega (arith, h)
    ]

-- a number that isn't 0 has a bit
pub some_bit : (x : ℕ) → x ≢ 0 → 1 ≤ ones x
some_bit x some = elim (cases_lt (ones x) 1) [ inl none ↦ absurd (some (zero_from_ones x (omega (arith, none)))) | inr one ↦ one ]

-- a bit is no more than one
ones_of_bit : (b : ℕ) → b < 2 → ones b ≤ b
unfolding ones
ones_of_bit zero h = omega arith
ones_of_bit (suc zero) h = omega arith
ones_of_bit (suc (suc b)) h = absurd (omega arith)

-- if each bit of a number is that of a group with one of these rows, its first bits are no more than the rows of the first groups
first_bits : (group : ℕ → ℕ) (x : ℕ) (rows : List ℕ) → ((g : ℕ) → g < 64 → bit_at x g ≡ 1 → (r : ℕ) × (has_row rows r ≡ true) × (group r ≡ g)) →
    (i : ℕ) → i ≤ 64 →
    ones (x % 2 ^ i) ≤ length (below group i rows)
first_bits group x rows each zero within = let none : x % 2 ^ 0 ≡ 0 = omega arith in let low = ones_of_bit 0 (omega arith) in rw none (omega (arith, low))
first_bits group x rows each (suc i) within =
    let next : i + 1 ≡ 1 + i = omega arith in
    let split : x % 2 ^ (i + 1) ≡ (x / 2 ^ i % 2 ^ 1) * 2 ^ i + x % 2 ^ i = ap (λ m. x % 2 ^ m) next ∙ mod-pow-add x 1 i in
    let positive : 0 < 2 ^ i = pow_pos i in
    let apart : ones ((x / 2 ^ i % 2 ^ 1) * 2 ^ i + x % 2 ^ i) ≡ ones (x / 2 ^ i % 2 ^ 1) + ones (x % 2 ^ i) =
    ones_cat i (x / 2 ^ i % 2 ^ 1) (x % 2 ^ i) (omega arith) in
    let last : ones (x / 2 ^ i % 2 ^ 1) ≤ bit_at x i = ones_of_bit (bit_at x i) (bit_at-lt x i) in
    let front = first_bits group x rows each i (omega arith) in
    let whole : ones (x % 2 ^ (i + 1)) ≡ ones (x / 2 ^ i % 2 ^ 1) + ones (x % 2 ^ i) = ap ones split ∙ apart in
    subst (λ k. ones (x % 2 ^ k) ≤ length (below group k rows)) (add-one i) (elim (cases_lt (bit_at x i) 1) [
      | inl none ↦ let more = more_below group i rows in omega (arith, whole, last, front, more, none)
      | inr some ↦
          let bit = bit_at-lt x i in
          let found = each i (omega arith) (omega arith) in
          let more = one_below group i rows found.0 found.1 found.2 in omega (arith, whole, last, front, more, bit)
    ])

-- so no more bits are shown than rows are left
pub many_left : (set : Rows) (rows : List ℕ) (bits : ℕ) → ShowsLeft set rows bits → bits < 2 ^ 64 → ones bits ≤ length (outside rows set.list)
many_left set rows bits are fits =
    let left = outside rows set.list in
    let whole : bits % 2 ^ 64 ≡ bits = omega (arith, fits) in
    let first = first_bits are.group_of bits left are.row 64 (omega arith) in
    let all = below_all are.group_of 64 left in
    let same = ap ones whole in omega (arith, first, all, same)

-- ---- what a question's set lacks, and what marks say of their sets

-- none is lacking if nothing is asked
pub lacks_none : (n : ℕ) (rows : List ℕ) → AreLacking Samples n rows 0
lacks_none n rows = λ g r small one is. let none = bit_at-zero g in absurd (omega arith)

-- a row of those that a set lacks isn't in it
in_others : (n : ℕ) (rows : List ℕ) (r : ℕ) → r < n → has_row (complement n rows) r ≡ true → has_row rows r ≡ false
in_others n rows r below there = not-true (has_row rows r) (sym (has-rows_that (λ q. not (has_row rows q)) n r below) ∙ there)

-- and one that isn't among them is in the set
not_others : (n : ℕ) (rows : List ℕ) (r : ℕ) → r < n → has_row (complement n rows) r ≡ false → has_row rows r ≡ true
not_others n rows r below missing = not-false (has_row rows r) (sym (has-rows_that (λ q. not (has_row rows q)) n r below) ∙ missing)

-- the samples of the rows that a set lacks
pub lacks_samples : (n : ℕ) (rows others : List ℕ) (samples : ℕ) → AreRows n others → others ≡ complement n rows → AreGroups (IsSample n) others samples →
    AreLacking Samples n rows samples
lacks_samples n rows others samples within flipped are = λ g r small one is.
    let found = are.only g small one in
    let same : r ≡ found.0 = is ∙ sym found.2 in
    let below = row_within n others found.0 within found.1 in
    ap (has_row rows) same ∙ in_others n rows found.0 below (sym (ap (λ l. has_row l found.0) flipped) ∙ found.1)

-- the groups that a set has no row of
pub lacks_touched : (n : ℕ) (rows : List ℕ) (groups : ℕ) → groups < 2 ^ 64 → AreGroups IsInGroup rows groups → AreLacking Touched n rows (bit_not w64 groups)
lacks_touched n rows groups fits are = λ g r small one is. elim (has_row rows r) as (λ b. has_row rows r ≡ b → has_row rows r ≡ false) [
  | true ↦ λ there. absurd (let here = are.has r g there small is in let turned = bit_at_not w64 groups g fits small in omega arith)
  | false ↦ λ missing. missing
] refl

-- the groups that it lacks a row of
pub lacks_filled : (n : ℕ) (rows others : List ℕ) (groups : ℕ) → AreRows n others → others ≡ complement n rows → AreGroups IsInGroup others groups →
    AreLacking Filled n rows groups
lacks_filled n rows others groups within flipped are = λ g small one.
    let found = are.only g small one in
    let below = row_within n others found.0 within found.1 in
    (found.0, below, in_others n rows found.0 below (sym (ap (λ l. has_row l found.0) flipped) ∙ found.1), found.2)

-- the groups that it has whole are those that it lacks no row of
pub fills : (set : Rows) (others : List ℕ) (groups : ℕ) → groups < 2 ^ 64 → others ≡ complement set.n set.list → AreGroups IsInGroup others groups →
    IsMark Filled set (bit_not w64 groups)
fills set others groups fits flipped are = λ g r small one below is. elim (has_row others r) as (λ b. has_row others r ≡ b → has_row set.list r ≡ true) [
  | true ↦ λ there. absurd (let here = are.has r g there small is in let turned = bit_at_not w64 groups g fits small in omega arith)
  | false ↦ λ missing. not_others set.n set.list r below (sym (ap (λ l. has_row l r) flipped) ∙ missing)
] refl

-- a lost row has its bit among the lost ones
not_lost : (is_in : ℕ → ℕ → Type 0) (rows : List ℕ) (mark lost r g : ℕ) → lost < 2 ^ 64 → g < 64 → AreGroups is_in rows lost → is_in r g →
    bit_at (bit_and mark (bit_not w64 lost)) g ≡ 1 → has_row rows r ≡ false
not_lost is_in rows mark lost r g fits small are is one = elim (has_row rows r) as (λ b. has_row rows r ≡ b → has_row rows r ≡ false) [
  | true ↦ λ there. absurd (
      let here = are.has r g there small is in
      let turned = bit_at_not w64 lost g fits small in
      let both = in_both mark (bit_not w64 lost) g one in omega (arith, here, turned, both.1))
  | false ↦ λ missing. missing
] refl

-- a set that loses rows loses their bits
pub mark_lowered : (marking : Marking) (set after : Rows) (rows : List ℕ) (mark : ℕ) (lost : Lost) → lost_by marking lost < 2 ^ 64 → IsMark marking set mark →
    AreGroups (IsSample set.n) rows lost.samples → AreGroups IsInGroup rows lost.groups → after ≡ record { n = set.n; list = outside rows set.list } →
    IsMark marking after (bit_and mark (bit_not w64 (lost_by marking lost)))
mark_lowered Samples set after rows mark lost fits is samples groups same =
    subst (λ (s : Rows). IsMark Samples s (bit_and mark (bit_not w64 lost.samples))) (sym same) (λ g small one.
    let found = is g small (in_both mark (bit_not w64 lost.samples) g one).0 in
    (found.0, left_there set rows found.0 found.1 (not_lost (IsSample set.n) rows mark lost.samples found.0 g fits small samples found.2 one), found.2))
mark_lowered Touched set after rows mark lost fits is samples groups same =
    subst (λ (s : Rows). IsMark Touched s (bit_and mark (bit_not w64 lost.groups))) (sym same) (λ g small one.
    let found = is g small (in_both mark (bit_not w64 lost.groups) g one).0 in
    (found.0, left_there set rows found.0 found.1 (not_lost IsInGroup rows mark lost.groups found.0 g fits small groups found.2 one), found.2))
mark_lowered Filled set after rows mark lost fits is samples groups same =
    subst (λ (s : Rows). IsMark Filled s (bit_and mark (bit_not w64 lost.groups))) (sym same) (λ g r small one below inside.
    left_there set rows r (is g r small (in_both mark (bit_not w64 lost.groups) g one).0 below inside)
    (not_lost IsInGroup rows mark lost.groups r g fits small groups inside one))

-- what is lost fits, of each kind
pub lost_fits : (marking : Marking) (lost : Lost) → lost.samples < 2 ^ 64 → lost.groups < 2 ^ 64 → lost_by marking lost < 2 ^ 64
lost_fits Samples lost samples groups = samples
lost_fits Touched lost samples groups = groups
lost_fits Filled lost samples groups = groups

-- ---- lists of sets and their marks

-- a set by its parts
pub same_set : (set : Rows) (n : ℕ) (rows : List ℕ) → set.n ≡ n → set.list ≡ rows → set ≡ record { n = n; list = rows }
same_set set n rows e f = ap (λ m. record { n = m; list = set.list }) e ∙ ap (λ l. record { n = n; list = l }) f

-- there are as many marks as sets
pub marks_length : (marking : Marking) (sets : List AnsweredMax) (marks : List ℕ) → AreMarkedBy marking sets marks → length marks ≡ length sets
marks_length marking [] [] h = refl
marks_length marking [] (m ∷ marks) h = absurd h
marks_length marking (s ∷ sets) [] h = absurd h
marks_length marking (s ∷ sets) (m ∷ marks) h = ap suc (marks_length marking sets marks h.1)

-- the mark at a place is that of the set there
pub mark_at : (marking : Marking) (sets : List AnsweredMax) (marks : List ℕ) (k : ℕ) (d : AnsweredMax) (e : ℕ) → AreMarkedBy marking sets marks →
    k < length sets → IsMark marking (get_or sets k d).rows (get_or marks k e)
mark_at marking [] marks k d e h within = absurd (omega arith)
mark_at marking (s ∷ sets) [] k d e h within = absurd h
mark_at marking (s ∷ sets) (m ∷ marks) zero d e h within = h.0
mark_at marking (s ∷ sets) (m ∷ marks) (suc k) d e h within = mark_at marking sets marks k d e h.1 (omega (arith, within))

-- a set and a mark in place of others
pub marked_set : (marking : Marking) (sets : List AnsweredMax) (marks : List ℕ) (k : ℕ) (s : AnsweredMax) (m : ℕ) → AreMarkedBy marking sets marks →
    IsMark marking s.rows m → AreMarkedBy marking (set sets k s) (set marks k m)
marked_set marking [] [] k s m h is = tt
marked_set marking [] (n ∷ marks) k s m h is = absurd h
marked_set marking (t ∷ sets) [] k s m h is = absurd h
marked_set marking (t ∷ sets) (n ∷ marks) zero s m h is = (is, h.1)
marked_set marking (t ∷ sets) (n ∷ marks) (suc k) s m h is = (h.0, marked_set marking sets marks k s m h.1 is)

-- a set of the same rows has the same mark
pub same_marked : (marking : Marking) (sets : List AnsweredMax) (marks : List ℕ) (k : ℕ) (d s : AnsweredMax) → AreMarkedBy marking sets marks →
    s.rows ≡ (get_or sets k d).rows → AreMarkedBy marking (set sets k s) marks
same_marked marking [] [] k d s h same = tt
same_marked marking [] (n ∷ marks) k d s h same = absurd h
same_marked marking (t ∷ sets) [] k d s h same = absurd h
same_marked marking (t ∷ sets) (n ∷ marks) zero d s h same = (subst (λ (r : Rows). IsMark marking r n) (sym same) h.0, h.1)
same_marked marking (t ∷ sets) (n ∷ marks) (suc k) d s h same = (h.0, same_marked marking sets marks k d s h.1 same)

-- a set has as many rows outside a question's as its mark shows
pub left_at : (marking : Marking) (sets : List AnsweredMax) (marks : List ℕ) (n : ℕ) (rows : List ℕ) (lacking k : ℕ) (d : AnsweredMax) →
    AreMarkedBy marking sets marks → AllByRecursion (λ p. p.rows.n ≡ n) sets → AreLacking marking n rows lacking → get_or marks k 0 < 2 ^ 64 → k < length sets →
    ones (bit_and (get_or marks k 0) lacking) ≤ length (outside rows (get_or sets k d).rows.list)
left_at marking sets marks n rows lacking k d marked same_n are fits within =
    let set = (get_or sets k d).rows in
    let mark = get_or marks k 0 in
    let same = all-get_or (λ (p : AnsweredMax). p.rows.n ≡ n) sets k d same_n within in
    let low = and_le_l mark lacking in
    many_left set rows (bit_and mark lacking) (shows marking set rows mark lacking (mark_at marking sets marks k d 0 marked within)
    (subst (λ m. AreLacking marking m rows lacking) (sym same) are)) (omega (arith, low, fits))

-- one more at a place
pub marked_inserted : (marking : Marking) (sets : List AnsweredMax) (marks : List ℕ) (k : ℕ) (s : AnsweredMax) (m : ℕ) → AreMarkedBy marking sets marks →
    IsMark marking s.rows m → AreMarkedBy marking (take k sets ++ s ∷ drop k sets) (take k marks ++ m ∷ drop k marks)
marked_inserted marking [] [] zero s m h is = (is, tt)
marked_inserted marking [] [] (suc k) s m h is = (is, tt)
marked_inserted marking [] (n ∷ marks) k s m h is = absurd h
marked_inserted marking (t ∷ sets) [] k s m h is = absurd h
marked_inserted marking (t ∷ sets) (n ∷ marks) zero s m h is = (is, h)
marked_inserted marking (t ∷ sets) (n ∷ marks) (suc k) s m h is = (h.0, marked_inserted marking sets marks k s m h.1 is)
