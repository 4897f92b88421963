-- No answer tells of a row that came later: over more rows a question is as dangerous as before.
--
-- An asker may be a later row. Then she knows no number of the earlier ones, so what is guarded against her was guarded against one who knows
-- less. A total over a later row is open, since this row's number is, unless it is her own. If all later rows of a group are, its total tells
-- her the total over the group's earlier rows, and these were a protected group.
use Rattle.std.proofs.Common.{◌≡◌, ◌≢◌, ◌↔◌, ℕ, true, false, ◌+◌, ◌-◌, ◌<◌, ◌≤◌, ℤ, pos, List, [], ◌∷◌, ◌++◌, length, take, drop, replicate, refl, sym, ap, ◌∙◌, subst, arith, inl, inr, length-append, length-take, length-drop, get_or-drop}
use Rattle.std.specs.Prelude.{◌+ℤ◌, slice_set, Contains}
use Rattle.std.specs.List.{AllByRecursion}
use Rattle.std.proofs.lemmas.Int.{ints}
use Rattle.std.proofs.lemmas.Bool.{cases_lt, true≢false}
use Rattle.std.proofs.lemmas.List.{get_or-take, get_or_append_left, get_or-append_right, get_or-set_same, get_or-set_other, length-set, length-replicate, append-nil}
use Rattle.audit_types.specs.declared.shapes.Kind.TheVariants.{Max}
use Rattle.audit_types.specs.GreatestLaws.{same_sum, same_truth, same_answers}
use Rattle.audit_types.specs.Headcount.{Headcount, AreFew, count_at, people_behind}
use Rattle.audit_types.specs.ListLaws.{all-append}
use Rattle.audit_types.specs.Rows.{AreRows, AscendsFrom, has_row, rows_that}
use Rattle.audit_types.specs.RowLaws.{AscendsFrom-wider, has_first, rows-again}
use Rattle.audit_types.specs.Truth.{number_at, sum_over, greatest_over}
use Rattle.audit_types.specs.Column.{Known, Agrees, AreOwn, IsGuarded, number, greatest, total, GivesSameAnswers, Discloses, IsDangerous, AreSameAt, guarding}
use Rattle.audit_types.specs.WalkLaws.{row_within}
use Rattle.sum_audit.specs.Singles.{both_parts}
use Rattle.audit_core.specs.WideningLaws.{over_rows, AreSetsOf, AreGroupsOf, DangerStays}
use Rattle.audit_core.proofs.OneOther.{not_own, same_but, raised}
use Rattle.audit_core.proofs.PaddedForms.{padded, number_at-padded}
use Rattle.audit_core.proofs.GroupTotals.{sum_with}
use Rattle.audit_core.proofs.Parts.{Parts, AreFrom, parts, all_has, new_from, one_out_or_all, same_total, from_new, either, not_old, old_are, fewer, total_of_parts}

-- ---- what of a column is guarded

-- the same over n rows, with these people behind them, and these groups protected
abbrev pub grown : ℕ → Headcount → List (List ℕ) → Known → Known
grown n people groups known = guarding (over_rows n known) people groups

-- the same people stand behind the old rows
pub record CountAlike (known : Known) (people : Headcount) : Type 0 where
  pub counts : (row : ℕ) → row < known.n → count_at people.counts row ≡ count_at known.people.counts row
  pub fewest : people.fewest ≡ known.people.fewest
  pub own : people.own ≡ known.people.own

-- a group over more rows: those of the old ones that it has, if any, are a protected group
pub record IsGrown (known : Known) (n : ℕ) (group : List ℕ) : Type 0 where
  pub are : AreRows n group
  pub first : (row : ℕ) → row < known.n → has_row group row ≡ true → Contains known.groups (rows_that (has_row group) known.n)

-- what can be read from the first m numbers
abbrev pub ReadsFirst : ℕ → (List ℤ → ℤ) → Type 0
ReadsFirst m value = (w v : List ℤ) → ((r : ℕ) → r < m → number_at w r ≡ number_at v r) → value w ≡ value v

-- what changes with the number of a new row, which isn't one of these
pub record ReadsNew (m n : ℕ) (own : List ℕ) (value : List ℤ → ℤ) : Type 0 where
  pub row : ℕ
  pub new : m ≤ row
  pub below : row < n
  pub apart : has_row own row ≡ false
  pub changes : (w : List ℤ) → row < length w → (x : ℤ) × (value (slice_set w row x) ≢ value w)

pub total_of_new : (m n : ℕ) (own group : List ℕ) (row : ℕ) → AreRows n group → m ≤ row → has_row group row ≡ true → has_row own row ≡ false →
    ReadsNew m n own (λ w. sum_over w group)
total_of_new m n own group row are new there apart = record {
  row = row;
  new = new;
  below = row_within n group row are there;
  apart = apart;
  changes = λ w inside. (number_at w row +ℤ pos 1, λ same. let more = sum_with w row 0 n group inside are there in omega (arith, ints, more, same));
}

pub number_of_new : (m n : ℕ) (own : List ℕ) (row : ℕ) → m ≤ row → row < n → has_row own row ≡ false → ReadsNew m n own (λ w. number_at w row)
number_of_new m n own row new below apart = record {
  row = row;
  new = new;
  below = below;
  apart = apart;
  changes = λ w inside.
      (number_at w row +ℤ pos 1, λ same. let more = get_or-set_same w row (number_at w row +ℤ pos 1) (pos 0) inside in omega (arith, ints, more, same));
}

pub greatest_of_new : (m n : ℕ) (own rows : List ℕ) (row : ℕ) → AreRows n rows → m ≤ row → has_row rows row ≡ true → has_row own row ≡ false →
    ReadsNew m n own (λ w. greatest_over w rows)
greatest_of_new m n own rows row are new there apart = record {
  row = row;
  new = new;
  below = row_within n rows row are there;
  apart = apart;
  changes = λ w inside. (greatest_over w rows +ℤ pos 1, raised w rows row inside there);
}

module _ (known : Known) (n : ℕ) (le : known.n ≤ n) where
  -- what is guarded is guarded over more rows, and reads the old ones
  pub guarded_goes_on : (own : List ℕ) {value : List ℤ → ℤ} → AreGroupsOf known → IsGuarded known own value →
      ReadsFirst known.n value × IsGuarded (over_rows n known) own value
  guarded_goes_on own groups_are (number row below other few) = (λ w v same. same row below, number row (omega (arith, below, le)) other few)
  guarded_goes_on own groups_are (greatest rows maxima are some others few) = (
    λ w v same. same_truth w v known.n same Max rows are,
    greatest rows maxima (AscendsFrom-wider 0 known.n n rows le are) some others few,
  )
  guarded_goes_on own groups_are (total group row there inside other) =
      let are = subst (AreRows known.n) there.2 (groups_are there.0 group there.1) in
      (λ w v same. same_sum w v known.n same 0 group are, total group row there inside other)

  module _ (people : Headcount) (groups : List (List ℕ)) (alike : CountAlike known people)
      (each : (group : List ℕ) → Contains groups group → IsGrown known n group) (own : List ℕ) (own_are : AreRows n own) where
    -- those of her numbers that were there
    abbrev pub hers : Parts known.n 0 n own
    hers = parts known.n 0 n own own_are

    -- as many people stand behind old rows as before
    same_people : (low : ℕ) (rows : List ℕ) → AscendsFrom low known.n rows → people_behind people.counts rows ≡ people_behind known.people.counts rows
    same_people low [] are = refl
    same_people low (r ∷ rows) are = let here = alike.counts r are.1 in let rest = same_people (r + 1) rows are.2 in omega (arith, here, rest)

    -- so few of them are few to one who knows less
    few_was : (rows : List ℕ) → AreRows known.n rows → AreFew people own rows → AreFew known.people hers.old rows
    few_was rows are few =
        let same = same_people 0 rows are in let less = fewer known.n n own hers in omega (arith, few, same, less, alike.fewest, alike.own)

    -- a guarded value reads old rows alone, and was guarded; or it changes with a new row; or it is the total of a group whose new rows are all her
    -- own, and the total over the old ones was guarded
    pub data WasGuarded (value : List ℤ → ℤ) : Type 0 where
      old : ReadsFirst known.n value → IsGuarded known hers.old value → WasGuarded value
      new : ReadsNew known.n n own value → WasGuarded value
      rest : (rows : List ℕ) (q : ℕ) → has_row own q ≡ true → AreRows known.n rows → IsGuarded known hers.old (λ w. sum_over w rows) →
          ((w v : List ℤ) → ((r : ℕ) → known.n ≤ r → number_at v r ≡ number_at w r) → value v ≡ value w → sum_over v rows ≡ sum_over w rows) → WasGuarded value

    greatest_was : (rows : List ℕ) → known.kind ≡ Max → AreRows n rows → rows ≢ [] → AllByRecursion (λ q. has_row rows q ≡ false) own → AreFew people own rows →
        (halves : Parts known.n 0 n rows) → (new : List ℕ) → halves.new ≡ new → WasGuarded (λ w. greatest_over w rows)
    greatest_was rows maxima are some others few halves [] none =
        let same : rows ≡ halves.old = halves.are ∙ ap (λ l. halves.old ++ l) none ∙ append-nil halves.old in
        let first = subst (AreRows known.n) (sym same) halves.below in
        old (λ w v alike. same_truth w v known.n alike Max rows first) (greatest rows maxima first some
        (both_parts (λ q. has_row rows q ≡ false) hers.old hers.new (subst (AllByRecursion (λ q. has_row rows q ≡ false)) hers.are others)).0
        (few_was rows first few))
    greatest_was rows maxima are some others few halves (q ∷ later) is =
        let there : has_row halves.new q ≡ true = ap (λ l. has_row l q) is ∙ has_first q later in
        let inside = from_new known.n n rows halves q there in
        new (greatest_of_new known.n n own rows q are (new_from known.n n halves.new halves.from q there) inside (not_own rows own others q inside))

    each_same : (w v : List ℤ) → ((r : ℕ) → known.n ≤ r → number_at v r ≡ number_at w r) → (rows : List ℕ) → AreFrom known.n n rows →
        AllByRecursion (λ r. number_at v r ≡ number_at w r) rows
    each_same w v same [] from = tt
    each_same w v same (r ∷ rows) from = (same r from.0.0, each_same w v same rows from.1)

    -- a group whose new rows are all hers
    rest_was : (group : List ℕ) (row : ℕ) → IsGrown known n group → has_row group row ≡ true → has_row own row ≡ false → (halves : Parts known.n 0 n group) →
        AllByRecursion (λ r. has_row own r ≡ true) halves.new → (new : List ℕ) → halves.new ≡ new → WasGuarded (λ w. sum_over w group)
    rest_was group row is inside other halves all new_rows new_are =
        let there : has_row halves.old row ≡ true = elim (either known.n n group halves row inside) [
          | inl first ↦ first
          | inr later ↦ absurd (true≢false (sym (all_has (λ r. has_row own r ≡ true) halves.new all row later) ∙ other))
        ] in
        let below = row_within known.n halves.old row halves.below there in
        let one = subst (Contains known.groups) (old_are known.n n group halves) (is.first row below inside) in
        let guarded = total halves.old row one there (not_old known.n n own hers row other) in
        by guarded new_rows new_are
      where
        by : IsGuarded known hers.old (λ w. sum_over w halves.old) → (later : List ℕ) → halves.new ≡ later → WasGuarded (λ w. sum_over w group)
        by guarded [] none =
            let same : group ≡ halves.old = halves.are ∙ ap (λ l. halves.old ++ l) none ∙ append-nil halves.old in
            old (λ w v alike. same_sum w v known.n alike 0 group (subst (AreRows known.n) (sym same) halves.below))
            (subst (λ l. IsGuarded known hers.old (λ w. sum_over w l)) (sym same) guarded)
        by guarded (q ∷ later) is_new =
            rest halves.old q (all_has (λ r. has_row own r ≡ true) halves.new all q (ap (λ l. has_row l q) is_new ∙ has_first q later)) halves.below guarded
            (λ w v same whole.
            let first = total_of_parts known.n n group halves w in
            let second = total_of_parts known.n n group halves v in
            let new_same = same_total w v halves.new (each_same w v same halves.new halves.from) in
            omega (arith, ints, first, second, new_same, whole))

    pub guarded_was : {value : List ℤ → ℤ} → IsGuarded (grown n people groups known) own value → WasGuarded value
    guarded_was (number row below other few) = elim (cases_lt row known.n) [
      | inl first ↦ old (λ w v same. same row first) (number row first (not_old known.n n own hers row other) (few_was (row ∷ []) (omega arith, first, tt) few))
      | inr later ↦ new (number_of_new known.n n own row later below other)
    ]
    guarded_was (greatest rows maxima are some others few) =
        let halves = parts known.n 0 n rows are in greatest_was rows maxima are some others few halves halves.new refl
    guarded_was (total group row there inside other) =
        let is = each group there in
        let halves = parts known.n 0 n group is.are in
        elim (one_out_or_all own halves.new) [
          | inl (q, later, apart) ↦ new (total_of_new known.n n own group q is.are (new_from known.n n halves.new halves.from q later)
              (from_new known.n n group halves q later) apart)
          | inr all ↦ rest_was group row is inside other halves all halves.new refl
        ]

-- ---- danger

-- lists that are the same at old rows, as two others are
same_at_below : (m low : ℕ) (own : List ℕ) → AscendsFrom low m own → (w v first second : List ℤ) → ((r : ℕ) → r < m → number_at first r ≡ number_at w r) →
    ((r : ℕ) → r < m → number_at second r ≡ number_at v r) → AreSameAt own w v → AreSameAt own first second
same_at_below m low [] are w v first second one other same = tt
same_at_below m low (q ∷ own) are w v first second one other same =
    (other q are.1 ∙ same.0 ∙ sym (one q are.1), same_at_below m (q + 1) own are.2 w v first second one other same.1)

-- the first m numbers of one list, and after them those of another
abbrev joined : ℕ → List ℤ → List ℤ → List ℤ
joined m v w = v ++ drop m w

module _ (known : Known) (rows : List ℕ) (n : ℕ) (are : AreSetsOf known rows) (le : known.n ≤ n) where
  same_longer : (w : List ℤ) (r : ℕ) → r < known.n → number_at w r ≡ number_at (padded (n - known.n) w) r
  same_longer w r lt = sym (number_at-padded (n - known.n) w r)

  same_first : (v : List ℤ) (r : ℕ) → r < known.n → number_at v r ≡ number_at (take known.n v) r
  same_first v r lt = sym (get_or-take known.n v r (pos 0) lt)

  -- joined lists are the one below m, and the other from it on
  joined_below : (v w : List ℤ) → length v ≡ known.n → (r : ℕ) → r < known.n → number_at v r ≡ number_at (joined known.n v w) r
  joined_below v w one_each r lt = sym (get_or_append_left v (drop known.n w) (pos 0) r (omega (arith, one_each, lt)))

  joined_from : (v w : List ℤ) → length v ≡ known.n → (r : ℕ) → known.n ≤ r → number_at (joined known.n v w) r ≡ number_at w r
  joined_from v w one_each r ge =
      get_or-append_right v (drop known.n w) known.n r (pos 0) one_each ge ∙ get_or-drop known.n w (r - known.n) (pos 0) ∙ ap (number_at w) (omega (arith, ge))

  module _ (people : Headcount) (groups : List (List ℕ)) where
    -- a list that agrees, with other numbers for the new rows, agrees
    agrees_joined : (v w : List ℤ) → Agrees known v → length w ≡ n → Agrees (grown n people groups known) (joined known.n v w)
    agrees_joined v w agrees all = record {
      one_each = omega (arith, length-append v (drop known.n w), length-drop known.n w, agrees.one_each, all, le);
      same = same_answers v (joined known.n v w) known.n (joined_below v w agrees.one_each) known.kind known.answers are.0 agrees.same;
    }

    agrees_longer : (w : List ℤ) → Agrees known w → Agrees (grown n people groups known) (padded (n - known.n) w)
    agrees_longer w agrees = record {
      one_each = length-append w (replicate (n - known.n) (pos 0)) ∙ omega (arith, agrees.one_each, le, length-replicate (n - known.n) (pos 0));
      same = same_answers w (padded (n - known.n) w) known.n (same_longer w) known.kind known.answers are.0 agrees.same;
    }

    -- and so do the first numbers of one that agrees
    agrees_first : (v : List ℤ) → Agrees (grown n people groups known) v → Agrees known (take known.n v)
    agrees_first v agrees = record {
      one_each = omega (arith, length-take known.n v, agrees.one_each, le);
      same = same_answers v (take known.n v) known.n (same_first v) known.kind known.answers are.0 agrees.same;
    }

    -- what changes with a new row that isn't hers is never disclosed: the number of that row may be another
    new_is_free : (own : List ℕ) (w : List ℤ) (value : List ℤ → ℤ) → ReadsNew known.n n own value → Agrees (grown n people groups known) w →
        Discloses (grown n people groups known) own rows w value → ⊥
    new_is_free own w value reads agrees disclosed =
        let change = reads.changes w (omega (arith, agrees.one_each, reads.below)) in
        let other = slice_set w reads.row change.0 in
        let same : (r : ℕ) → r < known.n → number_at w r ≡ number_at other r =
        λ r lt. sym (get_or-set_other w reads.row r change.0 (pos 0) (λ e. omega (arith, e, lt, reads.new))) in
        change.1 (disclosed other (record {
          agrees = record {
            one_each = length-set w reads.row change.0 ∙ agrees.one_each;
            same = same_answers w other known.n same known.kind known.answers are.0 agrees.same;
          };
          same = sym (same_truth w other known.n same known.kind rows are.1);
        }) (same_but w reads.row change.0 own reads.apart))

    module _ (alike : CountAlike known people) (each : (group : List ℕ) → Contains groups group → IsGrown known n group)
        (d : IsDangerous (grown n people groups known) rows) where
      abbrev halves : Parts known.n 0 n d.own
      halves = parts known.n 0 n d.own d.are_own.0

      -- the old list of the rest with the new numbers gives what the answers give
      joined_gives : (v : List ℤ) → GivesSameAnswers known rows (take known.n d.w) v →
          GivesSameAnswers (grown n people groups known) rows d.w (joined known.n v d.w)
      joined_gives v gives = record {
        agrees = agrees_joined v d.w gives.agrees d.agrees.one_each;
        same = sym (same_truth v (joined known.n v d.w) known.n (joined_below v d.w gives.agrees.one_each) known.kind rows are.1) ∙ gives.same
            ∙ sym (same_truth d.w (take known.n d.w) known.n (same_first d.w) known.kind rows are.1);
      }

      same_from : (v : List ℤ) → length v ≡ known.n → (own : List ℕ) → AreFrom known.n n own → AreSameAt own d.w (joined known.n v d.w)
      same_from v one_each [] from = tt
      same_from v one_each (q ∷ own) from = (joined_from v d.w one_each q from.0.0, same_from v one_each own from.1)

      joined_same : (v : List ℤ) → length v ≡ known.n → AreSameAt halves.old (take known.n d.w) v → AreSameAt d.own d.w (joined known.n v d.w)
      joined_same v one_each also = subst (λ own. AreSameAt own d.w (joined known.n v d.w)) (sym halves.are)
          (all-append (λ r. number_at (joined known.n v d.w) r ≡ number_at d.w r) halves.old halves.new
          (same_at_below known.n 0 halves.old halves.below (take known.n d.w) v d.w (joined known.n v d.w) (same_first d.w)
          (λ r lt. sym (joined_below v d.w one_each r lt)) also) (same_from v one_each halves.new halves.from))

      ones : (low : ℕ) (own : List ℕ) → AscendsFrom low known.n own → AllByRecursion (λ r. count_at people.counts r ≤ 1) own →
          AllByRecursion (λ r. count_at known.people.counts r ≤ 1) own
      ones low [] below all = tt
      ones low (q ∷ own) below all = (omega (arith, alike.counts q below.1, all.0), ones (q + 1) own below.2 all.1)

      old_own : AreOwn known halves.old
      old_own = (
        halves.below,
        omega (arith, fewer known.n n d.own halves, d.are_own.1, alike.own),
        ones 0 halves.old halves.below
            (both_parts (λ r. count_at people.counts r ≤ 1) halves.old halves.new
            (subst (AllByRecursion (λ r. count_at people.counts r ≤ 1)) halves.are d.are_own.2)).0,
      )

      -- what the old numbers tell of an old value
      danger_of : (value : List ℤ → ℤ) → ReadsFirst known.n value → IsGuarded known halves.old value →
          ((v : List ℤ) → length v ≡ known.n → d.value (joined known.n v d.w) ≡ d.value d.w → value (joined known.n v d.w) ≡ value d.w) → IsDangerous known rows
      danger_of value reads guarded back = record {
        w = take known.n d.w;
        agrees = agrees_first d.w d.agrees;
        own = halves.old;
        are_own = old_own;
        value = value;
        guarded = guarded;
        disclosed = λ v gives also.
            let there = back v gives.agrees.one_each (d.disclosed (joined known.n v d.w) (joined_gives v gives) (joined_same v gives.agrees.one_each also)) in
            reads v (joined known.n v d.w) (joined_below v d.w gives.agrees.one_each) ∙ there ∙ reads d.w (take known.n d.w) (same_first d.w);
      }

      by_guarded : WasGuarded known n le people groups alike each d.own d.are_own.0 d.value → IsDangerous known rows
      by_guarded (old reads guarded) = danger_of d.value reads guarded (λ v one_each same. same)
      by_guarded (new reads) = absurd (new_is_free d.own d.w d.value reads d.agrees d.disclosed)
      by_guarded (rest part q known_q part_are guarded back) =
          danger_of (λ w. sum_over w part) (λ w v same. same_sum w v known.n same 0 part part_are) guarded
          (λ v one_each same. back d.w (joined known.n v d.w) (joined_from v d.w one_each) same)

      pub danger_was : IsDangerous known rows
      danger_was = by_guarded (guarded_was known n le people groups alike each d.own d.are_own.0 d.guarded)

  pub danger_goes_on : AreGroupsOf known → IsDangerous known rows → IsDangerous (over_rows n known) rows
  danger_goes_on groups_are d =
      let guarded = guarded_goes_on known n le d.own groups_are d.guarded in
      record {
        w = padded (n - known.n) d.w;
        agrees = agrees_longer known.people known.groups d.w d.agrees;
        own = d.own;
        are_own = (AscendsFrom-wider 0 known.n n d.own le d.are_own.0, d.are_own.1, d.are_own.2);
        value = d.value;
        guarded = guarded.1;
        disclosed = λ v gives also.
            let here = d.disclosed (take known.n v) (record {
              agrees = agrees_first known.people known.groups v gives.agrees;
              same = sym (same_truth v (take known.n v) known.n (same_first v) known.kind rows are.1) ∙ gives.same
                  ∙ sym (same_truth d.w (padded (n - known.n) d.w) known.n (same_longer d.w) known.kind rows are.1);
            }) (same_at_below known.n 0 d.own d.are_own.0 (padded (n - known.n) d.w) v d.w (take known.n v) (same_longer d.w)
            (λ r lt. sym (same_first v r lt)) also) in
            guarded.0 v (take known.n v) (same_first v) ∙ here ∙ guarded.0 d.w (padded (n - known.n) d.w) (same_longer d.w);
      }

  -- a group of old rows is one over more rows
  pub old_is_grown : AreGroupsOf known → (group : List ℕ) → Contains known.groups group → IsGrown known n group
  old_is_grown groups_are group there =
      let are = subst (AreRows known.n) there.2 (groups_are there.0 group there.1) in
      record {
        are = AscendsFrom-wider 0 known.n n group le are;
        first = λ row below inside. subst (Contains known.groups) (sym (rows-again known.n group are)) there;
      }

  pub danger : AreGroupsOf known → IsDangerous known rows ↔ IsDangerous (over_rows n known) rows
  danger groups_are = (
    danger_goes_on groups_are,
    danger_was known.people known.groups (record { counts = λ row lt. refl; fewest = refl; own = refl }) (old_is_grown groups_are),
  )

pub danger_stays : DangerStays
danger_stays known rows n are groups_are le = danger known rows n are le groups_are
