-- A question has at most one canonical proof of a sum. The kept sets are independent, so two lists of numbers with which they come
-- to the target lie on one line, and a line has one list without a common divisor.
use Rattle.std.proofs.Common.{◌≡◌, ◌≢◌, ℕ, zero, suc, ◌+◌, ◌<◌, true, false, ◌==◌, ℤ, pos, List, [], ◌∷◌, ◌++◌, map, length, Option, None, Some, refl, sym, ap, ◌∙◌, subst, arith, inl, inr}
use Rattle.std.specs.Prelude.{◌+ℤ◌, ◌*ℤ◌, neg_ℤ, unsigned_abs, Result, Ok, Err, IfOk}
use Rattle.std.specs.Int.{◌∣◌}
use Rattle.std.specs.List.{AllByRecursion}
use Rattle.std.proofs.lemmas.Int.{ints}
use Rattle.std.proofs.lemmas.Bool.{cases_eq, cases_lt, ne_eqb, true≢false}
use Rattle.std.proofs.lemmas.List.{get_or_past}
use Rattle.std.proofs.Math.IntN.{*ℤ_comm, *ℤ-zero, neg_ℤ-neg_ℤ}
use Rattle.audit_types.specs.declared.records.Answered.{Answered}
use Rattle.audit_types.specs.declared.records.Asked.{Asked}
use Rattle.audit_types.specs.History.{Protection}
use Rattle.audit_types.specs.Rows.{has_row, AscendsFrom, IsLeast}
use Rattle.audit_types.specs.RowLaws.{ascends_more, ascending_same}
use Rattle.audit_types.specs.ListLaws.{all-append}
use Rattle.audit_types.specs.Numbers.{test_of_not_zero}
use Rattle.audit_types.specs.PrimitiveLines.{times, one_primitive}
use Rattle.audit_types.specs.Products.{neg-times, times_assoc}
use Rattle.audit_types.specs.Truth.{number_at}
use Rattle.audit_types.specs.Form.{set_row, combined}
use Rattle.int_rows.specs.ContentLaws.{all-ones}
use Rattle.sum_basis.specs.Basis.{Echelon}
use Rattle.sum_basis.specs.Combination.{combine}
use Rattle.sum_basis.specs.CombinedRows.{number_at-combine}
use Rattle.sum_basis.specs.Spans.{combined-both, combined-times}
use Rattle.denial_proof.specs.declared.proof_parts.Target.{Target}
use Rattle.denial_proof.specs.declared.proof_parts.Target.TheVariants.{Row, Group}
use Rattle.denial_proof.specs.declared.proof_parts.OwnShare.{OwnShare}
use Rattle.denial_proof.specs.declared.proof_parts.Term.{Term}
use Rattle.denial_proof.specs.declared.proof_parts.Proof.{Proof}
use Rattle.denial_proof.specs.declared.proof_parts.Proof.TheVariants.{Sum, Max}
use Rattle.denial_proof.specs.declared.proof_parts.ProveFault.{ProveFault}
use Rattle.denial_proof.specs.Weights.{adds, sum_at, weights_of, own_in, own_rows, shares_in, share_for, share_adds}
use Rattle.denial_proof.specs.Certificates.{IsSmall, IsTerm, rows_of}
use Rattle.denial_proof.specs.Kept.{AreKept, AreIndependent, AreMarks, HasWideMarks, kept_sets, marks_for}
use Rattle.denial_proof.specs.Numbers.{terms_of, ComeTo}
use Rattle.denial_proof.specs.Canonical.{IsCanonicalSum, IsFirstTarget, IsNoLater, IsPlaceNoLater, IsSumProof, IsSumTooWide, sets_with_asked}
use Rattle.denial_proof.proofs.Tests.{same_test}
use Rattle.denial_proof.proofs.CanonicalSums.{adds_by_numbers, count_sets, divides_opposite, parts_from_all}

-- ---- numbers that come to a target

module _ (n : ℕ) (sets : List (List ℕ)) (target : List ℤ) (x y : ℤ) (f g : List ℤ) (first : ComeTo n sets target x f) (second : ComeTo n sets target y g) where
  -- crosswise, they come to nothing
  crosswise : (j : ℕ) → j < n → combined (combine y f x g) (map (set_row n) sets) j ≡ pos 0
  crosswise j l =
      let rows = map (set_row n) sets in
      let t = number_at target j in
      let parts = combined-both (times y f) (times (neg_ℤ x) g) rows j in
      let left = combined-times y f rows j ∙ ap (λ z. y *ℤ z) (first.add_up j l) ∙ sym (times_assoc y x t) ∙ ap (λ z. z *ℤ t) (*ℤ_comm y x) in
      let right = combined-times (neg_ℤ x) g rows j ∙ neg-times x (combined g rows j) in
      let due = ap (λ z. x *ℤ z) (second.add_up j l) ∙ sym (times_assoc x y t) in
      omega (arith, ints)

  -- so they lie on one line
  on_line : AreIndependent n sets → (j : ℕ) → y *ℤ number_at (x ∷ f) j ≡ x *ℤ number_at (y ∷ g) j
  on_line independent zero = *ℤ_comm y x
  on_line independent (suc k) = elim (cases_lt k (length sets)) [
    | inl inside ↦
        let none = independent (combine y f x g) crosswise k inside in
        let entry = number_at-combine y f x g k in
        let minus = neg-times x (number_at g k) in
        omega (arith, ints)
    | inr past ↦
        let left = ap (λ z. y *ℤ z) (get_or_past f k (pos 0) (let all = first.one_each in omega arith)) ∙ *ℤ-zero y in
        let right = ap (λ z. x *ℤ z) (get_or_past g k (pos 0) (let all = second.one_each in omega arith)) ∙ *ℤ-zero x in
        left ∙ sym right
  ]

  pub one_way : AreIndependent n sets → x ∷ f ≡ y ∷ g
  one_way independent =
      one_primitive y x (x ∷ f) (y ∷ g) second.positive first.positive (ap suc (first.one_each ∙ sym second.one_each)) first.content second.content
      (on_line independent)

-- ---- numbers for terms

-- a number for each place and these after them, of which these are the terms
record HasNumbers (places : List ℕ) (terms : List Term) (last : List ℤ) : Type 0 where
  pub numbers : List ℤ
  pub one_each : length numbers ≡ length places + length last
  pub terms_are : terms_of places numbers ≡ terms
  pub last_are : (k at : ℕ) → at ≡ length places + k → number_at numbers at ≡ number_at last k

-- terms that come later name none of the earlier places
named_later : (p low end : ℕ) (places : List ℕ) (terms : List Term) → p < low → AscendsFrom low end (map (λ (t : Term). t.place) terms) →
    AllByRecursion (λ (t : Term). has_row (p ∷ places) t.place ≡ true) terms → AllByRecursion (λ (t : Term). has_row places t.place ≡ true) terms
named_later p low end places [] l ascends named = tt
named_later p low end places (t ∷ terms) l ascends named =
    let order = ascends.0 in
    let other : (p == t.place) ≡ false = ne_eqb p t.place (λ e. omega arith) in
    (rw other at named.0, named_later p (t.place + 1) end places terms (omega arith) ascends.2 named.1)

-- a number is at the place before once the first is left out
one_before : (x : ℤ) (numbers last : List ℤ) (count : ℕ) → ((k at : ℕ) → at ≡ count + k → number_at numbers at ≡ number_at last k) → (k at : ℕ) →
    at ≡ suc count + k → number_at (x ∷ numbers) at ≡ number_at last k
one_before x numbers last count are k zero is = absurd (omega arith)
one_before x numbers last count are k (suc at) is = are k at (omega arith)

numbers_of : (low end : ℕ) (places : List ℕ) (terms : List Term) (last : List ℤ) → AscendsFrom low end places →
    AscendsFrom low end (map (λ (t : Term). t.place) terms) →
    AllByRecursion (λ (t : Term). has_row places t.place ≡ true) terms → AllByRecursion (λ (t : Term). t.times ≢ pos 0) terms → HasNumbers places terms last
numbers_of low end [] [] last order ascends named counted = record
    { numbers = last; one_each = omega arith; terms_are = refl; last_are = λ k at is. ap (number_at last) (omega arith) }
numbers_of low end [] (t ∷ terms) last order ascends named counted = absurd (true≢false (sym named.0))
numbers_of low end (p ∷ places) [] last order ascends named counted =
    let rest = numbers_of (p + 1) end places [] last order.2 tt tt tt in
    record {
      numbers = pos 0 ∷ rest.numbers;
      one_each = let all = rest.one_each in omega arith;
      terms_are = rest.terms_are;
      last_are = one_before (pos 0) rest.numbers last (length places) rest.last_are;
    }
numbers_of low end (p ∷ places) (t ∷ terms) last order ascends named counted = elim (cases_eq t.place p) [
  | inl here ↦
      let later : AscendsFrom (p + 1) end (map (λ (s : Term). s.place) terms) =
      subst (λ k. AscendsFrom (k + 1) end (map (λ (s : Term). s.place) terms)) here ascends.2 in
      let rest = numbers_of (p + 1) end places terms last order.2 later (named_later p (p + 1) end places terms (omega arith) later named.1) counted.1 in
      let some = test_of_not_zero t.times counted.0 in
      record {
        numbers = t.times ∷ rest.numbers;
        one_each = let all = rest.one_each in omega arith;
        terms_are = rw some (ap (λ k. record { place = k; times = t.times } ∷ terms_of places rest.numbers) (sym here)
            ∙ ap (λ (more : List Term). t ∷ more) rest.terms_are);
        last_are = one_before t.times rest.numbers last (length places) rest.last_are;
      }
  | inr other ↦
      let past : p < t.place = elim (cases_lt t.place p) [
        | inl before ↦
            let apart : (p == t.place) ≡ false = ne_eqb p t.place (λ e. other (sym e)) in
            absurd (true≢false (sym (rw apart at named.0) ∙ ascends_more (p + 1) end places order.2 t.place (omega arith)))
        | inr past ↦ omega arith
      ] in
      let later : AscendsFrom (p + 1) end (map (λ (s : Term). s.place) (t ∷ terms)) = (omega arith, ascends.1, ascends.2) in
      let rest = numbers_of (p + 1) end places (t ∷ terms) last order.2 later (named_later p (p + 1) end places (t ∷ terms) (omega arith) later named)
      counted in
      record {
        numbers = pos 0 ∷ rest.numbers;
        one_each = let all = rest.one_each in omega arith;
        terms_are = rest.terms_are;
        last_are = one_before (pos 0) rest.numbers last (length places) rest.last_are;
      }
]

-- ---- canonical proofs

-- what is counted beside the kept sets: the asked set, and the own row's
abbrev last_of : ℤ → Option OwnShare → List ℤ
last_of count None = count ∷ []
last_of count (Some s) = count ∷ neg_ℤ s.share ∷ []

-- there are as many as sets beside the kept ones
length-last_of : (count : ℤ) (share : Option OwnShare) → length (last_of count share) ≡ suc (length (own_rows (own_in share)))
length-last_of count None = refl
length-last_of count (Some s) = refl

-- the first is the asked set's
first_of_last : (count : ℤ) (share : Option OwnShare) → number_at (last_of count share) 0 ≡ count
first_of_last count None = refl
first_of_last count (Some s) = refl

-- and the second tells the share
share_of_last : (count : ℤ) (share : Option OwnShare) → share_for (own_in share) (number_at (last_of count share) 1) ≡ share
share_of_last count None = refl
share_of_last count (Some s) = ap (λ x. Some (record { own = s.own; share = x })) (neg_ℤ-neg_ℤ s.share)

module _ (n : ℕ) (history : List Answered) (protected : Protection) (asked : Asked) (target : Target) (share : Option OwnShare) (times : ℤ)
    (terms : List Term) (count : ℤ) (canonical : IsCanonicalSum n history protected asked target share times terms count) where
  has_numbers : HasNumbers canonical.places terms (last_of count share)
  has_numbers = numbers_of 0 (length history) canonical.places terms (last_of count share) canonical.kept.ascending canonical.ascending canonical.named
      canonical.counted

  count_is : number_at has_numbers.numbers (length canonical.places) ≡ count
  count_is = has_numbers.last_are 0 (length canonical.places) (omega arith) ∙ first_of_last count share

  share_is : share_for (own_in share) (number_at has_numbers.numbers (length canonical.places + 1)) ≡ share
  share_is = ap (share_for (own_in share)) (has_numbers.last_are 1 (length canonical.places + 1) refl) ∙ share_of_last count share

  -- the kept sets, with the own row, come to the target, with numbers of which the terms are those that aren't 0
  come : ComeTo n (kept_sets history canonical.places asked.rows.list (own_in share)) (set_row n (rows_of protected target)) times has_numbers.numbers
  come =
      let rows = asked.rows.list in
      let places = canonical.places in
      let numbers = has_numbers.numbers in
      let size : length numbers ≡ length places + suc (length (own_rows (own_in share))) = has_numbers.one_each ∙ ap (λ k. length places + k)
      (length-last_of count share) in
      record {
        positive = canonical.positive;
        one_each = size ∙ sym (count_sets history places rows (own_in share));
        add_up = λ j l.
            (adds_by_numbers n history places rows (rows_of protected target) (own_in share) times numbers j l).1
            (subst (λ (list : List Term). sum_at (weights_of history rows (number_at numbers (length places)) list) j
            ≡ adds (rows_of protected target) times j +ℤ share_adds (share_for (own_in share) (number_at numbers (length places + 1))) j)
            (sym has_numbers.terms_are)
            (subst (λ (z : ℤ). sum_at (weights_of history rows z terms) j
            ≡ adds (rows_of protected target) times j +ℤ share_adds (share_for (own_in share) (number_at numbers (length places + 1))) j) (sym count_is)
            (subst (λ (o : Option OwnShare). sum_at (weights_of history rows count terms) j ≡ adds (rows_of protected target) times j +ℤ share_adds o j)
            (sym share_is) (canonical.add_up j l))));
        content = record {
          divides = all-ones (times ∷ numbers);
          greatest = λ d all. canonical.divided.greatest d (
            all.0,
            subst (λ (list : List Term). AllByRecursion (λ z. d ∣ unsigned_abs z) (count ∷ shares_in share ++ map (λ (t : Term). t.times) list))
                has_numbers.terms_are
                (subst (λ (o : Option OwnShare). AllByRecursion (λ z. d ∣ unsigned_abs z)
                (count ∷ shares_in o ++ map (λ (t : Term). t.times) (terms_of places numbers))) share_is
                (subst (λ z. AllByRecursion (λ x. d ∣ unsigned_abs x)
                (z ∷ shares_in (share_for (own_in share) (number_at numbers (length places + 1))) ++ map (λ (t : Term). t.times) (terms_of places numbers)))
                count_is
                (parts_from_all (λ z. d ∣ unsigned_abs z) (divides_opposite d) (own_in share) places numbers size all.1))),
          );
        };
      }

-- which records are kept follows from the history
same_kept : (n column : ℕ) (history : List Answered) (places others : List ℕ) → AreKept n column history places → AreKept n column history others → places
    ≡ others
same_kept n column history places others first second =
    ascending_same 0 (length history) (length history) places others first.ascending second.ascending
    (λ place. same_test (has_row places place) (has_row others place)
    (λ there. (second.each place).1 ((first.each place).0 there), λ there. (first.each place).1 ((second.each place).0 there)))

-- two canonical proofs for one target and one asker are the same
pub same_parts : (n : ℕ) (history : List Answered) (protected : Protection) (asked : Asked) (target : Target) (share another : Option OwnShare)
    (times other : ℤ) (terms others : List Term) (count else : ℤ)
    (first : IsCanonicalSum n history protected asked target share times terms count) →
    IsCanonicalSum n history protected asked target another other others else → own_in another ≡ own_in share →
    AreIndependent n (kept_sets history first.places asked.rows.list (own_in share)) →
    (times ≡ other) × (count ≡ else) × (terms ≡ others) × (share ≡ another)
same_parts n history protected asked target share another times other terms others count else first second own independent =
    let one = has_numbers n history protected asked target share times terms count first in
    let two = has_numbers n history protected asked target another other others else second in
    let places : second.places ≡ first.places = same_kept n asked.column history second.places first.places second.kept first.kept in
    let sets = kept_sets history first.places asked.rows.list (own_in share) in
    let goal = set_row n (rows_of protected target) in
    let came = come n history protected asked target share times terms count first in
    let moved : ComeTo n sets goal other two.numbers
    = subst (λ (o : Option ℕ). ComeTo n (kept_sets history first.places asked.rows.list o) goal other two.numbers) own
    (subst (λ (list : List ℕ). ComeTo n (kept_sets history list asked.rows.list (own_in another)) goal other two.numbers) places
    (come n history protected asked target another other others else second)) in
    let same : times ∷ one.numbers ≡ other ∷ two.numbers = one_way n sets goal times other one.numbers two.numbers came moved independent in
    let same_times : times ≡ other = cc in
    let numbers : one.numbers ≡ two.numbers = cc in
    let same_count : count ≡ else = sym (count_is n history protected asked target share times terms count first)
    ∙ ap (λ (list : List ℤ). number_at list (length first.places)) numbers
    ∙ ap (λ (list : List ℕ). number_at two.numbers (length list)) (sym places)
    ∙ count_is n history protected asked target another other others else second in
    let same_share : share ≡ another = sym (share_is n history protected asked target share times terms count first)
    ∙ ap (λ (list : List ℤ). share_for (own_in share) (number_at list (length first.places + 1))) numbers
    ∙ ap (λ (list : List ℕ). share_for (own_in share) (number_at two.numbers (length list + 1))) (sym places)
    ∙ ap (λ (o : Option ℕ). share_for o (number_at two.numbers (length second.places + 1))) (sym own)
    ∙ share_is n history protected asked target another other others else second in
    let same_terms : terms ≡ others = sym one.terms_are ∙ ap (terms_of first.places) numbers ∙ ap (λ (list : List ℕ). terms_of list two.numbers) (sym places)
    ∙ two.terms_are in
    (same_times, same_count, same_terms, same_share)

-- so what holds of the numbers of one holds of those of the other
same_numbers : (P : ℤ → Type 0) (n : ℕ) (history : List Answered) (protected : Protection) (asked : Asked) (target : Target)
    (share another : Option OwnShare) (times other : ℤ) (terms others : List Term) (count else : ℤ)
    (first : IsCanonicalSum n history protected asked target share times terms count) →
    IsCanonicalSum n history protected asked target another other others else → own_in another ≡ own_in share →
    AreIndependent n (kept_sets history first.places asked.rows.list (own_in share)) →
    AllByRecursion P (times ∷ count ∷ shares_in share ++ map (λ (t : Term). t.times) terms) →
    AllByRecursion P (other ∷ else ∷ shares_in another ++ map (λ (t : Term). t.times) others)
same_numbers P n history protected asked target share another times other terms others count else first second own independent all =
    let same = same_parts n history protected asked target share another times other terms others count else first second own independent in
    let shares = subst (λ (o : Option OwnShare). AllByRecursion P (shares_in o ++ map (λ (t : Term). t.times) terms)) same.3 all.1.1 in (
      subst P same.0 all.0,
      (subst P same.1 all.1.0, subst (λ (list : List Term). AllByRecursion P (shares_in another ++ map (λ (t : Term). t.times) list)) same.2 shares),
    )

-- ---- what has a proof isn't too wide

-- there is one least place
pub one_least : (P : ℕ → Type 0) (p q : ℕ) → IsLeast P (Some p) → IsLeast P (Some q) → p ≡ q
one_least P p q (here, before) (there, earlier) = elim (cases_lt p q) [
  | inl less ↦ absurd (earlier p less here)
  | inr more ↦ elim (cases_lt q p) [
    | inl less ↦ absurd (before q less there)
    | inr same ↦ omega arith
  ]
]

-- of two places neither is later only if they are the same, and the askers too
one_place : (i j : ℕ) (own other : Option ℕ) → IsPlaceNoLater i own j other → IsPlaceNoLater j other i own → (i ≡ j) × (own ≡ other)
one_place i j None None first second = (omega arith, refl)
one_place i j None (Some p) first second = absurd second
one_place i j (Some q) None first second = absurd first
one_place i j (Some q) (Some p) (inl less) (inl more) = absurd (omega arith)
one_place i j (Some q) (Some p) (inl less) (inr back) = let same = back.0 in absurd (omega arith)
one_place i j (Some q) (Some p) (inr same) (inl more) = let here = same.0 in absurd (omega arith)
one_place i j (Some q) (Some p) (inr same) (inr back) = let one = same.1 in let two = back.1 in (same.0, ap Some (omega arith))

-- so there is one first target
pub same_target : (n : ℕ) (protected : Protection) (column : ℕ) (rows : List (List ℤ)) (a b : Target) (own other : Option ℕ) →
    IsFirstTarget n protected column rows a own → IsFirstTarget n protected column rows b other → (a ≡ b) × (own ≡ other)
same_target n protected column rows a b own other first second =
    both a b (first.first b other second.told) (second.first a own first.told)
  where
    both : (x y : Target) → IsNoLater x own y other → IsNoLater y other x own → (x ≡ y) × (own ≡ other)
    both (Row i) (Row j) one two = let same = one_place i j own other one two in (ap Row same.0, same.1)
    both (Row i) (Group h) one two = absurd two
    both (Group g) (Row j) one two = absurd one
    both (Group g) (Group h) one two = let same = one_place g h own other one two in (ap Group same.0, same.1)

-- each term is counted a small number of times
small_terms : (history : List Answered) (column : ℕ) (terms : List Term) → AllByRecursion (IsTerm history column) terms →
    AllByRecursion IsSmall (map (λ (t : Term). t.times) terms)
small_terms history column [] all = tt
small_terms history column (t ∷ terms) all = (all.0.small, small_terms history column terms all.1)

module _ (n : ℕ) (history : List Answered) (protected : Protection) (asked : Asked) (own : Option ℕ) (places : List ℕ) (form : Echelon)
    (marks : AreMarks n history asked (suc protected.people.own) own places form)
    (independent : AreIndependent n (kept_sets history places asked.rows.list own)) (goal : Target)
    (found : IsFirstTarget n protected asked.column (map (set_row n) (sets_with_asked history asked)) goal own) where
  not_too_wide : (proof : Proof) → IsSumProof n history protected asked proof → ¬ (IsSumTooWide n history protected asked)
  not_too_wide (Max answer row place high) none wide = absurd none
  not_too_wide (Sum target share times terms count) (canonical, shows) (inl wide) =
      let kept = wide.marks.kept in
      let same = same_kept n asked.column history wide.marks.places places kept marks.kept in
      let asker = (same_target n protected asked.column (map (set_row n) (sets_with_asked history asked)) wide.target goal wide.own own wide.first found).1 in
      marks.marked.narrow
      (subst (λ (o : Option ℕ). HasWideMarks n (marks_for n (suc protected.people.own) (length places)) (kept_sets history places asked.rows.list o)) asker
      (subst (λ (list : List ℕ). HasWideMarks n (marks_for n (suc protected.people.own) (length list))
      (kept_sets history list asked.rows.list wide.own)) same wide.marks.wide))
  not_too_wide (Sum target share times terms count) (canonical, shows) (inr wide) =
      let rows = map (set_row n) (sets_with_asked history asked) in
      let same = same_kept n asked.column history places canonical.places marks.kept canonical.kept in
      let asker = (same_target n protected asked.column rows target goal (own_in share) own canonical.first found).1 in
      let one = same_target n protected asked.column rows wide.target target (own_in wide.share) (own_in share) wide.canonical.first canonical.first in
      let other = subst (λ (t : Target). IsCanonicalSum n history protected asked t wide.share wide.times wide.terms wide.count) one.0 wide.canonical in
      wide.large (same_numbers IsSmall n history protected asked target share wide.share times wide.times terms wide.terms count wide.count canonical other
      one.1
      (subst (λ (o : Option ℕ). AreIndependent n (kept_sets history canonical.places asked.rows.list o)) (sym asker)
      (subst (λ (list : List ℕ). AreIndependent n (kept_sets history list asked.rows.list own)) same independent)) (
        shows.small_times,
        (
          shows.small_count,
          all-append IsSmall (shares_in share) (map (λ (t : Term). t.times) terms) shows.small_share
              (small_terms history asked.column terms shows.are_terms),
        ),
      ))

  -- so what was given a proof is not too wide
  pub none_too_wide : (result : Result Proof ProveFault) → IfOk result (IsSumProof n history protected asked) →
      IfOk result (λ proof. ¬ (IsSumTooWide n history protected asked))
  none_too_wide (Ok proof) is = not_too_wide proof is
  none_too_wide (Err fault) is = tt
