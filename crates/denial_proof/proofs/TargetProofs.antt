-- What the marks of a question prove of a target that the kept sets span.
use Rattle.std.proofs.Common.{◌≡◌, ℕ, zero, suc, ◌+◌, ◌<◌, ◌≤◌, ◌^◌, true, ℤ, pos, List, [], ◌∷◌, ◌-◌, map, length, take, drop, sym, ◌∙◌, subst, arith, inl, inr, Option, None, Some}
use Rattle.std.specs.Prelude.{◌*ℤ◌, ◌<ℤ◌, neg_ℤ, unsigned_abs}
use Rattle.std.specs.List.{AllByRecursion}
use Rattle.std.proofs.lemmas.Bool.{cases_lt}
use Rattle.std.proofs.lemmas.List.{get_or_past, take_all}
use Rattle.audit_types.specs.Limits.{most_rows}
use Rattle.audit_types.specs.declared.records.Answered.{Answered}
use Rattle.audit_types.specs.declared.records.Asked.{Asked}
use Rattle.audit_types.specs.History.{Protection}
use Rattle.audit_types.specs.ListLaws.{all-weaker, all-unmap}
use Rattle.audit_types.specs.Numbers.{positive_not_zero, size_negated}
use Rattle.audit_types.specs.Products.{size_of_factor}
use Rattle.audit_types.specs.Rows.{has_row}
use Rattle.audit_types.specs.RowNumbers.{all_by_number}
use Rattle.audit_types.specs.Truth.{number_at}
use Rattle.audit_types.specs.Form.{set_row, InSpan, IsPrimitive, pivot, pivot_entry}
use Rattle.sum_basis.specs.Basis.{Echelon}
use Rattle.sum_basis.specs.Elimination.{IsWithin}
use Rattle.denial_proof.specs.declared.proof_parts.Target.{Target}
use Rattle.denial_proof.specs.declared.proof_parts.Target.TheVariants.{Row, Group}
use Rattle.denial_proof.specs.declared.proof_parts.Term.{Term}
use Rattle.denial_proof.specs.declared.proof_parts.OwnShare.{OwnShare}
use Rattle.denial_proof.specs.Weights.{own_rows, shares_in, share_for}
use Rattle.denial_proof.specs.Certificates.{IsSmall, IsAsker, IsTerm, IsTarget, rows_of, ShowsTotal}
use Rattle.denial_proof.specs.Kept.{AreMarks, AreIndependent, kept_sets, marks_for}
use Rattle.denial_proof.specs.Numbers.{terms_of, AreMultipliers, ComeTo}
use Rattle.denial_proof.specs.Canonical.{IsFirstTarget, sets_with_asked, IsCanonicalSum, MayBeLarge, AreNumbersWide}
use Rattle.denial_proof.proofs.CombinedSoFar.{small_at}
use Rattle.denial_proof.proofs.CanonicalSums.{come_to, canonical_sum, count_sets, own_of_share, terms_few, terms_numbers, all_from_parts}
use Rattle.denial_proof.proofs.KeptFew.{independent_few}
use Rattle.denial_proof.proofs.MarkedFronts.{enough_marks}
use Rattle.denial_proof.proofs.OneRowTaken.{zero_elsewhere, number_small}
use Rattle.denial_proof.proofs.ReadOff.{pivots_among_columns}

-- a number of a list of small multipliers is small
pub last_small : (xs : List ℤ) (j : ℕ) → AllByRecursion IsSmall xs → IsSmall (number_at xs j)
last_small [] j h = omega arith
last_small (x ∷ xs) zero h = h.0
last_small (x ∷ xs) (suc j) h = last_small xs j h.1

-- a number is as small as its opposite
pub opposite_small : (x : ℤ) → IsSmall x → IsSmall (neg_ℤ x)
opposite_small x small = subst (λ k. k ≤ 2 ^ 112) (sym (size_negated x)) small

small_opposite : (x : ℤ) → IsSmall (neg_ℤ x) → IsSmall x
small_opposite x small = subst (λ k. k ≤ 2 ^ 112) (size_negated x) small

-- the multipliers of the target that is asked
pub as_asked : (form : List (List ℤ)) (n k m : ℕ) (group list : List ℕ) (numbers : List ℤ) → k ≡ n → list ≡ group →
    AreMultipliers form (set_row k list) k m numbers → AreMultipliers form (set_row n group) n m numbers
as_asked form n k m group list numbers same_n same_rows are =
    subst (λ (l : List ℕ). AreMultipliers form (set_row n l) n m numbers) same_rows
    (subst (λ (i : ℕ). AreMultipliers form (set_row i list) i m numbers) same_n are)

-- numbers without a common factor are no larger than with one
divided_small : (factor : ℤ) (list : List ℤ) → pos 0 <ℤ factor → AllByRecursion IsSmall (map (λ x. factor *ℤ x) list) → AllByRecursion IsSmall list
divided_small factor list positive all =
    all-weaker (λ x. IsSmall (factor *ℤ x)) IsSmall (λ x small. let more = size_of_factor factor x (positive_not_zero factor positive) in omega arith) list
    (all-unmap (λ x. factor *ℤ x) IsSmall list all)

module _ (n more : ℕ) (history : List Answered) (protected : Protection) (asked : Asked) (own : Option ℕ) (places : List ℕ) (form : Echelon)
    (marks : AreMarks n history asked (suc more) own places form) (askers : length (own_rows own) ≤ more)
    (independent : AreIndependent n (kept_sets history places asked.rows.list own)) where
  count : length (kept_sets history places asked.rows.list own) ≡ length places + suc (length (own_rows own))
  count = count_sets history places asked.rows.list own

  pub few : length places + suc (length (own_rows own)) ≤ n
  few = let most = independent_few n (kept_sets history places asked.rows.list own) independent in let all = count in omega arith

  -- each of them has a mark
  pub enough : length places + suc (length (own_rows own)) ≤ marks_for n (suc more) (length places)
  enough = enough_marks n (suc more) (length places) (suc (length (own_rows own))) few (omega arith)

  -- the pivots stand among the columns of the table
  pub below : AllByRecursion (λ row. pivot row < n) form.rows
  below = pivots_among_columns n (marks_for n (suc more) (length places)) (kept_sets history places asked.rows.list own)
      (let all = count in let most = enough in omega arith) independent form.rows marks.marked.reduced
      form.rows marks.marked.reduced.primitive marks.marked.reduced.within

  -- the multipliers for one row are small
  small_for_row : AllByRecursion (IsWithin (2 ^ 56)) form.rows → (row : ℕ) (list : List ℤ) →
      AreMultipliers form.rows (set_row n (row ∷ [])) n (length places + suc (length (own_rows own))) list → AllByRecursion IsSmall list
  small_for_row within row list are =
      let reduced = marks.marked.reduced in
      let leading = all-weaker (IsPrimitive (n + marks_for n (suc more) (length places))) (λ r. pos 0 <ℤ pivot_entry r) (λ r p. p.leading) form.rows
      reduced.primitive in
      let entries : (j : ℕ) → AllByRecursion (λ r. unsigned_abs (number_at r j) ≤ 2 ^ 56) form.rows
      = λ j. all-weaker (λ (r : List ℤ). AllByRecursion (λ x. unsigned_abs x ≤ 2 ^ 56) r) (λ r. unsigned_abs (number_at r j) ≤ 2 ^ 56)
      (λ r small. small_at r j small) form.rows within in
      let each : (k : ℕ) → IsSmall (number_at are.numbers k) = λ k. elim (cases_lt k (length are.numbers)) [
        | inl inside ↦
            let read = are.read.exact k (let all = are.read.one_each in omega arith) in
            let small = number_small are.common (number_at (set_row n (row ∷ []))) row (λ j other. zero_elsewhere n row j other) form.rows are.read.taken
            (n + k) reduced.echelon leading are.read.are_taken are.read.small (entries (n + k)) in
            subst IsSmall (sym read) small
        | inr past ↦ subst IsSmall (sym (get_or_past are.numbers k (pos 0) past)) (let none : unsigned_abs (pos 0) ≤ 2 ^ 112 = omega arith in none)
      ] in
      let first = are.small in
      let common : IsSmall are.common = omega arith in
      divided_small are.divided.factor list are.divided.positive
      (subst (AllByRecursion IsSmall) are.divided.is_multiple (common, all_by_number IsSmall are.numbers each))

  module _ (target : Target) (first : IsFirstTarget n protected asked.column (map (set_row n) (sets_with_asked history asked)) target own)
      (span : InSpan (map (set_row n) (kept_sets history places asked.rows.list own)) (set_row n (rows_of protected target))) (times : ℤ)
      (numbers : List ℤ)
      (are : AreMultipliers form.rows (set_row n (rows_of protected target)) n (length places + suc (length (own_rows own))) (times ∷ numbers)) where
    -- the share of the own row
    abbrev pub share : Option OwnShare
    share = share_for own (number_at numbers (length places + 1))

    come : ComeTo n (kept_sets history places asked.rows.list own) (set_row n (rows_of protected target)) times numbers
    come = come_to n (length places + suc (length (own_rows own))) (marks_for n (suc more) (length places))
        (kept_sets history places asked.rows.list own) form.rows
        (set_row n (rows_of protected target)) count enough independent marks.marked.reduced span times numbers are

    canonical : IsCanonicalSum n history protected asked target share times (terms_of places numbers) (number_at numbers (length places))
    canonical = canonical_sum n history protected asked places target own times numbers marks.kept first come

    size : length numbers ≡ length places + suc (length (own_rows own))
    size = come.one_each ∙ count

    -- a term names a kept record, so one of the column
    terms_are : AllByRecursion IsSmall numbers → AllByRecursion (IsTerm history asked.column) (terms_of places numbers)
    terms_are small = both (terms_of places numbers) canonical.named (terms_numbers IsSmall places numbers small)
      where
        both : (terms : List Term) → AllByRecursion (λ (t : Term). has_row canonical.places t.place ≡ true) terms →
            AllByRecursion IsSmall (map (λ (t : Term). t.times) terms) →
            AllByRecursion (IsTerm history asked.column) terms
        both [] named all = tt
        both (t ∷ terms) named all = (
          record { named = (((canonical.kept.each t.place).0 named.0).r, ((canonical.kept.each t.place).0 named.0).own); small = all.0 },
          both terms named.1 all.1,
        )

    -- the share is small
    share_small : AllByRecursion IsSmall numbers → AllByRecursion IsSmall (shares_in (share_for own (number_at numbers (length places + 1))))
    share_small small = go own
      where
        go : (o : Option ℕ) → AllByRecursion IsSmall (shares_in (share_for o (number_at numbers (length places + 1))))
        go None = tt
        go (Some q) = (opposite_small (number_at numbers (length places + 1)) (last_small numbers (length places + 1) small), tt)

    -- if the numbers are small it passes the check
    pub shows : n ≤ most_rows → AllByRecursion IsSmall (times ∷ numbers) →
        IsCanonicalSum n history protected asked target share times (terms_of places numbers) (number_at numbers (length places))
        × ShowsTotal n history protected asked target share times (terms_of places numbers) (number_at numbers (length places))
    shows most small =
        let same = own_of_share own (number_at numbers (length places + 1)) in (
          canonical,
          record {
            askers = subst (λ (o : Option ℕ). AllByRecursion (IsAsker n protected.people) (own_rows o)) (sym same) first.told.askers;
            target_is = subst (λ (o : Option ℕ). IsTarget n protected asked.column o target) (sym same) first.told.is_target;
            few = let fewer = terms_few places numbers in let all = few in omega arith;
            are_terms = terms_are small.1;
            small_count = last_small numbers (length places) small.1;
            small_share = share_small small.1;
            positive = canonical.positive;
            small_times = small.0;
            add_up = canonical.add_up;
          },
        )

    -- if some number isn't, the canonical numbers are too wide
    large_for : MayBeLarge target share → ¬ (AllByRecursion IsSmall (times ∷ numbers)) → AreNumbersWide n history protected asked
    large_for may large = record {
      target = target;
      share = share;
      may = may;
      times = times;
      terms = terms_of places numbers;
      count = number_at numbers (length places);
      canonical = canonical;
      large = λ all. large (
        all.0,
        all_from_parts IsSmall (let none : unsigned_abs (pos 0) ≤ 2 ^ 112 = omega arith in none) small_opposite own places numbers size all.1,
      );
    }

-- then the target isn't a row that all would know
pub too_wide : (n more : ℕ) (history : List Answered) (protected : Protection) (asked : Asked) (own : Option ℕ) (places : List ℕ) (form : Echelon)
    (target : Target) → AreMarks n history asked (suc more) own places form → length (own_rows own) ≤ more →
    AreIndependent n (kept_sets history places asked.rows.list own) →
    IsFirstTarget n protected asked.column (map (set_row n) (sets_with_asked history asked)) target own →
    InSpan (map (set_row n) (kept_sets history places asked.rows.list own)) (set_row n (rows_of protected target)) →
    AllByRecursion (IsWithin (2 ^ 56)) form.rows → (times : ℤ) (numbers : List ℤ) →
    AreMultipliers form.rows (set_row n (rows_of protected target)) n (length places + suc (length (own_rows own))) (times ∷ numbers) →
    ¬ (AllByRecursion IsSmall (times ∷ numbers)) →
    AreNumbersWide n history protected asked
too_wide n more history protected asked None places form (Row row) marks askers independent first span within times numbers are large =
    absurd (large (small_for_row n more history protected asked None places form marks askers independent within row (times ∷ numbers) are))
too_wide n more history protected asked (Some q) places form (Row row) marks askers independent first span within times numbers are large =
    large_for n more history protected asked (Some q) places form marks askers independent (Row row) first span times numbers are tt large
too_wide n more history protected asked own places form (Group place) marks askers independent first span within times numbers are large =
    large_for n more history protected asked own places form marks askers independent (Group place) first span times numbers are tt large

-- a list from its second entry on
pub the_rest : (x : ℤ) (rest : List ℤ) → take (length (x ∷ rest) - 1) (drop 1 (x ∷ rest)) ≡ rest
the_rest x rest = take_all (length (x ∷ rest) - 1) rest (omega arith)
