-- The multipliers of a marked form make the canonical proof of a target that the kept sets span.
use Rattle.std.proofs.Common.{◌≡◌, ◌≢◌, ℕ, zero, suc, ◌+◌, ◌<◌, ◌≤◌, Bool, true, false, cond, ℤ, pos, List, [], ◌∷◌, ◌++◌, map, length, Option, None, Some, refl, sym, ap, ◌∙◌, subst, arith, length-append}
use Rattle.std.specs.Prelude.{◌↔◌, ◌+ℤ◌, ◌*ℤ◌, ◌<ℤ◌, neg_ℤ, unsigned_abs}
use Rattle.std.specs.Int.{◌∣◌}
use Rattle.std.specs.List.{AllByRecursion}
use Rattle.std.proofs.lemmas.Int.{ints}
use Rattle.std.proofs.lemmas.List.{length-map, map-append, append_assoc}
use Rattle.std.proofs.lemmas.Nat.Gcd.{dvd-zero}
use Rattle.std.proofs.Math.IntN.{zero-*ℤ, *ℤ_comm}
use Rattle.audit_types.specs.declared.records.Answered.{Answered}
use Rattle.audit_types.specs.declared.records.Asked.{Asked}
use Rattle.audit_types.specs.History.{Protection}
use Rattle.audit_types.specs.Rows.{has_row, AscendsFrom}
use Rattle.audit_types.specs.FilteredRows.{from_lower}
use Rattle.audit_types.specs.Truth.{number_at, is_zero}
use Rattle.audit_types.specs.Numbers.{zero_from_test, not_zero_from_test, size_negated}
use Rattle.audit_types.specs.Form.{set_row, combined, InSpan, IsReducedForm}
use Rattle.audit_types.specs.RowNumbers.{number_at-set_row}
use Rattle.audit_types.specs.Products.{neg-times}
use Rattle.audit_types.specs.ListLaws.{all-get_or}
use Rattle.int_rows.specs.ContentLaws.{all-ones}
use Rattle.denial_proof.specs.declared.proof_parts.Target.{Target}
use Rattle.denial_proof.specs.declared.proof_parts.Term.{Term}
use Rattle.denial_proof.specs.Weights.{adds, rows_at, sum_at, weight_of, weights_of, own_in, own_rows, shares_in, share_for, share_adds}
use Rattle.denial_proof.specs.Certificates.{rows_of}
use Rattle.denial_proof.specs.Kept.{AreKept, kept_sets, marked_rows}
use Rattle.denial_proof.specs.Numbers.{terms_of, AreMultipliers, ComeTo}
use Rattle.denial_proof.specs.Canonical.{IsFirstTarget, sets_with_asked, IsCanonicalSum}
use Rattle.denial_proof.proofs.TotalsFollow.{chosen}
use Rattle.audit_types.specs.Totals.{combined-none, combined-push}
use Rattle.denial_proof.proofs.KeptIndependent.{all_held}
use Rattle.denial_proof.specs.Kept.{AreIndependent}
use Rattle.denial_proof.proofs.ReadOff.{read_off}
use Rattle.denial_proof.proofs.Dividing.{positive_factor, divided_comes_to}

-- ---- the multipliers come to the target

module _ (n m marks : ℕ) (sets : List (List ℕ)) (form : List (List ℤ)) (target : List ℤ) (count : length sets ≡ m) (most : m ≤ marks)
    (independent : AreIndependent n sets) (reduced : IsReducedForm (n + marks) (marked_rows n marks 0 sets) form)
    (span : InSpan (map (set_row n) sets) target) where
  pub come_to : (times : ℤ) (numbers : List ℤ) → AreMultipliers form target n m (times ∷ numbers) → ComeTo n sets target times numbers
  come_to times numbers are =
      let factor = are.divided.factor in
      let whole : are.common ≡ factor *ℤ times = let parts = are.divided.is_multiple in cc in
      let rest : are.numbers ≡ map (λ x. factor *ℤ x) numbers = let parts = are.divided.is_multiple in cc in
      let read = read_off n marks sets (omega arith) independent form reduced target are.common are.read.taken are.numbers span are.read.are_taken
      (λ k l. are.read.exact k (omega arith)) in
      record {
        positive = positive_factor times factor are.divided.positive (subst (λ z. pos 0 <ℤ z) (whole ∙ *ℤ_comm factor times) are.positive);
        one_each = sym (length-map numbers (λ x. factor *ℤ x)) ∙ ap length (sym rest) ∙ are.read.one_each ∙ sym count;
        add_up = λ j l. divided_comes_to factor times numbers (map (set_row n) sets) (number_at target j) j are.divided.positive
            (ap (λ list. combined list (map (set_row n) sets) j) (sym rest) ∙ read j l ∙ ap (λ z. z *ℤ number_at target j) whole);
        content = are.divided.content;
      }

-- a list of multipliers isn't empty
pub head_and_tail : (form : List (List ℤ)) (target : List ℤ) (n m : ℕ) (list : List ℤ) → AreMultipliers form target n m list → (rest : List ℤ) ×
    (list ≡ number_at list 0 ∷ rest)
head_and_tail form target n m [] are = absurd (let parts = are.divided.is_multiple in cc)
head_and_tail form target n m (x ∷ rest) are = (rest, refl)

-- ---- the terms

-- what holds of all places holds of those of the terms
pub terms_hold : (P : ℕ → Type 0) (places : List ℕ) (numbers : List ℤ) → AllByRecursion P places →
    AllByRecursion (λ (t : Term). P t.place) (terms_of places numbers)
terms_hold P [] numbers all = tt
terms_hold P (p ∷ places) [] all = tt
terms_hold P (p ∷ places) (x ∷ numbers) all = go (is_zero x) (terms_hold P places numbers all.1)
  where
    go : (b : Bool) → AllByRecursion (λ (t : Term). P t.place) (terms_of places numbers) →
        AllByRecursion (λ (t : Term). P t.place) (cond b (terms_of places numbers) (record { place = p; times = x } ∷ terms_of places numbers))
    go true rest = rest
    go false rest = (all.0, rest)

terms_ascend : (low end : ℕ) (places : List ℕ) (numbers : List ℤ) → AscendsFrom low end places →
    AscendsFrom low end (map (λ (t : Term). t.place) (terms_of places numbers))
terms_ascend low end [] numbers ascends = tt
terms_ascend low end (p ∷ places) [] ascends = tt
terms_ascend low end (p ∷ places) (x ∷ numbers) ascends = go (is_zero x) (terms_ascend (p + 1) end places numbers ascends.2)
  where
    go : (b : Bool) → AscendsFrom (p + 1) end (map (λ (t : Term). t.place) (terms_of places numbers)) →
        AscendsFrom low end (map (λ (t : Term). t.place) (cond b (terms_of places numbers) (record { place = p; times = x } ∷ terms_of places numbers)))
    go true rest = let order = ascends.0 in from_lower low (p + 1) end (map (λ (t : Term). t.place) (terms_of places numbers)) (omega arith) rest
    go false rest = (ascends.0, ascends.1, rest)

-- none is counted 0 times
terms_counted : (places : List ℕ) (numbers : List ℤ) → AllByRecursion (λ (t : Term). t.times ≢ pos 0) (terms_of places numbers)
terms_counted [] numbers = tt
terms_counted (p ∷ places) [] = tt
terms_counted (p ∷ places) (x ∷ numbers) = go (is_zero x) refl (terms_counted places numbers)
  where
    go : (b : Bool) → is_zero x ≡ b → AllByRecursion (λ (t : Term). t.times ≢ pos 0) (terms_of places numbers) →
        AllByRecursion (λ (t : Term). t.times ≢ pos 0) (cond b (terms_of places numbers) (record { place = p; times = x } ∷ terms_of places numbers))
    go true e rest = rest
    go false e rest = (not_zero_from_test x e, rest)

-- there are no more of them than places
pub terms_few : (places : List ℕ) (numbers : List ℤ) → length (terms_of places numbers) ≤ length places
terms_few [] numbers = omega arith
terms_few (p ∷ places) [] = omega arith
terms_few (p ∷ places) (x ∷ numbers) = go (is_zero x) (terms_few places numbers)
  where
    go : (b : Bool) → length (terms_of places numbers) ≤ length places → length
        (cond b (terms_of places numbers) (record { place = p; times = x } ∷ terms_of places numbers)) ≤ suc (length places)
    go true rest = omega arith
    go false rest = omega arith

-- what holds of all numbers holds of how often the terms are counted
pub terms_numbers : (P : ℤ → Type 0) (places : List ℕ) (numbers : List ℤ) → AllByRecursion P numbers →
    AllByRecursion P (map (λ (t : Term). t.times) (terms_of places numbers))
terms_numbers P [] numbers all = tt
terms_numbers P (p ∷ places) [] all = tt
terms_numbers P (p ∷ places) (x ∷ numbers) all = go (is_zero x) (terms_numbers P places numbers all.1)
  where
    go : (b : Bool) → AllByRecursion P (map (λ (t : Term). t.times) (terms_of places numbers)) →
        AllByRecursion P (map (λ (t : Term). t.times) (cond b (terms_of places numbers) (record { place = p; times = x } ∷ terms_of places numbers)))
    go true rest = rest
    go false rest = (all.0, rest)

-- what holds of 0, of how often the terms are counted and of the last number holds of all numbers
pub all_from_terms : (P : ℤ → Type 0) → P (pos 0) → (places : List ℕ) (numbers : List ℤ) → length numbers ≡ length places + 1 →
    AllByRecursion P (map (λ (t : Term). t.times) (terms_of places numbers)) →
    P (number_at numbers (length places)) → AllByRecursion P numbers
all_from_terms P none [] [] size all last = absurd (omega arith)
all_from_terms P none [] (x ∷ []) size all last = (last, tt)
all_from_terms P none [] (x ∷ y ∷ numbers) size all last = absurd (omega arith)
all_from_terms P none (p ∷ places) [] size all last = absurd (omega arith)
all_from_terms P none (p ∷ places) (x ∷ numbers) size all last = go (is_zero x) refl (λ rest. all_from_terms P none places numbers (omega arith) rest last) all
  where
    go : (b : Bool) → is_zero x ≡ b → (AllByRecursion P (map (λ (t : Term). t.times) (terms_of places numbers)) → AllByRecursion P numbers) →
        AllByRecursion P (map (λ (t : Term). t.times) (cond b (terms_of places numbers) (record { place = p; times = x } ∷ terms_of places numbers))) →
        AllByRecursion P (x ∷ numbers)
    go true e later h = (subst P (sym (zero_from_test x e)) none, later h)
    go false e later h = (h.0, later h.1)

-- the same if two numbers are left beside the terms, the second at this place
all_from_two : (P : ℤ → Type 0) → P (pos 0) → (places : List ℕ) (numbers : List ℤ) → length numbers ≡ length places + 2 →
    AllByRecursion P (map (λ (t : Term). t.times) (terms_of places numbers)) →
    P (number_at numbers (length places)) → (at : ℕ) → at ≡ length places + 1 → P (number_at numbers at) → AllByRecursion P numbers
all_from_two P none [] [] size all one at is two = absurd (omega arith)
all_from_two P none [] (x ∷ []) size all one at is two = absurd (omega arith)
all_from_two P none [] (x ∷ y ∷ []) size all one zero is two = absurd (omega arith)
all_from_two P none [] (x ∷ y ∷ []) size all one (suc zero) is two = (one, (two, tt))
all_from_two P none [] (x ∷ y ∷ []) size all one (suc (suc at)) is two = absurd (omega arith)
all_from_two P none [] (x ∷ y ∷ z ∷ numbers) size all one at is two = absurd (omega arith)
all_from_two P none (p ∷ places) [] size all one at is two = absurd (omega arith)
all_from_two P none (p ∷ places) (x ∷ numbers) size all one zero is two = absurd (omega arith)
all_from_two P none (p ∷ places) (x ∷ numbers) size all one (suc at) is two =
    go (is_zero x) refl (λ rest. all_from_two P none places numbers (omega arith) rest one at (omega arith) two) all
  where
    go : (b : Bool) → is_zero x ≡ b → (AllByRecursion P (map (λ (t : Term). t.times) (terms_of places numbers)) → AllByRecursion P numbers) →
        AllByRecursion P (map (λ (t : Term). t.times) (cond b (terms_of places numbers) (record { place = p; times = x } ∷ terms_of places numbers))) →
        AllByRecursion P (x ∷ numbers)
    go true e later h = (subst P (sym (zero_from_test x e)) none, later h)
    go false e later h = (h.0, later h.1)

-- the row that has the share is the own one
pub own_of_share : (own : Option ℕ) (x : ℤ) → own_in (share_for own x) ≡ own
own_of_share None x = refl
own_of_share (Some q) x = refl

-- they add up to what the numbers of the kept sets come to
pub terms_add_up : (n : ℕ) (history : List Answered) (places : List ℕ) (numbers : List ℤ) (j : ℕ) → j < n →
    sum_at (map (weight_of history) (terms_of places numbers)) j ≡ combined numbers (map (set_row n) (map (rows_at history) places)) j
terms_add_up n history [] numbers j l = sym (combined-none numbers j)
terms_add_up n history (p ∷ places) [] j l = refl
terms_add_up n history (p ∷ places) (x ∷ numbers) j l = go (is_zero x) refl (terms_add_up n history places numbers j l)
  where
    go : (b : Bool) → is_zero x ≡ b → sum_at (map (weight_of history) (terms_of places numbers)) j
        ≡ combined numbers (map (set_row n) (map (rows_at history) places)) j →
        sum_at (map (weight_of history) (cond b (terms_of places numbers) (record { place = p; times = x } ∷ terms_of places numbers))) j
        ≡ x *ℤ number_at (set_row n (rows_at history p)) j +ℤ combined numbers (map (set_row n) (map (rows_at history) places)) j
    go true e rest =
        let none = ap (λ z. z *ℤ number_at (set_row n (rows_at history p)) j) (zero_from_test x e) ∙ zero-*ℤ (number_at (set_row n (rows_at history p)) j) in
        omega (arith, ints)
    go false e rest =
        let first = chosen (has_row (rows_at history p) j) x ∙ ap (λ z. x *ℤ z) (sym (number_at-set_row n (rows_at history p) j l)) in
        omega (arith, ints)

-- ---- the canonical proof

-- the sets that are counted in a proof, as many as there are numbers
pub count_sets : (history : List Answered) (places rows : List ℕ) (own : Option ℕ) → length (kept_sets history places rows own)
    ≡ length places + suc (length (own_rows own))
count_sets history places rows own =
    length-append (map (rows_at history) places) (rows ∷ map (λ q. q ∷ []) (own_rows own))
    ∙ ap (λ k. k + suc (length (map (λ q. q ∷ []) (own_rows own)))) (length-map places (rows_at history))
    ∙ ap (λ k. length places + suc k) (length-map (own_rows own) (λ q. q ∷ []))

-- what the asked set and the own row add to a column, each as often as its number says
abbrev pub rest_of : ℕ → List ℕ → Option ℕ → ℤ → ℤ → ℕ → ℤ
rest_of n rows None count share j = count *ℤ number_at (set_row n rows) j
rest_of n rows (Some q) count share j = count *ℤ number_at (set_row n rows) j +ℤ share *ℤ number_at (set_row n (q ∷ [])) j

-- the numbers of the kept sets and the asked one
parts_of_asked : (n : ℕ) (history : List Answered) (places rows : List ℕ) (numbers : List ℤ) (j : ℕ) →
    combined numbers (map (set_row n) (kept_sets history places rows None)) j
    ≡ combined numbers (map (set_row n) (map (rows_at history) places)) j +ℤ number_at numbers (length places) *ℤ number_at (set_row n rows) j
parts_of_asked n history places rows numbers j =
    let sets = map (rows_at history) places in
    let count : length (map (set_row n) sets) ≡ length places = length-map sets (set_row n) ∙ length-map places (rows_at history) in
    ap (λ (more : List (List ℤ)). combined numbers more j) (map-append (set_row n) sets (rows ∷ []))
    ∙ combined-push numbers (map (set_row n) sets) (set_row n rows) j
    ∙ ap (λ i. combined numbers (map (set_row n) sets) j +ℤ number_at numbers i *ℤ number_at (set_row n rows) j) count

-- those of all counted sets are those of the kept ones, the asked one's and the own row's
pub combined_parts : (n : ℕ) (history : List Answered) (places rows : List ℕ) (own : Option ℕ) (numbers : List ℤ) (j : ℕ) →
    combined numbers (map (set_row n) (kept_sets history places rows own)) j
    ≡ combined numbers (map (set_row n) (map (rows_at history) places)) j
    +ℤ rest_of n rows own (number_at numbers (length places)) (number_at numbers (length places + 1)) j
combined_parts n history places rows None numbers j = parts_of_asked n history places rows numbers j
combined_parts n history places rows (Some q) numbers j =
    let sets = map (rows_at history) places in
    let asked : List (List ℕ) = sets ++ rows ∷ [] in
    let apart : kept_sets history places rows (Some q) ≡ asked ++ (q ∷ []) ∷ [] = sym (append_assoc sets (rows ∷ []) ((q ∷ []) ∷ [])) in
    let count : length (map (set_row n) asked) ≡ length places + 1
    = length-map asked (set_row n) ∙ length-append sets (rows ∷ []) ∙ ap (λ k. k + 1) (length-map places (rows_at history)) in
    let first = parts_of_asked n history places rows numbers j in
    let last = ap (λ (more : List (List ℕ)). combined numbers (map (set_row n) more) j) apart
    ∙ ap (λ (more : List (List ℤ)). combined numbers more j) (map-append (set_row n) asked ((q ∷ []) ∷ []))
    ∙ combined-push numbers (map (set_row n) asked) (set_row n (q ∷ [])) j
    ∙ ap (λ i. combined numbers (map (set_row n) asked) j +ℤ number_at numbers i *ℤ number_at (set_row n (q ∷ [])) j) count in
    omega (arith, ints)

-- what they come to at a column, once the own row's part is taken away, is what the asked set and the kept ones add up to
rest_adds : (n : ℕ) (rows : List ℕ) (own : Option ℕ) (count share : ℤ) (j : ℕ) → j < n →
    rest_of n rows own count share j +ℤ share_adds (share_for own share) j ≡ adds rows count j
rest_adds n rows None count share j l =
    let last = chosen (has_row rows j) count ∙ ap (λ z. count *ℤ z) (sym (number_at-set_row n rows j l)) in
    omega (arith, ints)
rest_adds n rows (Some q) count share j l =
    let last = chosen (has_row rows j) count ∙ ap (λ z. count *ℤ z) (sym (number_at-set_row n rows j l)) in
    let own = chosen (has_row (q ∷ []) j) (neg_ℤ share) ∙ ap (λ z. neg_ℤ share *ℤ z) (sym (number_at-set_row n (q ∷ []) j l))
    ∙ neg-times share (number_at (set_row n (q ∷ [])) j) in
    omega (arith, ints)

-- so the counted sets add up to the target and the share exactly if the numbers of all sets come to the target
pub adds_by_numbers : (n : ℕ) (history : List Answered) (places rows target : List ℕ) (own : Option ℕ) (times : ℤ) (numbers : List ℤ) (j : ℕ) → j < n →
    (combined numbers (map (set_row n) (kept_sets history places rows own)) j ≡ times *ℤ number_at (set_row n target) j)
    ↔ (sum_at (weights_of history rows (number_at numbers (length places)) (terms_of places numbers)) j
    ≡ adds target times j +ℤ share_adds (share_for own (number_at numbers (length places + 1))) j)
adds_by_numbers n history places rows target own times numbers j l =
    let sum = terms_add_up n history places numbers j l in
    let parts = combined_parts n history places rows own numbers j in
    let rest = rest_adds n rows own (number_at numbers (length places)) (number_at numbers (length places + 1)) j l in
    let due = chosen (has_row target j) times ∙ ap (λ z. times *ℤ z) (sym (number_at-set_row n target j l)) in
    (λ whole. omega (arith, ints), λ whole. omega (arith, ints))

-- what holds of a number and its opposite, of how often the terms are counted, of 0 and of what else is counted holds of all numbers
pub all_from_parts : (P : ℤ → Type 0) → P (pos 0) → ((x : ℤ) → P (neg_ℤ x) → P x) → (own : Option ℕ) (places : List ℕ) (numbers : List ℤ) →
    length numbers ≡ length places + suc (length (own_rows own)) →
    AllByRecursion P (number_at numbers (length places) ∷ shares_in (share_for own (number_at numbers (length places + 1)))
    ++ map (λ (t : Term). t.times) (terms_of places numbers)) → AllByRecursion P numbers
all_from_parts P none turned None places numbers size all = all_from_terms P none places numbers size all.1 all.0
all_from_parts P none turned (Some q) places numbers size all =
    all_from_two P none places numbers size all.1.1 all.0 (length places + 1) refl (turned (number_at numbers (length places + 1)) all.1.0)

-- and back
pub parts_from_all : (P : ℤ → Type 0) → ((x : ℤ) → P x → P (neg_ℤ x)) → (own : Option ℕ) (places : List ℕ) (numbers : List ℤ) →
    length numbers ≡ length places + suc (length (own_rows own)) → AllByRecursion P numbers →
    AllByRecursion P (number_at numbers (length places) ∷ shares_in (share_for own (number_at numbers (length places + 1)))
    ++ map (λ (t : Term). t.times) (terms_of places numbers))
parts_from_all P turned None places numbers size all =
    (all-get_or P numbers (length places) (pos 0) all (omega arith), terms_numbers P places numbers all)
parts_from_all P turned (Some q) places numbers size all = (
  all-get_or P numbers (length places) (pos 0) all (omega arith),
  (
    turned (number_at numbers (length places + 1)) (all-get_or P numbers (length places + 1) (pos 0) all (omega arith)),
    terms_numbers P places numbers all,
  ),
)

-- a divisor of a number divides its opposite
pub divides_opposite : (d : ℕ) (x : ℤ) → d ∣ unsigned_abs x → d ∣ unsigned_abs (neg_ℤ x)
divides_opposite d x divides = subst (λ k. d ∣ k) (sym (size_negated x)) divides

pub divides_back : (d : ℕ) (x : ℤ) → d ∣ unsigned_abs (neg_ℤ x) → d ∣ unsigned_abs x
divides_back d x divides = subst (λ k. d ∣ k) (size_negated x) divides

pub canonical_sum : (n : ℕ) (history : List Answered) (protected : Protection) (asked : Asked) (places : List ℕ) (target : Target) (own : Option ℕ) (times : ℤ)
    (numbers : List ℤ) → AreKept n asked.column history places →
    IsFirstTarget n protected asked.column (map (set_row n) (sets_with_asked history asked)) target own →
    ComeTo n (kept_sets history places asked.rows.list own) (set_row n (rows_of protected target)) times numbers →
    IsCanonicalSum n history protected asked target (share_for own (number_at numbers (length places + 1))) times (terms_of places numbers)
    (number_at numbers (length places))
canonical_sum n history protected asked places target own times numbers kept first come =
    let rows = asked.rows.list in
    let count = number_at numbers (length places) in
    let share = share_for own (number_at numbers (length places + 1)) in
    let size : length numbers ≡ length places + suc (length (own_rows own)) = come.one_each ∙ count_sets history places rows own in
    record {
      first = subst (IsFirstTarget n protected asked.column (map (set_row n) (sets_with_asked history asked)) target)
          (sym (own_of_share own (number_at numbers (length places + 1)))) first;
      places = places;
      kept = kept;
      named = terms_hold (λ q. has_row places q ≡ true) places numbers (all_held (λ q. has_row places q ≡ true) places (λ q there. there));
      ascending = terms_ascend 0 (length history) places numbers kept.ascending;
      counted = terms_counted places numbers;
      positive = come.positive;
      add_up = λ j l. (adds_by_numbers n history places rows (rows_of protected target) own times numbers j l).0 (come.add_up j l);
      divided = record {
        divides = all-ones (times ∷ count ∷ shares_in share ++ map (λ (t : Term). t.times) (terms_of places numbers));
        greatest = λ d all. come.content.greatest d
            (all.0, all_from_parts (λ x. d ∣ unsigned_abs x) (dvd-zero d) (divides_back d) own places numbers size all.1);
      };
    }
