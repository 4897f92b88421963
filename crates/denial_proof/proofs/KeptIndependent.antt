-- The kept sets are independent: each of them doesn't lie in the span of the column's sets before it, and so not in that of the kept ones.
use Rattle.std.proofs.Common.{◌≡◌, ℕ, zero, suc, ◌+◌, ◌<◌, ◌≤◌, true, ◌==◌, ℤ, pos, List, [], ◌∷◌, map, length, take, get_or, refl, sym, ap, ◌∙◌, subst, arith, add-one}
use Rattle.std.specs.List.{AllByRecursion}
use Rattle.std.proofs.lemmas.Int.{ints}
use Rattle.std.proofs.lemmas.Bool.{or_left, or_right, eq-eqb}
use Rattle.std.proofs.lemmas.List.{length-take-le, get_or-take, take_more, take_all, length-map, get_or-map}
use Rattle.std.proofs.lemmas.Option.{slice_get_within, get_or_from_slice_get}
use Rattle.std.proofs.Math.IntN.{zero-*ℤ}
use Rattle.audit_types.specs.declared.records.Answered.{Answered}
use Rattle.audit_types.specs.Rows.{has_row, AscendsFrom}
use Rattle.audit_types.specs.Truth.{number_at}
use Rattle.audit_types.specs.Form.{set_row, InSpan}
use Rattle.audit_types.specs.Column.{Answer}
use Rattle.audit_types.specs.History.{answers_of}
use Rattle.audit_types.specs.HistoryLaws.{own_answer}
use Rattle.audit_types.specs.ListLaws.{all-weaker, all-take, all-get_or}
use Rattle.sum_basis.specs.Spans.{span_trans}
use Rattle.denial_proof.specs.Certificates.{IsOwnRecord}
use Rattle.denial_proof.specs.Weights.{rows_at}
use Rattle.audit_core.specs.Laws.{sets_before}
use Rattle.denial_proof.specs.Kept.{IsKept, AreKept}
use Rattle.denial_proof.specs.Kept.{AreIndependent}
use Rattle.denial_proof.proofs.Independence.{independent_nil, independent_push}

-- a row lies in the span of a list that begins with it, and of one that goes on with others
pub span_first : (row : List ℤ) (rows : List (List ℤ)) → InSpan (row ∷ rows) row
span_first row rows = record { multiple = 1; positive = omega arith; coefficients = pos 1 ∷ []; is = λ j. omega (arith, ints) }

pub span_more : (first row : List ℤ) (rows : List (List ℤ)) → InSpan rows row → InSpan (first ∷ rows) row
span_more first row rows span = record {
  multiple = span.multiple;
  positive = span.positive;
  coefficients = pos 0 ∷ span.coefficients;
  is = λ j. let there = span.is j in let none = zero-*ℤ (number_at first j) in omega (arith, ints);
}

module _ (n : ℕ) where
  -- the set of each answer lies in the span of the sets of all
  all_spanned : (answers : List Answer) → AllByRecursion (λ a. InSpan (map (set_row n) (map (λ b. b.rows) answers)) (set_row n a.rows)) answers
  all_spanned [] = tt
  all_spanned (a ∷ answers) = (
    span_first (set_row n a.rows) (map (set_row n) (map (λ b. b.rows) answers)),
    all-weaker (λ b. InSpan (map (set_row n) (map (λ d. d.rows) answers)) (set_row n b.rows))
        (λ b. InSpan (map (set_row n) (map (λ d. d.rows) (a ∷ answers))) (set_row n b.rows))
        (λ b span. span_more (set_row n a.rows) (set_row n b.rows) (map (set_row n) (map (λ d. d.rows) answers)) span) answers (all_spanned answers),
  )

  -- so the set of a record lies in the span of the column's sets before any later place
  spanned_later : (column : ℕ) (history : List Answered) (early late : ℕ) (r : Answered) → IsOwnRecord history column early r → early < late →
      late ≤ length history →
      InSpan (map (set_row n) (sets_before column history late)) (set_row n r.rows.list)
  spanned_later column history early late r is order within =
      let answers = answers_of column (take late history) in
      let size : length (take late history) ≡ late = length-take-le late history within in
      let at : r ≡ get_or (take late history) early r = sym (get_or-take late history early r order ∙ get_or_from_slice_get history early r r is.there) in
      own_answer (λ a. InSpan (map (set_row n) (map (λ b. b.rows) answers)) (set_row n a.rows)) column (take late history) early r (omega arith) at is.own
      (all_spanned answers)

-- places that ascend from a number are no less
at_least : (low end : ℕ) (places : List ℕ) (k : ℕ) → AscendsFrom low end places → k < length places → low ≤ get_or places k 0
at_least low end [] k ascends l = absurd (omega arith)
at_least low end (p ∷ places) zero ascends l = ascends.0
at_least low end (p ∷ places) (suc k) ascends l = let rest = at_least (p + 1) end places k ascends.2 (omega arith) in let first = ascends.0 in omega arith

-- places that ascend are before a later one
earlier_places : (low end : ℕ) (places : List ℕ) (k : ℕ) → AscendsFrom low end places → k < length places →
    AllByRecursion (λ p. p < get_or places k 0) (take k places)
earlier_places low end [] k ascends l = absurd (omega arith)
earlier_places low end (p ∷ places) zero ascends l = tt
earlier_places low end (p ∷ places) (suc k) ascends l =
    (let rest = at_least (p + 1) end places k ascends.2 (omega arith) in omega arith, earlier_places (p + 1) end places k ascends.2 (omega arith))

-- what holds of each place that a list has holds of its items
pub all_held : (P : ℕ → Type 0) (places : List ℕ) → ((q : ℕ) → has_row places q ≡ true → P q) → AllByRecursion P places
all_held P [] each = tt
all_held P (p ∷ places) each = (
  each p (or_left (p == p) (has_row places p) (eq-eqb p p refl)),
  all_held P places (λ q there. each q (or_right (p == q) (has_row places q) there)),
)

take_map : (f : ℕ → List ℕ) (k : ℕ) (places : List ℕ) → take k (map f places) ≡ map f (take k places)
take_map f zero [] = refl
take_map f zero (p ∷ places) = refl
take_map f (suc k) [] = refl
take_map f (suc k) (p ∷ places) = ap (λ rest. f p ∷ rest) (take_map f k places)

-- the first none of a list
take_none : (sets : List (List ℕ)) → take 0 sets ≡ []
take_none [] = refl
take_none (s ∷ sets) = refl

-- the rows of a record that is there
pub rows_of_record : (history : List Answered) (column place : ℕ) (r : Answered) → IsOwnRecord history column place r → rows_at history place ≡ r.rows.list
rows_of_record history column place r is =
    get_or-map (λ (x : Answered). x.rows.list) history place r [] (slice_get_within history place r is.there)
    ∙ ap (λ (x : Answered). x.rows.list) (get_or_from_slice_get history place r r is.there)

module _ (n column : ℕ) (history : List Answered) (places : List ℕ) (are : AreKept n column history places) where
  -- the sets at these places, all before a later one
  pub spanned_before : (late : ℕ) → late ≤ length history → (some : List ℕ) → AllByRecursion (λ q. q < late) some →
      AllByRecursion (IsKept n column history) some →
      AllByRecursion (InSpan (map (set_row n) (sets_before column history late))) (map (set_row n) (map (rows_at history) some))
  spanned_before late within [] early kept = tt
  spanned_before late within (q ∷ some) early kept = (
    subst (λ rows. InSpan (map (set_row n) (sets_before column history late)) (set_row n rows)) (sym (rows_of_record history column q kept.0.r kept.0.own))
        (spanned_later n column history q late kept.0.r kept.0.own early.0 within),
    spanned_before late within some early.1 kept.1,
  )

  -- all places are kept
  pub all_kept : AllByRecursion (IsKept n column history) places
  all_kept = all_held (IsKept n column history) places (λ q there. (are.each q).0 there)

  -- a set isn't in the span of those before it
  outside_front : (k : ℕ) → k < length places → ¬
      (InSpan (map (set_row n) (take k (map (rows_at history) places))) (set_row n (get_or (map (rows_at history) places) k [])))
  outside_front k l span =
      let place = get_or places k 0 in
      let kept = all-get_or (IsKept n column history) places k 0 all_kept l in
      let rows : get_or (map (rows_at history) places) k [] ≡ kept.r.rows.list = get_or-map (rows_at history) places k 0 [] l
      ∙ rows_of_record history column place kept.r kept.own in
      let within : place < length history = slice_get_within history place kept.r kept.own.there in
      let all = spanned_before place (omega arith) (take k places) (earlier_places 0 (length history) places k are.ascending l)
      (all-take (IsKept n column history) k places all_kept) in
      let of_front = subst (λ (sets : List (List ℕ)). AllByRecursion (InSpan (map (set_row n) (sets_before column history place))) (map (set_row n) sets))
      (sym (take_map (rows_at history) k places)) all in
      kept.new (span_trans (map (set_row n) (sets_before column history place)) (map (set_row n) (take k (map (rows_at history) places)))
      (set_row n kept.r.rows.list) of_front
      (subst (λ set. InSpan (map (set_row n) (take k (map (rows_at history) places))) (set_row n set)) rows span))

  -- the first ones are independent
  front_independent : (k : ℕ) → k ≤ length places → AreIndependent n (take k (map (rows_at history) places))
  front_independent zero l = subst (AreIndependent n) (sym (take_none (map (rows_at history) places))) (independent_nil n)
  front_independent (suc k) l =
      let count = length-map places (rows_at history) in
      let more = take_more (map (rows_at history) places) k [] (omega arith) in
      let next = independent_push n (take k (map (rows_at history) places)) (get_or (map (rows_at history) places) k []) (front_independent k (omega arith))
      (outside_front k (omega arith)) in
      subst (λ i. AreIndependent n (take i (map (rows_at history) places))) (add-one k) (subst (AreIndependent n) (sym more) next)

  -- the kept sets are
  pub kept_independent : AreIndependent n (map (rows_at history) places)
  kept_independent =
      subst (AreIndependent n) (take_all (length places) (map (rows_at history) places) (let count = length-map places (rows_at history) in omega arith))
      (front_independent (length places) (omega arith))
