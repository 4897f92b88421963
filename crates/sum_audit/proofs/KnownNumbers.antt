-- A row is tied to q, or its number stays open to whoever knows that of q.
--
-- To know the number of q is to have it answered as a sum over q alone. So the row is spanned by the sets and the unit row of q, and what is
-- left of it when that is taken off is a row of the span that is 0 but at the two; or a direction of the sets that is 0 at q isn't 0 there.
use Rattle.std.proofs.Common.{true, ◌≡◌, ◌≢◌, ℕ, ◌<◌, ◌≤◌, false, ◌||◌, ℤ, pos, List, [], ◌∷◌, ◌++◌, map, length, refl, sym, ap, ◌∙◌, subst, arith, inl, inr, ◌⊎◌, ◌==◌, append-nil}
use Rattle.std.specs.Prelude.{◌↔◌, ◌*ℤ◌, neg_ℤ, All, Contains}
use Rattle.std.proofs.lemmas.List.Elements.{All-contains}
use Rattle.std.specs.List.{AllByRecursion}
use Rattle.std.proofs.lemmas.Int.{ints}
use Rattle.std.proofs.lemmas.Bool.{cases_lt, ne_eqb, eq-eqb, true≢false}
use Rattle.std.proofs.lemmas.List.{get_or_past, map-append}
use Rattle.std.proofs.Math.Bool.{or-false}
use Rattle.std.proofs.Math.IntN.{+ℤ_idr, *ℤ-zero, zero-*ℤ, *ℤ_comm}
use Rattle.audit_types.specs.Rows.{AreRows, has_row}
use Rattle.audit_types.specs.Truth.{number_at, sum_over}
use Rattle.audit_types.specs.Form.{set_row, combined, InSpan, Reduced}
use Rattle.audit_types.specs.Direction.{IsDirection, IsPinned, IsPinnedFor}
use Rattle.audit_types.specs.Headcount.{Headcount, CountPeople, AreFew, count_at, shared_in, beside_in, several_in}
use Rattle.audit_types.specs.HeadcountLaws.{few_by_rows, one_by_rows}
use Rattle.audit_types.specs.OutsiderLaws.{some_row}
use Rattle.audit_types.specs.Column.{Known, Answer, AreOwn, known_sum, guarding, with_bounds}
use Rattle.audit_types.specs.Judgement.{PinSomeNumber, SpanSomeGroup}
use Rattle.audit_types.specs.ListLaws.{all-push, all-front}
use Rattle.audit_types.specs.Products.{one-times, neg-times, zero_product, zero_factor}
use Rattle.audit_types.specs.Totals.{total-single, product-span, products_from_sums, combined-push}
use Rattle.audit_types.specs.FormRows.{lengths_of_form}
use Rattle.sum_basis.specs.Spans.{span_trans, span_trans_all, combined_zero}
use Rattle.sum_basis.specs.Spans as spans
use Rattle.sum_basis.specs.Combination.{combine}
use Rattle.sum_basis.specs.CombinedRows.{number_at-combine}
use Rattle.sum_basis.specs.Basis.{Echelon, unit_row}
use Rattle.sum_basis.specs.Growth.{HasOwnUnit, SpansOneOf}
use Rattle.sum_basis.specs.Asking.{SpansOneBeside}
use Rattle.sum_basis.specs.Ties.{Ties, TiesByForm, TieSomeBut}
use Rattle.sum_basis.specs.EntryLaws.{unit_here, unit_elsewhere}
use Rattle.sum_audit.specs.DotLaws.{dot_two}
use Rattle.sum_audit.specs.Knowing.{IsStillFor, StillByTies, TiedOrOpen, TiesTell, OpenByForm, PinsByForm, GroupsByForm}
use Rattle.sum_audit.specs.Sets.{sets_of}
use Rattle.sum_audit.specs.Shifts.{moved_by, difference, number_at-moved_by, length-moved_by, number_at-difference, length-difference, moved_gives, zero_between}
use Rattle.sum_audit.proofs.PinnedRows.{pinned_by_form}
use Rattle.sum_audit.proofs.SpannedOrMoved.{spanned_or_moved}

-- ---- a row that is spanned with the unit row of q is tied to q

module _ (n : ℕ) (rows : List (List ℤ)) (q i : ℕ) (below : i < n) (apart : q ≢ i) (span : InSpan (rows ++ unit_row n q ∷ []) (unit_row n i)) where
  -- how often the unit row of q is taken
  abbrev share : ℤ
  share = number_at span.coefficients (length rows)

  abbrev left : List ℤ
  left = combine (pos span.multiple) (unit_row n i) share (unit_row n q)

  left_is : (j : ℕ) → number_at left j ≡ combined span.coefficients rows j
  left_is j =
      let whole = span.is j in
      let parts = combined-push span.coefficients rows (unit_row n q) j in
      let here = number_at-combine (pos span.multiple) (unit_row n i) share (unit_row n q) j in
      let minus = neg-times share (number_at (unit_row n q) j) in
      omega (arith, ints)

  tied_from : Ties rows i q
  tied_from = record {
    row = left;
    spanned = record { multiple = 1; positive = omega arith; coefficients = span.coefficients; is = λ j. one-times (number_at left j) ∙ left_is j };
    there = λ none.
        let here = number_at-combine (pos span.multiple) (unit_row n i) share (unit_row n q) i in
        let first = ap (λ z. pos span.multiple *ℤ z) (unit_here n i below) in
        let second = ap (λ z. neg_ℤ share *ℤ z) (unit_elsewhere n q i (λ e. apart (sym e))) ∙ *ℤ-zero (neg_ℤ share) in
        let some = span.positive in
        absurd (omega (arith, ints));
    only = λ j first second.
        let here = number_at-combine (pos span.multiple) (unit_row n i) share (unit_row n q) j in
        let one = ap (λ z. pos span.multiple *ℤ z) (unit_elsewhere n i j first) ∙ *ℤ-zero (pos span.multiple) in
        let two = ap (λ z. neg_ℤ share *ℤ z) (unit_elsewhere n q j second) ∙ *ℤ-zero (neg_ℤ share) in
        omega (arith, ints);
  }

-- what is spanned by the rows alone is spanned with one more
with_more : (n : ℕ) (rows : List (List ℤ)) (more row : List ℤ) → InSpan rows row → AllByRecursion (InSpan (rows ++ more ∷ [])) rows →
    InSpan (rows ++ more ∷ []) row
with_more n rows more row span own = span_trans (rows ++ more ∷ []) rows row own span

-- ---- tied or moved

-- a direction of the sets that is 0 at q and not at i
record IsMovedFor (n : ℕ) (sets : List (List ℕ)) (q i : ℕ) : Type 0 where
  direction : List ℤ
  is : IsDirection n sets direction
  zero_own : number_at direction q ≡ pos 0
  moved : number_at direction i ≢ pos 0

-- a row of the span that is 0 but at i is tied to all
tied_alone : (n : ℕ) (rows : List (List ℤ)) (q i : ℕ) → i < n → InSpan rows (unit_row n i) → Ties rows i q
tied_alone n rows q i below span = record {
  row = unit_row n i;
  spanned = span;
  there = λ none. let here = unit_here n i below in absurd (omega (arith, ints));
  only = λ j first second. unit_elsewhere n i j first;
}

module _ (n : ℕ) (sets : List (List ℕ)) (q i : ℕ) (are : AllByRecursion (AreRows n) sets) (below : i < n) (apart : q ≢ i) where
  one : AreRows n (i ∷ [])
  one = (omega arith, below, tt)

  -- one of the table
  inside : q < n → Ties (map (set_row n) sets) i q ⊎ IsMovedFor n sets q i
  inside own = elim (spanned_or_moved n (sets ++ (q ∷ []) ∷ []) (i ∷ []) (all-push (AreRows n) sets (q ∷ []) are (omega arith, own, tt)) one) [
    | inl span ↦ inl (tied_from n (map (set_row n) sets) q i below apart
        (let same = map-append (set_row n) sets ((q ∷ []) ∷ []) in subst (λ rows. InSpan rows (unit_row n i)) same span))
    | inr hit ↦
        let parts = all-front (λ s. sum_over hit.0 s ≡ pos 0) sets (q ∷ []) hit.1.zero_sums in
        inr (record {
          direction = hit.0;
          is = record { one_each = hit.1.one_each; zero_sums = parts.0 };
          zero_own = sym (+ℤ_idr (number_at hit.0 q)) ∙ parts.1;
          moved = λ none. hit.2 (+ℤ_idr (number_at hit.0 i) ∙ none);
        })
  ]

  -- one who isn't in it knows nothing
  outside : n ≤ q → Ties (map (set_row n) sets) i q ⊎ IsMovedFor n sets q i
  outside past = elim (spanned_or_moved n sets (i ∷ []) are one) [
    | inl span ↦ inl (tied_alone n (map (set_row n) sets) q i below span)
    | inr hit ↦ inr (record {
      direction = hit.0;
      is = hit.1;
      zero_own = get_or_past hit.0 q (pos 0) (let all = hit.1.one_each in omega arith);
      moved = λ none. hit.2 (+ℤ_idr (number_at hit.0 i) ∙ none);
    })
  ]

  tied_or_moved : Ties (map (set_row n) sets) i q ⊎ IsMovedFor n sets q i
  tied_or_moved = elim (cases_lt q n) [ inl own ↦ inside own | inr past ↦ outside past ]

  -- a direction that is 0 at q is 0 at what is tied to q
  still : Ties (map (set_row n) sets) i q → IsStillFor n sets q i
  still tied d direction gone =
      let none = product-span (number_at d) n (map (set_row n) sets) tied.row (products_from_sums n d sets are direction.zero_sums) tied.spanned in
      let product : number_at tied.row i *ℤ number_at d i ≡ pos 0 = elim (cases_lt q n) [
        | inl own ↦
            let two = dot_two n (number_at tied.row) d i q below own (λ e. apart (sym e)) (λ j first second.
            ap (λ z. z *ℤ number_at d j) (tied.only j first second) ∙ zero-*ℤ (number_at d j)) in
            let last = ap (λ z. number_at tied.row q *ℤ z) gone ∙ *ℤ-zero (number_at tied.row q) in
            omega (arith, ints)
        | inr past ↦
            let single = total-single (λ j. number_at tied.row j *ℤ number_at d j) n i below (λ j l first.
            ap (λ z. z *ℤ number_at d j) (tied.only j first (λ e. absurd (omega arith))) ∙ zero-*ℤ (number_at d j)) in
            omega (arith, ints)
      ] in
      zero_product (number_at tied.row i) (number_at d i) product tied.there

  tied_by_still : IsStillFor n sets q i → Ties (map (set_row n) sets) i q
  tied_by_still fixed = elim tied_or_moved [
    | inl tied ↦ tied
    | inr hit ↦ absurd (hit.moved (fixed hit.direction hit.is hit.zero_own))
  ]

pub still_by_ties : StillByTies
still_by_ties n sets q i are below apart = (tied_by_still n sets q i are below apart, still n sets q i are below apart)

pub tied_or_open : TiedOrOpen
tied_or_open n answers w q i are agrees below apart = elim (tied_or_moved n (sets_of answers) q i are below apart) [
  | inl tied ↦ inl tied
  | inr hit ↦
      let d = hit.direction in
      inr (record {
        other = moved_by d w;
        agrees = record { one_each = length-moved_by n d w hit.is.one_each agrees.one_each; same = moved_gives d w answers agrees.same hit.is.zero_sums };
        same = let here = number_at-moved_by d w q in let none = hit.zero_own in omega (arith, ints);
        differs = λ same. let here = number_at-moved_by d w i in hit.moved (omega (arith, ints));
      })
]

pub ties_tell : TiesTell
ties_tell n answers q i w v are below apart tied first second same =
    let direction : IsDirection n (sets_of answers) (difference v w) = record {
      one_each = length-difference n v w second.one_each first.one_each;
      zero_sums = zero_between v w answers second.same first.same;
    } in
    let own = number_at-difference v w q in
    let none = still n (sets_of answers) q i are below apart tied (difference v w) direction (omega (arith, ints)) in
    let here = number_at-difference v w i in
    omega (arith, ints)

-- ties of the sets are ties of their form
tied_in_form : (n : ℕ) (sets : List (List ℕ)) (form : List (List ℤ)) (p q : ℕ) → Reduced n sets form → Ties (map (set_row n) sets) p q → Ties form p q
tied_in_form n sets form p q reduced tied = record {
  row = tied.row;
  spanned = span_trans form (map (set_row n) sets) tied.row reduced.spans tied.spanned;
  there = tied.there;
  only = tied.only;
}

pub open_by_form : TiesByForm → OpenByForm
open_by_form law n answers form w q i are reduced none agrees below apart = elim (tied_or_open n answers w q i are agrees below apart) [
  | inl tied ↦ absurd (none ((law n form reduced.primitive reduced.echelon).0 (i, q, apart, tied_in_form n (sets_of answers) form i q reduced tied)))
  | inr free ↦ free
]

-- ---- what the form shows

-- rows of n entries span nothing past them
nothing_past : (n j : ℕ) → n ≤ j → (rows : List (List ℤ)) → AllByRecursion (λ r. length r ≡ n) rows → AllByRecursion (λ r. number_at r j ≡ pos 0) rows
nothing_past n j past [] h = tt
nothing_past n j past (r ∷ rows) h = (get_or_past r j (pos 0) (let one_each = h.0 in omega arith), nothing_past n j past rows h.1)

tied_below : (n : ℕ) (rows : List (List ℤ)) (p q : ℕ) → AllByRecursion (λ r. length r ≡ n) rows → Ties rows p q → p < n
tied_below n rows p q lengths tied = elim (cases_lt p n) [
  | inl below ↦ below
  | inr past ↦
      let none = combined_zero tied.spanned.coefficients rows p (nothing_past n p past rows lengths) in
      let some = tied.spanned.positive in
      absurd (tied.there (zero_factor (number_at tied.row p) (pos tied.spanned.multiple)
      (*ℤ_comm (number_at tied.row p) (pos tied.spanned.multiple) ∙ tied.spanned.is p ∙ none) (omega (arith, ints))))
]

-- ---- what a form tells of numbers and of groups

-- what the sets span with the single row of an asker, and what their form spans with it
module _ (n : ℕ) (sets : List (List ℕ)) (form : List (List ℤ)) (reduced : Reduced n sets form) (q : ℕ) (row : List ℤ) where
  abbrev in_form : List (List ℤ)
  in_form = form ++ unit_row n q ∷ []

  abbrev in_sets : List (List ℤ)
  in_sets = map (set_row n) sets ++ unit_row n q ∷ []

  is_with : map (set_row n) (sets ++ (q ∷ []) ∷ []) ≡ in_sets
  is_with = map-append (set_row n) sets ((q ∷ []) ∷ [])

  own_parts : (rows : List (List ℤ)) → AllByRecursion (InSpan (rows ++ unit_row n q ∷ [])) rows × InSpan (rows ++ unit_row n q ∷ []) (unit_row n q)
  own_parts rows = all-front (InSpan (rows ++ unit_row n q ∷ [])) rows (unit_row n q) (spans.own (rows ++ unit_row n q ∷ []))

  -- rows that others span, and one more, are spanned by these and that
  both_with : (rows others : List (List ℤ)) → AllByRecursion (InSpan rows) others →
      AllByRecursion (InSpan (rows ++ unit_row n q ∷ [])) (others ++ unit_row n q ∷ [])
  both_with rows others within =
      all-push (InSpan (rows ++ unit_row n q ∷ [])) others (unit_row n q)
      (span_trans_all (rows ++ unit_row n q ∷ []) rows others (own_parts rows).0 within) (own_parts rows).1

  pub with_one_to_form : InSpan (map (set_row n) (sets ++ (q ∷ []) ∷ [])) row → InSpan in_form row
  with_one_to_form span =
      span_trans in_form in_sets row (both_with form (map (set_row n) sets) reduced.spans) (subst (λ l. InSpan l row) is_with span)

  pub with_one_from_form : InSpan in_form row → InSpan (map (set_row n) (sets ++ (q ∷ []) ∷ [])) row
  with_one_from_form span =
      subst (λ l. InSpan l row) (sym is_with) (span_trans in_sets in_form row (both_with (map (set_row n) sets) form reduced.within) span)

-- what is pinned for one who knows nothing is pinned
pinned_alone : (n : ℕ) (sets : List (List ℕ)) (i : ℕ) → IsPinnedFor n sets [] i → IsPinned n sets i
pinned_alone n sets i pin = record { below = pin.below; still = λ d direction. pin.still d direction tt }

module _ (n width reach : ℕ) (answers : List Answer) (people : Headcount) (groups : List (List ℕ)) (sets : List (List ℕ)) (form : List (List ℤ))
    (count : CountPeople n people) (reduced : Reduced n sets form) where
  abbrev known : Known
  known = with_bounds (guarding (known_sum n answers) people groups) width reach

  abbrev echelon : Echelon
  echelon = record { n = n; width = width; rows = form }

  abbrev beside : List ℕ
  beside = beside_in people

  abbrev several : List ℕ
  several = several_in people

  -- an asker's own row is one of one person
  own_alone : (q : ℕ) → count_at people.counts q ≤ 1 → has_row several q ≡ false
  own_alone q one = (one_by_rows n people count q).0 one

  -- she knows one number if she is in the table
  are_own_one : (q : ℕ) → q < n → 0 < people.own → has_row several q ≡ false → AreOwn known (q ∷ [])
  are_own_one q below inside single = ((omega arith, below, tt), omega (arith, inside), ((one_by_rows n people count q).1 single, tt))

  are_own_none : AreOwn known []
  are_own_none = (tt, omega arith, tt)

  module _ (are : AllByRecursion (AreRows n) sets) where
    shows_by : (own : List ℕ) → AreOwn known own → (i : ℕ) → AreFew people own (i ∷ []) → IsPinnedFor n sets own i →
        HasOwnUnit echelon (shared_in people) ⊎ ((0 < people.own) × TieSomeBut beside several form)
    shows_by [] are_own i few pin =
        let alone = pinned_alone n sets i pin in
        inl (i, (pin.below, (pinned_by_form n sets form i are reduced pin.below).0 alone), (few_by_rows n people count [] i are_own.1).0 few)
    shows_by (q ∷ []) are_own i few pin =
        let apart : q ≢ i = λ e. true≢false (sym (eq-eqb q i e) ∙ sym (or-false (q == i)) ∙ pin.other) in
        let fixed = tied_by_still n sets q i are pin.below apart (λ d direction zero_there. pin.still d direction (zero_there, tt)) in
        let inside = are_own.1 in
        inr (
          omega (arith, inside),
          (
            i,
            q,
            apart,
            tied_in_form n sets form i q reduced fixed,
            (few_by_rows n people count (q ∷ []) i are_own.1).0 few,
            own_alone q are_own.2.0,
          ),
        )
    shows_by (q ∷ r ∷ own) are_own i few pin = let most = are_own.1 in let one = count.own in absurd (omega (arith, most, one))

    by_unit : HasOwnUnit echelon (shared_in people) → PinSomeNumber known sets
    by_unit (i, spans, alone) =
        let pin = (pinned_by_form n sets form i are reduced spans.0).1 spans.1 in
        record {
          own = [];
          are_own = are_own_none;
          row = i;
          guarded = (few_by_rows n people count [] i (omega arith)).1 alone;
          pinned = record { below = pin.below; other = refl; still = λ d direction zeros. pin.still d direction };
        }

    by_tie : 0 < people.own → TieSomeBut beside several form → PinSomeNumber known sets
    by_tie inside (p, q, apart, tied, p_out, q_out) =
        let below = tied_below n form p q (lengths_of_form n form reduced.primitive) tied in
        let back : Ties (map (set_row n) sets) p q = record {
          row = tied.row;
          spanned = span_trans (map (set_row n) sets) form tied.row reduced.within tied.spanned;
          there = tied.there;
          only = tied.only;
        } in
        let fixed = still n sets q p are below apart back in
        let few_beside : AreFew people (q ∷ []) (p ∷ []) = (few_by_rows n people count (q ∷ []) p (omega (arith, inside))).1 p_out in
        elim (cases_lt q n) [
          | inl there ↦ record {
            own = q ∷ [];
            are_own = are_own_one q there inside q_out;
            row = p;
            guarded = few_beside;
            pinned = record { below = below; other = ap (λ b. b || false) (ne_eqb q p apart); still = λ d direction zeros. fixed d direction zeros.0 };
          }
          | inr past ↦ record {
            own = [];
            are_own = are_own_none;
            row = p;
            guarded = omega (arith, few_beside);
            pinned = record {
              below = below;
              other = refl;
              still = λ d direction zeros. fixed d direction (get_or_past d q (pos 0) (let all = direction.one_each in omega arith));
            };
          }
        ]

    pins_here : PinSomeNumber known sets ↔ (HasOwnUnit echelon (shared_in people) ⊎ ((0 < people.own) × TieSomeBut beside several form))
    pins_here = (
      (λ found. shows_by found.own found.are_own found.row found.guarded found.pinned),
      (λ shows. elim shows [ inl unit ↦ by_unit unit | inr tie ↦ by_tie tie.0 tie.1 ]),
    )

  -- ---- groups

  group_by : (own : List ℕ) → AreOwn known own → (group : List ℕ) → Contains groups group → (row : ℕ) → has_row group row ≡ true →
      has_row own row ≡ false → InSpan (map (set_row n) (sets ++ map (λ q. q ∷ []) own)) (set_row n group) →
      SpansOneOf echelon groups ⊎ ((0 < people.own) × SpansOneBeside echelon several groups)
  group_by [] are_own group one row inside other span = inl (
    group,
    one,
    span_trans form (map (set_row n) sets) (set_row n group) reduced.spans (subst (λ l. InSpan (map (set_row n) l) (set_row n group)) (append-nil sets) span),
  )
  group_by (q ∷ []) are_own group one row inside other span =
      let some = are_own.1 in
      inr (
        omega (arith, some),
        (
          group,
          one,
          record {
            own = q;
            below = are_own.0.1;
            single = own_alone q are_own.2.0;
            row = row;
            inside = inside;
            other = λ e. true≢false (sym (eq-eqb q row (sym e)) ∙ sym (or-false (q == row)) ∙ other);
            spanned = with_one_to_form n sets form reduced q (set_row n group) span;
          },
        ),
      )
  group_by (q ∷ r ∷ own) are_own group one row inside other span = let most = are_own.1 in let few = count.own in absurd (omega (arith, most, few))

  by_alone : All (λ g. g ≢ []) groups → SpansOneOf echelon groups → SpanSomeGroup known sets
  by_alone some (group, one, span) =
      let hit = some_row group (All-contains (λ g. g ≢ []) groups group some one) in
      record {
        own = [];
        are_own = are_own_none;
        group = group;
        one = one;
        row = hit.0;
        inside = hit.1;
        other = refl;
        spanned = subst (λ l. InSpan (map (set_row n) l) (set_row n group)) (sym (append-nil sets))
            (span_trans (map (set_row n) sets) form (set_row n group) reduced.within span);
      }

  by_one : 0 < people.own → SpansOneBeside echelon several groups → SpanSomeGroup known sets
  by_one inside (group, one, found) = record {
    own = found.own ∷ [];
    are_own = are_own_one found.own found.below inside found.single;
    group = group;
    one = one;
    row = found.row;
    inside = found.inside;
    other = ap (λ b. b || false) (ne_eqb found.own found.row (λ e. found.other (sym e)));
    spanned = with_one_from_form n sets form reduced found.own (set_row n group) found.spanned;
  }

  groups_here : All (λ g. g ≢ []) groups → SpanSomeGroup known sets ↔ (SpansOneOf echelon groups ⊎ ((0 < people.own) × SpansOneBeside echelon several groups))
  groups_here some = (
    (λ found. group_by found.own found.are_own found.group found.one found.row found.inside found.other found.spanned),
    (λ spans. elim spans [ inl alone ↦ by_alone some alone | inr with ↦ by_one with.0 with.1 ]),
  )

pub pins_by_form : PinsByForm
pins_by_form n width reach answers people groups sets form count are reduced = pins_here n width reach answers people groups sets form count reduced are

pub groups_by_form : GroupsByForm
groups_by_form n width reach answers people groups sets form count some reduced = groups_here n width reach answers people groups sets form count reduced some
