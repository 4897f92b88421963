-- What the row of one asker adds to the span of a form.
--
-- If a row lies in the span with another one, and not without, the two can change places. So a set's row lies in the span with a unit row exactly if
-- the unit row lies in that with what the form leaves of the set's; and that is no larger than the rows of the form.
use Rattle.std.proofs.Common.{◌≡◌, ◌≢◌, ℕ, ◌<◌, ◌≤◌, Bool, true, false, not, ◌||◌, ◌==◌, ℤ, pos, List, [], ◌∷◌, ◌++◌, length, get_or, refl, sym, ap, ◌∙◌, subst, arith, inl, inr}
use Rattle.std.specs.Prelude.{◌↔◌, ◌+ℤ◌, ◌*ℤ◌, ◌<ℤ◌, neg_ℤ, unsigned_abs, Option, Vec, Some, IsTrue}
use Rattle.std.specs.declared.alloc.Global.{Global}
use Rattle.std.specs.List.{AllByRecursion}
use Rattle.std.proofs.lemmas.Int.{ints}
use Rattle.std.proofs.lemmas.Bool.{true≢false, false≢true, cases_eq, cases_lt, eq-eqb, eqb-true, ne_eqb, or_parts, not-true}
use Rattle.std.proofs.Math.Bool.{or-false, or-true}
use Rattle.std.proofs.lemmas.List.Elements.{All-from_recursion}
use Rattle.std.proofs.Math.IntN.{*ℤ-zero, zero-*ℤ}
use Rattle.audit_types.specs.Truth.{number_at}
use Rattle.audit_types.specs.Form.{combined, set_row, InSpan, IsPrimitive, pivot, pivot_entry}
use Rattle.audit_types.specs.FormRows.{pivot_below}
use Rattle.audit_types.specs.Rows.{AreRows, has_row, complement, union}
use Rattle.audit_types.specs.RowLaws.{has-rows_that, has-rows_that_above, has_first}
use Rattle.audit_types.specs.OutsiderLaws.{some_row}
use Rattle.audit_types.specs.ListLaws.{all-front, all-push}
use Rattle.audit_types.specs.Numbers.{positive_not_zero}
use Rattle.audit_types.specs.Products.{neg-times, one-times, times_assoc, product_not_zero}
use Rattle.audit_types.specs.PrimitiveLines.{times, number_at-times}
use Rattle.audit_types.specs.Totals.{combined-push}
use Rattle.sum_basis.specs.Basis.{Echelon, unit_row}
use Rattle.sum_basis.specs.Elimination.{IsSmallForm, IsWithin, IsZeroAtPivots}
use Rattle.sum_basis.specs.Growth.{IsNewRow, IsLeftOver, SpansAfter, LeavesLarge}
use Rattle.sum_basis.specs.Asking.{SpansBeside, SpansNewAfter, AreNotAsking}
use Rattle.sum_basis.specs.Sparse.{row_of}
use Rattle.sum_basis.specs.Spans.{own, spans_from, in_span_from, spans_same, spans_times, spans_add, spans_combined, span_trans}
use Rattle.sum_basis.specs.declared.sparse.FreeEntry.{FreeEntry}
use Rattle.sum_basis.proofs.FormsAreUnique.{leads_from}
use Rattle.audit_types.specs.Products.{size_of_factor}
use Rattle.audit_types.specs.RowNumbers.{all_by_number, length-set_row}
use Rattle.sum_basis.specs.CombinedRows.{length-combine}
use Rattle.sum_basis.proofs.Sizes.{within_at}
use Rattle.sum_basis.proofs.KeptForms.{row_among}
use Rattle.sum_basis.proofs.OwnRows.{pivot_or_none, not_in_form, at_new_pivot, lone_if_nothing, rest, rest_is, rest_zeros, rest_spanned, unit_zeros}
use Rattle.sum_basis.proofs.SpansWithOneMore.{IsOnLine, not_all_zeros, on_line, alone, one_of_line, by_some}
use Rattle.sum_basis.proofs.Reduction.{span_line, primitive_exists}
use Rattle.sum_basis.proofs.UnitRowsInSpan.{unit_in_span, unit_here, unit_elsewhere}

-- ---- changing places

parts : (rows : List (List ℤ)) (a : List ℤ) → AllByRecursion (InSpan (rows ++ a ∷ [])) rows × InSpan (rows ++ a ∷ []) a
parts rows a = all-front (InSpan (rows ++ a ∷ [])) rows a (own (rows ++ a ∷ []))

-- what lies in the span with another row lies in that with rows that span both
with_other : (rows : List (List ℤ)) (a b v : List ℤ) → InSpan (rows ++ b ∷ []) a → InSpan (rows ++ a ∷ []) v → InSpan (rows ++ b ∷ []) v
with_other rows a b v span = span_trans (rows ++ b ∷ []) (rows ++ a ∷ []) v (all-push (InSpan (rows ++ b ∷ [])) rows a (parts rows b).0 span)

without : (rows : List (List ℤ)) (a v : List ℤ) → InSpan rows a → InSpan (rows ++ a ∷ []) v → InSpan rows v
without rows a v span = span_trans rows (rows ++ a ∷ []) v (all-push (InSpan rows) rows a (own rows) span)

with_more : (rows : List (List ℤ)) (a v : List ℤ) → InSpan rows v → InSpan (rows ++ a ∷ []) v
with_more rows a v = span_trans (rows ++ a ∷ []) rows v (parts rows a).0

module _ (rows : List (List ℤ)) (a b : List ℤ) (span : InSpan (rows ++ a ∷ []) b) (new : ¬ (InSpan rows b)) where
  abbrev share : ℤ
  share = number_at span.coefficients (length rows)

  whole : (j : ℕ) → pos span.multiple *ℤ number_at b j ≡ combined span.coefficients rows j +ℤ share *ℤ number_at a j
  whole j = span.is j ∙ combined-push span.coefficients rows a j

  share_some : share ≢ pos 0
  share_some none = new (record {
    multiple = span.multiple;
    positive = span.positive;
    coefficients = span.coefficients;
    is = λ j.
        let is = whole j in
        let gone = ap (λ z. z *ℤ number_at a j) none ∙ zero-*ℤ (number_at a j) in
        omega (arith, ints);
  })

  abbrev both : List (List ℤ)
  both = rows ++ b ∷ []

  less_is : (j : ℕ) → pos span.multiple *ℤ number_at b j +ℤ neg_ℤ (pos 1) *ℤ combined span.coefficients rows j ≡ number_at (times share a) j
  less_is j =
      let is = whole j in
      let minus = neg-times (pos 1) (combined span.coefficients rows j) in
      let once = one-times (combined span.coefficients rows j) in
      let product = number_at-times share a j in
      omega (arith, ints)

  -- the two rows change places
  pub exchanged : InSpan both a
  exchanged = span_line both share a share_some (in_span_from both (times share a)
      (spans_same both (λ j. pos span.multiple *ℤ number_at b j +ℤ neg_ℤ (pos 1) *ℤ combined span.coefficients rows j) (number_at (times share a)) less_is
      (spans_add both (λ j. pos span.multiple *ℤ number_at b j) (λ j. neg_ℤ (pos 1) *ℤ combined span.coefficients rows j)
      (spans_times both (pos span.multiple) (number_at b) (spans_from both b (parts rows b).1))
      (spans_times both (neg_ℤ (pos 1)) (combined span.coefficients rows) (spans_combined both span.coefficients rows (parts rows b).0)))))

-- ---- of a set's row

module _ (form : Echelon) (f : IsSmallForm form.n form.rows) (several set but : List ℕ) (asks : AreNotAsking form.n several set but) where
  abbrev group : List ℤ
  group = set_row form.n set

  -- some row may be an asker's own, with whose unit row the set's lies in the span
  abbrev SpansWith : Type 0
  SpansWith = (q : ℕ) × (q < form.n) × (has_row but q ≡ false) × InSpan (form.rows ++ unit_row form.n q ∷ []) group

  beside_from : SpansWith → SpansBeside form several set
  beside_from (q, below, out, span) =
      let (single, (row, inside, other)) = (asks q below).0 out in
      record { own = q; below = below; single = single; row = row; inside = inside; other = other; spanned = span }

  beside_to : SpansBeside form several set → SpansWith
  beside_to is = (is.own, is.below, (asks is.own is.below).1 (is.single, (is.row, is.inside, is.other)), is.spanned)

  -- if the set's row lies in the span, some row that may be an asker's own is enough
  pub beside_nothing : InSpan form.rows group → SpansBeside form several set ↔ ((q : ℕ) × (q < form.n) × (has_row but q ≡ false))
  beside_nothing span = (
    λ is. let found = beside_to is in (found.0, found.1, found.2),
    λ found. beside_from (found.0, found.1, found.2, with_more form.rows (unit_row form.n found.0) group span),
  )

  -- else the two change places
  pub beside_entries : (list : Vec FreeEntry Global) → IsNewRow form group (row_of form.n list.items) → SpansBeside form several set
      ↔ SpansNewAfter form (Some list) but
  beside_entries list new = (
    λ is.
        let found = beside_to is in
        let unit = unit_row form.n found.0 in (
          found.0,
          found.1,
          found.2,
          with_other form.rows group (row_of form.n list.items) unit new.back (exchanged form.rows unit group found.3 new.outside),
          λ known. new.outside (without form.rows unit group known found.3),
        ),
    λ found.
        let unit = unit_row form.n found.0 in
        let back = exchanged form.rows (row_of form.n list.items) unit found.3 found.4 in
        beside_from (found.0, found.1, found.2, with_other form.rows (row_of form.n list.items) unit group back new.back),
  )

-- ---- unit rows

-- of the unit rows at pivots that aren't among these, those in the span with what was left are in that of the form
abbrev pub NoneNewAtPivots : Echelon → Option (Vec FreeEntry Global) → List ℕ → Type 0
NoneNewAtPivots form left but = (j : ℕ) → j < length form.rows → has_row but (pivot (get_or form.rows j [])) ≡ false →
    SpansAfter form left (unit_row form.n (pivot (get_or form.rows j []))) → InSpan form.rows (unit_row form.n (pivot (get_or form.rows j [])))

module _ (form : Echelon) (f : IsSmallForm form.n form.rows) (list : List FreeEntry) (over : IsLeftOver form list) where
  abbrev new_row : List ℤ
  new_row = row_of form.n list

  -- the first place of what was left is the pivot of no row
  pub no_pivot_there : (rows : List (List ℤ)) → IsZeroAtPivots rows new_row → AllByRecursion (λ other. pivot other ≢ pivot new_row) rows
  no_pivot_there [] zeros = tt
  no_pivot_there (r ∷ rows) zeros = (
    λ same. positive_not_zero (pivot_entry new_row) over.0.primitive.leading (ap (number_at new_row) (sym same) ∙ zeros.0),
    no_pivot_there rows zeros.1,
  )

  pub apart_from : (k : ℕ) → k < length form.rows → pivot new_row ≢ pivot (get_or form.rows k [])
  apart_from k within same =
      All-from_recursion (λ other. pivot other ≢ pivot new_row) form.rows (no_pivot_there form.rows over.1) k [] within (sym same)

  -- so its unit row isn't in the span of the form
  pub not_known_there : ¬ (InSpan form.rows (unit_row form.n (pivot new_row)))
  not_known_there = not_in_form form.n (pivot new_row) form.rows f (pivot_below form.n new_row over.0.primitive) (no_pivot_there form.rows over.1)

-- if no unit row at a pivot that isn't among these is new, only that at the first place is
pub only_new : (form : Echelon) (f : IsSmallForm form.n form.rows) (list : Vec FreeEntry Global) → IsLeftOver form list.items →
    (but : List ℕ) → NoneNewAtPivots form (Some list) but → (i : ℕ) → i < form.n → has_row but i ≡ false →
    SpansAfter form (Some list) (unit_row form.n i) → ¬ (InSpan form.rows (unit_row form.n i)) → pivot (row_of form.n list.items) ≡ i
only_new form f list over but none i below out span new = elim (pivot_or_none form.rows i) [
  | inl found ↦ absurd (new (subst (λ p. InSpan form.rows (unit_row form.n p)) found.2 (none found.0 found.1 (ap (has_row but) found.2 ∙ out)
      (subst (λ p. SpansAfter form (Some list) (unit_row form.n p)) (sym found.2) span))))
  | inr apart ↦ at_new_pivot form.n i form.rows (row_of form.n list.items) f over.1 over.0.primitive below apart span
]

-- ---- what is left is no larger than the form

-- a primitive row is no larger than another one on its line
no_larger : (n : ℕ) (left made : List ℤ) → length left ≡ n → IsPrimitive n made → (((j : ℕ) → number_at left j ≡ pos 0) → ⊥) → IsOnLine made left →
    (j : ℕ) → unsigned_abs (number_at made j) ≤ unsigned_abs (number_at left j)
no_larger n left made long primitive some line j =
    let (g, by, by_not, is, g_primitive) = primitive_exists n left long (not_all_zeros left some) in
    let number_is : (i : ℕ) → number_at left i ≡ by *ℤ number_at g i = λ i. ap (λ l. number_at l i) is ∙ number_at-times by g i in
    let above : pos 0 <ℤ pos line.multiple = let m = line.positive in omega (arith, ints) in
    let same : g ≡ made = one_of_line n (pos line.multiple *ℤ by) line.by g made
    (product_not_zero (pos line.multiple) by (positive_not_zero (pos line.multiple) above) by_not)
    (by_some n made left primitive some line) g_primitive primitive
    (λ i. times_assoc (pos line.multiple) by (number_at g i) ∙ ap (λ z. pos line.multiple *ℤ z) (sym (number_is i)) ∙ line.is i) in
    subst (λ l. unsigned_abs (number_at l j) ≤ unsigned_abs (number_at left j)) same (rw (number_is j) (size_of_factor by (number_at g j) by_not))

module _ (form : Echelon) (f : IsSmallForm form.n form.rows) (narrow : AllByRecursion (IsWithin form.width) form.rows) (some_width : 0 < form.width)
    (v made : List ℤ) (new : IsNewRow form v made) (q : ℕ) (below : q < form.n) (span : InSpan (form.rows ++ unit_row form.n q ∷ []) v) where
  abbrev both_rows : List (List ℤ)
  both_rows = form.rows ++ made ∷ []

  abbrev unit : List ℤ
  unit = unit_row form.n q

  of_form : AllByRecursion (InSpan both_rows) form.rows
  of_form = (parts form.rows made).0

  back : InSpan both_rows unit
  back = with_other form.rows v made unit new.back (exchanged form.rows unit v span new.outside)

  unit_new : ¬ (InSpan form.rows unit)
  unit_new known = new.outside (without form.rows unit v known span)

  leads : AllByRecursion (λ r. pos 0 <ℤ pivot_entry r) form.rows
  leads = leads_from form.n form.rows f.primitive

  -- at no pivot, the unit row is all that is left
  by_unit : AllByRecursion (λ other. pivot other ≢ q) form.rows → (j : ℕ) → unsigned_abs (number_at made j) ≤ form.width
  by_unit none j =
      let line = on_line made unit (alone form.rows made unit f.echelon leads (unit_zeros form.n q form.rows none) new.zeros back) in
      let le = no_larger form.n unit made (length-set_row form.n (q ∷ [])) new.primitive (λ nothing. unit_not_zero nothing) line j in
      elim (cases_eq j q) [
        | inl same ↦
            let at_most = subst (λ z. unsigned_abs (number_at made j) ≤ unsigned_abs z) (ap (number_at unit) same ∙ unit_here form.n q below) le in
            omega (arith, at_most, some_width)
        | inr apart ↦
            let nothing = subst (λ z. unsigned_abs (number_at made j) ≤ unsigned_abs z) (unit_elsewhere form.n q j apart) le in
            omega (arith, nothing)
      ]
    where
      unit_not_zero : ((j : ℕ) → number_at unit j ≡ pos 0) → ⊥
      unit_not_zero nothing = let one = unit_here form.n q below in let at = nothing q in omega (arith, ints)

  -- at a pivot, the rest of that row
  module _ (k : ℕ) (within : k < length form.rows) (at : pivot (get_or form.rows k []) ≡ q) where
    abbrev its_row : List ℤ
    its_row = get_or form.rows k []

    its_primitive : IsPrimitive form.n its_row
    its_primitive = All-from_recursion (IsPrimitive form.n) form.rows f.primitive k [] within

    its_inside : pivot its_row < form.n
    its_inside = pivot_below form.n its_row its_primitive

    there : InSpan both_rows (unit_row form.n (pivot its_row))
    there = subst (λ p. InSpan both_rows (unit_row form.n p)) (sym at) back

    abbrev left : List ℤ
    left = rest form.n form.rows both_rows f of_form its_row (row_among form.rows k within) its_inside there

    left_some : ((j : ℕ) → number_at left j ≡ pos 0) → ⊥
    left_some nothing = unit_new (subst (λ p. InSpan form.rows (unit_row form.n p)) at
        (unit_in_span form.n form.rows its_row its_primitive (All-from_recursion (InSpan form.rows) form.rows (own form.rows) k [] within)
        (lone_if_nothing form.n form.rows both_rows f of_form its_row (row_among form.rows k within) its_inside there nothing)))

    left_within : (j : ℕ) → unsigned_abs (number_at left j) ≤ form.width
    left_within j = elim (cases_eq j (pivot its_row)) [
      | inl same ↦
          let zeros = rest_zeros form.n form.rows both_rows f of_form its_row (row_among form.rows k within) its_inside there in
          let none = ap (number_at left) same ∙ All-from_recursion (λ other. number_at left (pivot other) ≡ pos 0) form.rows zeros k [] within in
          subst (λ z. unsigned_abs z ≤ form.width) (sym none) (omega arith)
      | inr apart ↦
          let is = rest_is form.n form.rows both_rows f of_form its_row (row_among form.rows k within) its_inside there j in
          let gone = ap (λ z. pivot_entry its_row *ℤ z) (unit_elsewhere form.n (pivot its_row) j apart) ∙ *ℤ-zero (pivot_entry its_row) in
          let minus = neg-times (pos 1) (number_at its_row j) in
          let once = one-times (number_at its_row j) in
          let small = within_at form.width its_row j (All-from_recursion (IsWithin form.width) form.rows narrow k [] within) in
          omega (arith, ints, is, gone, minus, once, small)
    ]

    by_row : (j : ℕ) → unsigned_abs (number_at made j) ≤ form.width
    by_row j =
        let zeros = rest_zeros form.n form.rows both_rows f of_form its_row (row_among form.rows k within) its_inside there in
        let line = on_line made left (alone form.rows made left f.echelon leads zeros new.zeros
        (rest_spanned form.n form.rows both_rows f of_form its_row (row_among form.rows k within) its_inside there)) in
        let le = no_larger form.n left made (length-combine form.n (pivot_entry its_row) (unit_row form.n (pivot its_row)) (pos 1) its_row
        (length-set_row form.n (pivot its_row ∷ [])) its_primitive.one_each) new.primitive left_some line j in
        let small = left_within j in
        omega (arith, le, small)

  pub left_is_within : (j : ℕ) → unsigned_abs (number_at made j) ≤ form.width
  left_is_within j = elim (pivot_or_none form.rows q) [ inl found ↦ by_row found.0 found.1 found.2 j | inr none ↦ by_unit none j ]

-- so where more is left of a set's row, no unit row adds it to the span
pub beside_large : (form : Echelon) → IsSmallForm form.n form.rows → AllByRecursion (IsWithin form.width) form.rows → 0 < form.width →
    (several set : List ℕ) (limit : ℕ) → form.width ≤ limit → LeavesLarge form (set_row form.n set) limit → SpansBeside form several set → ⊥
beside_large form f narrow some_width several set limit more (made, new, large) is =
    large (all_by_number (λ x. unsigned_abs x ≤ limit) made (λ j.
    let small = left_is_within form f narrow some_width (set_row form.n set) made new is.own is.below is.spanned j in omega (arith, small, more)))

-- ---- who may ask

-- the only row of a set
pub asks_but_one : (n : ℕ) (several set : List ℕ) → length set ≡ 1 → AreNotAsking n several set (union n several set)
asks_but_one n several [] one q below = absurd (omega arith)
asks_but_one n several (a ∷ b ∷ rest) one q below = absurd (omega arith)
asks_but_one n several (r ∷ []) one q below = (
  λ out.
      let both = or_parts (has_row several q) (has_row (r ∷ []) q) (sym is ∙ out) in
      (both.0, (r, has_first r [], λ same. true≢false (sym (eq-eqb r q same) ∙ sym (or-false (r == q)) ∙ both.1))),
  λ (single, (row, inside, other)). is ∙ ap (λ b. b || has_row (r ∷ []) q) single
      ∙ or-false (r == q) ∙ ne_eqb r q (λ same. other (sym (eqb-true r row (sym (or-false (r == row)) ∙ inside)) ∙ same)),
)
  where
    is : has_row (union n several (r ∷ [])) q ≡ (has_row several q || has_row (r ∷ []) q)
    is = has-rows_that (λ k. has_row several k || has_row (r ∷ []) k) n q below

-- a set with two rows has another one
pub asks_all : (n : ℕ) (several set : List ℕ) → AreRows n set → set ≢ [] → length set ≢ 1 → AreNotAsking n several set several
asks_all n several [] are some more q below = absurd (some refl)
asks_all n several (a ∷ []) are some more q below = absurd (more refl)
asks_all n several (a ∷ b ∷ rest) are some more q below = ((λ out. (out, another)), λ is. is.0)
  where
    another : (row : ℕ) × (has_row (a ∷ b ∷ rest) row ≡ true) × (row ≢ q)
    another = elim (cases_eq a q) [
      | inl same ↦ (b, second, λ e. absurd (let later = are.2.0 in omega (arith, later, same, e)))
      | inr apart ↦ (a, has_first a (b ∷ rest), apart)
    ]
      where
        second : has_row (a ∷ b ∷ rest) b ≡ true
        second = ap (λ x. (a == b) || x) (has_first b rest) ∙ or-true (a == b)

is_other : (n : ℕ) (but others : List ℕ) → others ≡ complement n but → (q : ℕ) → q < n → has_row but q ≡ false → has_row others q ≡ true
is_other n but others is q below out = ap (λ l. has_row l q) is ∙ has-rows_that (λ r. not (has_row but r)) n q below ∙ ap not out

-- some row isn't among these exactly if the others aren't none
pub some_other : (n : ℕ) (but others : List ℕ) → others ≡ complement n but → (b : Bool) → IsTrue b ↔ (others ≡ []) → IsTrue (not b)
    ↔ ((q : ℕ) × (q < n) × (has_row but q ≡ false))
some_other n but others is true empty = (
  λ no. absurd (false≢true no),
  λ (q, below, out). absurd (false≢true (ap (λ l. has_row l q) (sym (empty.0 refl)) ∙ is_other n but others is q below out)),
)
some_other n but others is false empty = (
  λ yes.
      let hit = some_row others (λ none. absurd (false≢true (empty.1 none))) in
      let at = ap (λ l. has_row l hit.0) (sym is) ∙ hit.1 in
      elim (cases_lt hit.0 n) [
        | inl below ↦ (hit.0, below, not-true (has_row but hit.0) (sym (has-rows_that (λ r. not (has_row but r)) n hit.0 below) ∙ at))
        | inr past ↦ absurd (false≢true (sym (has-rows_that_above (λ r. not (has_row but r)) n hit.0 (omega (arith, past))) ∙ at))
      ],
  λ any. refl,
)
