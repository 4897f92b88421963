-- Points that are foreseen when a new row joins a form: they are right where the row is only cleared, and not divided by anything.
use Rattle.std.proofs.Common.{◌≡◌, ◌≢◌, ℕ, ◌+◌, ◌<◌, ◌≤◌, ◌^◌, ℤ, pos, List, [], ◌∷◌, ◌++◌, length, get_or, refl, sym, ap, ◌∙◌, subst, arith, inl, inr}
use Rattle.std.specs.Prelude.{◌+ℤ◌, ◌-ℤ◌, ◌*ℤ◌, neg_ℤ, unsigned_abs, false, Option, None, Some, IfSome, Vec}
use Rattle.std.specs.declared.alloc.Global.{Global}
use Rattle.std.proofs.lemmas.Bool.{cases_eq, cases_lt}
use Rattle.std.proofs.lemmas.Int.{ints}
use Rattle.std.proofs.lemmas.List.Elements.{All-from_recursion}
use Rattle.audit_types.specs.Rows.{Rows, has_row}
use Rattle.audit_types.specs.Numbers.{zero_or_not, positive_not_zero}
use Rattle.audit_types.specs.Products.{neg-times, one-times, zero_product}
use Rattle.audit_types.specs.Truth.{number_at}
use Rattle.std.proofs.Math.IntN.{*ℤ_comm, *ℤ-zero}
use Rattle.audit_types.specs.Form.{IsPrimitive, IsReducedForm, IsEchelon, pivot, pivot_entry}
use Rattle.sum_basis.specs.Basis.{Echelon, IsFreeList}
use Rattle.sum_basis.specs.Elimination.{IsSmallForm}
use Rattle.sum_basis.specs.Growth.{IsLeftOver}
use Rattle.sum_basis.specs.Holding.{AreKeptKeys}
use Rattle.sum_basis.specs.Keys.{AreColumnKeys, AreForeseen, AreWeights, IsForeseen, IsListOfColumn, IsRightWithHead, IsRowPointAfter, IsZeroAtFirst, leading_of, own_entry, point_at}
use Rattle.sum_basis.specs.Points.{IsKey, IsLeftModulo, IsPointAfter, first_weight, second_weight, weighted, weighted_after}
use Rattle.sum_basis.specs.Reach.{times_of}
use Rattle.sum_basis.specs.Sparse.{entry_at, row_of}
use Rattle.sum_basis.specs.declared.column_keys.ColumnKeys.{ColumnKeys}
use Rattle.sum_basis.specs.declared.points.Point.{Point}
use Rattle.sum_basis.specs.declared.sparse.FreeEntry.{FreeEntry}
use Rattle.sum_basis.proofs.ColumnLists.{first_is_free, own_elsewhere, own_here, pivot_within, pivots_once, untouched_by}
use Rattle.sum_basis.proofs.ColumnPoints.{first_free}
use Rattle.sum_basis.proofs.OwnRows.{pivot_or_none}
use Rattle.sum_basis.proofs.OwnUnits.{pivots_ascend}
use Rattle.sum_basis.proofs.Parallels.{same_listed}
use Rattle.sum_basis.proofs.Residues.{free_zeros}
use Rattle.sum_basis.proofs.SmallEntries.{new_small}
use Rattle.sum_basis.proofs.Weighted.{times-less, weighted_line}
use Rattle.sum_basis.proofs.SparseRows.{first_value, number_at-row_of}
use Rattle.sum_basis.proofs.SpansWithOneMore.{first_place}
use Rattle.sum_basis.proofs.StayingRows.{IsClearedAt, cleared_at, column_stays, now_free, row_stays, still_free}

-- another row has another pivot
pub pivots_apart : (rows : List (List ℤ)) (i j : ℕ) → IsEchelon rows → i < length rows → j < length rows → i ≢ j →
    pivot (get_or rows i []) ≢ pivot (get_or rows j [])
pivots_apart rows i j echelon first second apart same = elim (cases_lt i j) [
  | inl before ↦ let up = pivots_ascend rows i j echelon before second in omega (arith, same)
  | inr later ↦ let up = pivots_ascend rows j i echelon (omega arith) first in omega (arith, same)
]

-- ---- row by row

module _ (form : Echelon) (f : IsSmallForm form.n form.rows) (list : List FreeEntry) (left : IsLeftOver form list) (k : ℕ) (within : k < length form.rows)
    (kept : ColumnKeys) (are : AreForeseen form list k kept) where
  abbrev row : List ℤ
  row = get_or form.rows k []

  -- a row that the list doesn't touch
  pub foreseen_untouched : (es : List FreeEntry) → IsFreeList form.n form.rows row es → IsZeroAtFirst list row → AreForeseen form list (k + 1) kept
  foreseen_untouched es free zero_there = record {
    weights = are.weights;
    points_each = are.points_each;
    heads_each = are.heads_each;
    keys_each = are.keys_each;
    columns = are.columns;
    own = are.own;
    known = are.known;
    first = are.first;
    first_head = are.first_head;
    untouched = λ i upto h. elim (cases_lt i k) [
      | inl before ↦ are.untouched i before h
      | inr last ↦ let at : k ≡ i = omega arith in subst (λ (j : ℕ). IsZeroAtFirst list (get_or form.rows j [])) at zero_there
    ];
    foreseen = λ i upto. elim (cases_lt i k) [
      | inl before ↦ are.foreseen i before
      | inr last ↦
          let at : k ≡ i = omega arith in
          subst (λ (j : ℕ). IsForeseen form list kept (get_or form.rows j [])) at (record {
            stays = λ zero head. record { entries = es; free = free; is = are.rest k (omega arith) within head es free };
            cleared = λ some. absurd (some zero_there);
          })
    ];
    rest = λ i upto below. are.rest i (omega arith) below;
  }

  -- a row that it touches, whose pivot has another point and head from then on, and is unknown
  module _ (points : Vec Point Global) (heads : Vec ℤ Global) (unknown : Rows) (points_each : length points.items ≡ form.n)
      (heads_each : length heads.items ≡ form.n) (columns : unknown.n ≡ form.n)
      (points_same : (q : ℕ) → q ≢ pivot row → point_at points.items q ≡ point_at kept.points.items q)
      (heads_same : (q : ℕ) → q ≢ pivot row → get_or heads.items q (pos 0) ≡ get_or kept.heads.items q (pos 0))
      (fewer : (q : ℕ) → q < form.n → has_row unknown.list q ≡ false → (has_row kept.unknown.list q ≡ false) × (pivot row ≢ q)) where
    abbrev changed : ColumnKeys
    changed = record { weights = kept.weights; points = points; heads = heads; keys = kept.keys; unknown = unknown }

    other_row : (i : ℕ) → i < length form.rows → i ≢ k → pivot (get_or form.rows i []) ≢ pivot row
    other_row i below apart = pivots_apart form.rows i k f.echelon below within apart

    same_right : (other : List ℤ) → pivot other ≢ pivot row → IsRightWithHead form kept other → IsRightWithHead form changed other
    same_right other apart right = λ head entries free.
        subst (IsPointAfter kept.weights.items [] entries) (sym (points_same (pivot other) apart))
        (right (sym (heads_same (pivot other) apart) ∙ head) entries free)

    same_foreseen : (other : List ℤ) → pivot other ≢ pivot row → IsForeseen form list kept other → IsForeseen form list changed other
    same_foreseen other apart h = record {
      stays = λ zero head.
          subst (IsRowPointAfter form kept.weights.items [] other) (sym (points_same (pivot other) apart))
          (h.stays zero (sym (heads_same (pivot other) apart) ∙ head));
      cleared = λ some. elim (h.cleared some) [
        | inl nothing ↦ inl (heads_same (pivot other) apart ∙ nothing)
        | inr found ↦
            inr (
              heads_same (pivot other) apart ∙ found.0,
              subst (IsRowPointAfter form kept.weights.items list other) (sym (points_same (pivot other) apart)) found.1,
            )
      ];
    }

    pub foreseen_touched : IsForeseen form list changed row → AreForeseen form list (k + 1) changed
    foreseen_touched own_is = record {
      weights = are.weights;
      points_each = points_each;
      heads_each = heads_each;
      keys_each = are.keys_each;
      columns = columns;
      own = λ q below free.
          let apart : q ≢ pivot row = λ same. All-from_recursion (λ other. pivot other ≢ q) form.rows free k [] within (sym same) in
          subst (IsPointAfter kept.weights.items [] (own_entry q)) (sym (points_same q apart)) (are.own q below free);
      known = λ q below h.
          let before = fewer q below h in
          let known = are.known q below before.0 in
          let same = points_same q (λ e. before.1 (sym e)) in
          record {
            point = record {
              entries = known.point.entries;
              left = known.point.left;
              is = subst (IsPointAfter kept.weights.items [] known.point.entries) (sym same) known.point.is;
            };
            key = subst (λ (p : Point). IsKey p (get_or kept.keys.items q 0)) (sym same) known.key;
          };
      first = λ q below h. are.first q below (fewer q below h).0;
      first_head = λ q some.
          let first = first_is_free form list left (record { place = 0; value = pos 0 }) in
          let apart : q ≢ pivot row = λ same.
          some (own_elsewhere form list left (record { place = 0; value = pos 0 }) q
          (λ at. All-from_recursion (λ other. pivot other ≢ (get_or list 0 (record { place = 0; value = pos 0 })).place) form.rows first.1 k [] within
          (sym same ∙ sym at))) in
          heads_same q apart ∙ are.first_head q some;
      untouched = λ i upto h. elim (cases_lt i k) [
        | inl before ↦ are.untouched i before (fewer (pivot (get_or form.rows i [])) (pivot_within form f i (omega arith)) h).0
        | inr last ↦
            let at : i ≡ k = omega arith in
            absurd ((fewer (pivot (get_or form.rows i [])) (pivot_within form f i (omega arith)) h).1
            (ap (λ (j : ℕ). pivot (get_or form.rows j [])) (sym at)))
      ];
      foreseen = λ i upto. elim (cases_lt i k) [
        | inl before ↦
            same_foreseen (get_or form.rows i []) (other_row i (omega arith) (λ same. omega (arith, before, same))) (are.foreseen i before)
        | inr last ↦ let at : k ≡ i = omega arith in subst (λ (j : ℕ). IsForeseen form list changed (get_or form.rows j [])) at own_is
      ];
      rest = λ i upto below.
          same_right (get_or form.rows i []) (other_row i below (λ same. omega (arith, upto, same))) (are.rest i (omega arith) below);
    }

-- ---- what a list of entries becomes

-- a list of free entries has nothing at a pivot
zero_at : (n : ℕ) (rows : List (List ℤ)) (row : List ℤ) (es : List FreeEntry) (k j : ℕ) → IsFreeList n rows row es → k < length rows →
    pivot (get_or rows k []) ≡ j → entry_at es j ≡ pos 0
zero_at n rows row es k j free within at =
    sym (number_at-row_of 0 n es free.listed j) ∙ ap (number_at (row_of n es)) (sym at)
    ∙ All-from_recursion (λ r. number_at (row_of n es) (pivot r) ≡ pos 0) rows (free_zeros n rows es free.listed free.free) k [] within

-- a row has one such list
pub free_lists_same : (n : ℕ) (rows : List (List ℤ)) (row : List ℤ) (xs ys : List FreeEntry) → IsFreeList n rows row xs → IsFreeList n rows row ys → xs ≡ ys
free_lists_same n rows row xs ys first second = same_listed 0 n xs ys first.listed second.listed (λ j. elim (pivot_or_none rows j) [
  | inl found ↦ zero_at n rows row xs found.0 j first found.1 found.2 ∙ sym (zero_at n rows row ys found.0 j second found.1 found.2)
  | inr none ↦ first.is j none ∙ sym (second.is j none)
])

module _ (old new : Echelon) (e : FreeEntry) (list : List FreeEntry) (k : ℕ) (f : IsSmallForm old.n old.rows) (left : IsLeftOver old (e ∷ list))
    (n : new.n ≡ old.n) (reduced : IsReducedForm old.n (old.rows ++ row_of old.n (e ∷ list) ∷ []) new.rows) (within : k < length old.rows) where
  abbrev joined : List ℤ
  joined = row_of old.n (e ∷ list)

  abbrev before : List ℤ
  before = get_or old.rows k []

  at_e : pivot joined ≡ e.place
  at_e = first_place old.n (e ∷ list) e left.0.some left.0.listed

  joined_at : (j : ℕ) → number_at joined j ≡ entry_at (e ∷ list) j
  joined_at j = number_at-row_of 0 old.n (e ∷ list) left.0.listed j

  own_value : entry_at (e ∷ list) e.place ≡ e.value
  own_value = first_value 0 old.n e list left.0.listed

  leads : pivot_entry joined ≡ e.value
  leads = ap (number_at joined) at_e ∙ joined_at e.place ∙ own_value

  module _ (c : IsClearedAt old new (e ∷ list) k) where
    abbrev made : List ℤ
    made = get_or new.rows c.place []

    -- the row isn't divided by anything if its pivot entry is the product of the two
    not_divided : e.value *ℤ pivot_entry before ≡ pivot_entry made → c.by ≡ pos 1
    not_divided head =
        let some : pivot_entry made ≢ pos 0 =
        positive_not_zero (pivot_entry made) (All-from_recursion (IsPrimitive old.n) new.rows reduced.primitive c.place [] c.within).leading in
        let none : number_at joined (pivot before) ≡ pos 0 =
        All-from_recursion (λ r. number_at joined (pivot r) ≡ pos 0) old.rows left.1 k [] within in
        let product = ap (λ z. number_at before (pivot joined) *ℤ z) none ∙ *ℤ-zero (number_at before (pivot joined)) in
        let first = ap (λ z. z *ℤ pivot_entry before) leads in
        let crossed = c.is (pivot before) in
        let same = ap (λ (q : ℕ). c.by *ℤ number_at made q) c.same_pivot in
        let whole : c.by *ℤ pivot_entry made ≡ pos 1 *ℤ pivot_entry made =
        let once = one-times (pivot_entry made) in omega (arith, ints, product, first, crossed, same, head, once) in
        let difference = times-less (pivot_entry made) c.by (pos 1) in
        let turned = *ℤ_comm (pivot_entry made) c.by in
        let other = *ℤ_comm (pivot_entry made) (pos 1) in
        let gone : c.by -ℤ pos 1 ≡ pos 0 =
        zero_product (pivot_entry made) (c.by -ℤ pos 1) (omega (arith, ints, difference, turned, other, whole)) some in
        omega (arith, ints, gone)

    module _ (es entries : List FreeEntry) (old_free : IsFreeList old.n old.rows before es) (free : IsFreeList old.n new.rows made entries)
        (one : c.by ≡ pos 1) where
      -- so it has what the clearing leaves
      line : (j : ℕ) → pos 1 *ℤ entry_at entries j ≡ e.value *ℤ entry_at es j +ℤ neg_ℤ (entry_at es e.place) *ℤ entry_at (e ∷ list) j
      line j =
          let once = one-times (entry_at entries j) in
          let minus = neg-times (entry_at es e.place) (entry_at (e ∷ list) j) in
          elim (pivot_or_none new.rows j) [
            | inl found ↦
                let none = zero_at old.n new.rows made entries found.0 j free found.1 found.2 in
                elim (cases_eq e.place j) [
                  | inl same ↦
                      let value : entry_at (e ∷ list) j ≡ e.value = ap (entry_at (e ∷ list)) (sym same) ∙ own_value in
                      let there = ap (entry_at es) same in
                      let first = ap (λ z. entry_at es e.place *ℤ z) value in
                      let second = ap (λ z. e.value *ℤ z) (sym there) ∙ *ℤ_comm e.value (entry_at es e.place) in
                      omega (arith, ints)
                  | inr apart ↦
                      elim (pivot_or_none old.rows j) [
                        | inl was ↦
                            let first = ap (λ z. e.value *ℤ z) (zero_at old.n old.rows before es was.0 j old_free was.1 was.2) ∙ *ℤ-zero e.value in
                            let zero_there : entry_at (e ∷ list) j ≡ pos 0 = sym (joined_at j) ∙ ap (number_at joined) (sym was.2)
                            ∙ All-from_recursion (λ r. number_at joined (pivot r) ≡ pos 0) old.rows left.1 was.0 [] was.1 in
                            let second = ap (λ z. entry_at es e.place *ℤ z) zero_there ∙ *ℤ-zero (entry_at es e.place) in
                            omega (arith, ints)
                        | inr never ↦
                            absurd (All-from_recursion (λ r. pivot r ≢ j) new.rows
                            (now_free old new (e ∷ list) e f left n reduced j (λ at. apart (sym at_e ∙ at)) never) found.0 [] found.1 found.2)
                      ]
                ]
            | inr none ↦
                let was = still_free old new (e ∷ list) e f left n reduced j none in
                let is = free.is j none in
                let number = old_free.is j was in
                let there : number_at before (pivot joined) ≡ entry_at es e.place =
                ap (number_at before) at_e ∙ sym (old_free.is e.place (first_free old e list left)) in
                let crossed = c.is j in
                let first : pivot_entry joined *ℤ number_at before j ≡ e.value *ℤ entry_at es j =
                ap (λ z. z *ℤ number_at before j) leads ∙ ap (λ z. e.value *ℤ z) (sym number) in
                let second : number_at before (pivot joined) *ℤ number_at joined j ≡ entry_at es e.place *ℤ entry_at (e ∷ list) j =
                ap (λ z. z *ℤ number_at joined j) there ∙ ap (λ z. entry_at es e.place *ℤ z) (joined_at j) in
                let third : c.by *ℤ number_at made j ≡ number_at made j = ap (λ z. z *ℤ number_at made j) one ∙ one-times (number_at made j) in
                omega (arith, ints)
          ]

      after_is : (weight : ℕ → ℤ) → weighted weight entries ≡ weighted_after weight (e ∷ list) es
      after_is weight =
          let whole = weighted_line weight old.n (pos 1) e.value (neg_ℤ (entry_at es e.place)) entries es (e ∷ list) free.listed old_free.listed
          left.0.listed line in
          let once = one-times (weighted weight entries) in
          let minus = neg-times (entry_at es e.place) (weighted weight (e ∷ list)) in
          omega (arith, ints)

      pub foreseen_point : (weights : List Point) (point : Point) → IsPointAfter weights (e ∷ list) es point → IsPointAfter weights [] entries point
      foreseen_point weights point is = record {
        first = subst (λ z. IsLeftModulo z point.first) (sym (after_is (first_weight weights))) is.first;
        second = subst (λ z. IsLeftModulo z point.second) (sym (after_is (second_weight weights))) is.second;
      }

-- ---- once the row has joined

module _ (old new : Echelon) (e : FreeEntry) (list : List FreeEntry) (kept : ColumnKeys) (f : IsSmallForm old.n old.rows) (left : IsLeftOver old (e ∷ list))
    (n : new.n ≡ old.n) (reduced : IsReducedForm old.n (old.rows ++ row_of old.n (e ∷ list) ∷ []) new.rows)
    (are : AreForeseen old (e ∷ list) (length old.rows) kept) where
  -- the point of a row that was one before, cleared or not
  of_old : (i k : ℕ) → i < length new.rows → k < length old.rows → pivot (get_or old.rows k []) ≡ pivot (get_or new.rows i []) →
      IsRightWithHead new kept (get_or new.rows i [])
  of_old i k within inside at head entries free =
      let row = get_or new.rows i [] in
      let was = get_or old.rows k [] in
      let weights = kept.weights.items in
      let mine = subst (λ (m : ℕ). IsFreeList m new.rows row entries) n free in
      let seen = are.foreseen k inside in
      let heads : get_or kept.heads.items (pivot was) (pos 0) ≡ pivot_entry row = ap (λ (q : ℕ). get_or kept.heads.items q (pos 0)) at ∙ head in
      subst (λ (q : ℕ). IsPointAfter weights [] entries (point_at kept.points.items q)) at
      (elim (zero_or_not (number_at was e.place)) [
        | inl gone ↦
            let stays = row_stays old new (e ∷ list) e f left n reduced k inside gone in
            let same : row ≡ was = pivots_once new.rows i stays.place reduced.echelon within stays.within (sym at ∙ ap pivot (sym stays.same)) ∙ stays.same in
            let point = seen.stays gone (heads ∙ ap pivot_entry same) in
            let there = subst (λ (m : ℕ). IsFreeList m new.rows (get_or new.rows stays.place []) point.entries) n (stays.free point.entries point.free) in
            let one = free_lists_same old.n new.rows row entries point.entries mine
            (subst (λ (r : List ℤ). IsFreeList old.n new.rows r point.entries) (stays.same ∙ sym same) there) in
            subst (λ (l : List FreeEntry). IsPointAfter weights [] l (point_at kept.points.items (pivot was))) (sym one) point.is
        | inr some ↦
            let c = cleared_at old new (e ∷ list) k f left reduced inside in
            let same : row ≡ get_or new.rows c.place [] =
            pivots_once new.rows i c.place reduced.echelon within c.within (sym at ∙ sym c.same_pivot) in
            elim (seen.cleared some) [
              | inl nothing ↦
                  absurd (positive_not_zero (pivot_entry row) (All-from_recursion (IsPrimitive old.n) new.rows reduced.primitive i [] within).leading
                  (sym heads ∙ nothing))
              | inr found ↦
                  foreseen_point old new e list k f left n reduced inside c found.1.entries entries found.1.free
                  (subst (λ (r : List ℤ). IsFreeList old.n new.rows r entries) same mine)
                  (not_divided old new e list k f left n reduced inside c (sym found.0 ∙ heads ∙ ap pivot_entry same)) weights
                  (point_at kept.points.items (pivot was)) found.1.is
            ]
      ])

  -- the column of the new row itself has no head
  of_new : (i : ℕ) → i < length new.rows → pivot (get_or new.rows i []) ≡ e.place → IsRightWithHead new kept (get_or new.rows i [])
  of_new i within at head entries free =
      let row = get_or new.rows i [] in
      let some : times_of (e ∷ list) (entry_at (own_entry e.place)) ≢ pos 0 =
      λ none. let one = own_here old (e ∷ list) left e in omega (arith, ints, none, one) in
      let nothing = are.first_head e.place some in
      absurd (positive_not_zero (pivot_entry row) (All-from_recursion (IsPrimitive old.n) new.rows reduced.primitive i [] within).leading
      (sym head ∙ ap (λ (q : ℕ). get_or kept.heads.items q (pos 0)) at ∙ nothing))

  right : (i : ℕ) → i < length new.rows → IsRightWithHead new kept (get_or new.rows i [])
  right i within =
      let q = pivot (get_or new.rows i []) in
      elim (cases_eq q e.place) [
        | inl same ↦ of_new i within same
        | inr apart ↦
            elim (pivot_or_none old.rows q) [
              | inl found ↦ of_old i found.0 within found.1 found.2
              | inr none ↦
                  absurd (All-from_recursion (λ r. pivot r ≢ q) new.rows
                  (now_free old new (e ∷ list) e f left n reduced q
                  (λ at. apart (sym at ∙ first_place old.n (e ∷ list) e left.0.some left.0.listed)) none) i [] within refl)
            ]
      ]

  joined_keys : AreColumnKeys new kept
  joined_keys = record {
    weights = subst (λ m. AreWeights m kept.weights.items) (sym n) are.weights;
    points_each = are.points_each ∙ sym n;
    heads_each = are.heads_each ∙ sym n;
    keys_each = are.keys_each ∙ sym n;
    columns = are.columns ∙ sym n;
    own = λ q below free. are.own q (omega (arith, below, n)) (still_free old new (e ∷ list) e f left n reduced q free);
    known = λ q below h.
        let inside : q < old.n = omega (arith, below, n) in
        let was = are.known q inside h in
        let untouched = untouched_by old (e ∷ list) left q (are.first q inside h)
        (λ k at_most at. are.untouched k at_most (ap (has_row kept.unknown.list) at ∙ h)) in
        record {
          point = record {
            entries = was.point.entries;
            left = column_stays old new e list q was.point.entries f left n reduced was.point.left (untouched was.point.entries was.point.left);
            is = was.point.is;
          };
          key = was.key;
        };
    rows = right;
  }

-- what is foreseen is kept of the form with the new row, if anything is
pub foreseen_kept : (old new : Echelon) (list : List FreeEntry) (keys : Option ColumnKeys) → IsSmallForm old.n old.rows → IsLeftOver old list →
    new.n ≡ old.n → IsReducedForm old.n (old.rows ++ row_of old.n list ∷ []) new.rows → IfSome keys (AreForeseen old list (length old.rows)) →
    AreKeptKeys new keys
foreseen_kept old new list None f left n reduced are = tt
foreseen_kept old new [] (Some kept) f left n reduced are = let some = left.0.some in absurd (omega arith)
foreseen_kept old new (e ∷ list) (Some kept) f left n reduced are = joined_keys old new e list kept f left n reduced are

-- a pivot's list, if it is known, is that of its row
pub known_list : (form : Echelon) → IsEchelon form.rows → (k : ℕ) (es entries : List FreeEntry) → k < length form.rows →
    IsFreeList form.n form.rows (get_or form.rows k []) es → IsListOfColumn form (pivot (get_or form.rows k [])) entries → entries ≡ es
known_list form echelon k es entries within free (inl (i, inside, at, other)) =
    free_lists_same form.n form.rows (get_or form.rows k []) entries es
    (subst (λ (row : List ℤ). IsFreeList form.n form.rows row entries) (pivots_once form.rows i k echelon inside within at) other) free
known_list form echelon k es entries within free (inr (none, is)) =
    absurd (All-from_recursion (λ other. pivot other ≢ pivot (get_or form.rows k [])) form.rows none k [] within refl)

-- the value of the first entry
pub leading_is : (list : List FreeEntry) (d : FreeEntry) → 0 < length list → (get_or list 0 d).value ≡ leading_of list
leading_is [] d some = absurd (omega arith)
leading_is (e ∷ list) d some = refl

-- it is small
pub leading_small : (form : Echelon) (list : List FreeEntry) (d : FreeEntry) → IsLeftOver form list → unsigned_abs (get_or list 0 d).value ≤ 2 ^ 56
leading_small form list d left =
    All-from_recursion (λ (e : FreeEntry). unsigned_abs e.value ≤ 2 ^ 56) list (new_small form list (inr left)).1 0 d left.0.some

-- other keys may be kept of the columns that are unknown
pub keys_stay : (form : Echelon) (kept : ColumnKeys) (keys : Vec ℕ Global) → AreColumnKeys form kept → length keys.items ≡ form.n →
    ((q : ℕ) → has_row kept.unknown.list q ≡ false → get_or keys.items q 0 ≡ get_or kept.keys.items q 0) →
    AreColumnKeys form (record { weights = kept.weights; points = kept.points; heads = kept.heads; keys = keys; unknown = kept.unknown })
keys_stay form kept keys are each same = record {
  weights = are.weights;
  points_each = are.points_each;
  heads_each = are.heads_each;
  keys_each = each;
  columns = are.columns;
  own = are.own;
  known = λ q below h.
      let known = are.known q below h in
      record { point = known.point; key = subst (IsKey (point_at kept.points.items q)) (sym (same q h)) known.key };
  rows = are.rows;
}
