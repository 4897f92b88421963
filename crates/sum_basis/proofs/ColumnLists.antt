-- What is kept of columns: what a form leaves of their unit rows, before and after a new row joins it.
use Rattle.std.proofs.Common.{◌≡◌, ◌≢◌, ℕ, zero, suc, ◌+◌, ◌*◌, ◌%◌, ◌<◌, ◌==◌, ◌||◌, ℤ, pos, List, [], ◌∷◌, ◌++◌, length, get_or, refl, sym, ap, ◌∙◌, subst, arith, inl, inr, ◌⊎◌}
use Rattle.std.specs.Prelude.{◌-ℤ◌, true, false, Contains, None, Some, Result, Ok, Err, OnOk}
use Rattle.std.specs.List.{AllByRecursion}
use Rattle.std.proofs.lemmas.Bool.{cases_eq, cases_lt, eq-eqb, or_parts, true≢false}
use Rattle.std.proofs.lemmas.Int.{ints}
use Rattle.std.proofs.lemmas.List.{length_push, get_or_push, get_or_append_left}
use Rattle.std.proofs.lemmas.List.Elements.{All-from_recursion, Contains-append_left, Contains-push}
use Rattle.audit_types.specs.Rows.{has_row, with_row}
use Rattle.audit_types.specs.RowLaws.{has-rows_that}
use Rattle.audit_types.specs.ListLaws.{all-push}
use Rattle.audit_types.specs.FormRows.{pivot_below}
use Rattle.audit_types.specs.Numbers.{zero_or_not}
use Rattle.audit_types.specs.Truth.{number_at}
use Rattle.audit_types.specs.Form.{StandsBefore, IsEchelon, pivot}
use Rattle.sum_basis.specs.Basis.{Echelon, IsFreeList, unit_row}
use Rattle.sum_basis.specs.Elimination.{IsSmallForm}
use Rattle.sum_basis.specs.Growth.{IsLeftOver}
use Rattle.sum_basis.specs.Keys.{IsNewPoint, IsListOfColumn, IsKnown, IsKeyAmong, IsUntouched, IsZeroAtFirst, HasPoint, AreUnknownPoints, AreTouchedPoints, own_entry, point_at}
use Rattle.sum_basis.specs.Points.{modulus, IsLeftModulo, IsPointAfter, IsKey, IsResidue, HasKey, Matters}
use Rattle.sum_basis.specs.Reach.{IsLeftOverOrNone, times_of}
use Rattle.sum_basis.specs.Sparse.{entry_at}
use Rattle.sum_basis.specs.declared.column_keys.ColumnKeys.{ColumnKeys}
use Rattle.sum_basis.specs.declared.column_keys.SomePoints.{SomePoints}
use Rattle.sum_basis.specs.declared.points.NewPoint.{NewPoint}
use Rattle.sum_basis.specs.declared.points.Point.{Point}
use Rattle.sum_basis.specs.declared.sparse.FreeEntry.{FreeEntry}
use Rattle.sum_basis.proofs.ColumnPoints.{first_free}
use Rattle.sum_basis.proofs.FormsAreUnique.{primitive_at}
use Rattle.sum_basis.proofs.KeptForms.{row_among}
use Rattle.sum_basis.proofs.KeyProducts.{no_point}
use Rattle.sum_basis.proofs.LeftModulo.{left_rem, left_self, left_same, same_naturals}
use Rattle.sum_basis.proofs.PointSums.{point_cleared}
use Rattle.sum_basis.proofs.Residues.{residue_of_pivot, residue_of_free}
use Rattle.sum_basis.proofs.SameModulo.{same_equal, same_back, same_then}
use Rattle.sum_basis.proofs.SparseRows.{elsewhere, first_value}

-- rows in the order of their pivots have each pivot once
pub pivots_once : (rows : List (List ℤ)) (i j : ℕ) → IsEchelon rows → i < length rows → j < length rows →
    pivot (get_or rows i []) ≡ pivot (get_or rows j []) → get_or rows i [] ≡ get_or rows j []
pivots_once [] i j echelon first second same = absurd (omega arith)
pivots_once (row ∷ rows) zero zero echelon first second same = refl
pivots_once (row ∷ rows) zero (suc j) echelon first second same =
    let before = All-from_recursion (StandsBefore row) rows echelon.0 j [] (omega arith) in
    let ascending = before.0 in
    absurd (omega (arith, same))
pivots_once (row ∷ rows) (suc i) zero echelon first second same =
    let before = All-from_recursion (StandsBefore row) rows echelon.0 i [] (omega arith) in
    let ascending = before.0 in
    absurd (omega (arith, same))
pivots_once (row ∷ rows) (suc i) (suc j) echelon first second same = pivots_once rows i j echelon.1 (omega arith) (omega arith) same

-- each pivot is a column
pub pivot_within : (form : Echelon) → IsSmallForm form.n form.rows → (k : ℕ) → k < length form.rows → pivot (get_or form.rows k []) < form.n
pivot_within form f k within =
    let row = get_or form.rows k [] in
    pivot_below form.n row (primitive_at form.n form.rows row f.primitive (row_among form.rows k within))

-- what is left of a column's unit row is
pub residue_of_column : (form : Echelon) (q : ℕ) (entries : List FreeEntry) → IsSmallForm form.n form.rows → q < form.n → IsListOfColumn form q entries →
    IsResidue form (unit_row form.n q) entries
residue_of_column form q entries f below (inl own) =
    subst (λ (i : ℕ). IsResidue form (unit_row form.n i) entries) own.2 (residue_of_pivot form f own.0 own.1 entries own.3)
residue_of_column form q entries f below (inr free) =
    subst (IsResidue form (unit_row form.n q)) (sym free.1) (residue_of_free form q below free.0)

-- ---- keys stay where the new list meets nothing

module _ (v inverse ki s : ℕ) (one : IsLeftModulo (pos (v * inverse)) 1) where
  -- the product with the inverse of v goes away
  gone : (x left : ℕ) → IsLeftModulo (pos (x * ki)) left → IsLeftModulo (pos (((v * x) % modulus) * (ki * inverse))) left
  gone x left is =
      left_same (pos (((v * x) % modulus) * (ki * inverse))) (pos (left * 1)) left
      (same_then modulus (pos (((v * x) % modulus) * (ki * inverse))) (pos ((v * x) * (ki * inverse))) (pos (left * 1))
      (same_naturals ((v * x) % modulus) (v * x) (ki * inverse) (ki * inverse)
      (same_back modulus (pos (v * x)) (pos ((v * x) % modulus)) (left_rem (v * x)).1) (same_equal modulus (pos (ki * inverse)) (pos (ki * inverse)) refl))
      (same_then modulus (pos ((v * x) * (ki * inverse))) (pos ((x * ki) * (v * inverse))) (pos (left * 1))
      (same_equal modulus (pos ((v * x) * (ki * inverse))) (pos ((x * ki) * (v * inverse))) (ap pos (omega arith)))
      (same_naturals (x * ki) left (v * inverse) 1 is.1 one.1)))
      (left_same (pos (left * 1)) (pos left) left (same_equal modulus (pos (left * 1)) (pos left) (ap pos (omega arith))) (left_self left is.0))

-- the point of entries that are 0 at the first place of a new list, and its key
pub key_stays : (weights : List Point) (list entries : List FreeEntry) (first : NewPoint) (point : Point) (key : ℕ) → IsNewPoint weights list (Some first) →
    (inverse : ℕ) × IsLeftModulo (pos (first.value * inverse)) 1 → IsPointAfter weights [] entries point → times_of list (entry_at entries) ≡ pos 0 →
    IsKey point key → (next : Point) × IsPointAfter weights list entries next × IsKey next key
key_stays weights list entries first point key known (inverse, one) is none key_is = (
  next,
  point_cleared first point next (pos 0) 0 (left_self 0 (omega arith)) (alone point.first first.point.first) (alone point.second first.point.second) weights
      list entries known is (sym none),
  record {
    inverse = key_is.inverse * inverse;
    is_inverse = gone first.value inverse key_is.inverse 0 one point.second 1 key_is.is_inverse;
    is = gone first.value inverse key_is.inverse 0 one point.first key key_is.is;
  },
)
  where
    next : Point
    next = record { first = (first.value * point.first) % modulus; second = (first.value * point.second) % modulus }

    alone : (x y : ℕ) → IsLeftModulo (pos (first.value * x) -ℤ pos (0 * y)) ((first.value * x) % modulus)
    alone x y =
        left_same (pos (first.value * x) -ℤ pos (0 * y)) (pos (first.value * x)) ((first.value * x) % modulus)
        (same_equal modulus (pos (first.value * x) -ℤ pos (0 * y)) (pos (first.value * x)) (omega (arith, ints))) (left_rem (first.value * x))

module _ (form : Echelon) (f : IsSmallForm form.n form.rows) (kept : ColumnKeys) (q : ℕ) (below : q < form.n) where
  -- a known column has its key if there is no new list
  pub known_key : IsKnown form kept q → HasKey form kept.weights.items [] (unit_row form.n q) (get_or kept.keys.items q 0)
  known_key known = record {
    entries = known.point.entries;
    residue = residue_of_column form q known.point.entries f below known.point.left;
    point = point_at kept.points.items q;
    point_is = known.point.is;
    key_is = known.key;
  }

  -- and keeps it if the list meets nothing of it
  pub untouched_key : (list : List FreeEntry) (first : NewPoint) → IsNewPoint kept.weights.items list (Some first) →
      (inverse : ℕ) × IsLeftModulo (pos (first.value * inverse)) 1 → IsKnown form kept q →
      ((entries : List FreeEntry) → IsListOfColumn form q entries → times_of list (entry_at entries) ≡ pos 0) →
      HasKey form kept.weights.items list (unit_row form.n q) (get_or kept.keys.items q 0)
  untouched_key list first new inverse known untouched =
      let stays = key_stays kept.weights.items list known.point.entries first (point_at kept.points.items q) (get_or kept.keys.items q 0) new inverse
      known.point.is (untouched known.point.entries known.point.left) known.key in
      record {
        entries = known.point.entries;
        residue = residue_of_column form q known.point.entries f below known.point.left;
        point = stays.0;
        point_is = stays.1;
        key_is = stays.2;
      }

-- a touched column has the key of its point
pub touched_key : (form : Echelon) (weights : List Point) (list : List FreeEntry) (some : SomePoints) (q key : ℕ) →
    ((k : ℕ) → k < length some.columns.items → HasPoint form weights list (unit_row form.n (get_or some.columns.items k 0)) (point_at some.points.items k)) →
    IsKeyAmong some q key → HasKey form weights list (unit_row form.n q) key
touched_key form weights list some q key are (k, within, at, is) =
    let has = are k within in
    subst (λ (i : ℕ). HasKey form weights list (unit_row form.n i) key) at
    (record { entries = has.entries; residue = has.residue; point = point_at some.points.items k; point_is = has.is; key_is = is })

none_of : (y : ℕ) (xs : List ℕ) (x : ℕ) → y ≢ x → ¬ (Contains xs x) → ¬ (Contains (y ∷ xs) x)
none_of y xs x apart none (zero, within, is) = apart is
none_of y xs x apart none (suc k, within, is) = none (k, omega arith, is)

-- a number is in a list or isn't
pub in_or_not : (xs : List ℕ) (x : ℕ) → Contains xs x ⊎ ¬ (Contains xs x)
in_or_not [] x = inr (λ found. let within = found.1 in absurd (omega arith))
in_or_not (y ∷ xs) x = elim (cases_eq y x) [
  | inl same ↦ inl (0, omega arith, same)
  | inr apart ↦ elim (in_or_not xs x) [
    | inl found ↦ inl (suc found.0, let within = found.1 in omega arith, found.2)
    | inr none ↦ inr (none_of y xs x apart none)
  ]
]

-- a row that was added is in the set, and one that isn't in it wasn't before
pub not_added : (n : ℕ) (rows : List ℕ) (row q : ℕ) → q < n → has_row (with_row n rows row) q ≡ false → (has_row rows q ≡ false) × (row ≢ q)
not_added n rows row q below h =
    let parts = or_parts (has_row rows q) (q == row) (sym (has-rows_that (λ r. has_row rows r || (r == row)) n q below) ∙ h) in
    (parts.0, λ same. true≢false (sym (eq-eqb q row (sym same)) ∙ parts.1))

-- ---- what a new list meets

module _ (form : Echelon) (list : List FreeEntry) (left : IsLeftOver form list) where
  -- a row and its list have the same at the first place of a new list
  pub first_number : (row : List ℤ) (entries : List FreeEntry) → IsFreeList form.n form.rows row entries →
      times_of list (entry_at entries) ≡ times_of list (number_at row)
  first_number row entries free = go list left
    where
      go : (new : List FreeEntry) → IsLeftOver form new → times_of new (entry_at entries) ≡ times_of new (number_at row)
      go [] some = refl
      go (e ∷ new) some = free.is e.place (first_free form e new some)

  -- a column's own entry isn't 0 at the first place only if the column stands there
  pub own_elsewhere : (d : FreeEntry) (q : ℕ) → (get_or list 0 d).place ≢ q → times_of list (entry_at (own_entry q)) ≡ pos 0
  own_elsewhere d q = go list
    where
      go : (new : List FreeEntry) → (get_or new 0 d).place ≢ q → times_of new (entry_at (own_entry q)) ≡ pos 0
      go [] apart = refl
      go (e ∷ new) apart = let first = elsewhere (record { place = q; value = pos 1 }) e.place (λ same. apart (sym same)) in omega (arith, ints)

  -- and where it stands there, it has 1
  pub own_here : (d : FreeEntry) → times_of list (entry_at (own_entry (get_or list 0 d).place)) ≡ pos 1
  own_here d = go list left.0.some
    where
      go : (new : List FreeEntry) → 0 < length new → times_of new (entry_at (own_entry (get_or new 0 d).place)) ≡ pos 1
      go [] some = absurd (omega arith)
      go (e ∷ new) some =
          first_value 0 (e.place + 1) (record { place = e.place; value = pos 1 }) [] (omega arith, omega arith, (λ none. omega (arith, ints)), tt)

  -- the first place is a column, and the pivot of no row
  pub first_is_free : (d : FreeEntry) → ((get_or list 0 d).place < form.n) × AllByRecursion (λ other. pivot other ≢ (get_or list 0 d).place) form.rows
  first_is_free d = go list left
    where
      go : (new : List FreeEntry) → IsLeftOver form new →
          ((get_or new 0 d).place < form.n) × AllByRecursion (λ other. pivot other ≢ (get_or new 0 d).place) form.rows
      go [] some = let size = some.0.some in absurd (omega arith)
      go (e ∷ new) some = (some.0.listed.1, first_free form e new some)

  -- what a known list of a pivot has there is what the list of its row has
  pub pivot_number : IsSmallForm form.n form.rows → (k : ℕ) (es entries : List FreeEntry) → k < length form.rows →
      IsFreeList form.n form.rows (get_or form.rows k []) es → IsListOfColumn form (pivot (get_or form.rows k [])) entries →
      times_of list (entry_at es) ≡ times_of list (entry_at entries)
  pivot_number f k es entries within free (inl (i, inside, at, other)) =
      first_number (get_or form.rows k []) es free
      ∙ ap (λ (row : List ℤ). times_of list (number_at row)) (sym (pivots_once form.rows i k f.echelon inside within at))
      ∙ sym (first_number (get_or form.rows i []) entries other)
  pivot_number f k es entries within free (inr (none, is)) =
      absurd (All-from_recursion (λ other. pivot other ≢ pivot (get_or form.rows k [])) form.rows none k [] within refl)

  -- what of a column's own entry, and of the row whose pivot it is, is 0 there, is 0 of what is left of it
  pub untouched_by : (q : ℕ) → times_of list (entry_at (own_entry q)) ≡ pos 0 →
      ((k : ℕ) → k < length form.rows → pivot (get_or form.rows k []) ≡ q → IsZeroAtFirst list (get_or form.rows k [])) → IsUntouched form list q
  untouched_by q own rows entries (inl (k, within, at, free)) = first_number (get_or form.rows k []) entries free ∙ rows k within at
  untouched_by q own rows entries (inr (free, is)) = ap (λ (es : List FreeEntry). times_of list (entry_at es)) is ∙ own

-- columns that matter and aren't among those that are touched
pub not_among : (form : Echelon) (weights : List Point) (list : List FreeEntry) (beside several : List ℕ) (columns : List ℕ) (points : List Point) (q : ℕ) →
    IsLeftOver form list → AreTouchedPoints form weights list beside several (length form.rows) columns points → Matters beside several q →
    ¬ (Contains columns q) → IsUntouched form list q
not_among form weights list beside several columns points q left are matters none =
    untouched_by form list left q
    (elim (zero_or_not (times_of list (entry_at (own_entry q)))) [ inl gone ↦ gone | inr some ↦ absurd (none (are.own q matters some)) ])
    (λ k within at. elim (zero_or_not (times_of list (number_at (get_or form.rows k [])))) [
      | inl gone ↦ gone
      | inr some ↦
          absurd (none (subst (Contains columns) at (are.rows k within (subst (Matters beside several) (sym at) matters) some)))
    ])

-- ---- lists of columns with points

-- what holds of all pairs holds with one more
pub pairs_more : (P : ℕ → Point → Type 0) (columns : List ℕ) (points : List Point) (column : ℕ) (point : Point) → length columns ≡ length points →
    ((k : ℕ) → k < length columns → P (get_or columns k 0) (point_at points k)) → P column point →
    (k : ℕ) → k < length (columns ++ column ∷ []) → P (get_or (columns ++ column ∷ []) k 0) (point_at (points ++ point ∷ []) k)
pairs_more P columns points column point each are one k within =
    let long : length (columns ++ column ∷ []) ≡ length columns + 1 = length_push columns column in
    elim (cases_lt k (length columns)) [
      | inl before ↦
          subst (λ (c : ℕ). P c (point_at (points ++ point ∷ []) k)) (sym (get_or_append_left columns (column ∷ []) 0 k before))
          (subst (P (get_or columns k 0)) (sym (get_or_append_left points (point ∷ []) no_point k (omega (arith, each)))) (are k before))
      | inr last ↦
          let at : length columns ≡ k = omega arith in
          subst (λ (c : ℕ). P c (point_at (points ++ point ∷ []) k)) (sym (get_or_push columns column 0 k at))
          (subst (P column) (sym (get_or_push points point no_point k (sym each ∙ at))) one)
    ]

-- an unknown column more
pub unknown_more : (kept : ColumnKeys) (column : ℕ) (point : Point) (columns : List ℕ) (points : List Point) → column < kept.unknown.n →
    has_row kept.unknown.list column ≡ true → point ≡ point_at kept.points.items column → AreUnknownPoints kept column columns points →
    AreUnknownPoints kept (column + 1) (columns ++ column ∷ []) (points ++ point ∷ [])
unknown_more kept column point columns points below unknown is are = record {
  each = length_push columns column ∙ ap (λ (m : ℕ). m + 1) are.each ∙ sym (length_push points point);
  below = all-push (λ q. q < kept.unknown.n) columns column are.below below;
  are = pairs_more (λ q p. (has_row kept.unknown.list q ≡ true) × (p ≡ point_at kept.points.items q)) columns points column point are.each are.are
      (unknown, is);
  all = λ q upto there some. elim (cases_lt q column) [
    | inl before ↦ Contains-append_left columns (column ∷ []) q (are.all q before there some)
    | inr last ↦ let at : column ≡ q = omega arith in subst (Contains (columns ++ column ∷ [])) at (Contains-push columns column)
  ];
}

-- a column that is known, or has no key
pub unknown_skipped : (kept : ColumnKeys) (column : ℕ) (columns : List ℕ) (points : List Point) →
    (has_row kept.unknown.list column ≡ true → (point_at kept.points.items column).second ≡ 0) → AreUnknownPoints kept column columns points →
    AreUnknownPoints kept (column + 1) columns points
unknown_skipped kept column columns points none are = record {
  each = are.each;
  below = are.below;
  are = are.are;
  all = λ q upto there some. elim (cases_lt q column) [
    | inl before ↦ are.all q before there some
    | inr last ↦
        let at : q ≡ column = omega arith in
        absurd (some (ap (λ (i : ℕ). (point_at kept.points.items i).second) at ∙ none (ap (has_row kept.unknown.list) (sym at) ∙ there)))
  ];
}

module _ (form : Echelon) (weights : List Point) (list : List FreeEntry) (beside several : List ℕ) where
  -- a touched row's pivot more
  pub touched_more : (k : ℕ) (point : Point) (columns : List ℕ) (points : List Point) → pivot (get_or form.rows k []) < form.n →
      HasPoint form weights list (unit_row form.n (pivot (get_or form.rows k []))) point → AreTouchedPoints form weights list beside several k columns points →
      AreTouchedPoints form weights list beside several (k + 1) (columns ++ pivot (get_or form.rows k []) ∷ []) (points ++ point ∷ [])
  touched_more k point columns points below has are =
      let column = pivot (get_or form.rows k []) in
      record {
        each = length_push columns column ∙ ap (λ (m : ℕ). m + 1) are.each ∙ sym (length_push points point);
        below = all-push (λ q. q < form.n) columns column are.below below;
        are = pairs_more (λ q p. HasPoint form weights list (unit_row form.n q) p) columns points column point are.each are.are has;
        own = λ q matters some. Contains-append_left columns (column ∷ []) q (are.own q matters some);
        rows = λ i upto matters some. elim (cases_lt i k) [
          | inl before ↦ Contains-append_left columns (column ∷ []) (pivot (get_or form.rows i [])) (are.rows i before matters some)
          | inr last ↦
              let at : k ≡ i = omega arith in
              subst (λ (j : ℕ). Contains (columns ++ column ∷ []) (pivot (get_or form.rows j []))) at (Contains-push columns column)
        ];
      }

  -- the column of the first place alone, if it matters
  pub touched_first : IsLeftOver form list → (d : FreeEntry) (point : Point) → (get_or list 0 d).place < form.n →
      HasPoint form weights list (unit_row form.n (get_or list 0 d).place) point →
      AreTouchedPoints form weights list beside several 0 ((get_or list 0 d).place ∷ []) (point ∷ [])
  touched_first left d point below has =
      let place = (get_or list 0 d).place in
      record {
        each = refl;
        below = (below, tt);
        are = pairs_more (λ q p. HasPoint form weights list (unit_row form.n q) p) [] [] place point refl (λ k none. absurd (omega arith)) has;
        own = λ q matters some. elim (cases_eq place q) [
          | inl same ↦ (0, omega arith, same)
          | inr apart ↦ absurd (some (own_elsewhere form list left d q apart))
        ];
        rows = λ k none matters some. absurd (omega arith);
      }

  -- or none
  pub touched_none : IsLeftOver form list → (d : FreeEntry) → ¬ (Matters beside several (get_or list 0 d).place) →
      AreTouchedPoints form weights list beside several 0 [] []
  touched_none left d idle = record {
    each = refl;
    below = tt;
    are = λ k none. absurd (omega arith);
    own = λ q matters some. elim (cases_eq (get_or list 0 d).place q) [
      | inl same ↦ absurd (idle (subst (Matters beside several) (sym same) matters))
      | inr apart ↦ absurd (some (own_elsewhere form list left d q apart))
    ];
    rows = λ k none matters some. absurd (omega arith);
  }

  -- a row that isn't touched, or whose pivot doesn't matter
  pub touched_skipped : (k : ℕ) (columns : List ℕ) (points : List Point) →
      (Matters beside several (pivot (get_or form.rows k [])) → IsZeroAtFirst list (get_or form.rows k [])) →
      AreTouchedPoints form weights list beside several k columns points → AreTouchedPoints form weights list beside several (k + 1) columns points
  touched_skipped k columns points none are = record {
    each = are.each;
    below = are.below;
    are = are.are;
    own = are.own;
    rows = λ i upto matters some. elim (cases_lt i k) [
      | inl before ↦ are.rows i before matters some
      | inr last ↦
          let at : i ≡ k = omega arith in
          absurd (some (subst (λ (j : ℕ). IsZeroAtFirst list (get_or form.rows j [])) (sym at)
          (none (subst (λ (j : ℕ). Matters beside several (pivot (get_or form.rows j []))) at matters))))
    ];
  }

-- both hold where a call went well
pub on_ok_both : {X E A B C : Type 0} (result : Result X E) → (A → B → C) → OnOk result A → OnOk result B → OnOk result C
on_ok_both (Ok x) both first second = both first second
on_ok_both (Err e) both first second = tt

-- where something is known of a list there is one
pub new_is_left : (form : Echelon) (weights : List Point) (list : List FreeEntry) (first : NewPoint) → IsLeftOverOrNone form list →
    IsNewPoint weights list (Some first) → IsLeftOver form list
new_is_left form weights list first (inl none) known = absurd (subst (λ (l : List FreeEntry). IsNewPoint weights l (Some first)) none known)
new_is_left form weights list first (inr left) known = left

-- where nothing is known there is none
pub none_is_new : (weights : List Point) (list : List FreeEntry) → IsNewPoint weights list None → list ≡ []
none_is_new weights [] known = refl
none_is_new weights (e ∷ list) known = absurd known
