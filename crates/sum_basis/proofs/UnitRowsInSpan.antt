-- A unit row lies in the span exactly if a row of the form has its only entry that isn't 0 there.
use Rattle.std.proofs.Common.{◌≡◌, ℕ, zero, suc, ◌+◌, ◌<◌, ◌≤◌, ℤ, pos, List, [], ◌∷◌, length, take, get_or, sym, ap, ◌∙◌, arith, subst, inl, inr}
use Rattle.std.specs.Prelude.{◌+ℤ◌, ◌*ℤ◌, neg_ℤ, ◌<ℤ◌}
use Rattle.std.specs.List.{AllByRecursion}
use Rattle.std.proofs.lemmas.Int.{ints}
use Rattle.std.proofs.lemmas.Bool.{cases_eq}
use Rattle.std.proofs.lemmas.List.{take_more}
use Rattle.std.proofs.lemmas.List.Elements.{All-from_recursion}
use Rattle.std.proofs.Math.IntN.{*ℤ-zero, *ℤ_comm}
use Rattle.audit_types.specs.Truth.{number_at}
use Rattle.audit_types.specs.Form.{InSpan, IsPrimitive, IsEchelon, pivot, pivot_entry}
use Rattle.sum_basis.specs.Basis.{Echelon, unit_row}
use Rattle.sum_basis.specs.Elimination.{IsFormWithin, IsLone}
use Rattle.audit_types.specs.Products.{neg-times, one-times}
use Rattle.audit_types.specs.ListLaws.{all-push}
use Rattle.audit_types.specs.Numbers.{positive_is}
use Rattle.audit_types.specs.FormRows.{pivot_below}
use Rattle.sum_basis.specs.Spans.{spans_from, in_span_from, spans_same, spans_times, spans_add, spans_down, span_zero, own}
use Rattle.sum_basis.specs.Ties.{IsRowOf}
pub use Rattle.sum_basis.specs.EntryLaws.{unit_here, unit_elsewhere}
use Rattle.sum_basis.proofs.FormsAreUnique.{stands_before, pivot_is, pivot_among, zeros_walk, zero_at_others, in_span_at, leads_from}

-- the pivot of a unit row is its place
pub pivot-unit_row : (n i : ℕ) → i < n → pivot (unit_row n i) ≡ i
pivot-unit_row n i h = pivot_is (unit_row n i) i (λ j l. unit_elsewhere n i j (λ e. omega arith)) (λ e. let one = unit_here n i h in omega (arith, ints))

-- the row of the form that a unit row in the span comes from
record HasLoneRow (form : List (List ℤ)) (i : ℕ) : Type 0 where
  row : List ℤ
  among : IsRowOf row form
  at : pivot row ≡ i
  lone : IsLone row

-- a unit row in the span has a row of the form with its only entry there
lone_row : {width : ℕ} (n : ℕ) (form : List (List ℤ)) (i : ℕ) → IsFormWithin width n form → i < n → InSpan form (unit_row n i) → HasLoneRow form i
lone_row n form i f h p = record { row = hit.0; among = hit.1; at = at; lone = lone }
  where
    unit : List ℤ
    unit = unit_row n i

    positive : pos 0 <ℤ pivot_entry unit
    positive = let here = ap (number_at unit) (pivot-unit_row n i h) ∙ unit_here n i h in omega (arith, ints)

    hit : (g : List ℤ) × IsRowOf g form × (pivot unit ≡ pivot g)
    hit = pivot_among form unit f.echelon (leads_from n form f.primitive) p positive

    at : pivot hit.0 ≡ i
    at = sym hit.2 ∙ pivot-unit_row n i h

    difference : ℕ → ℤ
    difference j = pivot_entry hit.0 *ℤ number_at unit j +ℤ neg_ℤ (pos 1) *ℤ number_at hit.0 j

    at_pivot : (other : List ℤ) → IsRowOf other form → difference (pivot other) ≡ pos 0
    at_pivot other among = elim (cases_eq (pivot other) i) [
      | inl same ↦
          let one = ap (number_at unit) same ∙ unit_here n i h in
          let entry = ap (number_at hit.0) (same ∙ sym at) in
          let product = *ℤ_comm (pivot_entry hit.0) (pos 1) ∙ one-times (pivot_entry hit.0) in
          let minus = neg-times (pos 1) (pivot_entry hit.0) in
          let once = one-times (pivot_entry hit.0) in
          ap (λ z. pivot_entry hit.0 *ℤ z +ℤ neg_ℤ (pos 1) *ℤ number_at hit.0 (pivot other)) one
          ∙ ap (λ z. pivot_entry hit.0 *ℤ pos 1 +ℤ neg_ℤ (pos 1) *ℤ z) entry ∙ omega (arith, ints)
      | inr apart ↦
          let none = unit_elsewhere n i (pivot other) apart in
          let gone = zero_at_others form hit.0 other f.echelon hit.1 among (λ e. apart (sym e ∙ at)) in
          ap (λ z. pivot_entry hit.0 *ℤ z +ℤ neg_ℤ (pos 1) *ℤ number_at hit.0 (pivot other)) none
          ∙ ap (λ z. pivot_entry hit.0 *ℤ pos 0 +ℤ neg_ℤ (pos 1) *ℤ z) gone
          ∙ ap (λ z. z +ℤ neg_ℤ (pos 1) *ℤ pos 0) (*ℤ-zero (pivot_entry hit.0)) ∙ ap (λ z. pos 0 +ℤ z) (*ℤ-zero (neg_ℤ (pos 1)))
    ]

    lone : IsLone hit.0
    lone j other =
        let spans = spans_add form (λ k. pivot_entry hit.0 *ℤ number_at unit k) (λ k. neg_ℤ (pos 1) *ℤ number_at hit.0 k)
        (spans_times form (pivot_entry hit.0) (number_at unit) (spans_from form unit p))
        (spans_times form (neg_ℤ (pos 1)) (number_at hit.0) (spans_from form hit.0 (in_span_at form form hit.0 (own form) hit.1))) in
        let none = span_zero form difference f.echelon (leads_from n form f.primitive) spans (zeros_walk difference form form (λ g r. r) at_pivot) j in
        let zero_there = ap (λ z. pivot_entry hit.0 *ℤ z) (unit_elsewhere n i j (λ e. other (e ∙ sym at))) ∙ *ℤ-zero (pivot_entry hit.0) in
        let minus = neg-times (pos 1) (number_at hit.0 j) in
        let once = one-times (number_at hit.0 j) in
        omega (arith, ints)

-- none of the first k rows has a lone entry
pub record NoneLone (form : List (List ℤ)) (k : ℕ) : Type 0 where
  pub none : AllByRecursion (λ row. ¬ (IsLone row)) (take k form)

-- at the start no row was looked at
pub none_yet : (form : List (List ℤ)) → NoneLone form 0
none_yet form = record { none = tt }

-- one row more has another entry too
pub one_more_not : (form : List (List ℤ)) (k : ℕ) → k < length form → NoneLone form k → ¬ (IsLone (get_or form k [])) → NoneLone form (k + 1)
one_more_not form k h so_far other =
    record { none = rw (take_more form k [] h) (all-push (λ row. ¬ (IsLone row)) (take k form) (get_or form k []) so_far.none other) }

-- a row with a lone entry doesn't come before the first that was found
not_before : (form : List (List ℤ)) (k : ℕ) (row : List ℤ) → k < length form → IsEchelon form → AllByRecursion (λ r. ¬ (IsLone r)) (take k form) →
    IsRowOf row form → IsLone row → pivot (get_or form k []) ≤ pivot row
not_before [] k row h e none among lone = absurd among
not_before (r ∷ form) zero row h e none (inl same) lone = let here = ap pivot same in omega arith
not_before (r ∷ form) zero row h e none (inr among) lone = let later = (stands_before r form row e.0 among).0 in omega arith
not_before (r ∷ form) (suc k) row h e none (inl same) lone = absurd (none.0 (subst IsLone (sym same) lone))
not_before (r ∷ form) (suc k) row h e none (inr among) lone = not_before form k row (omega arith) e.1 none.1 among lone

-- if no row has a lone entry, none is found
not_among : (form : List (List ℤ)) (k : ℕ) (row : List ℤ) → length form ≤ k → AllByRecursion (λ r. ¬ (IsLone r)) (take k form) → IsRowOf row form → IsLone row →
    ⊥
not_among [] k row h none among lone = among
not_among (r ∷ form) zero row h none among lone = omega arith
not_among (r ∷ form) (suc k) row h none (inl same) lone = none.0 (subst IsLone (sym same) lone)
not_among (r ∷ form) (suc k) row h none (inr among) lone = not_among form k row (omega arith) none.1 among lone

-- the row with a lone entry is a multiple of a unit row
pub unit_in_span : (n : ℕ) (form : List (List ℤ)) (row : List ℤ) → IsPrimitive n row → InSpan form row → IsLone row → InSpan form (unit_row n (pivot row))
unit_in_span n form row p h lone =
    in_span_from form (unit_row n (pivot row))
    (spans_down form m.0 (number_at (unit_row n (pivot row))) m.2
    (spans_same form (number_at row) (λ j. pos m.0 *ℤ number_at (unit_row n (pivot row)) j) same (spans_from form row h)))
  where
    m : (m : ℕ) × (pivot_entry row ≡ pos m) × (0 < m)
    m = positive_is (pivot_entry row) p.leading

    same : (j : ℕ) → number_at row j ≡ pos m.0 *ℤ number_at (unit_row n (pivot row)) j
    same j = elim (cases_eq j (pivot row)) [
      | inl e ↦
          let one = ap (number_at (unit_row n (pivot row))) e ∙ unit_here n (pivot row) (pivot_below n row p) in
          ap (number_at row) e ∙ m.1 ∙ sym (ap (λ z. pos m.0 *ℤ z) one ∙ *ℤ_comm (pos m.0) (pos 1) ∙ one-times (pos m.0))
      | inr other ↦ lone j other ∙ sym (ap (λ z. pos m.0 *ℤ z) (unit_elsewhere n (pivot row) j other) ∙ *ℤ-zero (pos m.0))
    ]

-- the first row with a lone entry has the least unit row of the span
pub record IsFirstUnit (form : Echelon) (i : ℕ) : Type 0 where
  pub within : i < form.n
  pub in_span : InSpan form.rows (unit_row form.n i)
  pub least : (j : ℕ) → j < i → ¬ (InSpan form.rows (unit_row form.n j))

-- the first row with a lone entry has the least unit row of the span
pub first_unit : {width : ℕ} (form : Echelon) (k : ℕ) → IsFormWithin width form.n form.rows → k < length form.rows → NoneLone form.rows k →
    IsLone (get_or form.rows k []) →
    IsFirstUnit form (pivot (get_or form.rows k []))
first_unit form k f h none lone =
    let row = get_or form.rows k [] in
    let primitive = All-from_recursion (IsPrimitive form.n) form.rows f.primitive k [] h in
    let in_own = All-from_recursion (InSpan form.rows) form.rows (own form.rows) k [] h in
    let inside = pivot_below form.n row primitive in
    record {
      within = inside;
      in_span = unit_in_span form.n form.rows row primitive in_own lone;
      least = λ j before p.
          let other = lone_row form.n form.rows j f (omega arith) p in
          let not_sooner = not_before form.rows k other.row h f.echelon none.none other.among other.lone in
          let at = other.at in
          omega arith;
    }

-- with no lone entry there is no unit row in the span
pub no_unit : {width : ℕ} (form : Echelon) (k : ℕ) → IsFormWithin width form.n form.rows → length form.rows ≤ k → NoneLone form.rows k → (i : ℕ) → i < form.n →
    ¬ (InSpan form.rows (unit_row form.n i))
no_unit form k f h none i inside p = let other = lone_row form.n form.rows i f inside p in not_among form.rows k other.row h none.none other.among other.lone
