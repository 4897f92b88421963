-- Two reduced forms of one row space are one.
use Rattle.std.proofs.Common.{◌≡◌, ◌≢◌, ℕ, ◌<◌, not, ℤ, pos, List, [], ◌∷◌, length, refl, sym, ap, ◌∙◌, subst, arith, inl, inr, ◌⊎◌}
use Rattle.std.specs.Prelude.{◌+ℤ◌, ◌*ℤ◌, neg_ℤ, ◌<ℤ◌}
use Rattle.std.specs.List.{AllByRecursion}
use Rattle.std.proofs.lemmas.Int.{ints}
use Rattle.std.proofs.lemmas.List.Sums.{position_or_len_is}
use Rattle.std.proofs.lemmas.List.{get_or_past}
use Rattle.std.proofs.lemmas.Bool.{cases_eq, cases_lt}
use Rattle.std.proofs.Math.IntN.{+ℤ_idl, +ℤ_idr, *ℤ_comm, zero-*ℤ, *ℤ-zero}
use Rattle.audit_types.specs.Truth.{number_at, is_zero}
use Rattle.audit_types.specs.Form.{combined, InSpan, pivot, pivot_entry, IsPrimitive, IsEchelon, StandsBefore}
use Rattle.audit_types.specs.Products.{neg-times, zero_factor}
use Rattle.audit_types.specs.PrimitiveLines.{one_primitive}
use Rattle.audit_types.specs.Numbers.{zero_or_not, test_of_not_zero}
use Rattle.audit_types.specs.FormRows.{later_zero, zero_before}
use Rattle.sum_basis.specs.Laws.{FormsAreUnique}
use Rattle.sum_basis.specs.Ties.{IsRowOf}
use Rattle.sum_basis.specs.Spans.{own, spans_from, spans_times, spans_add, span_zero, span_trans_all, combined_zero, ZeroAtPivots}

-- the pivot entries are positive
abbrev Leads : List (List ℤ) → Type 0
Leads rows = AllByRecursion (λ r. pos 0 <ℤ pivot_entry r) rows

-- the pivot is the first place that is not 0
pub pivot_is : (row : List ℤ) (p : ℕ) → ((j : ℕ) → j < p → number_at row j ≡ pos 0) → number_at row p ≢ pos 0 → pivot row ≡ p
pivot_is row p before here =
    elim (cases_lt p (length row)) [
      | inl l ↦ position_or_len_is (λ x. not (is_zero x)) row p (pos 0) (omega arith)
          (λ k h. ap (λ z. not (is_zero z)) (before k h)) (λ _. ap not (test_of_not_zero (number_at row p) here))
      | inr l ↦ absurd (here (get_or_past row p (pos 0) l))
    ]

-- the rows after a row are 0 before its pivot
all_zero_before : (row : List ℤ) (rows : List (List ℤ)) (j : ℕ) → j < pivot row → AllByRecursion (StandsBefore row) rows →
    AllByRecursion (λ r. number_at r j ≡ pos 0) rows
all_zero_before row [] j h later = tt
all_zero_before row (next ∷ rows) j h later = let order = later.0.0 in (zero_before next j (omega arith), all_zero_before row rows j h later.1)

-- a row that leads a combination
record Led (rows : List (List ℤ)) (f : ℕ → ℤ) : Type 0 where
  row : List ℤ
  among : IsRowOf row rows
  before : (j : ℕ) → j < pivot row → f j ≡ pos 0
  here : f (pivot row) ≢ pos 0

-- a combination is 0, or its first place that is not 0 is a pivot
led : (cs : List ℤ) (rows : List (List ℤ)) → IsEchelon rows → Leads rows → ((j : ℕ) → combined cs rows j ≡ pos 0) ⊎ Led rows (combined cs rows)
led [] rows echelon leads = inl (λ j. refl)
led (c ∷ cs) [] echelon leads = inl (λ j. refl)
led (c ∷ cs) (row ∷ rows) echelon leads =
    elim (zero_or_not c) [
      | inl none ↦
          let same : (j : ℕ) → combined cs rows j ≡ combined (c ∷ cs) (row ∷ rows) j = λ j.
          sym (ap (λ z. z *ℤ number_at row j +ℤ combined cs rows j) none ∙ ap (λ z. z +ℤ combined cs rows j) (zero-*ℤ (number_at row j))
          ∙ +ℤ_idl (combined cs rows j)) in
          elim (led cs rows echelon.1 leads.1) [
            | inl z ↦ inl (λ j. sym (same j) ∙ z j)
            | inr l ↦ inr (record {
              row = l.row;
              among = inr l.among;
              before = λ j h. sym (same j) ∙ l.before j h;
              here = λ z. l.here (same (pivot l.row) ∙ z);
            })
          ]
      | inr some ↦ inr (record {
        row = row;
        among = inl refl;
        before =
            λ j h. ap (λ z. c *ℤ z +ℤ combined cs rows j) (zero_before row j h) ∙ ap (λ z. z +ℤ combined cs rows j) (*ℤ-zero c) ∙ +ℤ_idl (combined cs rows j)
            ∙ combined_zero cs rows j (all_zero_before row rows j h echelon.0);
        here = λ z. some (zero_factor c (pivot_entry row)
            (sym (ap (λ y. c *ℤ pivot_entry row +ℤ y) (combined_zero cs rows (pivot row) (later_zero row rows echelon.0)) ∙ +ℤ_idr (c *ℤ pivot_entry row))
            ∙ z) leads.0);
      })
    ]

-- each row of them has a positive pivot entry
leads_above : (rows : List (List ℤ)) (row : List ℤ) → Leads rows → IsRowOf row rows → pos 0 <ℤ pivot_entry row
leads_above [] row leads among = absurd among
leads_above (r ∷ rows) row leads (inl e) = subst (λ x. pos 0 <ℤ pivot_entry x) e leads.0
leads_above (r ∷ rows) row leads (inr among) = leads_above rows row leads.1 among

-- a row stands before each row after it
pub stands_before : (row : List ℤ) (rows : List (List ℤ)) (other : List ℤ) → AllByRecursion (StandsBefore row) rows → IsRowOf other rows →
    StandsBefore row other
stands_before row [] other h among = absurd among
stands_before row (r ∷ rows) other h (inl e) = subst (StandsBefore row) e h.0
stands_before row (r ∷ rows) other h (inr among) = stands_before row rows other h.1 among

-- a row is 0 at the pivots of the others
pub zero_at_others : (rows : List (List ℤ)) (f g : List ℤ) → IsEchelon rows → IsRowOf f rows → IsRowOf g rows → pivot f ≢ pivot g →
    number_at f (pivot g) ≡ pos 0
zero_at_others [] f g echelon p q apart = absurd p
zero_at_others (r ∷ rows) f g echelon (inl e) (inl h) apart = absurd (apart (ap pivot (sym e ∙ h)))
zero_at_others (r ∷ rows) f g echelon (inl e) (inr q) apart = subst (λ x. number_at x (pivot g) ≡ pos 0) e (stands_before r rows g echelon.0 q).1
zero_at_others (r ∷ rows) f g echelon (inr p) (inl h) apart = subst (λ x. number_at f (pivot x) ≡ pos 0) h (stands_before r rows f echelon.0 p).2
zero_at_others (r ∷ rows) f g echelon (inr p) (inr q) apart = zero_at_others rows f g echelon.1 p q apart

-- a row of the span whose pivot entry is positive has the pivot of a row of the form
pub pivot_among : (rows : List (List ℤ)) (f : List ℤ) → IsEchelon rows → Leads rows → InSpan rows f → pos 0 <ℤ pivot_entry f →
    (g : List ℤ) × IsRowOf g rows × (pivot f ≡ pivot g)
pivot_among rows f echelon leads span positive =
    elim (led span.coefficients rows echelon leads) [
      | inl z ↦
          let product = *ℤ_comm (pivot_entry f) (pos span.multiple) ∙ span.is (pivot f) ∙ z (pivot f) in
          let m = span.positive in
          let none : pivot_entry f ≡ pos 0 = zero_factor (pivot_entry f) (pos span.multiple) product (omega (arith, ints)) in
          absurd (omega (arith, ints))
      | inr l ↦
          let m = span.positive in
          let above : pos 0 <ℤ pos span.multiple = omega (arith, ints) in (
            l.row,
            l.among,
            pivot_is f (pivot l.row)
                (λ j h. zero_factor (number_at f j) (pos span.multiple) (*ℤ_comm (number_at f j) (pos span.multiple) ∙ span.is j ∙ l.before j h) above)
                (λ z. l.here (sym (span.is (pivot l.row)) ∙ ap (λ x. pos span.multiple *ℤ x) z ∙ *ℤ-zero (pos span.multiple))),
          )
    ]

-- what is 0 at the pivot of each row is 0 at all pivots
pub zeros_walk : (f : ℕ → ℤ) (rows rest : List (List ℤ)) → ((g : List ℤ) → IsRowOf g rest → IsRowOf g rows) →
    ((g : List ℤ) → IsRowOf g rows → f (pivot g) ≡ pos 0) → ZeroAtPivots f rest
zeros_walk f rows [] into none = tt
zeros_walk f rows (r ∷ rest) into none = (none r (into r (inl refl)), zeros_walk f rows rest (λ g q. into g (inr q)) none)

-- each of the rows lies in the span if all do
pub in_span_at : (rows others : List (List ℤ)) (g : List ℤ) → AllByRecursion (InSpan rows) others → IsRowOf g others → InSpan rows g
in_span_at rows [] g h among = absurd among
in_span_at rows (r ∷ others) g h (inl e) = subst (InSpan rows) e h.0
in_span_at rows (r ∷ others) g h (inr among) = in_span_at rows others g h.1 among

-- two forms, each in the span of the other
record AreAlike (rows others : List (List ℤ)) : Type 0 where
  echelon : IsEchelon rows
  leads : Leads rows
  others_echelon : IsEchelon others
  others_leads : Leads others
  within : AllByRecursion (InSpan others) rows
  others_within : AllByRecursion (InSpan rows) others

-- rows of the two forms with one pivot are on one line
on_one_line : (rows others : List (List ℤ)) → AreAlike rows others → (f g : List ℤ) → IsRowOf f rows → IsRowOf g others → pivot f ≡ pivot g →
    (j : ℕ) → pivot_entry g *ℤ number_at f j ≡ pivot_entry f *ℤ number_at g j
on_one_line rows others alike f g p q same j =
    let x = pivot_entry g in
    let y = pivot_entry f in
    let u : ℕ → ℤ = λ k. x *ℤ number_at f k +ℤ neg_ℤ y *ℤ number_at g k in
    let spans = spans_add others (λ k. x *ℤ number_at f k) (λ k. neg_ℤ y *ℤ number_at g k)
    (spans_times others x (number_at f) (spans_from others f (in_span_at others rows f alike.within p)))
    (spans_times others (neg_ℤ y) (number_at g) (spans_from others g (in_span_at others others g (own others) q))) in
    let none_at = span_zero others u alike.others_echelon alike.others_leads spans (zeros_walk u others others (λ h r. r) (λ h r. at_pivot h r)) j in
    let minus = neg-times y (number_at g j) in
    omega (arith, ints)
  where
    at_pivot : (h : List ℤ) → IsRowOf h others → pivot_entry g *ℤ number_at f (pivot h) +ℤ neg_ℤ (pivot_entry f) *ℤ number_at g (pivot h) ≡ pos 0
    at_pivot h r =
        elim (cases_eq (pivot h) (pivot g)) [
          | inl e ↦
              let first = ap (number_at f) (e ∙ sym same) in
              let second = ap (number_at g) e in
              let minus = neg-times (pivot_entry f) (pivot_entry g) in
              let turned = *ℤ_comm (pivot_entry f) (pivot_entry g) in
              ap (λ z. pivot_entry g *ℤ z +ℤ neg_ℤ (pivot_entry f) *ℤ number_at g (pivot h)) first
              ∙ ap (λ z. pivot_entry g *ℤ pivot_entry f +ℤ neg_ℤ (pivot_entry f) *ℤ z) second ∙ omega (arith, ints)
          | inr n ↦
              let hit = pivot_among rows h alike.echelon alike.leads (in_span_at rows others h alike.others_within r)
              (leads_above others h alike.others_leads r) in
              let first : number_at f (pivot h) ≡ pos 0 = ap (number_at f) hit.2
              ∙ zero_at_others rows f hit.0 alike.echelon p hit.1 (λ e. n (hit.2 ∙ sym e ∙ same)) in
              let second : number_at g (pivot h) ≡ pos 0 = zero_at_others others g h alike.others_echelon q r (λ e. n (sym e)) in
              ap (λ z. pivot_entry g *ℤ z +ℤ neg_ℤ (pivot_entry f) *ℤ number_at g (pivot h)) first
              ∙ ap (λ z. pivot_entry g *ℤ pos 0 +ℤ neg_ℤ (pivot_entry f) *ℤ z) second
              ∙ ap (λ z. z +ℤ neg_ℤ (pivot_entry f) *ℤ pos 0) (*ℤ-zero (pivot_entry g)) ∙ ap (λ z. pos 0 +ℤ z) (*ℤ-zero (neg_ℤ (pivot_entry f)))
        ]

-- each of the rows is primitive if all are
pub primitive_at : (n : ℕ) (rows : List (List ℤ)) (f : List ℤ) → AllByRecursion (IsPrimitive n) rows → IsRowOf f rows → IsPrimitive n f
primitive_at n [] f h among = absurd among
primitive_at n (r ∷ rows) f h (inl e) = subst (IsPrimitive n) e h.0
primitive_at n (r ∷ rows) f h (inr among) = primitive_at n rows f h.1 among

-- primitive rows have positive pivot entries
pub leads_from : (n : ℕ) (rows : List (List ℤ)) → AllByRecursion (IsPrimitive n) rows → Leads rows
leads_from n [] h = tt
leads_from n (r ∷ rows) h = (h.0.leading, leads_from n rows h.1)

-- a row of one form is a row of the other
row_of_other : (n : ℕ) (rows others : List (List ℤ)) → AreAlike rows others → AllByRecursion (IsPrimitive n) rows → AllByRecursion (IsPrimitive n) others →
    (f : List ℤ) → IsRowOf f rows → IsRowOf f others
row_of_other n rows others alike p q f among =
    let own_f = primitive_at n rows f p among in
    let hit = pivot_among others f alike.others_echelon alike.others_leads (in_span_at others rows f alike.within among) own_f.leading in
    let own_g = primitive_at n others hit.0 q hit.1 in
    let same = one_primitive (pivot_entry hit.0) (pivot_entry f) f hit.0 own_g.leading own_f.leading
    (own_f.one_each ∙ sym own_g.one_each) own_f.content own_g.content
    (on_one_line rows others alike f hit.0 among hit.1 hit.2) in
    subst (λ x. IsRowOf x others) (sym same) hit.1

-- the first row of a form has the first pivot
after_first : (row : List ℤ) (rows : List (List ℤ)) (f : List ℤ) → IsEchelon (row ∷ rows) → IsRowOf f rows → pivot row < pivot f
after_first row rows f echelon among = (stands_before row rows f echelon.0 among).0

-- two echelon forms with the same rows are one list
same_list : (rows others : List (List ℤ)) → IsEchelon rows → IsEchelon others → ((f : List ℤ) → IsRowOf f rows → IsRowOf f others) →
    ((f : List ℤ) → IsRowOf f others → IsRowOf f rows) → rows ≡ others
same_list [] [] e h into back = refl
same_list [] (g ∷ others) e h into back = absurd (back g (inl refl))
same_list (f ∷ rows) [] e h into back = absurd (into f (inl refl))
same_list (f ∷ rows) (g ∷ others) e h into back =
    let heads : f ≡ g = elim (into f (inl refl)) [
      | inl same ↦ sym same
      | inr later ↦ elim (back g (inl refl)) [
        | inl same ↦ same
        | inr other ↦ let one = after_first g others f h later in let two = after_first f rows g e other in absurd (omega arith)
      ]
    ] in
    let tails : rows ≡ others = same_list rows others e.1 h.1
    (λ x among. elim (into x (inr among)) [
      | inl same ↦ let one = after_first f rows x e among in let two = ap pivot (heads ∙ same) in absurd (omega arith)
      | inr later ↦ later
    ])
    (λ x among. elim (back x (inr among)) [
      | inl same ↦ let one = after_first g others x h among in let two = ap pivot (sym heads ∙ same) in absurd (omega arith)
      | inr later ↦ later
    ]) in
    ap (λ r. r ∷ rows) heads ∙ ap (λ l. g ∷ l) tails

-- two forms that are alike, the other way round
turned_round : (rows others : List (List ℤ)) → AreAlike rows others → AreAlike others rows
turned_round rows others a =
    record {
      echelon = a.others_echelon;
      leads = a.others_leads;
      others_echelon = a.echelon;
      others_leads = a.leads;
      within = a.others_within;
      others_within = a.within;
    }

-- a row space has at most one reduced form
pub forms_are_unique : FormsAreUnique
forms_are_unique n rows form other p q =
    let alike : AreAlike form other = record {
      echelon = p.echelon;
      leads = leads_from n form p.primitive;
      others_echelon = q.echelon;
      others_leads = leads_from n other q.primitive;
      within = span_trans_all other rows form q.spans p.within;
      others_within = span_trans_all form rows other p.spans q.within;
    } in
    same_list form other p.echelon q.echelon (row_of_other n form other alike p.primitive q.primitive)
    (row_of_other n other form (turned_round form other alike) q.primitive p.primitive)
