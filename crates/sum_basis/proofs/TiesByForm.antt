-- The span of a form ties two columns exactly if the form has a short row, or two parallel ones.
--
-- Let a row of the span be 0 but at p and q. If neither is a pivot, it is 0 at all pivots, and so it is 0. If one is, a multiple of it is a
-- multiple of that pivot's row, which is short then. If both are, a multiple of it is a combination of their two rows, of which the rest
-- comes to 0: one of the two has no part in it, and the other is short, or they are parallel.
use Rattle.std.proofs.Common.{◌≡◌, ◌≢◌, ℕ, suc, ◌+◌, ◌≤◌, ◌||◌, false, ℤ, pos, List, [], ◌∷◌, refl, sym, ap, ◌∙◌, subst, arith, inl, inr, ◌⊎◌}
use Rattle.std.specs.Prelude.{◌+ℤ◌, ◌*ℤ◌, neg_ℤ}
use Rattle.std.specs.List.{AllByRecursion}
use Rattle.std.proofs.lemmas.Int.{ints}
use Rattle.std.proofs.lemmas.Bool.{cases_eq, ne_eqb}
use Rattle.std.proofs.Math.IntN.{*ℤ_comm, zero-*ℤ, *ℤ-zero}
use Rattle.audit_types.specs.Rows.{has_row}
use Rattle.audit_types.specs.Truth.{number_at}
use Rattle.audit_types.specs.Form.{IsPrimitive, IsEchelon, pivot, pivot_entry}
use Rattle.audit_types.specs.Numbers.{zero_or_not, positive_not_zero}
use Rattle.audit_types.specs.Products.{neg-times, times_assoc, zero_product, product_not_zero}
use Rattle.sum_basis.specs.Spans.{Spans, spans_from, spans_times, spans_add, span_zero, own}
use Rattle.sum_basis.specs.Combination.{combine}
use Rattle.sum_basis.specs.CombinedRows.{number_at-combine}
use Rattle.sum_basis.specs.Ties.{IsRowOf, Ties, TieSome, IsShort, AreParallel, TiesByForm, MayTell, TieSomeBut, IsShortBut, AreParallelBut, ShowsTieBut, TiesByFormBut}
use Rattle.sum_basis.proofs.FormsAreUnique.{in_span_at, primitive_at, leads_from, zeros_walk, zero_at_others}
use Rattle.sum_basis.proofs.Reduction.{span_combine}
use Rattle.sum_basis.proofs.TiedRows.{turned}

-- a column is the pivot of one of the rows, or of none
pivot_or_none : (rows : List (List ℤ)) (p : ℕ) → ((row : List ℤ) × IsRowOf row rows × (pivot row ≡ p)) ⊎ ((row : List ℤ) → IsRowOf row rows → pivot row ≢ p)
pivot_or_none [] p = inr (λ row among. absurd among)
pivot_or_none (r ∷ rows) p = elim (cases_eq (pivot r) p) [
  | inl e ↦ inl (r, inl refl, e)
  | inr other ↦ elim (pivot_or_none rows p) [
    | inl hit ↦ inl (hit.0, inr hit.1, hit.2)
    | inr none ↦ inr (λ row among. elim among [ inl e ↦ subst (λ x. pivot x ≢ p) e other | inr later ↦ none row later ])
  ]
]

module _ (n : ℕ) (form : List (List ℤ)) (primitive : AllByRecursion (IsPrimitive n) form) (echelon : IsEchelon form) where
  leads_at : (row : List ℤ) → IsRowOf row form → pivot_entry row ≢ pos 0
  leads_at row among = positive_not_zero (pivot_entry row) (primitive_at n form row primitive among).leading

  spans_row : (row : List ℤ) → IsRowOf row form → Spans form (number_at row)
  spans_row row among = spans_from form row (in_span_at form form row (own form) among)

  -- ---- from the form to the span

  from_short : (row : List ℤ) → IsRowOf row form → IsShort row → TieSome form
  from_short row among short = elim (cases_eq short.0 (pivot row)) [
    | inl e ↦ (
      pivot row,
      suc (pivot row),
      (λ same. absurd (omega arith)),
      record {
        row = row;
        spanned = in_span_at form form row (own form) among;
        there = leads_at row among;
        only = λ j apart other. short.1 j apart (λ same. apart (same ∙ e));
      },
    )
    | inr differs ↦ (
      pivot row,
      short.0,
      differs,
      record {
        row = row;
        spanned = in_span_at form form row (own form) among;
        there = leads_at row among;
        only = short.1;
      },
    )
  ]

  from_parallel_at : (row other : List ℤ) → IsRowOf row form → IsRowOf other form → AreParallel row other → (pivot other ≢ pivot row) ×
      Ties form (pivot row) (pivot other)
  from_parallel_at row other among too alike = (
    (λ same. alike.apart (sym same)),
    record {
      row = combine alike.x row alike.y other;
      spanned = span_combine form alike.x row alike.y other (in_span_at form form row (own form) among) (in_span_at form form other (own form) too);
      there = λ none.
          let whole = number_at-combine alike.x row alike.y other (pivot row) in
          let gone = ap (λ z. neg_ℤ alike.y *ℤ z) (zero_at_others form other row echelon too among (λ same. alike.apart (sym same)))
          ∙ *ℤ-zero (neg_ℤ alike.y) in
          let first : alike.x *ℤ pivot_entry row ≡ pos 0 = omega (arith, ints) in
          product_not_zero alike.x (pivot_entry row) alike.x_some (leads_at row among) first;
      only = λ j apart differs.
          let whole = number_at-combine alike.x row alike.y other j in
          let minus = neg-times alike.y (number_at other j) in
          let same = alike.is j apart differs in
          omega (arith, ints);
    },
  )

  from_parallel : (row other : List ℤ) → IsRowOf row form → IsRowOf other form → AreParallel row other → TieSome form
  from_parallel row other among too alike = let at = from_parallel_at row other among too alike in (pivot row, pivot other, at.0, at.1)

  -- ---- from the span to the form

  -- what shows of two columns: a short row at the two, or two parallel ones with these pivots
  abbrev ShowsAt : ℕ → ℕ → Type 0
  ShowsAt p q =
      ((row : List ℤ) × IsRowOf row form × (k : ℕ) × ((j : ℕ) → j ≢ pivot row → j ≢ k → number_at row j ≡ pos 0) ×
      (((pivot row ≡ p) × (k ≡ q)) ⊎ ((pivot row ≡ q) × (k ≡ p) × (number_at row k ≢ pos 0))))
      ⊎ ((row : List ℤ) × (other : List ℤ) × IsRowOf row form × IsRowOf other form × AreParallel row other × (pivot row ≡ p) × (pivot other ≡ q))

  module _ (p q : ℕ) (apart : q ≢ p) (tied : Ties form p q) where
    -- the row's own numbers at the two columns
    abbrev f : ℕ → ℤ
    f = number_at tied.row

    none_elsewhere : ((g : List ℤ) → IsRowOf g form → pivot g ≢ p) → ((g : List ℤ) → IsRowOf g form → pivot g ≢ q) → ShowsAt p q
    none_elsewhere no_p no_q = absurd (tied.there (span_zero form f echelon (leads_from n form primitive) (spans_from form tied.row tied.spanned)
        (zeros_walk f form form (λ g among. among) (λ g among. tied.only (pivot g) (no_p g among) (no_q g among))) p))

    -- if one of the two is the pivot of a row, and the other of none, a multiple of the row is a multiple of that
    module _ (row : List ℤ) (among : IsRowOf row form) where
      abbrev less_one : ℕ → ℤ
      less_one j = pivot_entry row *ℤ f j +ℤ neg_ℤ (f (pivot row)) *ℤ number_at row j

      spans_less_one : Spans form less_one
      spans_less_one =
          spans_add form (λ j. pivot_entry row *ℤ f j) (λ j. neg_ℤ (f (pivot row)) *ℤ number_at row j)
          (spans_times form (pivot_entry row) f (spans_from form tied.row tied.spanned))
          (spans_times form (neg_ℤ (f (pivot row))) (number_at row) (spans_row row among))

      -- it is 0 at the pivot itself
      own_pivot : less_one (pivot row) ≡ pos 0
      own_pivot =
          let minus = neg-times (f (pivot row)) (pivot_entry row) in
          let turned = *ℤ_comm (pivot_entry row) (f (pivot row)) in
          omega (arith, ints)

      -- and at that of another row, if the span's row is 0 there
      other_pivot : (g : List ℤ) → IsRowOf g form → pivot g ≢ pivot row → f (pivot g) ≡ pos 0 → less_one (pivot g) ≡ pos 0
      other_pivot g also differs gone =
          let first = ap (λ z. pivot_entry row *ℤ z) gone ∙ *ℤ-zero (pivot_entry row) in
          let second = ap (λ z. neg_ℤ (f (pivot row)) *ℤ z) (zero_at_others form row g echelon among also (λ same. differs (sym same)))
          ∙ *ℤ-zero (neg_ℤ (f (pivot row))) in
          omega (arith, ints)

      one_line : ((g : List ℤ) → IsRowOf g form → pivot g ≢ pivot row → f (pivot g) ≡ pos 0) → (j : ℕ) → less_one j ≡ pos 0
      one_line gone = span_zero form less_one echelon (leads_from n form primitive) spans_less_one
          (zeros_walk less_one form form (λ g also. also) (λ g also. elim (cases_eq (pivot g) (pivot row)) [
            | inl same ↦ ap less_one same ∙ own_pivot
            | inr differs ↦ other_pivot g also differs (gone g also differs)
          ]))

      short_by : (k : ℕ) → (((pivot row ≡ p) × (k ≡ q)) ⊎ ((pivot row ≡ q) × (k ≡ p) × (number_at row k ≢ pos 0))) → (f (pivot row) ≢ pos 0) →
          ((j : ℕ) → less_one j ≡ pos 0) →
          ((j : ℕ) → j ≢ pivot row → j ≢ k → f j ≡ pos 0) → ShowsAt p q
      short_by k side some line gone = inl (
        row,
        among,
        k,
        (λ j differs other.
            let none = line j in
            let first = ap (λ z. pivot_entry row *ℤ z) (gone j differs other) ∙ *ℤ-zero (pivot_entry row) in
            let minus = neg-times (f (pivot row)) (number_at row j) in
            let product : f (pivot row) *ℤ number_at row j ≡ pos 0 = omega (arith, ints) in
            zero_product (f (pivot row)) (number_at row j) product some),
        side,
      )

    -- the pivot is p
    at_first : (row : List ℤ) → IsRowOf row form → pivot row ≡ p → ((g : List ℤ) → IsRowOf g form → pivot g ≢ q) → ShowsAt p q
    at_first row among is none = short_by row among q (inl (is, refl)) (λ e. tied.there (ap f (sym is) ∙ e))
        (one_line row among (λ g also differs. tied.only (pivot g) (λ e. differs (e ∙ sym is)) (none g also)))
        (λ j differs other. tied.only j (λ e. differs (e ∙ sym is)) other)

    -- the pivot is q
    at_second : (row : List ℤ) → IsRowOf row form → pivot row ≡ q → ((g : List ℤ) → IsRowOf g form → pivot g ≢ p) → ShowsAt p q
    at_second row among is none = short_by row among p (inr (is, refl, there)) some line (λ j differs other. tied.only j other (λ e. differs (e ∙ sym is)))
      where
        line : (j : ℕ) → less_one row among j ≡ pos 0
        line = one_line row among (λ g also differs. tied.only (pivot g) (none g also) (λ e. differs (e ∙ sym is)))

        there : number_at row p ≢ pos 0
        there e =
            let here = line p in
            let gone = ap (λ z. neg_ℤ (f (pivot row)) *ℤ z) e ∙ *ℤ-zero (neg_ℤ (f (pivot row))) in
            let product : pivot_entry row *ℤ f p ≡ pos 0 = omega (arith, ints) in
            tied.there (zero_product (pivot_entry row) (f p) product (leads_at row among))

        some : f (pivot row) ≢ pos 0
        some e =
            let here = line p in
            let gone = ap (λ z. neg_ℤ z *ℤ number_at row p) e ∙ zero-*ℤ (number_at row p) in
            let product : pivot_entry row *ℤ f p ≡ pos 0 = omega (arith, ints) in
            tied.there (zero_product (pivot_entry row) (f p) product (leads_at row among))

    -- both are
    module _ (row other : List ℤ) (among : IsRowOf row form) (too : IsRowOf other form) (is : pivot row ≡ p) (other_is : pivot other ≡ q) where
      differ : pivot row ≢ pivot other
      differ same = apart (sym other_is ∙ sym same ∙ is)

      -- the row times one pivot entry, less the part of the other row
      abbrev less_two : ℕ → ℤ
      less_two j = pivot_entry other *ℤ less_one row among j +ℤ neg_ℤ (pivot_entry row *ℤ f (pivot other)) *ℤ number_at other j

      spans_less_two : Spans form less_two
      spans_less_two =
          spans_add form (λ j. pivot_entry other *ℤ less_one row among j) (λ j. neg_ℤ (pivot_entry row *ℤ f (pivot other)) *ℤ number_at other j)
          (spans_times form (pivot_entry other) (less_one row among) (spans_less_one row among))
          (spans_times form (neg_ℤ (pivot_entry row *ℤ f (pivot other))) (number_at other) (spans_row other too))

      at_row : less_two (pivot row) ≡ pos 0
      at_row =
          let first = ap (λ z. pivot_entry other *ℤ z) (own_pivot row among) ∙ *ℤ-zero (pivot_entry other) in
          let second = ap (λ z. neg_ℤ (pivot_entry row *ℤ f (pivot other)) *ℤ z) (zero_at_others form other row echelon too among (λ same. differ (sym same)))
          ∙ *ℤ-zero (neg_ℤ (pivot_entry row *ℤ f (pivot other))) in
          omega (arith, ints)

      at_other : less_two (pivot other) ≡ pos 0
      at_other =
          let gone = ap (λ z. neg_ℤ (f (pivot row)) *ℤ z) (zero_at_others form row other echelon among too differ) ∙ *ℤ-zero (neg_ℤ (f (pivot row))) in
          let first : less_one row among (pivot other) ≡ pivot_entry row *ℤ f (pivot other) = omega (arith, ints) in
          let whole = ap (λ z. pivot_entry other *ℤ z) first ∙ *ℤ_comm (pivot_entry other) (pivot_entry row *ℤ f (pivot other)) in
          let minus = neg-times (pivot_entry row *ℤ f (pivot other)) (pivot_entry other) in
          omega (arith, ints)

      elsewhere : (g : List ℤ) → IsRowOf g form → pivot g ≢ pivot row → pivot g ≢ pivot other → less_two (pivot g) ≡ pos 0
      elsewhere g also first second =
          let gone = other_pivot row among g also first (tied.only (pivot g) (λ e. first (e ∙ sym is)) (λ e. second (e ∙ sym other_is))) in
          let one = ap (λ z. pivot_entry other *ℤ z) gone ∙ *ℤ-zero (pivot_entry other) in
          let two = ap (λ z. neg_ℤ (pivot_entry row *ℤ f (pivot other)) *ℤ z) (zero_at_others form other g echelon too also (λ same. second (sym same)))
          ∙ *ℤ-zero (neg_ℤ (pivot_entry row *ℤ f (pivot other))) in
          omega (arith, ints)

      two_lines : (j : ℕ) → less_two j ≡ pos 0
      two_lines = span_zero form less_two echelon (leads_from n form primitive) spans_less_two
          (zeros_walk less_two form form (λ g also. also) (λ g also. elim (cases_eq (pivot g) (pivot row)) [
            | inl same ↦ ap less_two same ∙ at_row
            | inr first ↦ elim (cases_eq (pivot g) (pivot other)) [
              | inl same ↦ ap less_two same ∙ at_other
              | inr second ↦ elsewhere g also first second
            ]
          ]))

      -- the other row has no part in it
      without_other : f (pivot other) ≡ pos 0 → ShowsAt p q
      without_other e = short_by row among q (inl (is, refl)) (λ none. tied.there (ap f (sym is) ∙ none))
          (one_line row among (λ g also differs. elim (cases_eq (pivot g) (pivot other)) [
            | inl same ↦ ap f same ∙ e
            | inr apart_too ↦ tied.only (pivot g) (λ k. differs (k ∙ sym is)) (λ k. apart_too (k ∙ sym other_is))
          ]))
          (λ j differs also. tied.only j (λ k. differs (k ∙ sym is)) also)

      -- the two are parallel
      both_parts : f (pivot other) ≢ pos 0 → AreParallel row other
      both_parts some = record {
        apart = differ;
        x = pivot_entry other *ℤ neg_ℤ (f (pivot row));
        y = pivot_entry row *ℤ f (pivot other);
        x_some = product_not_zero (pivot_entry other) (neg_ℤ (f (pivot row))) (leads_at other too)
            (λ none. tied.there (ap f (sym is) ∙ (let turned : f (pivot row) ≡ pos 0 = omega (arith, ints) in turned)));
        y_some = product_not_zero (pivot_entry row) (f (pivot other)) (leads_at row among) some;
        is = λ j first second.
            let none = two_lines j in
            let gone = ap (λ z. pivot_entry row *ℤ z) (tied.only j (λ k. first (k ∙ sym is)) (λ k. second (k ∙ sym other_is))) ∙ *ℤ-zero (pivot_entry row) in
            let line : less_one row among j ≡ neg_ℤ (f (pivot row)) *ℤ number_at row j = omega (arith, ints) in
            let whole = ap (λ z. pivot_entry other *ℤ z) line ∙ sym (times_assoc (pivot_entry other) (neg_ℤ (f (pivot row))) (number_at row j)) in
            let minus = neg-times (pivot_entry row *ℤ f (pivot other)) (number_at other j) in
            omega (arith, ints);
      }

      at_both : ShowsAt p q
      at_both = elim (zero_or_not (f (pivot other))) [
        | inl none ↦ without_other none
        | inr some ↦ inr (row, other, among, too, both_parts some, is, other_is)
      ]

    shown : ShowsAt p q
    shown = elim (pivot_or_none form p) [
      | inl first ↦ elim (pivot_or_none form q) [
        | inl second ↦ at_both first.0 second.0 first.1 second.1 first.2 second.2
        | inr no_q ↦ at_first first.0 first.1 first.2 no_q
      ]
      | inr no_p ↦ elim (pivot_or_none form q) [
        | inl second ↦ at_second second.0 second.1 second.2 no_p
        | inr no_q ↦ none_elsewhere no_p no_q
      ]
    ]

pub ties_by_form : TiesByForm
ties_by_form n form primitive echelon = (
  (λ tie. elim (shown n form primitive echelon tie.0 tie.1 tie.2 tie.3) [
    | inl (row, among, k, zeros, side) ↦ inl (row, among, (k, zeros))
    | inr (row, other, among, too, alike, is, other_is) ↦ inr (row, other, among, too, alike)
  ]),
  (λ shows. elim shows [
    | inl short ↦ from_short n form primitive echelon short.0 short.1 short.2
    | inr two ↦ from_parallel n form primitive echelon two.0 two.1 two.2 two.3 two.4
  ]),
)

-- ---- columns that are left out

-- a number that a list lacks, past another
abbrev pub above : List ℕ → ℕ
above [] = 0
above (x ∷ l) = x + 1 + above l

pub lacks : (l : List ℕ) (r : ℕ) → above l ≤ r → has_row l r ≡ false
lacks [] r past = refl
lacks (x ∷ l) r past = ap (λ b. b || has_row l r) (ne_eqb x r (λ e. absurd (omega arith))) ∙ lacks l r (omega arith)

module _ (n : ℕ) (beside several : List ℕ) (form : List (List ℤ)) (primitive : AllByRecursion (IsPrimitive n) form) (echelon : IsEchelon form) where
  out : (l : List ℕ) (x y : ℕ) → x ≡ y → has_row l y ≡ false → has_row l x ≡ false
  out l x y same is = ap (has_row l) same ∙ is

  shown_but : TieSomeBut beside several form → ShowsTieBut beside several form
  shown_but (p, q, apart, tied, p_out, q_out) = elim (shown n form primitive echelon p q apart tied) [
    | inl (row, among, k, zeros, side) ↦ elim side [
      | inl (is, other_is) ↦
          let pivot_out = out beside (pivot row) p is p_out in
          inl (row, among, record { free = k; tells = inl (pivot_out, out several k q other_is q_out); some = inl pivot_out; zeros = zeros })
      | inr (is, other_is, there) ↦
          let tells = inr (out several (pivot row) q is q_out, out beside k p other_is p_out) in
          inl (row, among, record { free = k; tells = tells; some = inr there; zeros = zeros })
    ]
    | inr (row, other, among, too, alike, is, other_is) ↦ inr (
      row,
      other,
      among,
      too,
      record { tells = inl (out beside (pivot row) p is p_out, out several (pivot other) q other_is q_out); parallel = alike },
    )
  ]

  -- a row with its pivot alone ties it to each column
  from_alone : (row : List ℤ) → IsRowOf row form → has_row beside (pivot row) ≡ false → ((j : ℕ) → j ≢ pivot row → number_at row j ≡ pos 0) →
      TieSomeBut beside several form
  from_alone row among pivot_out zeros =
      let far = pivot row + 1 + above several in (
        pivot row,
        far,
        (λ same. absurd (omega arith)),
        record {
          row = row;
          spanned = in_span_at form form row (own form) among;
          there = leads_at n form primitive echelon row among;
          only = λ j apart other. zeros j apart;
        },
        pivot_out,
        lacks several far (omega arith),
      )

  -- a row with another entry, or whose pivot isn't among the first
  from_short_but : (row : List ℤ) → IsRowOf row form → IsShortBut beside several row → TieSomeBut beside several form
  from_short_but row among short = elim (cases_eq short.free (pivot row)) [
    | inl e ↦ from_alone row among (pivot_out short.tells e) (λ j apart. short.zeros j apart (λ same. apart (same ∙ e)))
    | inr differs ↦ elim short.tells [
      | inl (pivot_out, free_out) ↦ (
        pivot row,
        short.free,
        differs,
        record {
          row = row;
          spanned = in_span_at form form row (own form) among;
          there = leads_at n form primitive echelon row among;
          only = short.zeros;
        },
        pivot_out,
        free_out,
      )
      | inr (pivot_single, free_out) ↦ elim (zero_or_not (number_at row short.free)) [
        | inl none ↦ from_alone row among (unless short.some none) (λ j apart. elim (cases_eq j short.free) [
          | inl same ↦ ap (number_at row) same ∙ none
          | inr other ↦ short.zeros j apart other
        ])
        | inr some ↦ (
          short.free,
          pivot row,
          (λ same. differs (sym same)),
          record {
            row = row;
            spanned = in_span_at form form row (own form) among;
            there = some;
            only = λ j first second. short.zeros j second first;
          },
          free_out,
          pivot_single,
        )
      ]
    ]
  ]
    where
      pivot_out : MayTell beside several (pivot row) short.free → short.free ≡ pivot row → has_row beside (pivot row) ≡ false
      pivot_out (inl (first, second)) e = first
      pivot_out (inr (first, second)) e = ap (has_row beside) (sym e) ∙ second

      unless : (has_row beside (pivot row) ≡ false) ⊎ (number_at row short.free ≢ pos 0) → number_at row short.free ≡ pos 0 → has_row beside (pivot row) ≡ false
      unless (inl out) none = out
      unless (inr some) none = absurd (some none)

  from_parallel_but : (row other : List ℤ) → IsRowOf row form → IsRowOf other form → AreParallelBut beside several row other → TieSomeBut beside several form
  from_parallel_but row other among too alike = elim alike.tells [
    | inl (row_out, other_out) ↦
        let at = from_parallel_at n form primitive echelon row other among too alike.parallel in
        (pivot row, pivot other, at.0, at.1, row_out, other_out)
    | inr (row_out, other_out) ↦
        let at = from_parallel_at n form primitive echelon other row too among (turned row other alike.parallel) in
        (pivot other, pivot row, at.0, at.1, other_out, row_out)
  ]

pub ties_by_form_but : TiesByFormBut
ties_by_form_but n beside several form primitive echelon = (
  shown_but n beside several form primitive echelon,
  (λ shows. elim shows [
    | inl short ↦ from_short_but n beside several form primitive echelon short.0 short.1 short.2
    | inr two ↦ from_parallel_but n beside several form primitive echelon two.0 two.1 two.2 two.3 two.4
  ]),
)
