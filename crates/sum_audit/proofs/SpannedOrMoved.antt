-- The row of a set lies in the span of others, or a direction of these changes its total.
--
-- By induction on the others, for all rows at once. Let d be orthogonal to the rest, with a positive dot product with the
-- first row: then what is left of u when the first row is taken out by it is spanned by the rest, and so is u with the
-- first row; or some other list shows that it isn't, and this list with d taken out by the first row shows it for u.
use Rattle.std.proofs.Common.{◌≡◌, ◌≢◌, ℕ, zero, suc, ◌*◌, ◌<◌, ◌≤◌, cond, ℤ, pos, negsuc, List, [], ◌∷◌, length, map, refl, sym, ap, ◌∙◌, arith, inl, inr, ◌⊎◌, ◌==◌}
use Rattle.std.specs.Prelude.{◌+ℤ◌, ◌*ℤ◌, neg_ℤ, ◌<ℤ◌}
use Rattle.std.specs.List.{AllByRecursion, range_with_len}
use Rattle.std.proofs.lemmas.Int.{ints}
use Rattle.std.proofs.lemmas.Bool.{cases_lt, cases_eq, eq-eqb, ne_eqb}
use Rattle.std.proofs.lemmas.List.{get_or_past}
use Rattle.std.proofs.lemmas.List.FromFn.{length-map-range_with_len, get_or-map-range_with_len}
use Rattle.std.proofs.Math.IntN.{+ℤ_idl, *ℤ_comm, zero-*ℤ, *ℤ-zero, pos-*ℤ-pos, negsuc-*ℤ-negsuc}
use Rattle.audit_types.specs.Truth.{number_at}
use Rattle.audit_types.specs.Form.{set_row, combined, InSpan}
use Rattle.sum_basis.specs.Combination.{combine}
use Rattle.sum_basis.specs.CombinedRows.{length-combine}
use Rattle.sum_basis.specs.Spans.{Spans, spans_same, spans_zero, in_span_from}
use Rattle.audit_types.specs.Products.{neg-times, times_assoc, times-add}
use Rattle.audit_types.specs.Numbers.{zero_or_not, positive_is}
use Rattle.audit_types.specs.RowNumbers.{length-set_row, lengths_of_sets}
use Rattle.audit_types.specs.Totals.{total-single, product-span, product-set_row, sums_from_products}
use Rattle.sum_audit.specs.Dot.{dot}
use Rattle.sum_audit.specs.Laws.{SpannedOrMoved}
use Rattle.sum_audit.proofs.Measuring.{dot-add, dot-times, dot-combine}
use Rattle.std.proofs.Math.Nat.{mul-pos}

-- a list that is orthogonal to the rows, and not to u
record Moves (n : ℕ) (rows : List (List ℤ)) (u : ℕ → ℤ) : Type 0 where
  list : List ℤ
  one_each : length list ≡ n
  zeros : AllByRecursion (λ r. dot n (number_at r) list ≡ pos 0) rows
  up : pos 0 <ℤ dot n u list

square_positive : (z : ℤ) → z ≢ pos 0 → pos 0 <ℤ (z *ℤ z)
square_positive (pos zero) some = absurd (some refl)
square_positive (pos (suc n)) some = let product = pos-*ℤ-pos (suc n) (suc n) in omega (arith, ints)
square_positive (negsuc n) some = let product = negsuc-*ℤ-negsuc n n in omega (arith, ints)

-- all columns below n are 0, or one is not
pub columns : (n : ℕ) (u : ℕ → ℤ) → ((j : ℕ) → j < n → u j ≡ pos 0) ⊎ ((j : ℕ) × (j < n) × (u j ≢ pos 0))
columns zero u = inl (λ j l. absurd (omega arith))
columns (suc n) u = elim (columns n u) [
  | inr hit ↦ inr (hit.0, omega arith, hit.2)
  | inl none ↦ elim (zero_or_not (u n)) [
    | inr some ↦ inr (n, omega arith, some)
    | inl last ↦ inl (λ j l. elim (cases_eq j n) [ inl e ↦ ap u e ∙ last | inr other ↦ none j (omega arith) ])
  ]
]

-- x at column a, and 0 elsewhere
abbrev spike : ℕ → ℕ → ℤ → List ℤ
spike n a x = map (λ r. cond (r == a) x (pos 0)) (range_with_len 0 n)

spike_here : (n a : ℕ) (x : ℤ) → a < n → number_at (spike n a x) a ≡ x
spike_here n a x l = get_or-map-range_with_len (λ r. cond (r == a) x (pos 0)) 0 n a a (pos 0) l (omega arith) ∙ ap (λ b. cond b x (pos 0)) (eq-eqb a a refl)

length-spike : (n a : ℕ) (x : ℤ) → length (spike n a x) ≡ n
length-spike n a x = length-map-range_with_len (λ r. cond (r == a) x (pos 0)) 0 n

spike_elsewhere : (n a : ℕ) (x : ℤ) (j : ℕ) → j ≢ a → number_at (spike n a x) j ≡ pos 0
spike_elsewhere n a x j other = elim (cases_lt j n) [
  | inl l ↦ get_or-map-range_with_len (λ r. cond (r == a) x (pos 0)) 0 n j j (pos 0) l (omega arith) ∙ ap (λ b. cond b x (pos 0)) (ne_eqb j a other)
  | inr past ↦ get_or_past (spike n a x) j (pos 0) (let all = length-spike n a x in omega arith)
]

dot-spike : (n : ℕ) (u : ℕ → ℤ) (a : ℕ) (x : ℤ) → a < n → dot n u (spike n a x) ≡ u a *ℤ x
dot-spike n u a x l =
    total-single (λ j. u j *ℤ number_at (spike n a x) j) n a l (λ j below other. ap (λ z. u j *ℤ z) (spike_elsewhere n a x j other) ∙ *ℤ-zero (u j))
    ∙ ap (λ z. u a *ℤ z) (spike_here n a x l)

-- what is left of u when the first row is taken out
abbrev rest_of : ℤ → (ℕ → ℤ) → ℤ → List ℤ → ℕ → ℤ
rest_of c u k r j = c *ℤ u j +ℤ neg_ℤ k *ℤ number_at r j

dot-rest_of : (n : ℕ) (c : ℤ) (u : ℕ → ℤ) (k : ℤ) (r d : List ℤ) → dot n (rest_of c u k r) d ≡ c *ℤ dot n u d +ℤ neg_ℤ k *ℤ dot n (number_at r) d
dot-rest_of n c u k r d =
    dot-add n (λ j. c *ℤ u j) (λ j. neg_ℤ k *ℤ number_at r j) d ∙ ap (λ z. z +ℤ dot n (λ j. neg_ℤ k *ℤ number_at r j) d) (dot-times n c u d)
    ∙ ap (λ z. c *ℤ dot n u d +ℤ z) (dot-times n (neg_ℤ k) (number_at r) d)

no_more : (u : ℕ → ℤ) (r : List ℤ) (rows : List (List ℤ)) → Spans rows u → Spans (r ∷ rows) u
no_more u r rows s = record {
  multiple = s.multiple;
  positive = s.positive;
  coefficients = pos 0 ∷ s.coefficients;
  is = λ j. s.is j ∙ sym (ap (λ z. z +ℤ combined s.coefficients rows j) (zero-*ℤ (number_at r j)) ∙ +ℤ_idl (combined s.coefficients rows j));
}

back : (m : ℕ) (c u k r w : ℤ) → pos m *ℤ (c *ℤ u +ℤ neg_ℤ k *ℤ r) ≡ w → (pos m *ℤ c) *ℤ u ≡ (pos m *ℤ k) *ℤ r +ℤ w
back m c u k r w e =
    let apart = times-add (pos m) (c *ℤ u) (neg_ℤ k *ℤ r) in
    let first = times_assoc (pos m) c u in
    let second = times_assoc (pos m) k r in
    let minus = ap (λ z. pos m *ℤ z) (neg-times k r) in
    let turned = *ℤ_comm (pos m) (neg_ℤ (k *ℤ r)) ∙ neg-times (k *ℤ r) (pos m) ∙ ap neg_ℤ (*ℤ_comm (k *ℤ r) (pos m)) in
    omega (arith, ints)

-- if the rest is spanned, u is spanned with the first row
with_first : (c : ℕ) (u : ℕ → ℤ) (k : ℤ) (r : List ℤ) (rows : List (List ℤ)) → 0 < c → Spans rows (rest_of (pos c) u k r) → Spans (r ∷ rows) u
with_first c u k r rows h s = record {
  multiple = s.multiple * c;
  positive = mul-pos s.positive h;
  coefficients = (pos s.multiple *ℤ k) ∷ s.coefficients;
  is = λ j. ap (λ z. z *ℤ u j) (sym (pos-*ℤ-pos s.multiple c)) ∙ back s.multiple (pos c) (u j) k (number_at r j) (combined s.coefficients rows j) (s.is j);
}

still_zeros : (n : ℕ) (x : ℤ) (a : List ℤ) (y : ℤ) (b : List ℤ) (rows : List (List ℤ)) → AllByRecursion (λ r. dot n (number_at r) a ≡ pos 0) rows →
    AllByRecursion (λ r. dot n (number_at r) b ≡ pos 0) rows → AllByRecursion (λ r. dot n (number_at r) (combine x a y b) ≡ pos 0) rows
still_zeros n x a y b [] p q = tt
still_zeros n x a y b (r ∷ rows) p q = (
  dot-combine n (number_at r) x a y b ∙ ap (λ z. x *ℤ z +ℤ neg_ℤ y *ℤ dot n (number_at r) b) p.0 ∙ ap (λ z. x *ℤ pos 0 +ℤ neg_ℤ y *ℤ z) q.0
      ∙ ap (λ z. z +ℤ neg_ℤ y *ℤ pos 0) (*ℤ-zero x) ∙ ap (λ z. pos 0 +ℤ z) (*ℤ-zero (neg_ℤ y)),
  still_zeros n x a y b rows p.1 q.1,
)

-- a list that shows it of the rest, with d taken out by the first row
move_first : (n : ℕ) (u : ℕ → ℤ) (r : List ℤ) (rows : List (List ℤ)) (d : Moves n rows (number_at r)) →
    Moves n rows (rest_of (dot n (number_at r) d.list) u (dot n u d.list) r) → Moves n (r ∷ rows) u
move_first n u r rows d e =
    let c = dot n (number_at r) d.list in
    let k = dot n u d.list in
    let x = dot n (number_at r) e.list in
    record {
      list = combine c e.list x d.list;
      one_each = length-combine n c e.list x d.list e.one_each d.one_each;
      zeros = (
        let whole = dot-combine n (number_at r) c e.list x d.list in
            let turned = *ℤ_comm c x in
            let minus = neg-times x c in
            omega (arith, ints),
        still_zeros n c e.list x d.list rows e.zeros d.zeros,
      );
      up =
          let whole = dot-combine n u c e.list x d.list in
          let rest = dot-rest_of n c u k r e.list in
          let turned = *ℤ_comm x k in
          let minus = neg-times x k in
          let other = neg-times k x in
          let positive = e.up in
          omega (arith, ints);
    }

past_rest : (c k : ℤ) (u : ℕ → ℤ) (r : List ℤ) (j : ℕ) → u j ≡ pos 0 → length r ≤ j → rest_of c u k r j ≡ pos 0
past_rest c k u r j e l =
    ap (λ z. c *ℤ z +ℤ neg_ℤ k *ℤ number_at r j) e ∙ ap (λ z. c *ℤ pos 0 +ℤ neg_ℤ k *ℤ z) (get_or_past r j (pos 0) l)
    ∙ ap (λ z. z +ℤ neg_ℤ k *ℤ pos 0) (*ℤ-zero c) ∙ ap (λ z. pos 0 +ℤ z) (*ℤ-zero (neg_ℤ k))

-- the rows span u, or a list is orthogonal to them and not to u
spans_or_moves : (n : ℕ) (rows : List (List ℤ)) (u : ℕ → ℤ) → AllByRecursion (λ r. length r ≡ n) rows → ((j : ℕ) → n ≤ j → u j ≡ pos 0) →
    Spans rows u ⊎ Moves n rows u
spans_or_moves n [] u lengths past = elim (columns n u) [
  | inl none ↦ inl (spans_same [] (λ j. pos 0) u (λ j. sym (elim (cases_lt j n) [ inl l ↦ none j l | inr l ↦ past j l ])) (spans_zero []))
  | inr hit ↦ inr (record {
    list = spike n hit.0 (u hit.0);
    one_each = length-spike n hit.0 (u hit.0);
    zeros = tt;
    up = let here = dot-spike n u hit.0 (u hit.0) hit.1 in let square = square_positive (u hit.0) hit.2 in omega (arith, ints);
  })
]
spans_or_moves n (r ∷ rows) u lengths past =
    elim (spans_or_moves n rows (number_at r) lengths.1 (λ j l. get_or_past r j (pos 0) (let one_each = lengths.0 in omega arith))) [
      | inl span ↦ elim (spans_or_moves n rows u lengths.1 past) [
        | inl s ↦ inl (no_more u r rows s)
        | inr m ↦ inr (record {
          list = m.list;
          one_each = m.one_each;
          zeros = (product-span (number_at m.list) n rows r m.zeros (in_span_from rows r span), m.zeros);
          up = m.up;
        })
      ]
      | inr d ↦
          let c = dot n (number_at r) d.list in
          let k = dot n u d.list in
          let size = positive_is c d.up in
          elim (spans_or_moves n rows (rest_of c u k r) lengths.1 (λ j l. past_rest c k u r j (past j l) (let one_each = lengths.0 in omega arith))) [
            | inl s ↦ inl (with_first size.0 u k r rows size.2
                (spans_same rows (rest_of c u k r) (rest_of (pos size.0) u k r) (λ j. ap (λ z. z *ℤ u j +ℤ neg_ℤ k *ℤ number_at r j) size.1) s))
            | inr m ↦ inr (move_first n u r rows d m)
          ]
    ]

-- the same of a row
pub in_span_or_moved : (n : ℕ) (rows : List (List ℤ)) (row : List ℤ) → AllByRecursion (λ r. length r ≡ n) rows → length row ≡ n →
    InSpan rows row ⊎ ((d : List ℤ) × (length d ≡ n) × AllByRecursion (λ r. dot n (number_at r) d ≡ pos 0) rows × (dot n (number_at row) d ≢ pos 0))
in_span_or_moved n rows row lengths one_each = elim (spans_or_moves n rows (number_at row) lengths (λ j l. get_or_past row j (pos 0) (omega arith))) [
  | inl s ↦ inl (in_span_from rows row s)
  | inr m ↦ inr (m.list, m.one_each, m.zeros, λ e. let up = m.up in omega (arith, ints))
]

pub spanned_or_moved : SpannedOrMoved
spanned_or_moved n sets u are rows = elim (in_span_or_moved n (map (set_row n) sets) (set_row n u) (lengths_of_sets n sets) (length-set_row n u)) [
  | inl s ↦ inl s
  | inr m ↦ inr (m.0, record { one_each = m.1; zero_sums = sums_from_products n m.0 sets are m.2 }, λ e. m.3 (product-set_row m.0 n u rows ∙ e))
]
