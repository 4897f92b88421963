-- A row is pinned exactly if its unit row lies in the span: of the sets' rows, or of their reduced form.
use Rattle.std.proofs.Common.{◌≡◌, ℕ, ◌<◌, ℤ, List, [], ◌∷◌, length, map, sym, ◌∙◌, arith, inl, inr}
use Rattle.std.specs.Prelude.{◌↔◌}
use Rattle.std.specs.List.{AllByRecursion}
use Rattle.std.proofs.Math.IntN.{+ℤ_idr}
use Rattle.audit_types.specs.Rows.{AreRows}
use Rattle.audit_types.specs.Truth.{number_at}
use Rattle.audit_types.specs.Form.{set_row, InSpan}
use Rattle.audit_types.specs.Direction.{IsDirection, IsPinned}
use Rattle.audit_types.specs.RowNumbers.{length-set_row, lengths_of_sets}
use Rattle.audit_types.specs.FormRows.{lengths_of_form}
use Rattle.audit_types.specs.Totals.{product-set_row, product-span, products_in_span, products_from_sums, sums_from_products}
use Rattle.sum_basis.specs.Basis.{unit_row}
use Rattle.sum_audit.specs.Dot.{dot, IsOrthogonal}
use Rattle.sum_audit.specs.Laws.{PinnedByUnitRow, DirectionsByForm, PinnedByForm}
use Rattle.sum_audit.proofs.SpannedOrMoved.{in_span_or_moved}

sets_directions : (n : ℕ) (sets : List (List ℕ)) (d : List ℤ) → AllByRecursion (AreRows n) sets → IsDirection n sets d ↔ IsOrthogonal n (map (set_row n) sets) d
sets_directions n sets d are = (
  (λ direction. record { one_each = direction.one_each; zeros = products_from_sums n d sets are direction.zero_sums }),
  (λ orthogonal. record { one_each = orthogonal.one_each; zero_sums = sums_from_products n d sets are orthogonal.zeros }),
)

-- each row of the form is spanned by the sets, and the row of each set by the form
pub directions_by_form : DirectionsByForm
directions_by_form n sets form d are reduced = (
  (λ direction. record {
    one_each = direction.one_each;
    zeros =
        products_in_span n (number_at d) (map (set_row n) sets) form (products_from_sums n d sets are direction.zero_sums) reduced.within;
  }),
  (λ orthogonal. record {
    one_each = orthogonal.one_each;
    zero_sums =
        sums_from_products n d sets are (products_in_span n (number_at d) form (map (set_row n) sets) orthogonal.zeros reduced.spans);
  }),
)

dot-unit_row : (n i : ℕ) (d : List ℤ) → i < n → dot n (number_at (unit_row n i)) d ≡ number_at d i
dot-unit_row n i d below = let are : AreRows n (i ∷ []) = (omega arith, below, tt) in product-set_row d n (i ∷ []) are ∙ +ℤ_idr (number_at d i)

-- rows to which just the directions are orthogonal tell the pinned rows
module _ (n : ℕ) (sets : List (List ℕ)) (rows : List (List ℤ)) (tell : (d : List ℤ) → IsDirection n sets d ↔ IsOrthogonal n rows d) (i : ℕ)
    (below : i < n) where
  pinned_in_span : AllByRecursion (λ r. length r ≡ n) rows → IsPinned n sets i → InSpan rows (unit_row n i)
  pinned_in_span lengths pinned = elim (in_span_or_moved n rows (unit_row n i) lengths (length-set_row n (i ∷ []))) [
    | inl span ↦ span
    | inr moved ↦ absurd (moved.3 (dot-unit_row n i moved.0 below ∙ pinned.still moved.0 ((tell moved.0).1 (record { one_each = moved.1; zeros = moved.2 }))))
  ]

  in_span_pinned : InSpan rows (unit_row n i) → IsPinned n sets i
  in_span_pinned span = record {
    below = below;
    still = λ d direction. sym (dot-unit_row n i d below) ∙ product-span (number_at d) n rows (unit_row n i) ((tell d).0 direction).zeros span;
  }

pub pinned_by_unit_row : PinnedByUnitRow
pinned_by_unit_row n sets i are below = (
  pinned_in_span n sets (map (set_row n) sets) (λ d. sets_directions n sets d are) i below (lengths_of_sets n sets),
  in_span_pinned n sets (map (set_row n) sets) (λ d. sets_directions n sets d are) i below,
)

pub pinned_by_form : PinnedByForm
pinned_by_form n sets form i are reduced below = (
  pinned_in_span n sets form (λ d. directions_by_form n sets form d are reduced) i below (lengths_of_form n form reduced.primitive),
  in_span_pinned n sets form (λ d. directions_by_form n sets form d are reduced) i below,
)
