-- Points by sums: one entry more, and a list that is made 0 at the first place of a new one.
use Rattle.std.proofs.Common.{◌≡◌, ℕ, ◌+◌, ◌*◌, ◌<◌, ℤ, pos, List, [], ◌∷◌, ◌++◌, length, take, get_or, sym, ap, ◌∙◌, subst, arith}
use Rattle.std.specs.Prelude.{◌+ℤ◌, ◌-ℤ◌, ◌*ℤ◌, Some}
use Rattle.std.proofs.lemmas.Int.{ints}
use Rattle.std.proofs.lemmas.List.{take_more}
use Rattle.sum_basis.specs.Points.{modulus, IsLeftModulo, IsPointAfter, first_weight, second_weight, weighted}
use Rattle.sum_basis.specs.Reach.{times_of}
use Rattle.sum_basis.specs.Sparse.{entry_at}
use Rattle.sum_basis.specs.Keys.{IsNewPoint}
use Rattle.sum_basis.specs.declared.points.Point.{Point}
use Rattle.sum_basis.specs.declared.points.NewPoint.{NewPoint}
use Rattle.sum_basis.specs.declared.sparse.FreeEntry.{FreeEntry}
use Rattle.sum_basis.proofs.ListContents.{none}
use Rattle.sum_basis.proofs.SameModulo.{same_equal}
use Rattle.sum_basis.proofs.LeftModulo.{left_self, left_product_plus, left_between}

-- the sum of one entry more
weighted_push : (weight : ℕ → ℤ) (es : List FreeEntry) (e : FreeEntry) → weighted weight (es ++ e ∷ []) ≡ weighted weight es +ℤ weight e.place *ℤ e.value
weighted_push weight [] e = omega (arith, ints)
weighted_push weight (x ∷ es) e = let rest = weighted_push weight es e in omega (arith, ints)

weighted_more : (weight : ℕ → ℤ) (es : List FreeEntry) (k : ℕ) → k < length es →
    weighted weight (take (k + 1) es) ≡ weighted weight (take k es) +ℤ weight (get_or es k none).place *ℤ (get_or es k none).value
weighted_more weight es k within = ap (weighted weight) (take_more es k none within) ∙ weighted_push weight (take k es) (get_or es k none)

-- no entries have the sums 0
pub point_of_none : (weights : List Point) → IsPointAfter weights [] [] (record { first = 0; second = 0 })
point_of_none weights = record { first = left_self 0 (omega arith); second = left_self 0 (omega arith) }

-- the point of one entry more
pub point_more : (weights : List Point) (es : List FreeEntry) (k left : ℕ) (own point next : Point) → k < length es →
    own ≡ get_or weights (get_or es k none).place (record { first = 0; second = 0 }) → IsLeftModulo (get_or es k none).value left →
    IsPointAfter weights [] (take k es) point → IsLeftModulo (pos (own.first * left + point.first)) next.first →
    IsLeftModulo (pos (own.second * left + point.second)) next.second → IsPointAfter weights [] (take (k + 1) es) next
point_more weights es k left own point next within own_is value_is is first second =
    let e = get_or es k none in
    record {
      first =
          subst (λ z. IsLeftModulo z next.first) (sym (weighted_more (first_weight weights) es k within))
          (left_product_plus (first_weight weights e.place) e.value own.first left
          (same_equal modulus (first_weight weights e.place) (pos own.first) (ap (λ (p : Point). pos p.first) (sym own_is))) value_is.1
          (weighted (first_weight weights) (take k es)) point.first next.first is.first.1 first);
      second =
          subst (λ z. IsLeftModulo z next.second) (sym (weighted_more (second_weight weights) es k within))
          (left_product_plus (second_weight weights e.place) e.value own.second left
          (same_equal modulus (second_weight weights e.place) (pos own.second) (ap (λ (p : Point). pos p.second) (sym own_is))) value_is.1
          (weighted (second_weight weights) (take k es)) point.second next.second is.second.1 second);
    }

-- the point of a list that is made 0 at the first place of a new one
pub point_cleared : (new : NewPoint) (point next : Point) (value : ℤ) (left : ℕ) → IsLeftModulo value left →
    IsLeftModulo (pos (new.value * point.first) -ℤ pos (left * new.point.first)) next.first →
    IsLeftModulo (pos (new.value * point.second) -ℤ pos (left * new.point.second)) next.second →
    (weights : List Point) (list entries : List FreeEntry) → IsNewPoint weights list (Some new) → IsPointAfter weights [] entries point →
    value ≡ times_of list (entry_at entries) → IsPointAfter weights list entries next
point_cleared new point next value left value_is first second weights [] entries unknown is there = absurd unknown
point_cleared new point next value left value_is first second weights (e ∷ list) entries known is there = record {
  first =
      subst (λ z. IsLeftModulo (e.value *ℤ weighted (first_weight weights) entries -ℤ z *ℤ weighted (first_weight weights) (e ∷ list)) next.first) there
      (left_between e.value (weighted (first_weight weights) entries) value (weighted (first_weight weights) (e ∷ list)) new.value point.first left
      new.point.first next.first known.1.1 is.first.1 value_is.1 known.2.first.1 first);
  second =
      subst (λ z. IsLeftModulo (e.value *ℤ weighted (second_weight weights) entries -ℤ z *ℤ weighted (second_weight weights) (e ∷ list)) next.second) there
      (left_between e.value (weighted (second_weight weights) entries) value (weighted (second_weight weights) (e ∷ list)) new.value point.second left
      new.point.second next.second known.1.1 is.second.1 value_is.1 known.2.second.1 second);
}
