-- The new row that a set gives, and what becomes of the form with it.
use Rattle.std.proofs.Common.{◌≡◌, ℕ, ◌<◌, ℤ, pos, List, [], ◌∷◌, ◌++◌, sym, subst}
use Rattle.audit_types.specs.Form.{InSpan, pivot, pivot_entry}
use Rattle.sum_basis.specs.Basis.{Echelon}
use Rattle.sum_basis.specs.Elimination.{IsSmallForm, IsRemainder}
use Rattle.sum_basis.specs.Growth.{GrowsTo, GrowsWide, IsNewRow}
use Rattle.sum_basis.specs.Spans.{own}
use Rattle.sum_basis.proofs.FormsAreUnique.{leads_from}
use Rattle.sum_basis.proofs.Clearing.{line_zero, span_times, still_zero_at}
use Rattle.sum_basis.proofs.Reduction.{span_line}
use Rattle.sum_basis.proofs.Remainders.{in_span, nothing_left, span_to_left, span_from_left, IsLine}
use Rattle.audit_types.specs.Truth.{number_at}
use Rattle.audit_types.specs.ListLaws.{all-front}
use Rattle.audit_types.specs.PrimitiveLines.{times}
use Rattle.audit_types.specs.Numbers.{positive_not_zero}
use Rattle.sum_basis.proofs.Exactness.{other_row}

module _ (old : Echelon) (v left : List ℤ) (f : IsSmallForm old.n old.rows) (rest : (m : ℕ) × (0 < m) × IsRemainder old.rows (times (pos m) v) left) where
  -- if nothing is left, the row of the set lies in the span
  pub nothing_new : ((j : ℕ) → number_at left j ≡ pos 0) → InSpan old.rows v
  nothing_new none = in_span old.rows v left rest.0 rest.1 rest.2 none

  -- else the primitive row spans what the row of the set does
  pub new_row : (made : List ℤ) → IsLine old.n left made → IsNewRow old v made
  new_row made line =
      let with_v = all-front (InSpan (old.rows ++ v ∷ [])) old.rows v (own (old.rows ++ v ∷ [])) in
      let with_made = all-front (InSpan (old.rows ++ made ∷ [])) old.rows made (own (old.rows ++ made ∷ [])) in
      record {
        primitive = line.primitive;
        zeros = still_zero_at old.rows left made line.by line.not_zero line.line rest.2.zeros;
        outside = λ p. positive_not_zero (pivot_entry made) line.primitive.leading (line_zero left line.by made (pivot made) line.not_zero line.line
            (nothing_left old.rows v left rest.0 rest.1 rest.2 f.echelon (leads_from old.n old.rows f.primitive) p (pivot made)));
        there = span_line (old.rows ++ v ∷ []) line.by made line.not_zero (subst (InSpan (old.rows ++ v ∷ [])) line.line
            (span_to_left old.rows v left rest.0 rest.1 rest.2 (old.rows ++ v ∷ []) with_v.0 with_v.1));
        back =
            span_from_left old.rows v left rest.0 rest.1 rest.2 (old.rows ++ made ∷ []) with_made.0
            (subst (InSpan (old.rows ++ made ∷ [])) (sym line.line) (span_times (old.rows ++ made ∷ []) line.by made with_made.1));
      }

-- the form with the new row is the form with the row of the set
pub grows_to : (old new : Echelon) (v made : List ℤ) → IsNewRow old v made → GrowsTo old made new → GrowsTo old v new
grows_to old new v made row g = record {
  n = g.n;
  width = g.width;
  reduced = other_row old.n old.rows new.rows made v row.there row.back g.reduced;
  narrow =
      g.narrow;
}

-- so is a wide one
pub grows_wide : (old : Echelon) (v made : List ℤ) → IsNewRow old v made → GrowsWide old made → GrowsWide old v
grows_wide old v made row g = (g.0, other_row old.n old.rows g.0 made v row.there row.back g.1, g.2)
