-- The numbers for a row of the table that one row of the form of all marked rows tells.
use Rattle.std.proofs.Common.{◌≡◌, ℕ, ◌+◌, ◌≤◌, ◌^◌, ℤ, pos, None, List, [], ◌∷◌, ◌++◌, map, length, refl, sym, subst, arith, inl, inr}
use Rattle.std.specs.Prelude.{◌<ℤ◌, unsigned_abs}
use Rattle.std.specs.List.{AllByRecursion}
use Rattle.std.proofs.lemmas.List.{length-map}
use Rattle.audit_types.specs.declared.records.Answered.{Answered}
use Rattle.audit_types.specs.declared.records.Asked.{Asked}
use Rattle.audit_types.specs.Form.{set_row, IsPrimitive, IsNarrow, IsReducedForm, IsEchelon}
use Rattle.audit_types.specs.Limits.{most_width}
use Rattle.audit_types.specs.Truth.{number_at}
use Rattle.sum_basis.specs.Basis.{Echelon}
use Rattle.sum_basis.specs.Elimination.{IsSmall, IsWithin}
use Rattle.sum_basis.specs.Growth.{GrowsTo}
use Rattle.sum_basis.specs.Laws.{FormsAreUnique}
use Rattle.sum_basis.specs.RowsWith.{IsRowAt, IsRowWith}
use Rattle.sum_basis.specs.Ties.{IsRowOf}
use Rattle.sum_basis.specs.declared.row_with.RowWith.TheVariants.{Wide, Row}
use Rattle.denial_proof.specs.Kept.{AreKept, AreMarks, HasWideFormOf, IsMarked, MarksNext, marked_row, marks_for}
use Rattle.denial_proof.specs.Canonical.{AreMarksWide}
use Rattle.denial_proof.specs.Numbers.{AreMultipliers, AreNumbersFor}
use Rattle.denial_proof.specs.Weights.{rows_at}
use Rattle.denial_proof.proofs.CombinedSoFar.{small_at}
use Rattle.denial_proof.proofs.MarkedFronts.{marked_with, wide_with, wide_beside}

-- what holds of all rows holds of one of them
of_row : (P : List ℤ → Type 0) (rows : List (List ℤ)) (r : List ℤ) → AllByRecursion P rows → IsRowOf r rows → P r
of_row P [] r all among = absurd among
of_row P (g ∷ rows) r all (inl same) = subst P same all.0
of_row P (g ∷ rows) r all (inr among) = of_row P rows r all.1 among

-- a row of a form within the greatest width is small, and its pivot entry positive
module _ (old new : Echelon) (v : List ℤ) (width : old.width ≡ most_width) (grows : GrowsTo old v new) where
  pub rows_small : AllByRecursion IsSmall new.rows
  rows_small = subst (λ (w : ℕ). AllByRecursion (IsWithin w) new.rows) width grows.narrow.entries

  pub row_small : (place : ℕ) (r : List ℤ) → IsRowAt new.rows place r → (j : ℕ) → unsigned_abs (number_at r j) ≤ 2 ^ 56
  row_small place r at j = small_at r j (of_row IsSmall new.rows r rows_small at.among)

  pub row_leads : (place : ℕ) (r : List ℤ) → IsRowAt new.rows place r → pos 0 <ℤ number_at r place
  row_leads place r at =
      let primitive = of_row (IsPrimitive old.n) new.rows r grows.reduced.primitive at.among in
      subst (λ (k : ℕ). pos 0 <ℤ number_at r k) at.at_place primitive.leading

-- a question's marked row beside the marks of a history
module _ (unique : FormsAreUnique) (history : List Answered) (asked : Asked) (more : ℕ) (places : List ℕ) (old : Echelon)
    (kept : AreKept asked.rows.n asked.column history places)
    (marked : IsMarked asked.rows.n (marks_for asked.rows.n more (length places)) (map (rows_at history) places) old) where
  abbrev marks : ℕ
  marks = marks_for asked.rows.n more (length places)

  abbrev row : List ℤ
  row = marked_row asked.rows.n marks (length places) asked.rows.list

  -- there are as many marks as the form has columns beside the table's
  next_at : (P : List (List ℤ) → Type 0) → ((before : List (List ℤ)) → IsReducedForm old.n before old.rows → P (before ++ row ∷ [])) →
      MarksNext old asked.rows (length places) P
  next_at P stands k columns before reduced =
      let same : marks ≡ k = let here = marked.columns in omega arith in
      subst (λ (x : ℕ). P (before ++ marked_row asked.rows.n x (length places) asked.rows.list ∷ [])) same (stands before reduced)

  -- the marks of the form with it
  marks_with : (new : Echelon) → GrowsTo old row new →
      ((before : List (List ℤ)) → IsReducedForm old.n before old.rows → IsReducedForm old.n (before ++ row ∷ []) new.rows) →
      AreMarks asked.rows.n history asked more None places new
  marks_with new grows stands = record {
    kept = kept;
    marked = marked_with asked.rows.n marks (length places) (map (rows_at history) places) (sym (length-map places (rows_at history))) asked.rows refl
        unique old new marked grows.n grows.width (subst (λ (w : ℕ). IsNarrow w new.rows) marked.width grows.narrow)
        (next_at (λ all. IsReducedForm old.n all new.rows) stands);
  }

  -- the numbers that its row tells
  pub numbers_with : (place : ℕ) (whole : List ℤ) (list : List ℤ) → IsRowWith old row place (Row whole) →
      ((form : List (List ℤ)) → IsEchelon form → IsRowAt form place whole →
      AreMultipliers form (set_row asked.rows.n (place ∷ [])) asked.rows.n (length places + 1) list) →
      AreNumbersFor asked.rows.n history asked more None places (set_row asked.rows.n (place ∷ [])) list
  numbers_with place whole list told read = record {
    form = told.0;
    marks = marks_with told.0 told.1 told.3;
    small = rows_small old told.0 row marked.width told.1;
    are = read told.0.rows told.1.reduced.echelon told.2;
  }

  -- if the form with it isn't narrow, the marks aren't
  pub wide_marks : (place : ℕ) → IsRowWith old row place Wide → AreMarksWide asked.rows.n history more asked None
  wide_marks place told = record {
    places = places;
    kept = kept;
    wide = wide_beside asked.rows.n marks history places asked.rows.list None
        (wide_with asked.rows.n marks (length places) (map (rows_at history) places) (sym (length-map places (rows_at history))) asked.rows refl old marked
        (next_at (HasWideFormOf old.n) (λ before reduced.
        let wide = told before reduced in
        (wide.0, wide.1, λ narrow. wide.2 (subst (λ (w : ℕ). IsNarrow w wide.0) (sym marked.width) narrow)))));
  }
