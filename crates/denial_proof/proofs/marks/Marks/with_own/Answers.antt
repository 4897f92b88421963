use Rattle.std.proofs.Common.{◌≡◌, ℕ, ◌+◌, ◌++◌, [], ◌∷◌, List, None, map, length, sym, ap, ◌∙◌, subst, arith}
use Rattle.std.proofs.lemmas.List.{append_assoc}
use Rattle.audit_types.specs.Form.{IsReducedForm}
use Rattle.denial_proof.specs.Weights.{rows_at}
use Rattle.denial_proof.specs.Kept.{HasWideFormOf, HasWideMarks, IsMarked, MarksNext, kept_sets, marks_for}
use Rattle.denial_proof.proofs.CanonicalSums.{count_sets}
use Rattle.denial_proof.proofs.MarkedFronts.{marked_with, wide_with}
use Rattle.denial_proof.proofs.marks.Marks.with_own.Goals as goal

pub overflow_cast-len : goal.overflow_cast-len
overflow_cast-len c =
    let room = c.requires.room in
    let most = c.columns.ensures.at_most in
    omega arith

pub returns-in-Some-clause-marks : goal.returns-in-Some-clause-marks
returns-in-Some-clause-marks c = λ history more marks.
    let places = c.args.self.now.places.items in
    let rows = c.args.asked.now.rows in
    let own = c.args.own in
    let row = c.only_row-row.result in
    let old = c.args.with_asked in
    let new = c.in-Some.with_own in
    let m = marks_for rows.n more (length places) in
    let sets = kept_sets history places rows.list None in
    let same_n : row.n ≡ rows.n = c.only_row-row.ensures.n ∙ c.n.ensures.n in
    let mark : c.len.result + 1 ≡ length places + 1 = omega arith in
    let told = rw c.in-Some.is at c.in_ok-with_own.ensures.some in
    let next = subst (λ (k : ℕ). MarksNext old row k (λ whole. IsReducedForm old.n whole new.rows)) mark told.3 in record {
      kept = marks.kept;
      marked = subst (λ (all : List (List ℕ)). IsMarked rows.n m all new)
          (ap (λ (list : List ℕ). sets ++ list ∷ []) c.only_row-row.ensures.rows
          ∙ append_assoc (map (rows_at history) places) (rows.list ∷ []) ((own ∷ []) ∷ []))
          (marked_with rows.n m (length places + 1) sets (sym (count_sets history places rows.list None)) row same_n
          c.forms_are_unique.ensures old new marks.marked told.0 told.1 told.2 next);
    }

pub returns-in-None-clause-wide : goal.returns-in-None-clause-wide
returns-in-None-clause-wide c = λ fault history more marks.
    let places = c.args.self.now.places.items in
    let rows = c.args.asked.now.rows in
    let own = c.args.own in
    let row = c.only_row-row.result in
    let old = c.args.with_asked in
    let m = marks_for rows.n more (length places) in
    let sets = kept_sets history places rows.list None in
    let same_n : row.n ≡ rows.n = c.only_row-row.ensures.n ∙ c.n.ensures.n in
    let mark : c.len.result + 1 ≡ length places + 1 = omega arith in
    let next = subst (λ (k : ℕ). MarksNext old row k (HasWideFormOf old.n)) mark (rw c.in-None.is at c.in_ok-with_own.ensures.none) in record {
      places = places;
      kept = marks.kept;
      wide = subst (HasWideMarks rows.n m)
          (ap (λ (list : List ℕ). sets ++ list ∷ []) c.only_row-row.ensures.rows
          ∙ append_assoc (map (rows_at history) places) (rows.list ∷ []) ((own ∷ []) ∷ []))
          (wide_with rows.n m (length places + 1) sets (sym (count_sets history places rows.list None)) row same_n old marks.marked next);
    }
