use Rattle.std.proofs.Common.{◌≡◌, ℕ, map, length, sym, subst, refl, arith}
use Rattle.std.proofs.lemmas.List.{length-map}
use Rattle.audit_types.specs.Form.{IsReducedForm}
use Rattle.denial_proof.specs.Weights.{rows_at}
use Rattle.denial_proof.specs.Kept.{HasWideFormOf, IsMarked, MarksNext, marks_for}
use Rattle.denial_proof.proofs.MarkedFronts.{marked_with, wide_with, wide_without, wide_beside}
use Rattle.denial_proof.proofs.marks.Marks.with_asked.Goals as goal

pub overflow_cast-len : goal.overflow_cast-len
overflow_cast-len c =
    let room = rw c.in-Some.is at c.requires.room in
    let most = c.columns.ensures.at_most in
    omega arith

pub returns-in_default-clause-wide : goal.returns-in_default-clause-wide
returns-in_default-clause-wide c = λ fault history more own marks.
    let places = c.args.self.now.places.items in
    let rows = c.args.asked.now.rows in record {
      places = places;
      kept = marks.kept;
      wide = wide_beside rows.n (marks_for rows.n more (length places)) history places rows.list own
          (wide_without rows.n (marks_for rows.n more (length places)) (map (rows_at history) places) rows.list
          (rw c.in_default.is at marks.wide c.requires.few));
    }

pub returns-in-Some-2-clause-marks : goal.returns-in-Some-2-clause-marks
returns-in-Some-2-clause-marks c = λ history more marks.
    let places = c.args.self.now.places.items in
    let rows = c.args.asked.now.rows in
    let old = c.in-Some.form in
    let new = c.in-Some-2.with_asked in
    let m = marks_for rows.n more (length places) in
    let mark : c.len.result ≡ length places = omega arith in
    let marked : IsMarked rows.n m _ old = rw c.in-Some.is at marks.marked in
    let told = rw c.in-Some-2.is at c.in_ok-with_asked.ensures.some in
    let next = subst (λ (k : ℕ). MarksNext old rows k (λ whole. IsReducedForm old.n whole new.rows)) mark told.3 in record {
      kept = marks.kept;
      marked = marked_with rows.n m (length places) (map (rows_at history) places) (sym (length-map places (rows_at history))) rows refl
          c.forms_are_unique.ensures old new marked told.0 told.1 told.2 next;
    }

pub returns-in-None-clause-wide : goal.returns-in-None-clause-wide
returns-in-None-clause-wide c = λ fault history more own marks.
    let places = c.args.self.now.places.items in
    let rows = c.args.asked.now.rows in
    let old = c.in-Some.form in
    let m = marks_for rows.n more (length places) in
    let mark : c.len.result ≡ length places = omega arith in
    let marked : IsMarked rows.n m _ old = rw c.in-Some.is at marks.marked in
    let next = subst (λ (k : ℕ). MarksNext old rows k (HasWideFormOf old.n)) mark (rw c.in-None.is at c.in_ok-with_asked.ensures.none) in record {
      places = places;
      kept = marks.kept;
      wide = wide_beside rows.n m history places rows.list own
          (wide_with rows.n m (length places) (map (rows_at history) places) (sym (length-map places (rows_at history))) rows refl old marked next);
    }
