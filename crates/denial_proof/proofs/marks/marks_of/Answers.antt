use Rattle.std.proofs.Common.{◌≡◌, IfSome, IfNone, ◌<◌, ℕ, suc, List, map, length, sym, ap, ◌∙◌, subst, arith}
use Rattle.std.specs.List.{AllByRecursion}
use Rattle.audit_types.specs.FilteredRows.{rows_within}
use Rattle.audit_types.specs.Headcount.{own_of}
use Rattle.denial_proof.specs.Weights.{rows_at}
use Rattle.denial_proof.specs.Kept.{HasWideMarks, IsMarked, marks_for}
use Rattle.denial_proof.proofs.MarkedFronts.{enough_marks}
use Rattle.denial_proof.proofs.Tests.{none_weaker}
use Rattle.denial_proof.proofs.marks.marks_of.Goals as goal

pub mark_all-requires-clause-there : goal.mark_all-requires-clause-there
mark_all-requires-clause-there c =
    subst (AllByRecursion (λ p. p < length c.args.history.now)) (sym c.deref.ensures.value)
    (rows_within 0 (length c.args.history.now) (length c.args.history.now) c.in_ok-places.places.items (omega arith) c.in_ok-places.ensures.kept.ascending)

pub returns : goal.returns
returns c =
    let n = c.args.n in
    let history = c.args.history.now in
    let places = c.in_ok-places.places.items in
    let more = suc (own_of c.args.askers) in
    let count : c.len-2.result ≡ length places = omega arith in
    let marks : c.marks_for-marks.result ≡ marks_for n more (length places)
    = c.marks_for-marks.ensures ∙ ap (λ (k : ℕ). marks_for n k c.len-2.result) c.sets_more.ensures ∙ ap (marks_for n more) count in
    let some = subst (λ (m : ℕ). IfSome c.in_ok-form.form (IsMarked n m (map (rows_at history) places))) marks
    (subst (λ (list : List ℕ). IfSome c.in_ok-form.form (IsMarked n c.marks_for-marks.result (map (rows_at history) list))) c.deref.ensures.value
    c.in_ok-form.ensures.some) in
    let none = subst (λ (m : ℕ). IfNone c.in_ok-form.form (length places < m → HasWideMarks n m (map (rows_at history) places))) marks
    (subst (λ (list : List ℕ). IfNone c.in_ok-form.form (length list < c.marks_for-marks.result → HasWideMarks n c.marks_for-marks.result
    (map (rows_at history) list))) c.deref.ensures.value
    c.in_ok-form.ensures.none) in record {
      kept = c.in_ok-places.ensures.kept;
      marked = some;
      wide = none_weaker (λ wide few. wide (let enough = enough_marks n more (length places) 1 (omega arith) (omega arith) in omega arith))
          c.in_ok-form.form none;
    }
