use Rattle.std.proofs.Common.{◌≡◌, ◌+◌, ◌-◌, ◌<◌, ℕ, None, map, length, subst, arith, ◌∷◌, []}
use Rattle.audit_types.specs.Form.{set_row}
use Rattle.sum_basis.specs.RowsWith.{IsRowWith}
use Rattle.sum_basis.specs.declared.row_with.RowWith.TheVariants.{Row, Wide}
use Rattle.denial_proof.specs.Weights.{rows_at}
use Rattle.denial_proof.specs.Kept.{IsMarked, marked_row, marks_for}
use Rattle.denial_proof.specs.Numbers.{AreMultipliers}
use Rattle.denial_proof.proofs.MarkedFronts.{wide_without, wide_beside}
use Rattle.denial_proof.proofs.RowsAtOnce.{row_small, row_leads, numbers_with, wide_marks}
use Rattle.denial_proof.proofs.marks.Marks.numbers_for.Goals as goal

pub overflow_cast-mark : goal.overflow_cast-mark
overflow_cast-mark c =
    let room = rw c.in-Some.is at c.requires.room in
    let most = c.columns.ensures.at_most in
    omega arith

pub returns-in_default-clause-wide : goal.returns-in_default-clause-wide
returns-in_default-clause-wide c = λ fault history more marks.
    let places = c.args.self.now.places.items in
    let rows = c.args.asked.now.rows in record {
      places = places;
      kept = marks.kept;
      wide = wide_beside rows.n (marks_for rows.n more (length places)) history places rows.list None
          (wide_without rows.n (marks_for rows.n more (length places)) (map (rows_at history) places) rows.list
          (rw c.in_default.is at marks.wide c.requires.few));
    }

-- there are as many columns beside the table's as there are marks
beside : (n columns : ℕ) → n < columns → columns ≡ n + (columns - n)
beside n columns less = omega arith

pub multipliers_of_row-requires-clause-columns : goal.multipliers_of_row-requires-clause-columns
multipliers_of_row-requires-clause-columns c =
    let room = rw c.in-Some.is at c.requires.room in
    let most = c.columns.ensures.at_most in
    let n = c.n.ensures.n in
    omega arith

pub multipliers_of_row-requires-clause-small : goal.multipliers_of_row-requires-clause-small
multipliers_of_row-requires-clause-small c =
    let old = c.in-Some.form in
    let rows = c.args.asked.now.rows in
    let room = rw c.in-Some.is at c.requires.room in
    let width = rw c.in-Some.is at c.requires.width in
    let columns = beside rows.n old.n (omega arith) in
    let told = (rw c.in-Row.is at c.in_ok-marked_row_at.ensures) (old.n - rows.n) columns in
    row_small old told.0 _ width told.1 c.args.row c.in-Row.whole told.2

pub multipliers_of_row-requires-clause-positive : goal.multipliers_of_row-requires-clause-positive
multipliers_of_row-requires-clause-positive c =
    let old = c.in-Some.form in
    let rows = c.args.asked.now.rows in
    let room = rw c.in-Some.is at c.requires.room in
    let width = rw c.in-Some.is at c.requires.width in
    let columns = beside rows.n old.n (omega arith) in
    let told = (rw c.in-Row.is at c.in_ok-marked_row_at.ensures) (old.n - rows.n) columns in
    row_leads old told.0 _ width told.1 c.args.row c.in-Row.whole told.2

pub returns-in-Wide-clause-wide : goal.returns-in-Wide-clause-wide
returns-in-Wide-clause-wide c = λ fault history more marks.
    let places = c.args.self.now.places.items in
    let asked = c.args.asked.now in
    let old = c.in-Some.form in
    let m = marks_for asked.rows.n more (length places) in
    let mark : c.len-mark.result ≡ length places = omega arith in
    let marked : IsMarked asked.rows.n m _ old = rw c.in-Some.is at marks.marked in
    let told = subst (λ (k : ℕ). IsRowWith old (marked_row asked.rows.n m k asked.rows.list) c.args.row Wide) mark
    ((rw c.in-Wide.is at c.in_ok-marked_row_at.ensures) m marked.columns) in
    wide_marks c.forms_are_unique.ensures history asked more places old marks.kept marked c.args.row told

pub returns-clause-numbers : goal.returns-clause-numbers
returns-clause-numbers c = λ history more marks.
    let places = c.args.self.now.places.items in
    let asked = c.args.asked.now in
    let old = c.in-Some.form in
    let n = asked.rows.n in
    let m = marks_for n more (length places) in
    let mark : c.len-mark.result ≡ length places = omega arith in
    let marked : IsMarked n m _ old = rw c.in-Some.is at marks.marked in
    let told = subst (λ (k : ℕ). IsRowWith old (marked_row n m k asked.rows.list) c.args.row (Row c.in-Row.whole)) mark
    ((rw c.in-Row.is at c.in_ok-marked_row_at.ensures) m marked.columns) in
    let list = c.in_ok-numbers.numbers.items in
    let count : c.len-mark.result + 1 ≡ length places + 1 = omega arith in
    numbers_with c.forms_are_unique.ensures history asked more places old marks.kept marked c.args.row c.in-Row.whole list told
    (λ form echelon at. subst (λ (k : ℕ). AreMultipliers form (set_row n (c.args.row ∷ [])) n k list) count
    (subst (λ (k : ℕ). AreMultipliers form (set_row k (c.args.row ∷ [])) k (c.len-mark.result + 1) list) c.n.ensures.n
    (c.in_ok-numbers.ensures form echelon at)))
