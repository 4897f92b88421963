use Rattle.std.proofs.Common.{◌≡◌, ◌<◌, ℕ, List, length, get_or, sym, ap, ◌∙◌, subst, arith}
use Rattle.std.proofs.lemmas.Bool.{true≢false}
use Rattle.std.proofs.lemmas.List.{length-map}
use Rattle.sum_basis.specs.declared.sparse.SparseRow.{SparseRow}
use Rattle.sum_basis.specs.Basis.{Echelon}
use Rattle.sum_basis.specs.Elimination.{IsFormWithin}
use Rattle.sum_basis.specs.Sparse.{row_of, rows_of, entries_of}
use Rattle.sum_basis.proofs.KeptForms.{pivot_seen, lone_seen}
use Rattle.sum_basis.proofs.UnitRowsInSpan.{IsFirstUnit, first_unit, no_unit, one_more_not}
use Rattle.sum_basis.proofs.form.Form.unit_row.Goals as goal

-- as many rows are kept as are seen
as_many : {width : ℕ} (n : ℕ) (rows items : List SparseRow) (seen : Echelon) → record { n = n; width = width; rows = rows_of n items } ≡ seen → rows ≡ items →
    length rows ≡ length seen.rows
as_many n rows items seen view e = ap length e ∙ sym (length-map items (λ (x : SparseRow). row_of n (entries_of x))) ∙ ap (λ (s : Echelon). length s.rows) view

-- the row among the items
item : (rows items : List SparseRow) (k : ℕ) (r : SparseRow) → rows ≡ items → r ≡ get_or rows k r → r ≡ get_or items k r
item rows items k r e is = is ∙ ap (λ (l : List SparseRow). get_or l k r) e

pub returns-then-is_empty : goal.returns-then-is_empty
returns-then-is_empty c =
    let seen = c.args.self.now in
    let n = c.self.inside.columns in
    let items = c.self.inside.rows.items in
    let r = c.row-item.result in
    let k = c.loop-row.row-index in
    let many = as_many n c.deref-row-items.result.now items seen c.self.view_is c.deref-row-items.ensures.value in
    let h : k < length seen.rows = let inside = c.loop-row-test.true in omega arith in
    let is = item c.deref-row-items.result.now items k r c.deref-row-items.ensures.value c.row-item.is in
    let f = subst (λ (e : Echelon). IsFormWithin e.width e.n e.rows) c.self.view_is c.self.invariant.form in
    let lone = lone_seen n items seen c.self.view_is c.self.invariant.kept k r h is r.free.len c.is_empty.result r.free.ok.0 c.is_empty.ensures in
    let first = subst (IsFirstUnit seen) (sym (pivot_seen n items seen c.self.view_is c.self.invariant.kept k r h is))
    (first_unit seen k f h c.loop-row.invariant (lone.0 c.if-is_empty.true)) in
    ((first.within, first.in_span), λ j before spans. first.least j before spans.1)

pub loop-row-preserved : goal.loop-row-preserved
loop-row-preserved c =
    let seen = c.args.self.now in
    let n = c.self.inside.columns in
    let items = c.self.inside.rows.items in
    let r = c.row-item.result in
    let k = c.loop-row.row-index in
    let many = as_many n c.deref-row-items.result.now items seen c.self.view_is c.deref-row-items.ensures.value in
    let h : k < length seen.rows = let inside = c.loop-row-test.true in omega arith in
    let is = item c.deref-row-items.result.now items k r c.deref-row-items.ensures.value c.row-item.is in
    let lone = lone_seen n items seen c.self.view_is c.self.invariant.kept k r h is r.free.len c.is_empty.result r.free.ok.0 c.is_empty.ensures in
    one_more_not seen.rows k h c.loop-row.invariant (λ all. true≢false (sym (lone.1 all) ∙ c.if-is_empty.false))

pub returns : goal.returns
returns c =
    let seen = c.args.self.now in
    let many = as_many c.self.inside.columns c.deref-row-items.result.now c.self.inside.rows.items seen c.self.view_is c.deref-row-items.ensures.value in
    let f = subst (λ (e : Echelon). IsFormWithin e.width e.n e.rows) c.self.view_is c.self.invariant.form in
    λ i spans. no_unit seen c.loop-row.row-index f (let past = c.loop-row-test.false in omega arith) c.loop-row.invariant i spans.0 spans.1
