use Rattle.std.proofs.Common.{◌≡◌, ℕ, ◌+◌, ◌<◌, ℤ, List, [], ◌∷◌, ◌++◌, length, take, get_or, sym, ap, ◌∙◌, subst, arith, take_all}
use Rattle.std.specs.List.{AllByRecursion}
use Rattle.std.proofs.lemmas.List.{take_more, map-append, length_push}
use Rattle.audit_types.specs.ListLaws.{all-push, all-get_or}
use Rattle.sum_basis.specs.declared.sparse.FreeEntry.{FreeEntry}
use Rattle.sum_basis.specs.declared.sparse.SparseRow.{SparseRow}
use Rattle.sum_basis.specs.Sparse.{row_of, rows_of, entries_of, IsKept}
use Rattle.sum_basis.proofs.sparse.copy_rows.Goals as goal

-- with one row more
one_more_row : (n : ℕ) (rows copies : List SparseRow) (k : ℕ) (row copy : SparseRow) → k < length rows → row ≡ get_or rows k row
    → rows_of n copies ≡ rows_of n (take k rows) → entries_of copy ≡ entries_of row → rows_of n (copies ++ copy ∷ []) ≡ rows_of n (take (k + 1) rows)
one_more_row n rows copies k row copy l is same e =
    map-append (λ r. row_of n (entries_of r)) copies (copy ∷ [])
    ∙ ap (λ (list : List FreeEntry). rows_of n copies ++ row_of n list ∷ []) e
    ∙ ap (λ (all : List (List ℤ)). all ++ row_of n (entries_of row) ∷ []) same
    ∙ ap (λ (r : SparseRow). rows_of n (take k rows) ++ row_of n (entries_of r) ∷ []) is
    ∙ sym (ap (rows_of n) (take_more rows k row l) ∙ map-append (λ r. row_of n (entries_of r)) (take k rows) (get_or rows k row ∷ []))

pub copy-requires : goal.copy-requires
copy-requires c =
    subst (IsKept c.args.columns) (sym c.row-item.is)
    (all-get_or (IsKept c.args.columns) c.args.rows.now c.loop-row.row-index c.row-item.result c.requires c.loop-row-test.true)

pub loop-row-preserved : goal.loop-row-preserved
loop-row-preserved c =
    let items = c.push_reserved.ensures.items in
    record {
      same = ap (rows_of c.args.columns) items
          ∙ one_more_row c.args.columns c.args.rows.now c.loop-row.copies.items c.loop-row.row-index c.row-item.result c.in_ok-copy.copy c.loop-row-test.true
          c.row-item.is c.loop-row.invariant.same c.in_ok-copy.ensures.same;
      kept = subst (AllByRecursion (IsKept c.args.columns)) (sym items)
          (all-push (IsKept c.args.columns) c.loop-row.copies.items c.in_ok-copy.copy c.loop-row.invariant.kept c.in_ok-copy.ensures.kept);
      count = ap length items ∙ length_push c.loop-row.copies.items c.in_ok-copy.copy ∙ ap (λ k. k + 1) c.loop-row.invariant.count;
      room = c.push_reserved.ensures.capacity ∙ c.loop-row.invariant.room;
    }

pub push_reserved-requires : goal.push_reserved-requires
push_reserved-requires c =
    let room = c.loop-row.invariant.room in
    let count = c.loop-row.invariant.count in
    let len = c.loop-row.copies.ok.0 in
    let more = c.loop-row-test.true in
    omega arith

pub returns-clause-same : goal.returns-clause-same
returns-clause-same c = c.loop-row.invariant.same ∙ ap (rows_of c.args.columns) (take_all c.loop-row.row-index c.args.rows.now c.loop-row-test.false)

pub returns-clause-kept : goal.returns-clause-kept
returns-clause-kept c = c.loop-row.invariant.kept
