use Rattle.std.proofs.Common.{◌≡◌, ℕ, ◌+◌, ◌*◌, ◌≤◌, ◌^◌, ℤ, List, map, get_or, sym, ap, ◌∙◌, subst, arith, rules}
use Rattle.std.specs.Prelude.{FitsSigned, unsigned_abs}
use Rattle.std.specs.Int.{w128}
use Rattle.std.specs.List.{AllByRecursion}
use mir.Val.{to_z, of_z}
use Rattle.std.proofs.lemmas.Int.{to_z-of_z}
use Rattle.int_rows.specs.PrimitiveLaws.{zero_from_bits}
use Rattle.sum_basis.specs.declared.sparse.FreeEntry.{FreeEntry}
use Rattle.sum_basis.specs.declared.sparse.SparseRow.{SparseRow}
use Rattle.sum_basis.specs.Elimination.{IsSmall}
use Rattle.sum_basis.specs.Sparse.{entry_at, row_of, entries_of, IsKept, scaled}
use Rattle.sum_basis.proofs.MergedNumbers.{passed}
use Rattle.sum_basis.proofs.Sizes.{within_more}
use Rattle.sum_basis.proofs.SparseRows.{listed_from, listed_to, small_values}
use Rattle.sum_basis.proofs.ListContents.{none}
use Rattle.sum_basis.proofs.ClearedLists.{entry_small}
use Rattle.sum_basis.proofs.KeptRows.{cleared_as_it_is, lone_by_length}
use Rattle.sum_basis.proofs.BoundedRows.{first_small, by_bounds}
use Rattle.sum_basis.proofs.looking.look_closely.Goals as goal

pub value_at-times-requires : goal.value_at-times-requires
value_at-times-requires c =
    let fits = c.ranges.columns.fits in
    rw c.deref.ensures.value
    (listed_to 0 c.args.columns 65536 c.args.row.now.free.items (omega arith)
    (listed_from (c.args.row.now.pivot + 1) 0 c.args.columns c.args.row.now.free.items (omega arith) c.requires.kept.listed.3))

pub bounds-new-0 : goal.bounds-new-0
bounds-new-0 c = c.requires.new.some

pub are_parallel-requires-clause-by : goal.are_parallel-requires-clause-by
are_parallel-requires-clause-by c =
    let fits : FitsSigned w128 c.number-by.result = search rules in
    first_small c.args.columns c.args.new.now _ c.requires.new (passed c.number-by.result (get_or c.args.new.now 0 none).value fits c.number-by.ensures)

pub returns-then-is_surely_within-clause-room : goal.returns-then-is_surely_within-clause-room
returns-then-is_surely_within-clause-room c = c.requires.room

pub returns-then-times-eq0-clause-room : goal.returns-then-times-eq0-clause-room
returns-then-times-eq0-clause-room c = c.requires.room

pub clear_aside-requires-clause-room : goal.clear_aside-requires-clause-room
clear_aside-requires-clause-room c = c.requires.room

pub clear_aside-requires-clause-kept : goal.clear_aside-requires-clause-kept
clear_aside-requires-clause-kept c = c.requires.kept

pub clear_aside-requires-clause-primitive : goal.clear_aside-requires-clause-primitive
clear_aside-requires-clause-primitive c = c.requires.primitive

pub clear_aside-requires-clause-within : goal.clear_aside-requires-clause-within
clear_aside-requires-clause-within c = c.requires.within

pub clear_aside-requires-clause-new : goal.clear_aside-requires-clause-new
clear_aside-requires-clause-new c = c.requires.new

pub clear_aside-requires-clause-zero : goal.clear_aside-requires-clause-zero
clear_aside-requires-clause-zero c = c.requires.zero

pub returns-in_err-cleared-clause-room : goal.returns-in_err-cleared-clause-room
returns-in_err-cleared-clause-room c = c.in_err-cleared.ensures.room

pub returns-clause-room : goal.returns-clause-room
returns-clause-room c = c.in_ok-cleared.ensures.room

-- and so is the row's entry at its place
times_small : (n : ℕ) (r : SparseRow) (place : ℕ) (list : List FreeEntry) (found times : ℤ) → IsKept n r → IsSmall (row_of n (entries_of r)) →
    list ≡ r.free.items → found ≡ entry_at list place → times ≡ found → unsigned_abs times ≤ 2 ^ 56
times_small n r place list found times kept small l is e = rw (e, is, l) (entry_small n r place kept small)

pub is_surely_within-requires : goal.is_surely_within-requires
is_surely_within-requires c =
    let fits : FitsSigned w128 c.number-by.result = search rules in
    record {
      width = c.requires.width.1;
      by = first_small c.args.columns c.args.new.now _ c.requires.new
          (passed c.number-by.result (get_or c.args.new.now 0 none).value fits c.number-by.ensures);
    }

pub are_parallel-requires-clause-first : goal.are_parallel-requires-clause-first
are_parallel-requires-clause-first c =
    subst (AllByRecursion (λ (e : FreeEntry). unsigned_abs e.value ≤ 2 ^ 56)) (sym c.deref-then-is_surely_within.ensures.value)
    (small_values c.args.columns (entries_of c.args.row.now) c.requires.kept.listed (within_more c.args.width _ _ c.requires.width.1 c.requires.within)).1

pub are_parallel-requires-clause-times : goal.are_parallel-requires-clause-times
are_parallel-requires-clause-times c =
    let times : FitsSigned w128 c.value_at-times.result = search rules in
    times_small c.args.columns c.args.row.now _ c.deref.result.now c.value_at-times.result _ c.requires.kept
    (within_more c.args.width _ _ c.requires.width.1 c.requires.within) c.deref.ensures.value
    c.value_at-times.ensures
    (to_z-of_z w128 c.value_at-times.result times)

pub are_parallel-requires-clause-second : goal.are_parallel-requires-clause-second
are_parallel-requires-clause-second c = small_values c.args.columns c.args.new.now c.requires.new.listed c.requires.new.small

pub returns-then-is_surely_within-clause-cleared : goal.returns-then-is_surely_within-clause-cleared
returns-then-is_surely_within-clause-cleared c =
    let by : FitsSigned w128 c.number-by.result = search rules in
    let times : FitsSigned w128 c.value_at-times.result = search rules in
    let is = to_z-of_z w128 c.value_at-times.result times in
    let list = c.deref-then-is_surely_within.ensures.value in
    let told = c.are_parallel.ensures in
    let first = to_z w128 (of_z w128 c.number-by.result) in
    let found = to_z w128 (of_z w128 c.value_at-times.result) in
    by_bounds c.args.columns c.args.row.now c.args.new.now c.requires.kept c.requires.primitive c.requires.new c.requires.zero c.args.most c.requires.most first
    (passed c.number-by.result (get_or c.args.new.now 0 none).value by c.number-by.ensures) c.args.width found c.are_parallel.result
    (is ∙ c.value_at-times.ensures ∙ ap (λ l. entry_at l (get_or c.args.new.now 0 none).place) c.deref.ensures.value)
    (λ z. c.if-times-eq0.false (ap (of_z w128) (sym is ∙ z)))
    (subst (λ (size : ℕ). unsigned_abs first * c.args.row.now.most + size * c.args.most ≤ c.args.width) c.unsigned_abs.ensures.value
    (c.is_surely_within.ensures c.if-is_surely_within.true))
    (λ yes. ap (map (scaled first)) (sym list) ∙ told.0 yes, λ same. told.1 (ap (map (scaled first)) list ∙ same))

pub returns-then-times-eq0-clause-cleared : goal.returns-then-times-eq0-clause-cleared
returns-then-times-eq0-clause-cleared c =
    let r = c.args.row.now in
    let n = c.args.columns in
    let times : FitsSigned w128 c.value_at-times.result = search rules in
    let nothing = sym c.value_at-times.ensures ∙ zero_from_bits c.value_at-times.result times c.if-times-eq0.true in (
      row_of n (entries_of r),
      cleared_as_it_is n r c.args.new.now c.requires.kept c.requires.new c.requires.zero c.requires.primitive
          (ap (λ l. entry_at l (get_or c.args.new.now 0 none).place) (sym c.deref.ensures.value) ∙ nothing),
      (
        c.requires.within,
        lone_by_length n r.free.len (record {
          place = r.pivot;
          value =
              r.head;
        }) r.free.items c.is_empty.result c.requires.kept.listed r.free.ok.0 c.is_empty.ensures,
      ),
    )

pub returns-in_err-cleared-clause-cleared : goal.returns-in_err-cleared-clause-cleared
returns-in_err-cleared-clause-cleared c = let all = c.in_err-cleared.ensures.cleared in (all.0, all.1, rw c.from_residual.ensures all.2)

pub returns-clause-cleared : goal.returns-clause-cleared
returns-clause-cleared c = let all = c.in_ok-cleared.ensures.cleared in (all.0, all.1, (all.2.0, all.2.2))
