use Rattle.std.proofs.Common.{◌≡◌, ℕ, ◌<◌, ◌≤◌, ℤ, List, ◌∷◌, length, take, get_or, sym, ap, ◌∙◌, subst, arith, rules}
use Rattle.std.specs.Prelude.{FitsSigned, unsigned_abs}
use Rattle.std.specs.Int.{w128}
use mir.Val.{to_z, of_z}
use Rattle.std.specs.List.{AllByRecursion}
use Rattle.sum_basis.specs.declared.sparse.FreeEntry.{FreeEntry}
use Rattle.sum_basis.specs.declared.sparse.SparseRow.{SparseRow}
use Rattle.sum_basis.specs.Sparse.{row_of, rows_of, IsKept, IsNew}
use Rattle.sum_basis.specs.Elimination.{AreCleared, IsZeroAtPivots, StaysSmall}
use Rattle.sum_basis.proofs.MergedNumbers.{passed}
use Rattle.sum_basis.proofs.Inserting.{all_inserted, without_first, kept_new, inserted_is_reduced}
use Rattle.sum_basis.proofs.growth.grow_rows.Goals as goal

pub clear_all-requires-clause-new : goal.clear_all-requires-clause-new
clear_all-requires-clause-new c = subst (IsNew c.args.columns) (sym c.deref.ensures.value) c.requires.new

pub clear_all-requires-clause-zero : goal.clear_all-requires-clause-zero
clear_all-requires-clause-zero c =
    subst (λ (l : List FreeEntry). IsZeroAtPivots (rows_of c.args.columns c.args.rows.now.items) (row_of c.args.columns l))
    (sym c.deref.ensures.value) c.requires.zero

pub clear_all-requires-clause-narrow : goal.clear_all-requires-clause-narrow
clear_all-requires-clause-narrow c =
    subst (λ (l : List FreeEntry). AllByRecursion (StaysSmall c.args.columns (row_of c.args.columns l)) (rows_of c.args.columns c.args.rows.now.items))
    (sym c.deref.ensures.value) c.requires.narrow

pub remove-first-requires : goal.remove-first-requires
remove-first-requires c = let some = c.requires.new.some in let len = c.args.new.ok.0 in omega arith

pub insert-requires : goal.insert-requires
insert-requires c =
    let within = c.place_of-place.ensures.within in
    let same = ap length c.deref-2.ensures.value in
    let len = c.clear_all.new.rows.ok.0 in
    omega arith

pub unwrap-requires : goal.unwrap-requires
unwrap-requires c =
    c.insert.ensures.succeeds (let len = c.clear_all.ensures.len in let cap = c.clear_all.ensures.capacity in let space = c.requires.space in omega arith)

-- the new row as it is kept
entries_are : (entries rest : List FreeEntry) (first : FreeEntry) (value : ℤ) → value ≡ first.value → entries ≡ first ∷ rest →
    entries ≡ record { place = first.place; value = value } ∷ rest
entries_are entries rest first value e is = is ∙ ap (λ (v : ℤ). record { place = first.place; value = v } ∷ rest) (sym e)

-- no entry of it is above its bound
bounded : (place : ℕ) (value : ℤ) (rest list : List FreeEntry) (most : ℕ) → unsigned_abs value ≤ most → list ≡ rest
    → AllByRecursion (λ (e : FreeEntry). unsigned_abs e.value ≤ most) list
    → AllByRecursion (λ (e : FreeEntry). unsigned_abs e.value ≤ most) (record { place = place; value = value } ∷ rest)
bounded place value rest list most head same all = (head, subst (AllByRecursion (λ (e : FreeEntry). unsigned_abs e.value ≤ most)) same all)

pub returns-clause-kept : goal.returns-clause-kept
returns-clause-kept c =
    let fits : FitsSigned w128 c.number-head.result = search rules in
    let r : SparseRow = record {
      pivot = c.remove-first.result.place;
      head = to_z w128 (of_z w128 c.number-head.result);
      most = c.bound_of-most.result;
      free = c.remove-first.new.self;
    } in
    let items = rw c.unwrap.ensures at c.insert.ensures.items in
    let split = without_first c.args.new.items c.remove-first.result c.remove-first.new.self.items c.requires.new.some c.remove-first.ensures.value
    c.remove-first.ensures.items in
    let is = entries_are c.args.new.items c.remove-first.new.self.items c.remove-first.result _
    (passed c.number-head.result c.remove-first.result.value fits c.number-head.ensures) split.is in
    let room : c.args.columns ≤ c.remove-first.new.self.cap = let cap = c.remove-first.ensures.capacity in let most = c.requires.new_room in omega arith in
    subst (AllByRecursion (IsKept c.args.columns)) (sym items)
    (all_inserted (IsKept c.args.columns) c.clear_all.new.rows.items c.place_of-place.result r c.clear_all.ensures.kept
    (kept_new c.args.columns c.args.new.items r c.requires.new is
    (bounded c.remove-first.result.place (to_z w128 (of_z w128 c.number-head.result)) c.remove-first.new.self.items c.deref-3.result.now
    c.bound_of-most.result c.bound_of-most.ensures.head
    c.deref-3.ensures.value c.bound_of-most.ensures.values) room))

pub returns-clause-reduced : goal.returns-clause-reduced
returns-clause-reduced c =
    let fits : FitsSigned w128 c.number-head.result = search rules in
    let r : SparseRow = record {
      pivot = c.remove-first.result.place;
      head = to_z w128 (of_z w128 c.number-head.result);
      most = c.bound_of-most.result;
      free = c.remove-first.new.self;
    } in
    let items = rw c.unwrap.ensures at c.insert.ensures.items in
    let split = without_first c.args.new.items c.remove-first.result c.remove-first.new.self.items c.requires.new.some c.remove-first.ensures.value
    c.remove-first.ensures.items in
    let is = entries_are c.args.new.items c.remove-first.new.self.items c.remove-first.result _
    (passed c.number-head.result c.remove-first.result.value fits c.number-head.ensures) split.is in
    let room : c.args.columns ≤ c.remove-first.new.self.cap = let cap = c.remove-first.ensures.capacity in let most = c.requires.new_room in omega arith in
    let kept = kept_new c.args.columns c.args.new.items r c.requires.new is
    (bounded c.remove-first.result.place (to_z w128 (of_z w128 c.number-head.result)) c.remove-first.new.self.items c.deref-3.result.now
    c.bound_of-most.result c.bound_of-most.ensures.head
    c.deref-3.ensures.value c.bound_of-most.ensures.values) room in
    rw items
    (inserted_is_reduced c.args.columns c.args.rows.now.items c.clear_all.new.rows.items c.args.new.items r c.place_of-place.result c.requires.form
    c.requires.new c.requires.zero c.clear_all.ensures.kept
    (subst (λ (l : List FreeEntry). AreCleared c.args.columns (row_of c.args.columns l) (rows_of c.args.columns c.args.rows.now.items)
    (rows_of c.args.columns c.clear_all.new.rows.items)) c.deref.ensures.value c.clear_all.ensures.cleared)
    is kept
    (subst (λ (l : List SparseRow). AllByRecursion (λ x. x.pivot ≤ c.remove-first.result.place)
    (take c.place_of-place.result l)) c.deref-2.ensures.value c.place_of-place.ensures.before)
    (subst (λ (l : List SparseRow). (d : SparseRow) → c.place_of-place.result < length l →
    c.remove-first.result.place < (get_or l c.place_of-place.result d).pivot) c.deref-2.ensures.value c.place_of-place.ensures.after))
