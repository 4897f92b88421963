use Rattle.std.proofs.Common.{◌≡◌, ◌<◌, Bool, false, List, [], ◌∷◌, length, map, get_or, sym, ap, ◌∙◌, arith, rules}
use Rattle.std.specs.Prelude.{FitsSigned, nat_eq}
use Rattle.std.specs.Int.{w128}
use mir.Val.{to_z, of_z}
use Rattle.std.proofs.lemmas.Bool.{true≢false, false≢true, eqb-true}
use Rattle.sum_basis.specs.Sparse.{scaled}
use Rattle.sum_basis.specs.declared.sparse.FreeEntry.{FreeEntry}
use Rattle.sum_basis.proofs.MergedNumbers.{passed}
use Rattle.sum_basis.proofs.ListContents.{none, value_small}
use Rattle.sum_basis.proofs.SmallEntries.{free_small}
use Rattle.sum_basis.proofs.SparseRows.{small_values}
use Rattle.sum_basis.proofs.BoundedRows.{first_small}
use Rattle.sum_basis.proofs.OwnRows.{not_alone}
use Rattle.sum_basis.proofs.OwnUnits.{spans_pivot}
use Rattle.sum_basis.proofs.AloneRows.{spans_if_parallel, parallel_if_spans}
use Rattle.sum_basis.proofs.alone.is_cleared_alone.Goals as goal

pub returns-then-is_empty-clause-some : goal.returns-then-is_empty-clause-some
returns-then-is_empty-clause-some c = λ yes. absurd (false≢true yes)

pub returns-then-is_empty-clause-none : goal.returns-then-is_empty-clause-none
returns-then-is_empty-clause-none c = λ not_so after.
    (spans_pivot c.args.form.now c.requires.form c.args.k c.free-free.result.now c.requires.k c.free-free.ensures
    (eqb-true (length c.free-free.result.now) 0 (sym c.is_empty.ensures ∙ c.if-is_empty.true))).1

-- a list that isn't empty
some_entry : (entries : List FreeEntry) (b : Bool) → b ≡ nat_eq (length entries) 0 → b ≡ false → 0 < length entries
some_entry [] b is empty = absurd (true≢false (sym is ∙ empty))
some_entry (e ∷ entries) b is empty = omega arith

pub bounds-list-0 : goal.bounds-list-0
bounds-list-0 c = c.requires.left.0.some

pub are_parallel-requires-clause-by : goal.are_parallel-requires-clause-by
are_parallel-requires-clause-by c =
    let fits : FitsSigned w128 c.number.result = search rules in
    first_small c.args.form.now.n c.args.list.now _ c.requires.left.0 (passed c.number.result (get_or c.args.list.now 0 none).value fits c.number.ensures)

pub are_parallel-requires-clause-first : goal.are_parallel-requires-clause-first
are_parallel-requires-clause-first c =
    (free_small c.args.form.now c.args.k c.free-free.result.now c.requires.form c.requires.k c.free-free.ensures).1

pub are_parallel-requires-clause-times : goal.are_parallel-requires-clause-times
are_parallel-requires-clause-times c =
    let entries = c.free-free.result.now in
    let some = some_entry entries c.is_empty.result c.is_empty.ensures c.if-is_empty.false in
    let fits : FitsSigned w128 c.number-2.result = search rules in
    rw (passed c.number-2.result (get_or entries 0 none).value fits c.number-2.ensures)
    (value_small entries 0 some (free_small c.args.form.now c.args.k entries c.requires.form c.requires.k c.free-free.ensures).1)

pub are_parallel-requires-clause-second : goal.are_parallel-requires-clause-second
are_parallel-requires-clause-second c = small_values c.args.form.now.n c.args.list.now c.requires.left.0.listed c.requires.left.0.small

pub returns-clause-some : goal.returns-clause-some
returns-clause-some c = λ yes.
    let form = c.args.form.now in
    let list = c.args.list.now in
    let entries = c.free-free.result.now in
    let some = some_entry entries c.is_empty.result c.is_empty.ensures c.if-is_empty.false in
    let fits : FitsSigned w128 c.number.result = search rules in
    let by_is = passed c.number.result (get_or list 0 none).value fits c.number.ensures in
    let times = to_z w128 (of_z w128 c.number-2.result) in (
      spans_if_parallel form c.requires.form c.args.k c.requires.k list c.requires.left entries c.free-free.ensures times
          (sym (ap (λ z. map (scaled z) entries) by_is) ∙ c.are_parallel.ensures.0 yes),
      not_alone form c.requires.form c.args.k c.requires.k entries c.free-free.ensures (λ none_there. omega (arith, some, none_there)),
    )

pub returns-clause-none : goal.returns-clause-none
returns-clause-none c = λ not_so after.
    let form = c.args.form.now in
    let list = c.args.list.now in
    let entries = c.free-free.result.now in
    let some = some_entry entries c.is_empty.result c.is_empty.ensures c.if-is_empty.false in
    let list_fits : FitsSigned w128 c.number.result = search rules in
    let free_fits : FitsSigned w128 c.number-2.result = search rules in
    absurd (not_so (c.are_parallel.ensures.1 (ap (λ z. map (scaled z) entries) (passed c.number.result (get_or list 0 none).value list_fits c.number.ensures)
    ∙ parallel_if_spans form c.requires.form c.args.k c.requires.k list c.requires.left entries c.free-free.ensures after some
    ∙ ap (λ z. map (scaled z) list) (sym (passed c.number-2.result (get_or entries 0 none).value free_fits c.number-2.ensures)))))
