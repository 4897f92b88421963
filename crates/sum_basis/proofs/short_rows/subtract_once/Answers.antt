use Rattle.std.proofs.Common.{◌≤◌, pos, get_or, length, sym, ap, ◌∙◌, arith, rules}
use Rattle.std.specs.Prelude.{FitsSigned, ◌-ℤ◌, unsigned_abs}
use Rattle.std.specs.Int.{w64}
use mir.Val.{to_z, of_z}
use Rattle.std.proofs.lemmas.Int.{to_z-of_z}
use Rattle.std.proofs.lemmas.List.Elements.{All-from_recursion}
use Rattle.audit_types.specs.Products.{one-times}
use Rattle.sum_basis.specs.Limits.{most_short}
use Rattle.sum_basis.specs.declared.sparse.FreeEntry.{FreeEntry}
use Rattle.sum_basis.proofs.SparseRows.{stands_within, not_yet_taken, one_entry_taken, all_entries_taken}
use Rattle.sum_basis.proofs.ListContents.{none}
use Rattle.sum_basis.proofs.short_rows.subtract_once.Goals as goal

pub slice_copy_out-before : goal.slice_copy_out-before
slice_copy_out-before c =
    rw c.loop-e.auto.row (stands_within 0 (length c.args.row.now) c.args.entries.now c.loop-e.e-index none c.requires.listed c.loop-e-test.true).inside

pub bounds-row-place : goal.bounds-row-place
bounds-row-place c =
    rw c.loop-e.auto.row (stands_within 0 (length c.args.row.now) c.args.entries.now c.loop-e.e-index none c.requires.listed c.loop-e-test.true).inside

pub less_once-requires-clause-x : goal.less_once-requires-clause-x
less_once-requires-clause-x c =
    let e = get_or c.args.entries.now c.loop-e.e-index none in
    let fits : FitsSigned w64 (get_or c.loop-e.row e.place (pos 0)) = search rules in
    let same = not_yet_taken c.args.row.now c.loop-e.row (pos 1) (length c.args.row.now) c.args.entries.now c.loop-e.e-index none c.requires.listed
    c.loop-e-test.true c.loop-e.invariant in
    rw (to_z-of_z w64 (get_or c.loop-e.row e.place (pos 0)) fits, same) (c.requires.row e.place)

pub less_once-requires-clause-y : goal.less_once-requires-clause-y
less_once-requires-clause-y c =
    let e = get_or c.args.entries.now c.loop-e.e-index none in
    let fits : FitsSigned w64 e.value = search rules in
    rw (to_z-of_z w64 e.value fits)
    (All-from_recursion (λ (x : FreeEntry). unsigned_abs x.value ≤ most_short) c.args.entries.now c.requires.small c.loop-e.e-index none c.loop-e-test.true)

pub loop-e-preserved : goal.loop-e-preserved
loop-e-preserved c =
    let e = get_or c.args.entries.now c.loop-e.e-index none in
    let fits : FitsSigned w64 (get_or c.loop-e.row e.place (pos 0)) = search rules in
    let value : FitsSigned w64 e.value = search rules in
    let result : FitsSigned w64 c.less_once.result = search rules in
    one_entry_taken c.args.row.now c.loop-e.row (pos 1) c.args.entries.now c.loop-e.e-index none _ c.loop-e-test.true
    (rw c.loop-e.auto.row (stands_within 0 (length c.args.row.now) c.args.entries.now c.loop-e.e-index none c.requires.listed c.loop-e-test.true).inside)
    c.loop-e.invariant
    (to_z-of_z w64 c.less_once.result result ∙ c.less_once.ensures
    ∙ ap (λ z. z -ℤ to_z w64 (of_z w64 e.value)) (to_z-of_z w64 (get_or c.loop-e.row e.place (pos 0)) fits)
    ∙ ap (λ z. get_or c.loop-e.row e.place (pos 0) -ℤ z) (to_z-of_z w64 e.value value ∙ sym (one-times e.value)))

pub returns : goal.returns
returns c =
    all_entries_taken c.args.row.now c.loop-e.row (pos 1) c.args.entries.now c.loop-e.e-index c.loop-e.auto.row c.requires.listed (omega arith)
    c.loop-e.invariant
