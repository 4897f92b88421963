use Rattle.std.proofs.Common.{◌≡◌, pos}
use Rattle.audit_types.specs.Truth.{number_at}
use Rattle.audit_types.specs.Form.{IsPrimitive, pivot}
use Rattle.sum_basis.specs.Basis.{Echelon}
use Rattle.sum_basis.specs.Elimination.{IsWithin}
use Rattle.sum_basis.specs.Sparse.{row_of, rows_of, IsKept}
use Rattle.sum_basis.proofs.KeptRows.{of_row, of_whole_row, nothing_at, cleared_at, row_within}
use Rattle.sum_basis.proofs.ClearingFirst.{too_large}
use Rattle.sum_basis.proofs.WideForms.{row_too_large}
use Rattle.sum_basis.proofs.looking.widest_is_too_large.Goals as goal

pub clear_aside-requires-clause-primitive : goal.clear_aside-requires-clause-primitive
clear_aside-requires-clause-primitive c =
    of_whole_row (IsPrimitive c.args.columns) c.args.columns c.args.rows.now c.widest-k.result c.index-rows-k.result c.if-k-rows.false c.index-rows-k.is
    c.requires.form.primitive

pub clear_aside-requires-clause-within : goal.clear_aside-requires-clause-within
clear_aside-requires-clause-within c =
    of_whole_row (IsWithin c.args.width) c.args.columns c.args.rows.now c.widest-k.result c.index-rows-k.result c.if-k-rows.false c.index-rows-k.is
    c.requires.form.entries

pub clear_aside-requires-clause-zero : goal.clear_aside-requires-clause-zero
clear_aside-requires-clause-zero c =
    let kept = of_row (IsKept c.args.columns) c.args.rows.now c.widest-k.result c.index-rows-k.result c.if-k-rows.false c.index-rows-k.is c.requires.kept in
    nothing_at c.args.columns c.index-rows-k.result c.args.new.now kept c.requires.new
    (of_whole_row (λ other. number_at (row_of c.args.columns c.args.new.now) (pivot other) ≡ pos 0) c.args.columns c.args.rows.now c.widest-k.result
    c.index-rows-k.result c.if-k-rows.false c.index-rows-k.is c.requires.zero)

pub returns-in-None-clause-wide : goal.returns-in-None-clause-wide
returns-in-None-clause-wide c = λ yes.
    let n = c.args.columns in
    let rows = c.args.rows.now in
    let new = row_of n c.args.new.now in
    let form : Echelon = record { n = n; width = c.args.width; rows = rows_of n rows } in
    let all = rw c.in-None.is at c.clear_aside.ensures.cleared in
    row_too_large form new c.requires.form c.requires.new.primitive c.requires.zero
    (too_large n c.args.width new (rows_of n rows) c.widest-k.result all.0 (row_within n rows c.widest-k.result c.if-k-rows.false) c.requires.new.primitive
    c.requires.form.primitive c.requires.zero
    (cleared_at n new rows c.widest-k.result c.index-rows-k.result all.0 c.if-k-rows.false c.index-rows-k.is all.1) all.2)
