use Rattle.std.proofs.Common.{ap, sym, ◌∙◌}
use Rattle.sum_basis.specs.Sparse.{row_of}
use Rattle.sum_basis.specs.declared.sparse.FreeEntry.{FreeEntry}
use Rattle.sum_basis.proofs.SpansWithOneMore.{first_place}
use Rattle.sum_basis.proofs.StillLeft.{kept_after}
use Rattle.sum_basis.proofs.keeping.join_list.Goals as goal

pub returns-clause-kept : goal.returns-clause-kept
returns-clause-kept c =
    let old = c.args.form.now in
    let list = c.args.new.items in
    let first = c.index.result.now in
    kept_after c.insert_list.result old c.insert_list.new.self (row_of old.n list) first.place c.forget_all.new.kept.items c.insert_list.ensures.n
    c.columns.ensures.form c.requires.new.primitive c.requires.zero
    (first_place old.n list first c.requires.new.some c.requires.new.listed ∙ ap (λ (e : FreeEntry). e.place) (sym c.index.ensures))
    c.insert_list.ensures.reduced c.insert_list.ensures.err c.forget_all.ensures.kept c.forget_all.ensures.without
