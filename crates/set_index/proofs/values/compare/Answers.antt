use Rattle.std.proofs.Common.{◌≡◌, int_cmp, of_z, pos, rules, slice_index_or, to_z, w64, ap, sym, ◌∙◌}
use Rattle.table_load.specs.Kept.{cells_kept}
use Rattle.set_index.specs.Ordered.{compare_cells}
use Rattle.set_index.proofs.values.compare.Goals as goal

pub returns-in-Numbers : goal.returns-in-Numbers
returns-in-Numbers c =
    let list = c.in-Numbers.list.items in
    let one : to_z w64 (of_z w64 c.number_at.result) ≡ c.number_at.result = search rules in
    let two : to_z w64 (of_z w64 c.number_at-in-Numbers.result) ≡ c.number_at-in-Numbers.result = search rules in
    let first = c.number_at.ensures ∙ ap (λ l. slice_index_or l c.args.row (pos 0)) c.deref.ensures.value in
    let second = c.number_at-in-Numbers.ensures ∙ ap (λ l. slice_index_or l c.args.other (pos 0)) c.deref-in-Numbers.ensures.value in
    c.cmp.ensures
    ∙ ap (λ n. int_cmp n (to_z w64 (of_z w64 c.number_at-in-Numbers.result))) (one ∙ first)
    ∙ ap (int_cmp (slice_index_or list c.args.row (pos 0))) (two ∙ second)
    ∙ sym (ap (λ column. compare_cells (cells_kept column) c.args.row c.args.other) c.in-Numbers.is)
