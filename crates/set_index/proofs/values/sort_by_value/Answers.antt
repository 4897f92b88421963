use Rattle.std.proofs.Common.{◌≡◌, rules}
use Rattle.std.proofs.lemmas.Fn.{always_returns_same}
use Rattle.std.specs.Ordering.{is_lt}
use Rattle.table_load.specs.Kept.{cells_kept}
use Rattle.set_index.specs.Ordered.{compare_cells}
use Rattle.set_index.proofs.Searching.{column_total, is_an_order_of_values, stably_sorted}
use Rattle.set_index.proofs.values.sort_by_value.Goals as goal

pub returns-clause-ascending : goal.returns-clause-ascending
returns-clause-ascending c =
    let cells = cells_kept c.args.column.now in
    let total = column_total cells in
    stably_sorted total (λ r. r) c.args.rows.now c.sort_by.new.self c.requires.by_row
    (c.in_ok-sort_by.ensures.sorted (λ r s. is_lt (compare_cells cells r s)) (is_an_order_of_values total (λ r. r))
    (always_returns_same _ (λ a r. is_lt r ≡ is_lt (compare_cells cells a.0.now a.1.0.now)) _ (λ a r q k. search rules)))
    (c.in_ok-sort_by.ensures.stable (λ r s. is_lt (compare_cells cells r s)) (is_an_order_of_values total (λ r. r))
    (always_returns_same _ (λ a r. is_lt r ≡ is_lt (compare_cells cells a.0.now a.1.0.now)) _ (λ a r q k. search rules)))
