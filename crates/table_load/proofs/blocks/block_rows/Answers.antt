use Rattle.std.proofs.Common.{sym, ap, ◌∙◌, arith}
use Rattle.audit_types.specs.Rows.{with_row}
use Rattle.table_load.proofs.WholeBlocks.{none_below, next_below, all_below}
use Rattle.table_load.proofs.blocks.block_rows.Goals as goal

pub loop-row-init : goal.loop-row-init
loop-row-init c = record { same_n = c.new-rows.ensures.n; so_far = c.new-rows.ensures.empty ∙ sym (none_below c.args.n c.args.block) }

pub loop-row-preserved : goal.loop-row-preserved
loop-row-preserved c = record {
  same_n = c.add.ensures.n ∙ c.loop-row.invariant.same_n;
  so_far = c.add.ensures.added ∙ ap (λ m. with_row m c.loop-row.rows.list c.loop-row.row) c.loop-row.invariant.same_n
      ∙ next_below c.args.n c.args.block c.loop-row.row c.loop-row.rows.list (omega arith) (omega arith) c.loop-row.invariant.so_far;
}

pub returns : goal.returns
returns c = record { n = c.loop-row.invariant.same_n; rows = c.loop-row.invariant.so_far ∙ all_below c.args.n c.args.block c.loop-row.row (omega arith) }
