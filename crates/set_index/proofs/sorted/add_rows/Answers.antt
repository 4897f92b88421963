use Rattle.std.proofs.Common.{◌<◌, get_or, refl, sym, ap, subst, ◌∙◌, arith, take_all}
use Rattle.audit_types.specs.Rows.{union, with_row}
use Rattle.set_index.proofs.Ranges.{added_none, added_more}
use Rattle.set_index.proofs.sorted.add_rows.Goals as goal

pub loop-row-init : goal.loop-row-init
loop-row-init c = record { n = refl; added = sym (added_none _ _ c.requires.are_rows) }

pub add-requires : goal.add-requires
add-requires c =
    subst (λ n. get_or c.args.list.now c.loop-row.row-index 0 < n) (sym c.loop-row.invariant.n) (c.requires.below c.loop-row.row-index 0 c.loop-row-test.true)

pub loop-row-preserved : goal.loop-row-preserved
loop-row-preserved c = record {
  n = c.add.ensures.n ∙ c.loop-row.invariant.n;
  added = c.add.ensures.added
      ∙ ap (λ n. with_row n c.loop-row.rows.list (get_or c.args.list.now c.loop-row.row-index 0)) c.loop-row.invariant.n
      ∙ ap (λ rows. with_row c.args.rows.now.n rows (get_or c.args.list.now c.loop-row.row-index 0)) c.loop-row.invariant.added
      ∙ added_more c.args.rows.now.n c.args.rows.now.list c.args.list.now c.loop-row.row-index
      (get_or c.args.list.now c.loop-row.row-index 0) c.loop-row-test.true refl;
}

pub returns-clause-added : goal.returns-clause-added
returns-clause-added c =
    c.loop-row.invariant.added ∙ ap (union c.args.rows.now.n c.args.rows.now.list) (take_all c.loop-row.row-index c.args.list.now (omega arith))
