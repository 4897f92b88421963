use Rattle.std.proofs.Common.{cond, map, rules, SFits, ◌≡◌, ◌≤◌, ◌+◌, ◌*◌, refl, ap, ◌∙◌, get_or, to_z, of_z}
use Rattle.std.specs.Prelude.{pos}
use Rattle.std.specs.Int.{w64}
use Rattle.std.proofs.lemmas.Int.{to_z-of_z}
use Rattle.std.specs.Int.{int_max}
use Rattle.std.specs.List.{fold}
use Rattle.audit_types.specs.Truth.{number_at}
use Rattle.table_load.proofs.WholeBlocks.{block_within, rows_left, greatest_step, greatest_from_least, are_left}
use Rattle.table_load.proofs.blocks.greatest_by_blocks.Goals as goal
use Rattle.table_load.proofs.blocks.greatest_by_blocks.Goals.{then-take_block, else-take_block}

pub loop-block-preserved : goal.loop-block-preserved
loop-block-preserved c =
    let n = c.take_block.ensures.n ∙ c.loop-block.invariant.same_n in
    let left = c.take_block.ensures.left ∙ ap (λ m. cond c.take_block.result
    (rows_left m c.loop-block.left.list c.loop-block.block) c.loop-block.left.list) c.loop-block.invariant.same_n in
    let are = are_left c.args.rows.now.n c.loop-block.left.list c.take_block.new.self.list c.loop-block.block c.take_block.result c.loop-block.invariant.are
    left in
    elim c.if-take_block.branch [
      | then-take_block w ↦
          let whole = c.take_block.ensures.whole.0 w.if-take_block.true in
          let within : 64 * c.loop-block.block + 64 ≤ c.args.rows.now.n =
          block_within c.args.rows.now.n c.loop-block.left.list c.loop-block.block c.loop-block.invariant.are whole in
          let fits : SFits w64 (get_or c.args.blocks.now c.loop-block.block (pos 0)) = search rules in
          let value : to_z w64 (of_z w64 (get_or c.args.blocks.now c.loop-block.block (pos 0))) ≡ get_or c.args.blocks.now c.loop-block.block (pos 0) =
          to_z-of_z w64 (get_or c.args.blocks.now c.loop-block.block (pos 0)) fits in
          let most : SFits w64 w.max-greatest.result = search rules in
          let greatest : to_z w64 c.if-take_block.greatest-bits ≡ int_max (to_z w64 c.loop-block.greatest-bits)
          (get_or c.args.blocks.now c.loop-block.block (pos 0)) =
          w.greatest-is ∙ to_z-of_z w64 w.max-greatest.result most ∙ w.max-greatest.ensures.value ∙ ap (int_max (to_z w64 c.loop-block.greatest-bits)) value in
          record {
            same_n = n;
            are = are;
            greatest = ap (λ z. fold int_max z (map (number_at c.args.list.now) c.take_block.new.self.list)) greatest
                ∙ greatest_step c.args.rows.now.n c.args.list.now c.loop-block.left.list c.take_block.new.self.list c.loop-block.block
                (get_or c.args.blocks.now c.loop-block.block (pos 0))
                c.loop-block.invariant.are whole
                (left ∙ ap (λ b. cond b (rows_left c.args.rows.now.n c.loop-block.left.list c.loop-block.block) c.loop-block.left.list) w.if-take_block.true)
                (to_z w64 c.loop-block.greatest-bits) (c.requires.blocks c.loop-block.block within)
                ∙ c.loop-block.invariant.greatest;
          }
      | else-take_block w ↦
          let kept : c.take_block.new.self.list ≡ c.loop-block.left.list = left
          ∙ ap (λ b. cond b (rows_left c.args.rows.now.n c.loop-block.left.list c.loop-block.block) c.loop-block.left.list) w.if-take_block.false in
          record {
            same_n = n;
            are = are;
            greatest = ap (λ z. fold int_max z (map (number_at c.args.list.now) c.take_block.new.self.list)) w.greatest-is
                ∙ ap (λ l. fold int_max (to_z w64 c.loop-block.greatest-bits) (map (number_at c.args.list.now) l)) kept ∙ c.loop-block.invariant.greatest;
          }
    ]

pub loop-block-init : goal.loop-block-init
loop-block-init c = record {
  same_n = refl;
  are = c.n-n.ensures.are_rows;
  greatest = greatest_from_least c.args.rows.now.n c.args.list.now c.args.rows.now.list c.requires.numbers c.n-n.ensures.are_rows c.requires.some;
}
