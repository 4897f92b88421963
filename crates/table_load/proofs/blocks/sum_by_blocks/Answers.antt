use Rattle.std.proofs.Common.{cond, ◌≡◌, ◌≤◌, ◌+◌, ◌*◌, ◌^◌, ap, ◌∙◌, arith, get_or, to_z}
use Rattle.std.specs.Prelude.{pos, unsigned_abs, ◌+ℤ◌}
use Rattle.std.specs.Int.{w64}
use Rattle.std.proofs.lemmas.Int.{ints}
use Rattle.audit_types.specs.Limits.{most_answer}
use Rattle.audit_types.specs.Truth.{sum_over}
use Rattle.table_load.proofs.WholeBlocks.{block_within, block_small, rows_small, rows_left, sum_step, are_left}
use Rattle.table_load.proofs.blocks.sum_by_blocks.Goals as goal
use Rattle.table_load.proofs.blocks.sum_by_blocks.Goals.{then-take_block, else-take_block}

pub overflow_add-sum : goal.overflow_add-sum
overflow_add-sum c =
    let n = c.args.rows.now.n in
    let whole = c.take_block.ensures.whole.0 c.if-take_block.true in
    let within : 64 * c.loop-block.block + 64 ≤ c.args.rows.now.n =
    block_within c.args.rows.now.n c.loop-block.left.list c.loop-block.block c.loop-block.invariant.are whole in
    let small : unsigned_abs (get_or c.args.blocks.now c.loop-block.block (pos 0)) ≤ most_answer =
    block_small c.args.rows.now.n c.args.list.now c.args.blocks.now c.loop-block.block c.n-n.ensures.at_most c.requires.numbers c.requires.blocks within in
    omega (arith, ints)

pub loop-block-preserved : goal.loop-block-preserved
loop-block-preserved c =
    let n = c.take_block.ensures.n ∙ c.loop-block.invariant.same_n in
    let left = c.take_block.ensures.left ∙ ap (λ m. cond c.take_block.result
    (rows_left m c.loop-block.left.list c.loop-block.block) c.loop-block.left.list) c.loop-block.invariant.same_n in
    let are = are_left c.args.rows.now.n c.loop-block.left.list c.take_block.new.self.list c.loop-block.block c.take_block.result c.loop-block.invariant.are
    left in
    elim c.if-take_block.branch [
      | then-take_block w ↦
          let whole = c.take_block.ensures.whole.0 w.if-take_block.true in
          let within : 64 * c.loop-block.block + 64 ≤ c.args.rows.now.n =
          block_within c.args.rows.now.n c.loop-block.left.list c.loop-block.block c.loop-block.invariant.are whole in
          let small : unsigned_abs (get_or c.args.blocks.now c.loop-block.block (pos 0)) ≤ most_answer =
          block_small c.args.rows.now.n c.args.list.now c.args.blocks.now c.loop-block.block c.n-n.ensures.at_most c.requires.numbers c.requires.blocks
          within in
          let was = c.loop-block.invariant.small in
          let step = sum_step c.args.rows.now.n c.args.list.now c.loop-block.left.list c.take_block.new.self.list c.loop-block.block
          (get_or c.args.blocks.now c.loop-block.block (pos 0))
          c.loop-block.invariant.are whole
          (left ∙ ap (λ b. cond b (rows_left c.args.rows.now.n c.loop-block.left.list c.loop-block.block) c.loop-block.left.list) w.if-take_block.true)
          (to_z w64 c.loop-block.sum-bits) (c.requires.blocks c.loop-block.block within) in
          let total = c.loop-block.invariant.total in
          record { same_n = n; are = are; total = omega (arith, ints, step, total, small, was); small = omega (arith, ints, small, was) }
      | else-take_block w ↦
          let kept : c.take_block.new.self.list ≡ c.loop-block.left.list = left
          ∙ ap (λ b. cond b (rows_left c.args.rows.now.n c.loop-block.left.list c.loop-block.block) c.loop-block.left.list) w.if-take_block.false in
          let was = c.loop-block.invariant.small in
          record {
            same_n = n;
            are = are;
            total =
                ap (λ z. z +ℤ sum_over c.args.list.now c.take_block.new.self.list) w.sum-is
                ∙ ap (λ l. to_z w64 c.loop-block.sum-bits +ℤ sum_over c.args.list.now l) kept ∙ c.loop-block.invariant.total;
            small = omega (arith, ints, was);
          }
    ]

pub overflow_add-result : goal.overflow_add-result
overflow_add-result c =
    let small : unsigned_abs (sum_over c.args.list.now c.loop-block.left.list) ≤ most_answer =
    rows_small c.args.rows.now.n c.args.list.now c.loop-block.left.list c.n-n.ensures.at_most c.requires.numbers c.loop-block.invariant.are in
    let is = c.sum_over.ensures in
    omega (arith, ints)

pub returns : goal.returns
returns c =
    let small : unsigned_abs (sum_over c.args.list.now c.loop-block.left.list) ≤ most_answer =
    rows_small c.args.rows.now.n c.args.list.now c.loop-block.left.list c.n-n.ensures.at_most c.requires.numbers c.loop-block.invariant.are in
    let is = c.sum_over.ensures in
    let total = c.loop-block.invariant.total in
    omega (arith, ints)
