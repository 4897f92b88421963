use Rattle.std.proofs.Common.{◌≡◌, ◌<◌, sym, ap, ◌∙◌, arith, length, length-set, get_or-set_same, get_or-set_other, rules, SFits, to_z, of_z, inl, inr}
use Rattle.std.specs.Prelude.{pos}
use Rattle.std.specs.Int.{w64}
use Rattle.std.proofs.lemmas.Int.{to_z-of_z}
use Rattle.std.proofs.lemmas.Bool.{cases_eq}
use Rattle.audit_types.specs.Truth.{truth}
use Rattle.table_load.specs.Kept.{block_rows}
use Rattle.table_load.proofs.WholeBlocks.{some_row}
use Rattle.table_load.proofs.blocks.blocks_of.Goals as goal

pub truth_over-requires-clause-some : goal.truth_over-requires-clause-some
truth_over-requires-clause-some c = λ none. some_row c.args.n c.loop-block.block (omega arith) (sym c.block_rows.ensures.rows ∙ none)

pub loop-block-preserved : goal.loop-block-preserved
loop-block-preserved c =
    let within : c.loop-block.block < length c.loop-block.blocks = omega (arith, c.loop-block.invariant.one_each) in
    let fits : SFits w64 c.truth_over.result = search rules in
    let value : to_z w64 (of_z w64 c.truth_over.result) ≡ truth c.args.kind c.args.list.now (block_rows c.args.n c.loop-block.block) =
    to_z-of_z w64 c.truth_over.result fits ∙ c.truth_over.ensures ∙ ap (truth c.args.kind c.args.list.now) c.block_rows.ensures.rows in
    record {
      one_each = length-set c.loop-block.blocks c.loop-block.block _ ∙ c.loop-block.invariant.one_each;
      done = λ k below. elim (cases_eq k c.loop-block.block) [
        | inl here ↦ rw here (get_or-set_same c.loop-block.blocks c.loop-block.block _ (pos 0) within ∙ value)
        | inr other ↦ get_or-set_other c.loop-block.blocks c.loop-block.block k _ (pos 0) other ∙ c.loop-block.invariant.done k (omega arith)
      ];
    }
