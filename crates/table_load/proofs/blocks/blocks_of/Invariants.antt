use Rattle.std.proofs.Common.{◌≡◌, ℕ, ◌<◌, length}
use Rattle.std.specs.Prelude.{pos, slice_index_or}
use Rattle.audit_types.specs.Limits.{most_words}
use Rattle.audit_types.specs.Truth.{truth}
use Rattle.table_load.specs.Kept.{block_rows}
use Rattle.table_load.proofs.blocks.blocks_of.Given as goal

abbrev pub invariant-loop-block : goal.invariant-loop-block
invariant-loop-block l = record {
  one_each : length l.blocks ≡ most_words;
  done : (k : ℕ) → k < l.block → slice_index_or l.blocks k (pos 0) ≡ truth l.kind l.list (block_rows l.n k);
}
