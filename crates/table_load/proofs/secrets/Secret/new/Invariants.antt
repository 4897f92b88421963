use Rattle.std.proofs.Common.{◌≡◌, ℕ, ◌<◌, length, map, get_or, []}
use Rattle.audit_types.specs.Shapes.{kind_at}
use Rattle.table_load.specs.Kept.{AreBlocks}
use Rattle.table_load.proofs.secrets.Secret.new.Given as goal

-- the columns so far have their blocks
abbrev pub invariant-loop-column : goal.invariant-loop-column
invariant-loop-column l = record {
  eight : length l.blocks ≡ 8;
  done : (k : ℕ) → k < l.column → AreBlocks (kind_at l.shape k) l.shape.rows (get_or (map (λ v. v.items) l.fn.lists.items) k []) (get_or l.blocks k []);
}
