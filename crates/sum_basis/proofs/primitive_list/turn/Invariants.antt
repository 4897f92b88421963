use Rattle.std.proofs.Common.{◌≡◌, length, pos}
use Rattle.std.specs.Prelude.{neg_ℤ}
use Rattle.std.specs.Vec.{vec_capacity}
use Rattle.sum_basis.proofs.ListContents.{IsPartlyScaled}
use Rattle.sum_basis.proofs.primitive_list.turn.Given as goal

abbrev pub invariant-loop-k : goal.invariant-loop-k
invariant-loop-k l = record {
  scaled : IsPartlyScaled l.initial.entries.items l.entries.items (neg_ℤ (pos 1)) l.k;
  length : length l.entries.items ≡ length l.initial.entries.items;
  capacity : vec_capacity l.entries ≡ vec_capacity l.initial.entries;
}
