use Rattle.std.proofs.Common.{ℤ, rules}
use Rattle.std.specs.Prelude.{int_lt}
use Rattle.std.proofs.lemmas.List.Sorted.{IsPartitionPoint-from_clause}
use Rattle.max_bounds.proofs.Descending.{values_above_first, place_of_values}
use Rattle.max_bounds.proofs.sets.place_of.Goals as goal

pub returns-clause-place : goal.returns-clause-place
returns-clause-place c =
    let parted = values_above_first c.args.least.now.items c.args.answer c.requires.descend in
    let point = IsPartitionPoint-from_clause (λ (v : ℤ). int_lt c.args.answer v) _ _ (rw c.answers.ensures at c.partition_point.ensures.partitioned) parted
    (λ a r q k. search rules) in
    place_of_values c.args.least.now.items c.args.answer c.partition_point.result point
