use Rattle.std.proofs.Common.{ℤ, not, rules}
use Rattle.std.specs.Prelude.{int_lt}
use Rattle.std.proofs.lemmas.List.Sorted.{IsPartitionPoint-from_clause}
use Rattle.max_bounds.proofs.Descending.{values_low_last, end_of_values}
use Rattle.max_bounds.proofs.sets.end_of.Goals as goal

pub returns-clause-end : goal.returns-clause-end
returns-clause-end c =
    let parted = values_low_last c.args.least.now.items c.args.answer c.requires.descend in
    let point = IsPartitionPoint-from_clause (λ (v : ℤ). not (int_lt v c.args.answer)) _ _
    (rw c.answers.ensures at c.partition_point.ensures.partitioned) parted
    (λ a r q k. search rules) in
    end_of_values c.args.least.now.items c.args.answer c.partition_point.result point
