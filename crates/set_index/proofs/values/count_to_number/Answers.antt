use Rattle.std.proofs.Common.{pos, rules, slice_index_or}
use Rattle.std.proofs.lemmas.Cmp.{int_cmp_total}
use Rattle.std.proofs.lemmas.List.Sorted.{IsPartitionPoint-from_clause}
use Rattle.std.specs.Ordering.{int_cmp}
use Rattle.set_index.specs.Ends.{is_passed}
use Rattle.set_index.proofs.Searching.{passed_first}
use Rattle.set_index.proofs.values.count_to_number.Goals as goal

pub returns-clause-point : goal.returns-clause-point
returns-clause-point c =
    IsPartitionPoint-from_clause
    (λ r. is_passed c.args.end (int_cmp (slice_index_or c.args.list.now r (pos 0)) c.args.number)) _ _ c.partition_point.ensures.partitioned
    (passed_first int_cmp_total (λ r. slice_index_or c.args.list.now r (pos 0)) c.args.end c.args.number c.args.rows.now c.requires)
    (λ a r q k. search rules)
