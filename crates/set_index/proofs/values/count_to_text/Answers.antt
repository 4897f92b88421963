use Rattle.std.proofs.Common.{[], map, rules, slice_index_or}
use Rattle.std.proofs.lemmas.Cmp.{nat_list_cmp_total}
use Rattle.std.proofs.lemmas.List.Sorted.{IsPartitionPoint-from_clause}
use Rattle.std.specs.Cmp.Lexicographic.{slice_cmp}
use Rattle.std.specs.Ordering.{nat_cmp}
use Rattle.set_index.specs.Ends.{is_passed}
use Rattle.set_index.proofs.Searching.{passed_first}
use Rattle.set_index.proofs.values.count_to_text.Goals as goal

pub returns-clause-point : goal.returns-clause-point
returns-clause-point c =
    IsPartitionPoint-from_clause
    (λ r. is_passed c.args.end (slice_cmp nat_cmp (slice_index_or (map (λ t. t.items) c.args.list.now) r []) c.args.text.now)) _ _
    c.partition_point.ensures.partitioned
    (passed_first nat_list_cmp_total (λ r. slice_index_or (map (λ t. t.items) c.args.list.now) r []) c.args.end c.args.text.now c.args.rows.now c.requires)
    (λ a r q k. search rules)
