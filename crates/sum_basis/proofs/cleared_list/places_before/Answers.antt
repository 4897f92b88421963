use Rattle.std.proofs.Common.{ltb, rules}
use Rattle.std.proofs.lemmas.Bool.{ltb-true, ltb-false}
use Rattle.std.proofs.lemmas.List.Sorted.{IsPartitionPoint-from_clause, IsPartitionedBy-ltb}
use Rattle.sum_basis.specs.declared.sparse.FreeEntry.{FreeEntry}
use Rattle.sum_basis.proofs.SparseRows.{places_rise}
use Rattle.sum_basis.proofs.cleared_list.places_before.Goals as goal

pub returns-clause-parted : goal.returns-clause-parted
returns-clause-parted c =
    let parted = IsPartitionedBy-ltb (λ (e : FreeEntry). e.place) c.args.entries.now c.args.column (places_rise 0 65536 c.args.entries.now c.requires) in
    let point = IsPartitionPoint-from_clause (λ (e : FreeEntry). ltb e.place c.args.column) _ _ c.partition_point.ensures.partitioned parted
    (λ a r q k. search rules) in
    (λ k d low h. ltb-true _ _ (point.0 k d low h), λ k d low h. ltb-false _ _ (point.1 k d low h))
