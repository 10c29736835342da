use Rattle.std.proofs.Common.{ltb, rules}
use Rattle.std.proofs.lemmas.Bool.{ltb-true, ltb-false}
use Rattle.std.proofs.lemmas.List.Sorted.{IsPartitionPoint-from_clause, IsPartitionedBy-ltb}
use Rattle.arrivals.proofs.amounts.first_from.Goals as goal

pub returns-clause-split : goal.returns-clause-split
returns-clause-split c =
    let parted = IsPartitionedBy-ltb (λ row. row.second) _ c.args.second c.requires in
    let point = IsPartitionPoint-from_clause (λ row. ltb row.second c.args.second) _ _ c.partition_point.ensures.partitioned parted (λ a r q k. search rules) in
    ((λ k d from before. ltb-true _ _ (point.0 k d from before)), (λ k d from before. ltb-false _ _ (point.1 k d from before)))
