use Rattle.std.proofs.Common.{ltb, rules}
use Rattle.std.proofs.lemmas.Bool.{ltb-true, ltb-false}
use Rattle.std.proofs.lemmas.List.Sorted.{IsPartitionPoint-from_clause, IsPartitionedBy-ltb}
use Rattle.arrivals.proofs.SecondLaws.{from-link, links-rise}
use Rattle.arrivals.proofs.amounts.first_of_link.Goals as goal

pub returns-clause-rising : goal.returns-clause-rising
returns-clause-rising c =
    let parted = IsPartitionedBy-ltb (λ row. row.link) _ c.args.link (links-rise c.args.rows.now 0 c.requires) in
    let point = IsPartitionPoint-from_clause (λ row. ltb row.link c.args.link) _ _ c.partition_point.ensures.partitioned parted (λ a r q k. search rules) in
    (from-link c.args.rows.now 0 c.args.link c.partition_point.result c.requires (λ k d from before. ltb-true _ _ (point.0 k d from before)) (λ k d from before. ltb-false _ _ (point.1 k d from before)) c.partition_point.ensures.bound).0

pub returns-clause-amount : goal.returns-clause-amount
returns-clause-amount c =
    let parted = IsPartitionedBy-ltb (λ row. row.link) _ c.args.link (links-rise c.args.rows.now 0 c.requires) in
    let point = IsPartitionPoint-from_clause (λ row. ltb row.link c.args.link) _ _ c.partition_point.ensures.partitioned parted (λ a r q k. search rules) in
    (from-link c.args.rows.now 0 c.args.link c.partition_point.result c.requires (λ k d from before. ltb-true _ _ (point.0 k d from before)) (λ k d from before. ltb-false _ _ (point.1 k d from before)) c.partition_point.ensures.bound).1
