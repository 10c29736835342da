use Rattle.std.proofs.Common.{ltb, ltb-true, ltb-false, rules, tests, arith}
use Rattle.std.proofs.lemmas.List.Sorted.{IsPartitionPoint-from_clause, IsPartitionedBy-ltb}
use Rattle.control_flow.specs.Greens.{no_green}
use Rattle.control_flow.specs.declared.greens.Green.{Green}
use Rattle.control_flow.proofs.OrderLaws.{begins-rise, rows_before-place}
use Rattle.control_flow.proofs.splicing.count_before.Goals as goal

pub returns-clause-value : goal.returns-clause-value
returns-clause-value c =
    let rows = c.args.rows.now in
    let second = c.args.second in
    let point = IsPartitionPoint-from_clause (λ (row : Green). ltb row.from second) rows c.partition_point.result c.partition_point.ensures.partitioned
    (IsPartitionedBy-ltb (λ (row : Green). row.from) rows second (begins-rise rows c.requires)) (λ a r f k. search (rules, tests)) in
    rows_before-place rows second c.partition_point.result
    (λ k h. ltb-true _ second (point.0 k no_green (omega arith) h))
    (λ h. ltb-false _ second (point.1 c.partition_point.result no_green (omega arith) h))
