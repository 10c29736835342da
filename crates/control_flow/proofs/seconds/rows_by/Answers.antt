use Rattle.std.proofs.Common.{ℕ, ◌<◌, length, leb, nat_lt, lt-ltb, le-ltb, rules, tests, arith}
use Rattle.std.proofs.lemmas.Bool.{leb-true, leb-false}
use Rattle.std.proofs.lemmas.List.Sorted.{IsPartitionPoint-from_clause, IsPartitionedBy-leb}
use Rattle.control_flow.specs.Greens.{no_green}
use Rattle.control_flow.specs.declared.greens.Green.{Green}
use Rattle.control_flow.proofs.OrderLaws.{ends-rise, find-place}
use Rattle.control_flow.proofs.seconds.rows_by.Goals as goal

pub returns : goal.returns
returns c =
    let rows = c.args.rows.now in
    let second = c.args.second in
    let point = IsPartitionPoint-from_clause (λ (row : Green). leb row.to second) rows c.partition_point.result c.partition_point.ensures.partitioned
    (IsPartitionedBy-leb (λ (row : Green). row.to) rows second (ends-rise rows c.requires)) (λ a r f k. search (rules, tests)) in
    let ended = λ (k : ℕ) (h : k < c.partition_point.result). leb-true _ second (point.0 k no_green (omega arith) h) in
    let next = λ (h : c.partition_point.result < length rows). leb-false _ second (point.1 c.partition_point.result no_green (omega arith) h) in
    record {
      after = find-place (λ (row : Green). nat_lt second row.to) rows c.partition_point.result (λ k h. le-ltb second _ (ended k h)) (λ h. lt-ltb second _ (next h));
      ended = ended;
      next = next;
    }
