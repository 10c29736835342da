use Rattle.std.proofs.Common.{◌≡◌, ◌+◌, ◌-◌, ◌*◌, ◌≤◌, ◌++◌, ◌||◌, filter}
use Rattle.std.specs.List.{range_with_len}
use Rattle.phase_plan.specs.Phases.{is_unmarked_at}
use Rattle.control_flow.specs.Timelines.{shortest_greens, begin_after}
use Rattle.control_flow.proofs.timelines.add_shortest.Given as goal

-- what is there and what the phases from here on still give is the whole
abbrev pub invariant-loop-phase : goal.invariant-loop-phase
invariant-loop-phase l = record {
  rows : l.rows.items ++ shortest_greens l.plan l.from (filter (λ k. is_unmarked_at l.plan k || l.all) (range_with_len l.phase (l.high - l.phase)))
      ≡ l.fn.rows.items ++ shortest_greens l.plan l.fn.from (filter (λ k. is_unmarked_at l.plan k || l.all) (range_with_len l.low (l.high - l.low)));
  behind : begin_after l.plan l.from (filter (λ k. is_unmarked_at l.plan k || l.all) (range_with_len l.phase (l.high - l.phase)))
      ≡ begin_after l.plan l.fn.from (filter (λ k. is_unmarked_at l.plan k || l.all) (range_with_len l.low (l.high - l.low)));
  bounds : l.from ≤ l.fn.from + 140 * (l.phase - l.low);
}
