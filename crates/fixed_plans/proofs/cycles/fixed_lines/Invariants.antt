use Rattle.std.proofs.Common.{◌≡◌, ℕ, ◌<◌, map}
use Rattle.std.specs.List.{range_with_len}
use Rattle.fixed_plans.specs.Lines.{fixed_line}
use Rattle.fixed_plans.proofs.LineLaws.{IsLineOf}
use Rattle.fixed_plans.proofs.cycles.fixed_lines.Given as goal

-- the nodes up to here have their lines
abbrev pub invariant-loop-node : goal.invariant-loop-node
invariant-loop-node l = (l.lines.items ≡ map (fixed_line l.net l.plan) (range_with_len 0 l.node)) × ((k : ℕ) → k < l.node → IsLineOf l.net k (fixed_line l.net l.plan k))
