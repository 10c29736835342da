use Rattle.std.proofs.Common.{◌≡◌, ◌*◌, ◌^◌, ◌≤◌, take, sum}
use Rattle.schedule_meaning.proofs.instances.total_of.Given as goal

-- the total is that of the counts so far, each below 2 ^ 32
abbrev pub invariant-loop-count : goal.invariant-loop-count
invariant-loop-count l = (l.total ≡ sum (take l.count-index l.counts)) × (l.total ≤ 2 ^ 32 * l.count-index)
