use Rattle.std.proofs.Common.{◌≡◌, ◌*◌, ◌≤◌, take}
use Rattle.std.specs.Prelude.{sum_by}
use Rattle.net_parts.specs.Limits.{most_links}
use Rattle.histories.proofs.progress.total.Given as goal

abbrev pub invariant-loop-count : goal.invariant-loop-count
invariant-loop-count l = (l.sum ≡ sum_by (λ c. c) (take l.count-index l.counts)) × (l.sum ≤ most_links * l.count-index)
