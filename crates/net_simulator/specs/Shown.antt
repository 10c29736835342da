-- What the world shows under given lines up to the end of the run.
use Rattle.std.specs.Prelude.{ℕ, List}
use Rattle.control_flow.specs.declared.greens.Green.{Green}
use Rattle.net_parts.specs.Numbers.{Net}
use Rattle.net_simulator.specs.Flow.{Cumulative, cumulative_under}
use Rattle.net_simulator.specs.Sums.{end_of_run, link_totals, totals}
use Rattle.net_simulator.specs.Worlds.{line_in, signs_by}
use Rattle.net_simulator.specs.declared.totals.LinkTotals.{LinkTotals}
use Rattle.net_simulator.specs.declared.totals.Totals.{Totals}

-- what passes the links up to the end of the run, where the signals show these timelines, one for each node
abbrev pub cumulative_of_lines : Net → (ℕ → ℕ → ℕ) → List (List Green) → ℕ → ℕ → Cumulative
cumulative_of_lines net arriving lines = cumulative_under net arriving (signs_by (line_in lines)) (end_of_run net)

-- the totals of link l at the end of the run, where the signals show these timelines, one for each node
abbrev pub link_shown : Net → (ℕ → ℕ → ℕ) → List (List Green) → ℕ → LinkTotals
link_shown net arriving lines l = link_totals net (cumulative_of_lines net arriving lines) (end_of_run net) l

-- the totals of the whole network at the end of the run, where the signals show these timelines, one for each node
abbrev pub all_shown : Net → (ℕ → ℕ → ℕ) → List (List Green) → Totals
all_shown net arriving lines = totals net arriving (cumulative_of_lines net arriving lines) (end_of_run net)
