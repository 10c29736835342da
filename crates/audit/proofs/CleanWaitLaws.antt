-- Waits under the greens of a clean sheet.
use Rattle.std.proofs.Common.{◌≡◌, ℕ, ◌+◌, ◌*◌, ◌<◌, ◌≤◌, min, length, ap, arith}
use Rattle.audit.specs.Audits.{IsClean}
use Rattle.audit.specs.CleanWaits.{AllShowFirst}
use Rattle.audit.specs.declared.sheet.Sheet.{Sheet}
use Rattle.control_flow.specs.declared.greens.Sign.{Sign}
use Rattle.net_parts.specs.Numbers.{Net}
use Rattle.net_parts.specs.Outline.{link_at, plan_at}
use Rattle.net_simulator.specs.Flow.{Cumulative, cumulative_under, queue}
use Rattle.net_simulator.specs.Shown.{cumulative_of_lines}
use Rattle.net_simulator.specs.Sums.{end_of_run}
use Rattle.net_simulator.specs.Worlds.{line_in, signs_by}
use Rattle.road_net.specs.Network.{IsNetwork}
use Rattle.waits.specs.Discharges.{AreEmptied, AreWaitsWithin, AreWholeLines, least_discharge, least_rate, wait_bounds, whole_green_within}
use Rattle.waits.proofs.BoundLaws.{empties, waits-within}
use Rattle.waits.proofs.Waiting.{in-past, queue-kept}

-- what is known of the first seconds holds in each longer past
module _ (net : Net) (arriving : ℕ → ℕ → ℕ) (seen : ℕ → ℕ → Sign) (until end l : ℕ) (inside : l < length net.link_names) (part : until ≤ end) where
  left-same : (n : ℕ) → n ≤ until → (cumulative_under net arriving seen until n l).left ≡ (cumulative_under net arriving seen end n l).left
  left-same n early =
      omega (arith, ap (λ (q : Cumulative). q.left) (in-past net arriving seen l inside until n early), ap (λ (q : Cumulative). q.left) (in-past net arriving seen l inside end n (omega (arith, early, part))))

  queue-same : (n : ℕ) → n ≤ until → queue net (cumulative_under net arriving seen until) n l ≡ queue net (cumulative_under net arriving seen end) n l
  queue-same n early = omega (arith, queue-kept net arriving seen l inside until n early, queue-kept net arriving seen l inside end n (omega (arith, early, part)))

module _ (net : Net) (network : IsNetwork net) (arriving : ℕ → ℕ → ℕ) (sheet : Sheet) (clean : IsClean net arriving sheet) (intergreens : ℕ → ℕ → ℕ) (until : ℕ) (part : until ≤ end_of_run net)
    (show : AllShowFirst net intergreens until sheet.lines) where
  covers : AreWholeLines net intergreens until (line_in sheet.lines)
  covers node below =
      let first = show node below in
      record { lawful = clean.lawful node below; intergreens = first.intergreens; begins = first.begins; ends = first.ends }

  abbrev seen : ℕ → ℕ → Sign
  seen = signs_by (line_in sheet.lines)

  pub clean-waits : AreWaitsWithin net (wait_bounds net intergreens) (cumulative_of_lines net arriving sheet.lines) until
  clean-waits l node wait n inside ends plain bound room stands =
      let early : n ≤ until = omega (arith, room) in
      let goes = waits-within net network arriving (line_in sheet.lines) intergreens until covers l node wait n inside ends plain bound room (omega (arith, stands, queue-same net arriving seen until (end_of_run net) l inside part n early)) in
      omega (arith, goes, left-same net arriving seen until (end_of_run net) l inside part n early, left-same net arriving seen until (end_of_run net) l inside part (n + wait) room)

  pub clean-empties : AreEmptied net intergreens (cumulative_of_lines net arriving sheet.lines) until
  clean-empties l node n greens inside ends plain unmarked room =
      let plan = plan_at net node in
      let k = (link_at net l).phase in
      let later = n + greens * whole_green_within plan (intergreens node) k in
      let share = greens * least_discharge plan k (least_rate (link_at net l)) in
      let early : n ≤ until = omega (arith, room) in
      let goes = empties net network arriving (line_in sheet.lines) intergreens until covers l node n greens inside ends plain unmarked room in
      let same : min (queue net (cumulative_under net arriving seen until) n l) share ≡ min (queue net (cumulative_under net arriving seen (end_of_run net)) n l) share =
      ap (λ (q : ℕ). min q share) (queue-same net arriving seen until (end_of_run net) l inside part n early) in
      omega (arith, goes, same, left-same net arriving seen until (end_of_run net) l inside part n early, left-same net arriving seen until (end_of_run net) l inside part later room)
