-- What the bounds of a network say.
use Rattle.std.proofs.Common.{ℕ, ◌*◌, ◌+◌, ◌≤◌, ◌<◌, Bool, true, false, [], length, All, arith}
use Rattle.std.proofs.Math.Nat.{mul-le-mul_right}
use Rattle.std.proofs.lemmas.List.{get_or_default}
use Rattle.net_parts.specs.Bounds.{HasCounts, IsRun}
use Rattle.net_parts.specs.Limits.{most_nodes, most_links, most_conflicts, most_rounds, most_seconds, small_seconds, limits}
use Rattle.net_parts.specs.Numbers.{Net}
use Rattle.net_parts.specs.Outline.{IsOutline, known_seconds}
use Rattle.net_parts.specs.declared.drafts.Draft.{Draft}
use Rattle.net_parts.specs.declared.drafts.Run.{Run}

-- the phases of a node of a network are at most 4
pub outline-few : (net : Net) → IsOutline net → All (λ phases. length phases ≤ 4) net.phase_links
outline-few net ok k d h =
    let inside : k < length net.node_names = omega (arith, ok.phases_count) in
    let planned : k < length net.plans = omega (arith, ok.plan_count) in
    rw (get_or_default net.phase_links k d [] h) (omega (arith, ok.phase_counts k inside, (ok.plans k [] planned).ring.count.1))

module _ (run : Run) (is : IsRun run) where
  -- the rounds of a run begin, and are over, within a day
  pub run-by : (r : ℕ) → r ≤ run.rounds → r * run.step ≤ most_seconds
  run-by r most = let all : r * run.step ≤ run.rounds * run.step = mul-le-mul_right {m = r} {n = run.rounds} run.step most in omega (arith, all, is.seconds)

  pub run-over : (r : ℕ) → r < run.rounds → r * run.step + run.step ≤ most_seconds
  run-over r less = let all : (r + 1) * run.step ≤ most_seconds = run-by (r + 1) (omega arith) in omega (arith, all)

module _ (net : Net) where
  -- the seconds that files may name: at least 18,000, those of the run, and at most those of a day
  pub known-small : small_seconds ≤ known_seconds net
  known-small = omega arith

  pub known-run : net.run.rounds * net.run.step ≤ known_seconds net
  known-run = omega arith

  pub known-most : IsOutline net → known_seconds net ≤ most_seconds
  known-most ok = omega (arith, ok.run.seconds)

-- the limits of every draft are at most those of a great network
pub limits-most : (great : Bool) → ((limits great).nodes ≤ most_nodes) × ((limits great).links ≤ most_links) × ((limits great).conflicts ≤ most_conflicts) × ((limits great).rounds ≤ most_rounds)
limits-most true = (omega arith, omega arith, omega arith, omega arith)
limits-most false = (omega arith, omega arith, omega arith, omega arith)

-- so are the counts of a draft
pub counts-most : (d : Draft) → HasCounts d → (length d.nodes ≤ most_nodes) × (length d.links ≤ most_links) × (length d.conflicts ≤ most_conflicts)
counts-most d counts = let most = limits-most d.great in (omega (arith, counts.nodes.1, most.0), omega (arith, counts.links.1, most.1), omega (arith, counts.conflicts, most.2))
