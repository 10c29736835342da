-- What a complete record of a run has: a plan for each round and node, in their order.
use Rattle.std.specs.Prelude.{◌≡◌, ℕ, List, All, length, map}
use Rattle.std.specs.List.{flat_map, range_with_len}
use Rattle.intersection_actor.specs.declared.records.PlanRecord.{PlanRecord}
use Rattle.intersection_actor.specs.declared.records.Used.{Used}
use Rattle.net_parts.specs.Numbers.{Net}
use Rattle.road_net.specs.Network.{heard_links}
use Rattle.runs.specs.declared.records.RunRecord.{RunRecord}

-- each of these rounds with each of these nodes, round by round
abbrev pub rounds_and_nodes : ℕ → ℕ → List (ℕ × ℕ)
rounds_and_nodes rounds nodes =
    flat_map (λ round. map (λ node. (round, node)) (range_with_len 0 nodes)) (range_with_len 0 rounds)

-- One plan for each round and node, in their order, each with the links on which its node hears another one; a timeline for each
-- node; and totals for each link.
pub record IsComplete (net : Net) (run : RunRecord) : Type 0 where
  pub plans : map (λ (p : PlanRecord). (p.round, p.node)) run.plans
      ≡ rounds_and_nodes net.run.rounds (length net.node_names)
  pub used : All (λ (p : PlanRecord). map (λ (u : Used). u.link) p.used ≡ heard_links net p.node) run.plans
  pub timelines : length run.timelines ≡ length net.node_names
  pub links : length run.links ≡ length net.link_names
