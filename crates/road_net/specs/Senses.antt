-- What a node sees of its entry links.
use Rattle.std.specs.Prelude.{◌≡◌, ℕ, ◌+◌, ◌≤◌, length, map, sum, sum_by, All}
use Rattle.net_parts.specs.Limits.{most_of_all, most_seconds}
use Rattle.net_parts.specs.Numbers.{Net}
use Rattle.net_parts.specs.Outline.{link_at}
use Rattle.road_net.specs.declared.senses.LinkSense.{LinkSense}
use Rattle.road_net.specs.declared.senses.Sensed.{Sensed}
use Rattle.road_net.specs.Network.{entry_links}

-- the queue of a link and all that comes on it
abbrev pub amount : LinkSense → ℕ
amount s = s.queue + sum s.coming

-- what is sensed is of the node: one entry for each of its entry links, in order, with a number for each second of travel
pub record IsSensedOf (net : Net) (node : ℕ) (sensed : Sensed) : Type 0 where
  pub now : sensed.now ≤ most_seconds
  pub links : map (λ s. s.link) sensed.links ≡ entry_links net node
  pub coming : All (λ s. length s.coming ≡ (link_at net s.link).travel) sensed.links
  pub amounts : sum_by amount sensed.links ≤ most_of_all
