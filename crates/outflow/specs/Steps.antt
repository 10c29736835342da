-- What the steps of filling in a forecast make. No public clause names these.
use Rattle.std.specs.Prelude.{◌≡◌, ℕ, ◌+◌, ◌<◌, ◌≤◌, List, length, slice_index}
use Rattle.net_parts.specs.Limits.{most_look}
use Rattle.net_parts.specs.Numbers.{Net}
use Rattle.net_parts.specs.Outline.{link_at}
use Rattle.net_parts.specs.declared.roads.Turn.{Turn}
use Rattle.road_net.specs.Joins.{part_between, split_of}
use Rattle.outflow.specs.Outflow.{Departure, coming_in}

-- a share from here to there makes the same part of each amount as the turn into the exit
pub record IsShareInto (turns : List Turn) (exit : ℕ) (share : ℕ × ℕ) : Type 0 where
  pub within : share.0 + share.1 ≤ 1000
  pub part : (amount : ℕ) → part_between amount share.0 (share.0 + share.1) ≡ split_of turns amount exit

-- the amounts are what comes of these departures in each second from `now` on, as long as the network looks ahead; nothing comes
-- before it can have travelled the exit
pub record AreArriving (net : Net) (exit now : ℕ) (leave : List Departure) (amounts : List ℕ) : Type 0 where
  pub count : length amounts ≡ net.run.look
  pub few : length amounts ≤ most_look
  pub value : (k : ℕ) → k < net.run.look → slice_index amounts k ≡ coming_in net exit leave (now + k)
  pub most : (k : ℕ) → slice_index amounts k ≤ 80000
  pub early : (d : ℕ) → d < now + (link_at net exit).travel → coming_in net exit leave d ≡ 0
