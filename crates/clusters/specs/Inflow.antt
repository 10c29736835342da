-- What reaches the end of a link in the seconds that a planning looks ahead, and what leaves there.
use Rattle.std.specs.Prelude.{◌≡◌, ℕ, ◌+◌, ◌-◌, ◌==◌, nat_lt, if◌then◌else◌, List, [], find, map, slice_index, unwrap_or}
use Rattle.std.specs.List.{range_with_len}
use Rattle.std.specs.Option.{option_map}
use Rattle.board_model.specs.declared.boards.Heard.{Heard}
use Rattle.board_model.specs.declared.forecasts.Row.{Row}
use Rattle.board_model.specs.Forecasts.{amount_at}
use Rattle.net_parts.specs.Numbers.{Net}
use Rattle.net_parts.specs.Outline.{link_at}
use Rattle.road_net.specs.Network.{heard_links}
use Rattle.road_net.specs.declared.senses.LinkSense.{LinkSense}
use Rattle.road_net.specs.declared.senses.Sensed.{Sensed}
use Rattle.clusters.specs.Smoothing.{smoothed}

-- one reading for each entry link of a node that comes from a node, in their order
abbrev pub IsHeardOf : Net → ℕ → List Heard → Type 0
IsHeardOf net node heard = map (λ h. h.link) heard ≡ heard_links net node

-- what stands where a link is not sensed
abbrev pub no_sense : LinkSense
no_sense = record { link = 0; queue = 0; coming = []; stood = 0 }

-- what is sensed of a link
unfoldable pub sense_of : Sensed → ℕ → LinkSense
sense_of sensed link = unwrap_or (find (λ s. s.link == link) sensed.links) no_sense

-- what is heard of a link; of one that comes from outside, the empty forecast
unfoldable pub heard_forecast : List Heard → ℕ → List Row
heard_forecast heard link = unwrap_or (option_map (λ h. h.forecast) (find (λ h. h.link == link) heard)) []

-- What reaches the end of a link in second x. In second `now` the queue counts; for the time of travel, the vehicles that are on
-- the link; and from then on the forecast.
abbrev pub inflow_at : ℕ → ℕ → ℕ → List ℕ → List Row → ℕ → ℕ
inflow_at now travel queue coming forecast x =
    (if x == now then queue else 0)
    + (if nat_lt x (now + travel) then slice_index coming (x - now) else amount_at forecast x)

-- what reaches the end of a link in each of `look` seconds from `now` on
unfoldable pub inflow : ℕ → ℕ → ℕ → ℕ → List ℕ → List Row → List ℕ
inflow now look travel queue coming forecast =
    map (inflow_at now travel queue coming forecast) (range_with_len now look)

-- what leaves at the end of a link in each second that the planning looks ahead, if its phase is green throughout
unfoldable pub leaving : Net → Sensed → List Heard → ℕ → List ℕ
leaving net sensed heard l =
    smoothed (link_at net l).sat
    (inflow sensed.now net.run.look (link_at net l).travel (sense_of sensed l).queue (sense_of sensed l).coming
    (heard_forecast heard l))
