-- What is expected of a window can be planned.
use Rattle.std.proofs.Common.{◌≡◌, ℕ, ◌<◌, ◌≤◌, List, length, sym, ◌∙◌}
use Rattle.std.proofs.lemmas.List.{length-map}
use Rattle.board_model.specs.declared.boards.Heard.{Heard}
use Rattle.clusters.specs.Sound.{ArePlannable, cluster_lists}
use Rattle.clusters.specs.Taking.{AreFronts}
use Rattle.clusters.specs.Options.{AreExpected}
use Rattle.clusters.specs.Windows.{IsWindow, counts_of}
use Rattle.clusters.specs.declared.vehicle_groups.Platoon.{Platoon}
use Rattle.clusters.specs.declared.vehicle_groups.Window.{Window}
use Rattle.clusters.proofs.AskedLaws.{expected-clusters}
use Rattle.clusters.proofs.TakingLaws.{fronts-plannable}
use Rattle.net_parts.specs.Limits.{most_seconds}
use Rattle.net_parts.specs.Numbers.{Net}
use Rattle.net_parts.specs.Outline.{plan_at}
use Rattle.road_net.specs.Network.{IsNetwork}
use Rattle.road_net.specs.declared.senses.Sensed.{Sensed}
use Rattle.switch_rules.specs.declared.Head.{Head}

module _ (lists : List (List Platoon)) (window : Window) (is : IsWindow lists window) where
  same-count : length window.lists ≡ length lists
  same-count = sym (length-map window.lists (λ (list : List Platoon). length list)) ∙ is.longest.front.phases

  fronts : AreFronts lists (counts_of window.lists) window.lists
  fronts = record { count = same-count; each = is.taken }

  module _ (net : Net) (network : IsNetwork net) (node : ℕ) (below : node < length net.node_names) (head : Head) (sensed : Sensed) (early : sensed.now ≤ most_seconds) (heard : List Heard) (are : AreExpected net node head sensed heard lists) where
    pub plannable : ArePlannable (cluster_lists window.lists)
    plannable = fronts-plannable lists (counts_of window.lists) window.lists fronts is.longest (expected-clusters net node head sensed heard lists network early below are)

    pub window-count : length window.lists ≡ length (plan_at net node)
    window-count = same-count ∙ are.count
