-- Answers of the calls below, put together.
use Rattle.std.proofs.Common.{ℕ, ◌<◌, List, Result, Ok, Err, IfOk}
use Rattle.board_model.specs.declared.boards.Heard.{Heard}
use Rattle.phase_plan.specs.declared.Phase.{Phase}
use Rattle.switch_rules.specs.declared.Head.{Head}
use Rattle.control_flow.specs.Greens.{BeginBy, GoesOn, IsLawful, end_of}
use Rattle.control_flow.specs.declared.greens.Green.{Green}
use Rattle.net_parts.specs.Numbers.{Net}
use Rattle.road_net.specs.declared.senses.Sensed.{Sensed}
use Rattle.clusters.specs.Sound.{AreOfNode, ArePlannable, cluster_lists}
use Rattle.clusters.specs.Options.{AreExpected}
use Rattle.clusters.specs.Windows.{IsWindow}
use Rattle.clusters.specs.declared.vehicle_groups.Platoon.{Platoon}
use Rattle.clusters.specs.declared.vehicle_groups.Window.{Window}
use Rattle.intersection_actor.specs.Steps.{IsExpected, IsNextLine}
use Rattle.intersection_actor.proofs.ArrivalLaws.{window-soon}

pub next-line : {E : Type 0} (plan : List Phase) (head : Head) (until : ℕ) (r : Result (List Green) E) → IfOk r (IsLawful plan) → IfOk r (GoesOn head) → IfOk r (BeginBy 100000) → IfOk r (λ line. until < end_of line)
    → IfOk r (IsNextLine plan head until)
next-line plan head until (Ok line) lawful goes begins later = record { lawful = lawful; goes_on = goes; begins = begins; later = later }
next-line plan head until (Err e) lawful goes begins later = tt

pub expected-made : {E : Type 0} (net : Net) (node : ℕ) (head : Head) (sensed : Sensed) (heard : List Heard) (lists : List (List Platoon)) (r : Result Window E) → AreExpected net node head sensed heard lists
    → IfOk r (IsWindow lists) → IfOk r (λ window. AreOfNode net node sensed.now window.lists) → IfOk r (λ window. ArePlannable (cluster_lists window.lists))
    → IfOk r (IsExpected net node head sensed heard)
expected-made net node head sensed heard lists (Ok window) are longest of_node plannable = record {
  platoons = lists;
  are = are;
  longest = longest;
  of_node = of_node;
  plannable = plannable;
  soon = window-soon net node head sensed heard lists window are longest;
}
expected-made net node head sensed heard lists (Err e) are longest of_node plannable = tt
