-- When the clusters of a node's window arrive.
use Rattle.std.proofs.Common.{◌≡◌, ℕ, ◌+◌, ◌<◌, ◌≤◌, nat_eq, nat_le, List, [], ◌∷◌, Option, Some, None, All, length, get_or, sym, subst, ◌∙◌, arith}
use Rattle.std.specs.List.{range_with_len}
use Rattle.std.proofs.lemmas.Bool.{cond_both}
use Rattle.std.proofs.lemmas.List.{length-map}
use Rattle.std.proofs.lemmas.List.Elements.{All-cons, All-from_get_or, All-head, All-map, All-tail, All-take, All-weaker}
use Rattle.std.proofs.lemmas.List.FromFn.{length-range_with_len}
use Rattle.board_model.specs.declared.boards.Heard.{Heard}
use Rattle.switch_rules.specs.declared.Cluster.{Cluster}
use Rattle.switch_rules.specs.declared.Head.{Head}
use Rattle.net_parts.specs.Numbers.{Net}
use Rattle.road_net.specs.declared.senses.Sensed.{Sensed}
use Rattle.clusters.specs.Platoons.{ArePlatoonsBy, platoon_of, platoons_at, together}
use Rattle.clusters.specs.Sound.{cluster_lists, clusters_of}
use Rattle.clusters.specs.Options.{AreExpected, AreExpectedIn, first_with_hold, with_held_load}
use Rattle.clusters.specs.Windows.{IsWindow, counts_of}
use Rattle.clusters.specs.declared.vehicle_groups.Part.{Part}
use Rattle.clusters.specs.declared.vehicle_groups.Platoon.{Platoon}
use Rattle.clusters.specs.declared.vehicle_groups.Window.{Window}
use Rattle.clusters.proofs.RunLaws.{AreInOrder, LiesIn, cut-in-order}
use Rattle.intersection_actor.specs.Steps.{ArriveBy}

together-length : (streams : List Part) (look : ℕ) → length (together streams look) ≡ look
unfolding together
together-length streams look = length-map (range_with_len 0 look) _ ∙ length-range_with_len 0 look

-- each platoon of a phase arrives while the network looks ahead
abbrev ComesBy : ℕ → Platoon → Type 0
ComesBy second p = p.cluster.arr ≤ second

list-soon : (load : Part → ℕ) (gap rate : ℕ) (span : ℕ → ℕ) (now look : ℕ) (streams : List Part) (list : List Platoon) → ArePlatoonsBy load gap rate span now look streams list → All (ComesBy (now + look)) list
list-soon load gap rate span now look streams list h =
    let series : List ℕ = together streams look in
    let placed : AreInOrder series h.runs = cut-in-order gap rate span series h.runs h.cut in
    subst (All (ComesBy (now + look))) (sym h.each)
    (All-map (ComesBy (now + look)) (platoon_of load now streams) h.runs
    (All-weaker (LiesIn series) (λ run. ComesBy (now + look) (platoon_of load now streams run)) (λ run r. omega (arith, r.order, r.before, together-length streams look)) h.runs placed.each))

-- also where the first counts more
first-soon : (second : ℕ) (hold : Option ℕ) (at : ℕ) (list : List Platoon) → All (ComesBy second) list → All (ComesBy second) (first_with_hold hold at list)
first-soon second None at list h = h
first-soon second (Some hold) at [] h = h
first-soon second (Some hold) at (p ∷ ps) h =
    let soon : ComesBy second p = All-head (ComesBy second) p ps h in
    All-cons (ComesBy second) _ ps (cond_both (nat_le p.cluster.arr at) (with_held_load hold p) p (ComesBy second) (λ yes. soon) (λ no. soon)) (All-tail (ComesBy second) p ps h)

expected-soon : (net : Net) (node : ℕ) (head : Head) (sensed : Sensed) (k : ℕ) (streams : List Part) (list : List Platoon) → AreExpectedIn net node head sensed k streams list → All (ComesBy (sensed.now + net.run.look)) list
expected-soon net node head sensed k streams list h =
    let second : ℕ = sensed.now + net.run.look in
    let plain : All (ComesBy second) h.plain = list-soon _ _ _ _ _ _ _ _ h.are in
    subst (All (ComesBy second)) (sym h.held)
    (cond_both (nat_eq k head.phase) _ h.plain (All (ComesBy second)) (λ yes. first-soon second _ _ h.plain plain) (λ no. plain))

-- and so do the clusters of a window
pub window-soon : (net : Net) (node : ℕ) (head : Head) (sensed : Sensed) (heard : List Heard) (lists : List (List Platoon)) (window : Window)
    → AreExpected net node head sensed heard lists → IsWindow lists window → ArriveBy (sensed.now + net.run.look) (cluster_lists window.lists)
window-soon net node head sensed heard lists window are h =
    let second : ℕ = sensed.now + net.run.look in
    All-map (All (λ (c : Cluster). c.arr ≤ second)) clusters_of window.lists
    (All-from_get_or (λ list. All (λ (c : Cluster). c.arr ≤ second) (clusters_of list)) window.lists [] (λ k lt.
    let there : k < length lists = omega (arith, h.longest.front.phases, length-map window.lists (λ (list : List Platoon). length list)) in
    let all : All (ComesBy second) (platoons_at lists k) = expected-soon net node head sensed k _ (platoons_at lists k) (are.each k there) in
    let taken : All (ComesBy second) (platoons_at window.lists k) =
    subst (All (ComesBy second)) (sym (h.taken k)) (All-take (ComesBy second) (get_or (counts_of window.lists) k 0) (platoons_at lists k) all) in
    All-map (λ (c : Cluster). c.arr ≤ second) (λ (p : Platoon). p.cluster) (platoons_at window.lists k) taken))
