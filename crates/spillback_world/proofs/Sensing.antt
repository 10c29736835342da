-- What a node sees, by what a world keeps; and the empty world.
use Rattle.std.proofs.Common.{◌≡◌, ℕ, ◌+◌, ◌-◌, ◌*◌, ◌%◌, ◌<◌, ◌≤◌, Bool, List, All, Option, Some, None, length, map, replicate, slice_index, slice_index_or, refl, sym, ap, ◌∙◌, arith}
use Rattle.std.specs.List.Sorted.{IsStrictlyIncreasing}
use Rattle.std.proofs.lemmas.List.{get_or-replicate, length-replicate}
use Rattle.control_flow.specs.declared.greens.Sign.TheVariants.{Dark}
use Rattle.net_simulator.specs.LinkGreens.{has_walks, never}
use Rattle.net_parts.specs.Numbers.{Net}
use Rattle.net_parts.specs.Outline.{link_at}
use Rattle.road_net.specs.declared.senses.LinkSense.{LinkSense}
use Rattle.road_net.specs.declared.senses.Sensed.{Sensed}
use Rattle.road_net.specs.Network.{IsNetwork, entry_links}
use Rattle.road_net.specs.Senses.{IsSensedOf}
use Rattle.road_net.proofs.TotalLaws.{total-same, total-zero}
use Rattle.arrivals.specs.Amounts.{arriving_of}
use Rattle.net_simulator.specs.Flow.{Cumulative, nothing}
use Rattle.net_simulator.specs.LinkSeconds.{seen_by}
use Rattle.net_simulator.specs.Senses.{near_of, near_on, sense}
use Rattle.net_simulator.specs.Sums.{on_road, outward}
use Rattle.net_simulator.specs.Worlds.{signs_by}
use Rattle.net_simulator.proofs.EveryWorld.{are-sound, bounds-of, road-most}
use Rattle.net_simulator.proofs.MoveLaws.{moves_by, cumulative_by, zero-by}
use Rattle.net_simulator.proofs.Outside.{few-come}
use Rattle.net_simulator.proofs.Passing.{few-of, zeros}
use Rattle.net_simulator.proofs.Seeing.{are-sensed, gathered-by, near-few, near-road, seen-same}
use Rattle.net_simulator.proofs.Sound.{AreMoved, IsSound}
use Rattle.road_net.specs.Totals.{total}
use Rattle.net_simulator.proofs.Standing.{stood-none}
use Rattle.spillback_world.specs.declared.totals.SpillTotals.{SpillTotals}
use Rattle.spillback_world.specs.declared.worlds.Links.{Links}
use Rattle.spillback_world.specs.StoredTotals.{from_outside, stored_totals}
use Rattle.spillback_world.specs.Steps.{AreEmpty, state_of}
use Rattle.spillback_world.specs.Storage.{outside, cumulative_in, stored_moves}
use Rattle.spillback_world.specs.Worlds.{IsWorldOf, SpillState, Stands}
use Rattle.spillback_world.proofs.Course.{course, let-in-most}
use Rattle.spillback_world.proofs.Passing.{same-totals}
use Rattle.spillback_world.proofs.Sources.{sources-of}
use Rattle.control_flow.specs.declared.greens.Sign.{Sign}

-- what is gathered of what a world keeps is what the definition gives
pub gathered : (net : Net) (node : ℕ) (w v : SpillState) (qs rs ss links : List ℕ) (out : List LinkSense) → IsNetwork net → v ≡ w → qs ≡ v.queues → rs ≡ v.recent → ss ≡ v.stood → links ≡ entry_links net node → out ≡ map (seen_by net qs rs ss v.second) links
    → All (λ l. l < length net.link_names) (entry_links net node) → (arriving : ℕ → ℕ → ℕ) (store : ℕ → ℕ) (shown : ℕ → ℕ → Sign) → Stands net arriving store shown w
    → (let s : Sensed = record { now = v.second; links = out } in s) ≡ sense net (cumulative_in net arriving store shown w.second) w.second node
gathered net node w v qs rs ss links out network view queues recent standing entries all below arriving store shown stands =
    let one = queues ∙ ap (λ (k : SpillState). k.queues) view in
    let two = recent ∙ ap (λ (k : SpillState). k.recent) view in
    let three = standing ∙ ap (λ (k : SpillState). k.stood) view in
    let now = ap (λ (k : SpillState). k.second) view in
    let gathers : out ≡ map (seen_by net w.queues w.recent w.stood w.second) links = all ∙ (λ i. map (seen_by net (one i) (two i) (three i) (now i)) links) in
    let second : (let s : Sensed = record { now = v.second; links = out } in s) ≡ (let t : Sensed = record { now = w.second; links = out } in t) = λ i. record { now = now i; links = out } in
    second ∙ gathered-by net node w.second (cumulative_in net arriving store shown w.second) w.queues w.recent w.waits w.stood links out network stands.keeps stands.stood entries gathers below

-- and it is within the bounds of what a node sees
pub is-sensed : (net : Net) (node : ℕ) (w : SpillState) → IsNetwork net → All (λ l. l < length net.link_names) (entry_links net node) → IsStrictlyIncreasing (entry_links net node) → (world : IsWorldOf net w)
    → IsSensedOf net node (sense net (cumulative_in net (arriving_of world.arrivals) world.store (signs_by world.lines) w.second) w.second node)
is-sensed net node w network below rising world =
    let a : ℕ → ℕ → ℕ = arriving_of world.arrivals in
    let sources = sources-of net world.arrivals world.enter in
    let shown : ℕ → ℕ → Sign = signs_by world.lines in
    let all = course net network a world.store shown in
    let few = few-come net network (moves_by net (stored_moves net a world.store shown)) (cumulative_by net (stored_moves net a world.store shown)) all a (let-in-most net network a world.store shown sources) sources (few-of net network world.arrivals world.enter) in
    are-sensed net node w.second (cumulative_in net a world.store shown w.second) world.stands.by (are-sound net network (moves_by net (stored_moves net a world.store shown)) (cumulative_by net (stored_moves net a world.store shown)) all w.second)
    (road-most net network (moves_by net (stored_moves net a world.store shown)) (cumulative_by net (stored_moves net a world.store shown)) all few w.second) below rising

from-none : (from : Option ℕ) (a : ℕ) → a ≡ 0 → from_outside from a ≡ 0
from-none None a none = none
from-none (Some node) a none = refl

outward-none : (to : Option ℕ) (a : ℕ) → a ≡ 0 → outward to a ≡ 0
outward-none None a none = none
outward-none (Some node) a none = refl

pub stands-new : (net : Net) (arriving : ℕ → ℕ → ℕ) (store : ℕ → ℕ) (shown : ℕ → ℕ → Sign) (gs : List Sign) (fs : List ℕ) (walks : Bool) (n : ℕ) (links : Links) → AreEmpty n links → n ≡ length net.link_names → gs ≡ replicate (length net.node_names) Dark → fs ≡ replicate (length net.link_names) never → walks ≡ has_walks net
    → Stands net arriving store shown (state_of links 0 gs fs walks (record { entered = 0; left = 0; on = 0; outside = 0; delay = 0 }))
stands-new net arriving store shown gs fs walks n links empty long dark none_green walked =
    let P : ℕ → ℕ → Cumulative = cumulative_in net arriving store shown 0 in
    let none : (k l : ℕ) → P k l ≡ nothing = λ k l. zero-by net (stored_moves net arriving store shown) k l in
    let in-none : (k l : ℕ) → (P k l).entered ≡ 0 = λ k l. ap (λ (q : Cumulative). q.entered) (none k l) in
    let out-none : (k l : ℕ) → (P k l).left ≡ 0 = λ k l. ap (λ (q : Cumulative). q.left) (none k l) in
    let one : (v : List ℕ) → v ≡ replicate n 0 → length v ≡ length net.link_names = λ v is. ap length is ∙ length-replicate n 0 ∙ long in
    let rows : (v : List ℕ) → v ≡ replicate (n * 128) 0 → length v ≡ length net.link_names * 128 = λ v is. ap length is ∙ length-replicate (n * 128) 0 ∙ ap (λ (k : ℕ). k * 128) long in
    let zero-at : (v : List ℕ) (m : ℕ) → v ≡ replicate m 0 → (k : ℕ) → slice_index v k ≡ 0 = λ v m is k. ap (λ u. slice_index u k) is ∙ zeros m k 0 in
    let zero : SpillTotals = record { entered = 0; left = 0; on = 0; outside = 0; delay = 0 } in
    let entered = total-same (λ l. from_outside (link_at net l).from (P 0 l).entered) (λ l. 0) (length net.link_names) (λ l h. from-none (link_at net l).from _ (in-none 0 l)) ∙ total-zero (length net.link_names) in
    let left = total-same (λ l. outward (link_at net l).to (P 0 l).left) (λ l. 0) (length net.link_names) (λ l h. outward-none (link_at net l).to _ (out-none 0 l)) ∙ total-zero (length net.link_names) in
    let on = total-same (λ l. (P 0 l).entered - (P 0 l).left) (λ l. 0) (length net.link_names) (λ l h. omega (arith, in-none 0 l)) ∙ total-zero (length net.link_names) in
    let waits = total-same (outside arriving P 0) (λ l. 0) (length net.link_names) (λ l h. omega arith) ∙ total-zero (length net.link_names) in
    record {
      shape = record { signs = ap length dark ∙ length-replicate (length net.node_names) Dark; since = ap length none_green ∙ length-replicate (length net.link_names) never; walks = walked; queues = one _ empty.queues; recent = rows _ empty.recent; waits = rows _ empty.waits; stood = one _ empty.stood; outside = one _ empty.outside; held = one _ empty.held };
      by = omega arith;
      keeps = record {
        queues = λ l h. omega (arith, zero-at _ n empty.queues l, in-none (0 - (link_at net l).travel) l);
        recent = λ l d h some most. omega (arith, zero-at _ (n * 128) empty.recent (l * 128 + (0 + 128 - d) % 128), in-none (0 + 1 - d) l);
        waits = λ l d h most. omega (arith, zero-at _ (n * 128) empty.waits (l * 128 + (0 + 128 - d) % 128), in-none (0 - d - (link_at net l).travel) l);
      };
      held = λ l h. omega (arith, zero-at _ n empty.held l, in-none 0 l);
      totals = same-totals zero (stored_totals net arriving P 0) (sym entered) (sym left) (sym on) (sym waits) refl;
      stood = λ l h. zero-at _ n empty.stood l ∙ sym (stood-none net P l);
      outside = λ l h. omega (arith, zero-at _ n empty.outside l);
      lights = record {
        signs = λ node h. ap (λ ss. slice_index_or ss node Dark) dark ∙ zeros (length net.node_names) node Dark;
        since = λ l h. ap (λ ss. slice_index ss l) none_green ∙ get_or-replicate (length net.link_names) l never 0 h;
      };
    }

-- what is near by what a world keeps is what the definition gives
pub near-gathered : (net : Net) (w v : SpillState) (qs rs ss : List ℕ) (gap l : ℕ) → IsNetwork net → v ≡ w → qs ≡ v.queues → rs ≡ v.recent → ss ≡ v.stood → l < length net.link_names
    → (arriving : ℕ → ℕ → ℕ) (store : ℕ → ℕ) (shown : ℕ → ℕ → Sign) → Stands net arriving store shown w → near_of (seen_by net qs rs ss v.second l) gap ≡ near_on net (cumulative_in net arriving store shown w.second) w.second gap l
near-gathered net w v qs rs ss gap l network view queues recent standing inside arriving store shown stands =
    let one = queues ∙ ap (λ (k : SpillState). k.queues) view in
    let two = recent ∙ ap (λ (k : SpillState). k.recent) view in
    let three = standing ∙ ap (λ (k : SpillState). k.stood) view in
    let now = ap (λ (k : SpillState). k.second) view in
    (λ i. near_of (seen_by net (one i) (two i) (three i) (now i) l) gap)
    ∙ ap (λ (s : LinkSense). near_of s gap) (seen-same net (cumulative_in net arriving store shown w.second) w.queues w.recent w.waits w.stood w.second l stands.keeps (stands.stood l inside) inside ((bounds-of net network).most l inside))

-- what is on the road of such a world is within bounds
module _ (net : Net) (network : IsNetwork net) (w : SpillState) (world : IsWorldOf net w) where
  abbrev seen : ℕ → ℕ → Cumulative
  seen = cumulative_in net (arriving_of world.arrivals) world.store (signs_by world.lines) w.second

  all-moved : AreMoved net (moves_by net (stored_moves net (arriving_of world.arrivals) world.store (signs_by world.lines))) (cumulative_by net (stored_moves net (arriving_of world.arrivals) world.store (signs_by world.lines)))
  all-moved = course net network (arriving_of world.arrivals) world.store (signs_by world.lines)

  sound : IsSound net (cumulative_in net (arriving_of world.arrivals) world.store (signs_by world.lines) w.second) w.second
  sound = are-sound net network (moves_by net (stored_moves net (arriving_of world.arrivals) world.store (signs_by world.lines))) (cumulative_by net (stored_moves net (arriving_of world.arrivals) world.store (signs_by world.lines))) all-moved w.second

  road : on_road net (cumulative_in net (arriving_of world.arrivals) world.store (signs_by world.lines) w.second) w.second ≤ 2000000000
  road =
      let sources = sources-of net world.arrivals world.enter in
      let few = few-come net network (moves_by net (stored_moves net (arriving_of world.arrivals) world.store (signs_by world.lines))) (cumulative_by net (stored_moves net (arriving_of world.arrivals) world.store (signs_by world.lines))) all-moved (arriving_of world.arrivals)
      (let-in-most net network (arriving_of world.arrivals) world.store (signs_by world.lines) sources) sources (few-of net network world.arrivals world.enter) in
      road-most net network (moves_by net (stored_moves net (arriving_of world.arrivals) world.store (signs_by world.lines))) (cumulative_by net (stored_moves net (arriving_of world.arrivals) world.store (signs_by world.lines))) all-moved few w.second

  pub near-fits : (gap l : ℕ) → l < length net.link_names → near_on net (cumulative_in net (arriving_of world.arrivals) world.store (signs_by world.lines) w.second) w.second gap l ≤ 2000000000
  near-fits gap l inside = near-few net seen w.second sound gap l road inside

  pub near-all-fits : (gap : ℕ) → total (near_on net (cumulative_in net (arriving_of world.arrivals) world.store (signs_by world.lines) w.second) w.second gap) (length net.link_names) ≤ 2000000000
  near-all-fits gap = near-road net seen w.second sound gap road
