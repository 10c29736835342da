-- A queue of a phase that is green within some time discharges within that time and the start-up of the green.
use Rattle.std.proofs.Common.{◌≡◌, ℕ, zero, suc, ◌+◌, ◌-◌, ◌<◌, ◌≤◌, min, Bool, true, false, cond, ltb, not, ◌&&◌, ◌||◌, List, [], ◌∷◌, length, IfSome, Option, Some, None, refl, sym, ap, subst, ◌∙◌, inl, inr, arith}
use Rattle.std.proofs.lemmas.Bool.{and_from, and_left, cases_lt, cond_both, eq-eqb, le-ltb, lt-ltb, ltb-true}
use Rattle.std.proofs.lemmas.List.Elements.{All-get_or}
use Rattle.phase_plan.specs.Phases.{IsOwnRing, IsRing, is_unmarked_at, phase_at}
use Rattle.control_flow.specs.Greens.{IsLawful, end_of, row_at}
use Rattle.control_flow.specs.declared.greens.Green.{Green}
use Rattle.control_flow.specs.declared.greens.Sign.{Sign}
use Rattle.control_flow.specs.declared.greens.Sign.TheVariants.{On}
use Rattle.control_flow.proofs.OrderLaws.{order-lawful}
use Rattle.net_parts.specs.Numbers.{Net, has_link, no_link}
use Rattle.net_parts.specs.Outline.{IsLink, IsYieldSat, also_links_at, is_green_in, is_green_to, link_at, plan_at, yields_at}
use Rattle.net_parts.specs.declared.roads.Walk.{Walk}
use Rattle.control_flow.specs.Signs.{is_on_in}
use Rattle.std.specs.List.{list_any}
use Rattle.std.specs.Option.{option_map}
use Rattle.road_net.specs.Network.{IsNetwork}
use Rattle.road_net.proofs.Served.{served}
use Rattle.net_simulator.specs.Flow.{Cumulative, discharge, discharge_to, is_busy, may_go, passing, rate, cumulative_under, queue, waiting}
use Rattle.net_simulator.specs.Discharging.{begun}
use Rattle.net_simulator.specs.LinkGreens.{is_green, is_lit, loss_of}
use Rattle.net_simulator.specs.Worlds.{signs_by}
use Rattle.net_simulator.proofs.FlowLaws.{past-kept, past-next}
use Rattle.net_simulator.proofs.LightLaws.{begun-since, green-at}
use Rattle.waits.specs.Discharges.{Discharges, least_rate, longest_wait}
use Rattle.waits.specs.Waits.{IsGreenBy, AreIntergreensWithin, longest_way}
use Rattle.waits.proofs.Shown.{IsShown, on-at, shown}
use Rattle.waits.proofs.Turns.{within}

-- Something leaves a link in each second in which it may go: it has no walk, and discharges something even while it gives way.
pub record IsDriven (net : Net) (l : ℕ) : Type 0 where
  pub plain : (link_at net l).walk ≡ None
  pub some : 1 ≤ least_rate (link_at net l)
  pub least : (seen : ℕ → ℕ → Sign) (p : ℕ → ℕ → Cumulative) (x : ℕ) → least_rate (link_at net l) ≤ rate net seen p x l

-- the least rate, by whether it gives way
rate-least : (links : List ℕ) (slow sat : ℕ) (busy : ℕ → Bool) → IsYieldSat links slow → slow ≤ sat → cond (ltb 0 slow) slow sat ≤ cond (list_any busy links) slow sat
rate-least [] slow sat busy none less = (let e : cond (ltb 0 slow) slow sat ≡ sat = ap (λ (s : ℕ). cond (ltb 0 s) s sat) none in omega (arith, e))
rate-least (m ∷ ms) slow sat busy some less =
    let e : cond (ltb 0 slow) slow sat ≡ slow = ap (λ (b : Bool). cond b slow sat) (lt-ltb 0 slow some) in
    cond_both (list_any busy (m ∷ ms)) slow sat (λ r. cond (ltb 0 slow) slow sat ≤ r) (λ on. omega (arith, e)) (λ off. omega (arith, e, less))

rate-some : (slow sat : ℕ) → 1 ≤ sat → 1 ≤ cond (ltb 0 slow) slow sat
rate-some slow sat some = cond_both (ltb 0 slow) slow sat (λ r. 1 ≤ r) (λ on. (let e = ltb-true 0 slow on in omega (arith, e))) (λ off. some)

pub driven-by : (net : Net) → IsNetwork net → (l : ℕ) → l < length net.link_names → (link_at net l).walk ≡ None → IsDriven net l
driven-by net network l inside plain =
    let link : IsLink (length net.node_names) (link_at net l) = All-get_or (IsLink (length net.node_names)) net.links l no_link (let f = network.outline.road_count in omega (arith, f, inside)) network.outline.links in
    record {
      plain = plain;
      some = rate-some (link_at net l).yield_sat (link_at net l).sat link.sat.0;
      least = λ seen p x. rate-least (yields_at net l) (link_at net l).yield_sat (link_at net l).sat (is_busy net seen p x) (network.outline.yield_sats l inside) link.yield_sat;
    }

module _ (net : Net) (arriving : ℕ → ℕ → ℕ) (seen : ℕ → ℕ → Sign) (l : ℕ) (inside : l < length net.link_names) where
  -- what passed the link in the first n seconds
  abbrev pub passed : ℕ → Cumulative
  passed n = cumulative_under net arriving seen n n l

  still : (d n : ℕ) → cumulative_under net arriving seen (n + d) n l ≡ passed n
  still zero n = let e : n + 0 ≡ n = omega arith in ap (λ (x : ℕ). cumulative_under net arriving seen x n l) e
  still (suc d) n =
      let e : n + suc d ≡ suc (n + d) = omega arith in
      ap (λ (x : ℕ). cumulative_under net arriving seen x n l) e ∙ past-kept net arriving seen (n + d) n l (omega arith) ∙ still d n

  -- it is the same in each later past
  pub in-past : (now n : ℕ) → n ≤ now → cumulative_under net arriving seen now n l ≡ passed n
  in-past now n h =
      let e : n + (now - n) ≡ now = omega arith in
      ap (λ (x : ℕ). cumulative_under net arriving seen x n l) (sym e) ∙ still (now - n) n

  next : (x : ℕ) → passed (x + 1) ≡ passing net (arriving x) seen (cumulative_under net arriving seen x) x l
  next x =
      let e : x + 1 ≡ suc x = omega arith in
      ap (λ (y : ℕ). cumulative_under net arriving seen y (x + 1) l) e ∙ past-next net arriving seen x l inside

  abbrev goes : ℕ → ℕ
  goes x = discharge net seen (cumulative_under net arriving seen x) x l

  pub left-next : (x : ℕ) → (passed (x + 1)).left ≡ (passed x).left + goes x
  left-next x = ap (λ (q : Cumulative). q.left) (next x)

  entered-next : (x : ℕ) → (passed x).entered ≤ (passed (x + 1)).entered
  entered-next x = (let e = ap (λ (q : Cumulative). q.entered) (next x) in omega (arith, e))

  left-grows : (d n : ℕ) → (passed n).left ≤ (passed (n + d)).left
  left-grows zero n = let e : n + 0 ≡ n = omega arith in omega (arith, ap (λ (x : ℕ). (passed x).left) e)
  left-grows (suc d) n =
      let e : n + suc d ≡ n + d + 1 = omega arith in
      omega (arith, left-grows d n, left-next (n + d), ap (λ (x : ℕ). (passed x).left) e)

  pub left-later : (n m : ℕ) → n ≤ m → (passed n).left ≤ (passed m).left
  left-later n m h = let e : n + (m - n) ≡ m = omega arith in omega (arith, left-grows (m - n) n, ap (λ (x : ℕ). (passed x).left) e)

  entered-grows : (d n : ℕ) → (passed n).entered ≤ (passed (n + d)).entered
  entered-grows zero n = let e : n + 0 ≡ n = omega arith in omega (arith, ap (λ (x : ℕ). (passed x).entered) e)
  entered-grows (suc d) n =
      let e : n + suc d ≡ n + d + 1 = omega arith in
      omega (arith, entered-grows d n, entered-next (n + d), ap (λ (x : ℕ). (passed x).entered) e)

  pub entered-later : (n m : ℕ) → n ≤ m → (passed n).entered ≤ (passed m).entered
  entered-later n m h = let e : n + (m - n) ≡ m = omega arith in omega (arith, entered-grows (m - n) n, ap (λ (x : ℕ). (passed x).entered) e)

  -- so is a queue
  pub queue-kept : (now n : ℕ) → n ≤ now → queue net (cumulative_under net arriving seen now) n l ≡ queue net (cumulative_under net arriving seen n) n l
  queue-kept now n h =
      let early = in-past now (n - (link_at net l).travel) (omega (arith, h)) in
      let here = in-past n (n - (link_at net l).travel) (omega arith) in
      omega (arith, ap (λ (q : Cumulative). q.entered) early, ap (λ (q : Cumulative). q.entered) here, ap (λ (q : Cumulative). q.left) (in-past now n h))

  module _ (travels : 1 ≤ (link_at net l).travel) (driven : IsDriven net l) (node : ℕ) (ends : (link_at net l).to ≡ Some node) where
    abbrev travel : ℕ
    travel = (link_at net l).travel

    pub queue-is : (n : ℕ) → queue net (cumulative_under net arriving seen n) n l ≡ (passed (n - travel)).entered - (passed n).left
    queue-is n = (let e = ap (λ (q : Cumulative). q.entered) (in-past n (n - travel) (omega arith)) in omega (arith, e))

    pub waiting-is : (x : ℕ) → waiting net (cumulative_under net arriving seen x) x l ≡ (passed (x + 1 - travel)).entered - (passed x).left
    waiting-is x = (let e = ap (λ (q : Cumulative). q.entered) (in-past x (x + 1 - travel) (omega arith)) in omega (arith, e))

    -- a sign of its home is a green of the link
    on-home : (y since : ℕ) → seen y node ≡ On (link_at net l).phase since → is_green net seen l y ≡ true
    on-home y since shows =
        green-at net seen l y node ends ∙ ap (is_lit net l y) shows
        ∙ ap (λ (w : Option ℕ). is_on_in (is_green_in net l) w y (On (link_at net l).phase since)) (ap (option_map (λ (w : Walk). w.seconds)) driven.plain) ∙ ap (is_green_to net l (link_at net l).phase) ends
        ∙ ap (λ (b : Bool). b || has_link l (also_links_at net node (link_at net l).phase)) (eq-eqb (link_at net l).phase (link_at net l).phase refl)

    -- in a second after the start-up of a green of its home, what waits goes, or as much as it discharges at the least
    pub goes-open : (x since : ℕ) → ((y : ℕ) → since ≤ y → y ≤ x → seen y node ≡ On (link_at net l).phase since) → since + (phase_at (plan_at net node) (link_at net l).phase).loss ≤ x
        → min (least_rate (link_at net l)) (waiting net (cumulative_under net arriving seen x) x l) ≤ goes x
    goes-open x since shows spent =
        let p = cumulative_under net arriving seen x in
        let on = is_green net seen l in
        let loss = (phase_at (plan_at net node) (link_at net l).phase).loss in
        let here = shows x (omega (arith, spent)) (omega arith) in
        let from : begun on x ≤ since = begun-since on since x (omega (arith, spent)) (λ y low high. on-home y since (shows y low (omega (arith, high)))) in
        let losses : loss_of (plan_at net node) (seen x node) ≡ loss = ap (loss_of (plan_at net node)) here in
        let lost : (ltb x (begun on x + loss_of (plan_at net node) (seen x node)) && ltb 0 (queue net p (begun on x) l)) ≡ false =
        and_left (ltb x (begun on x + loss_of (plan_at net node) (seen x node))) (ltb 0 (queue net p (begun on x) l)) (le-ltb x (begun on x + loss_of (plan_at net node) (seen x node)) (omega (arith, from, losses, spent))) in
        let may : may_go net seen p x l node ≡ true = and_from (on x) (not (ltb x (begun on x + loss_of (plan_at net node) (seen x node)) && ltb 0 (queue net p (begun on x) l))) (on-home x since here) (ap not lost) in
        let is : goes x ≡ min (rate net seen p x l) (waiting net p x l) =
        ap (λ (to : Option ℕ). discharge_to net seen p x l to) ends ∙ ap (λ (b : Bool). cond b (min (rate net seen p x l) (waiting net p x l)) 0) may in
        omega (arith, is, driven.least seen p x)

    -- a queue that stands after the first n seconds has lost something by the end of such a second
    pub goes-by : (n x since : ℕ) → n ≤ x → ((y : ℕ) → since ≤ y → y ≤ x → seen y node ≡ On (link_at net l).phase since) → since + (phase_at (plan_at net node) (link_at net l).phase).loss ≤ x
        → 0 < queue net (cumulative_under net arriving seen n) n l → (passed n).left < (passed (x + 1)).left
    goes-by n x since h shows spent stands =
        let grown = left-later n x h in
        elim (cases_lt (passed n).left (passed x).left) [
          | inl more ↦ omega (arith, more, left-later x (x + 1) (omega arith))
          | inr same ↦
              let come = entered-later (n - travel) (x + 1 - travel) (omega arith) in
              omega (arith, same, grown, come, stands, queue-is n, waiting-is x, goes-open x since shows spent, left-next x, driven.some)
        ]

-- the law, for lines
module _ (net : Net) (network : IsNetwork net) (arriving : ℕ → ℕ → ℕ) (lines : ℕ → List Green) (l node : ℕ) (inside : l < length net.link_names) (ends : (link_at net l).to ≡ Some node) (plain : (link_at net l).walk ≡ None)
    (p : IsRing (plan_at net node)) (lawful : IsLawful (plan_at net node) (lines node)) (long : (phase_at (plan_at net node) (link_at net l).phase).loss < (phase_at (plan_at net node) (link_at net l).phase).least) where
  abbrev k : ℕ
  k = (link_at net l).phase

  abbrev loss : ℕ
  loss = (phase_at (plan_at net node) k).loss

  link-is : IsLink (length net.node_names) (link_at net l)
  link-is = All-get_or (IsLink (length net.node_names)) net.links l no_link (let f = network.outline.road_count in omega (arith, f, inside)) network.outline.links

  seen : ℕ → ℕ → Sign
  seen = signs_by lines

  shows : (x y : ℕ) (one : IsShown (plan_at net node) (lines node) k x) → one.row.from ≤ y → y < one.row.to → signs_by lines y node ≡ On k one.row.from
  shows x y one low high = on-at (lines node) y one.row k (order-lawful (plan_at net node) (lines node) p lawful) (one.found y low high) one.phase

  pub waits : (n most now : ℕ) → IsGreenBy (lines node) k n (n + most) → n + (most + loss + 1) ≤ now → 0 < queue net (cumulative_under net arriving (signs_by lines) now) n l
      → (cumulative_under net arriving (signs_by lines) now n l).left < (cumulative_under net arriving (signs_by lines) now (n + (most + loss + 1)) l).left
  waits n most now by room stands =
      let one = shown (plan_at net node) p (lines node) k by.second lawful by.green in
      let least : one.row.from + (phase_at (plan_at net node) k).least ≤ one.row.to = subst (λ (j : ℕ). one.row.from + (phase_at (plan_at net node) j).least ≤ one.row.to) one.phase one.green.least in
      let same = in-past net arriving (signs_by lines) l inside now n (omega (arith, room)) in
      let later = in-past net arriving (signs_by lines) l inside now (n + (most + loss + 1)) room in
      let now_stands : 0 < queue net (cumulative_under net arriving (signs_by lines) n) n l = omega (arith, stands, queue-kept net arriving (signs_by lines) l inside now n (omega (arith, room))) in
      elim (cases_lt by.second (one.row.from + loss)) [
        | inl starts ↦
            let x = one.row.from + loss in
            let goes = goes-by net arriving (signs_by lines) l inside link-is.travel.0 (driven-by net network l inside plain) node ends n x one.row.from (omega (arith, by.after, starts)) (λ y low high. shows by.second y one low (omega (arith, high, least, long))) (omega arith) now_stands in
            omega (arith, goes, left-later net arriving (signs_by lines) l inside (x + 1) (n + (most + loss + 1)) (omega (arith, one.begun, by.before)), ap (λ (q : Cumulative). q.left) same, ap (λ (q : Cumulative). q.left) later)
        | inr goes_on ↦
            let goes = goes-by net arriving (signs_by lines) l inside link-is.travel.0 (driven-by net network l inside plain) node ends n by.second one.row.from by.after (λ y low high. shows by.second y one low (omega (arith, high, one.still))) goes_on now_stands in
            omega (arith, goes, left-later net arriving (signs_by lines) l inside (by.second + 1) (n + (most + loss + 1)) (omega (arith, by.before)), ap (λ (q : Cumulative). q.left) same, ap (λ (q : Cumulative). q.left) later)
      ]

-- where the greens follow one another within intergreens
pub waiting-law : (net : Net) → IsNetwork net → (arriving : ℕ → ℕ → ℕ) (lines : ℕ → List Green) (intergreen : ℕ → ℕ) (l node now n : ℕ) → l < length net.link_names
    → (link_at net l).to ≡ Some node → (link_at net l).walk ≡ None → is_unmarked_at (plan_at net node) (link_at net l).phase ≡ true
    → (phase_at (plan_at net node) (link_at net l).phase).loss < (phase_at (plan_at net node) (link_at net l).phase).least
    → IsLawful (plan_at net node) (lines node) → AreIntergreensWithin intergreen (lines node) → (row_at (lines node) 0).from ≤ n
    → n + longest_wait (plan_at net node) intergreen (link_at net l).phase ≤ now → now < end_of (lines node)
    → 0 < queue net (cumulative_under net arriving (signs_by lines) now) n l
    → Discharges (cumulative_under net arriving (signs_by lines) now) l n (n + longest_wait (plan_at net node) intergreen (link_at net l).phase)
waiting-law net network arriving lines intergreen l node now n inside ends plain free long lawful intergreens begun room end stands =
    let link : IsLink (length net.node_names) (link_at net l) = All-get_or (IsLink (length net.node_names)) net.links l no_link (let f = network.outline.road_count in omega (arith, f, inside)) network.outline.links in
    let there : node < length net.node_names = subst (λ (o : Option ℕ). IfSome o (λ n. n < length net.node_names)) ends link.to in
    let plan = plan_at net node in
    let p : IsRing plan = (All-get_or IsOwnRing net.plans node [] (let e = network.outline.plan_count in omega (arith, e, there)) network.outline.plans).ring in
    let k = (link_at net l).phase in
    let below : k < length plan = ((served net network.outline network.joins).entries l node inside ends).0 in
    let most = longest_way plan intergreen k k in
    let by = within plan p.phases intergreen k below free (lines node) lawful intergreens n begun (omega (arith, room, end)) in
    waits net network arriving lines l node inside ends plain p lawful long n most now by room stands
