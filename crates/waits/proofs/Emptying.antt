-- What a queue loses in a whole green, and so in each turn of the ring.
use Rattle.std.proofs.Common.{◌≡◌, ℕ, zero, suc, ◌+◌, ◌-◌, ◌*◌, ◌<◌, ◌≤◌, max, min, true, List, [], length, IfSome, Option, Some, sym, ap, subst, ◌∙◌, inl, inr, arith, suc-mul, None}
use Rattle.std.proofs.lemmas.Bool.{cases_lt}
use Rattle.std.proofs.lemmas.List.Elements.{All-get_or}
use Rattle.std.proofs.lemmas.Option.{same_Some}
use Rattle.phase_plan.specs.Phases.{IsOwnRing, IsRing, is_unmarked_at, phase_at}
use Rattle.phase_plan.specs.declared.Phase.{Phase}
use Rattle.control_flow.specs.Greens.{IsGreen, IsLawful, end_of, green_at, row_at}
use Rattle.control_flow.specs.declared.greens.Green.{Green}
use Rattle.control_flow.specs.declared.greens.Sign.{Sign}
use Rattle.control_flow.specs.declared.greens.Sign.TheVariants.{On}
use Rattle.control_flow.proofs.OrderLaws.{order-lawful}
use Rattle.net_parts.specs.Numbers.{Net, no_link}
use Rattle.net_parts.specs.Outline.{IsLink, link_at, plan_at}
use Rattle.road_net.specs.Network.{IsNetwork}
use Rattle.road_net.proofs.Served.{served}
use Rattle.net_simulator.specs.Flow.{Cumulative, cumulative_under, queue}
use Rattle.net_simulator.specs.Worlds.{signs_by}
use Rattle.waits.specs.Discharges.{least_discharge, least_rate, whole_green_within}
use Rattle.waits.specs.Waits.{IsGreenWithin, AreIntergreensWithin, longest_way}
use Rattle.waits.proofs.Shown.{IsShown, on-at, shown}
use Rattle.waits.proofs.Turns.{within}
use Rattle.waits.proofs.Waiting.{IsDriven, driven-by, entered-later, goes-open, in-past, left-later, left-next, passed, queue-is, queue-kept, waiting-is}

-- two rows that a line shows: a later one begins when the other has ended
behind-shown : (plan : List Phase) (rows : List Green) (k x y : ℕ) (one : IsShown plan rows k x) (other : IsShown plan rows k y) → one.row.to ≤ y → one.row.to ≤ other.row.from
behind-shown plan rows k x y one other past = elim (cases_lt other.row.from one.row.to) [
  | inr after ↦ after
  | inl before ↦
      let z = max one.row.from other.row.from in
      let first : green_at rows z ≡ Some one.row = one.found z (omega arith) (omega (arith, before, one.begun, one.still)) in
      let second : green_at rows z ≡ Some other.row = other.found z (omega arith) (omega (arith, past, other.begun, other.still, one.begun, one.still)) in
      let same : one.row ≡ other.row = same_Some one.row other.row (sym first ∙ second) in
      absurd (omega (arith, past, other.still, ap (λ (g : Green). g.to) same))
]

-- a green of phase k that begins and ends within a span of seconds
pub record IsWhole (plan : List Phase) (rows : List Green) (k from to : ℕ) : Type 0 where
  pub row : Green
  pub phase : row.phase ≡ k
  pub green : IsGreen plan row
  pub after : from ≤ row.from
  pub before : row.to ≤ to
  pub found : (y : ℕ) → row.from ≤ y → y < row.to → green_at rows y ≡ Some row

whole-of : (plan : List Phase) (rows : List Green) (k x from to : ℕ) → (one : IsShown plan rows k x) → from ≤ one.row.from → x + (phase_at plan k).greatest ≤ to → IsWhole plan rows k from to
whole-of plan rows k x from to one after room = record {
  row = one.row;
  phase = one.phase;
  green = one.green;
  after = after;
  before = (let most : one.row.to ≤ one.row.from + (phase_at plan k).greatest = subst (λ (j : ℕ). one.row.to ≤ one.row.from + (phase_at plan j).greatest) one.phase one.green.greatest in omega (arith, most, one.begun, room));
  found = one.found;
}

pub whole : (plan : List Phase) (p : IsRing plan) (rows : List Green) (k most : ℕ) → IsLawful plan rows → IsGreenWithin rows k most → (n : ℕ) → (row_at rows 0).from ≤ n → n + (phase_at plan k).greatest + most < end_of rows
    → IsWhole plan rows k n (n + ((phase_at plan k).greatest + most + (phase_at plan k).greatest))
whole plan p rows k most lawful turns n begun end =
    let first = turns n begun (omega (arith, end)) in
    let one = shown plan p rows k first.second lawful first.green in
    let long : one.row.to ≤ one.row.from + (phase_at plan k).greatest = subst (λ (j : ℕ). one.row.to ≤ one.row.from + (phase_at plan j).greatest) one.phase one.green.greatest in
    elim (cases_lt one.row.from n) [
      | inr after ↦ whole-of plan rows k first.second n (n + ((phase_at plan k).greatest + most + (phase_at plan k).greatest)) one after (omega (arith, first.before))
      | inl under_way ↦
          let next = turns one.row.to (omega (arith, begun, first.after, one.still)) (omega (arith, end, long, under_way)) in
          let other = shown plan p rows k next.second lawful next.green in
          let after = behind-shown plan rows k first.second next.second one other next.after in
          whole-of plan rows k next.second n (n + ((phase_at plan k).greatest + most + (phase_at plan k).greatest)) other (omega (arith, after, first.after, one.still)) (omega (arith, next.before, long, under_way))
    ]

module _ (net : Net) (arriving : ℕ → ℕ → ℕ) (seen : ℕ → ℕ → Sign) (l : ℕ) (inside : l < length net.link_names) (travels : 1 ≤ (link_at net l).travel) (driven : IsDriven net l) (node : ℕ) (ends : (link_at net l).to ≡ Some node) where
  abbrev gone : ℕ → ℕ
  gone n = (passed net arriving seen l inside n).left

  abbrev stands : ℕ → ℕ
  stands n = queue net (cumulative_under net arriving seen n) n l

  -- in the seconds of a green after its start-up
  loses : (n x since j : ℕ) → n ≤ x → since + (phase_at (plan_at net node) (link_at net l).phase).loss ≤ x → ((y : ℕ) → since ≤ y → y < x + j → seen y node ≡ On (link_at net l).phase since)
      → gone n + min (stands n) (j * least_rate (link_at net l)) ≤ gone (x + j)
  loses n x since zero h spent shows =
      let e : x + 0 ≡ x = omega arith in
      omega (arith, left-later net arriving seen l inside n x h, ap gone e)
  loses n x since (suc j) h spent shows =
      let before = loses n x since j h spent (λ z low less. shows z low (omega (arith, less))) in
      let y = x + j in
      let e : x + suc j ≡ y + 1 = omega arith in
      let come = entered-later net arriving seen l inside (n - (link_at net l).travel) (y + 1 - (link_at net l).travel) (omega (arith, h)) in
      let goes = goes-open net arriving seen l inside travels driven node ends y since (λ z low high. shows z low (omega (arith, high))) (omega (arith, spent)) in
      omega (arith, before, come, goes, suc-mul j (least_rate (link_at net l)), queue-is net arriving seen l inside travels driven node ends n, waiting-is net arriving seen l inside travels driven node ends y, left-next net arriving seen l inside y, left-later net arriving seen l inside n y (omega (arith, h)), ap gone e)

-- the law, for lines
module _ (net : Net) (network : IsNetwork net) (arriving : ℕ → ℕ → ℕ) (lines : ℕ → List Green) (l node : ℕ) (inside : l < length net.link_names) (ends : (link_at net l).to ≡ Some node) (plain : (link_at net l).walk ≡ None)
    (p : IsRing (plan_at net node)) (lawful : IsLawful (plan_at net node) (lines node)) where
  abbrev k : ℕ
  k = (link_at net l).phase

  abbrev times : Phase
  times = phase_at (plan_at net node) k

  pub link-is : IsLink (length net.node_names) (link_at net l)
  link-is = All-get_or (IsLink (length net.node_names)) net.links l no_link (let f = network.outline.road_count in omega (arith, f, inside)) network.outline.links

  pub turn-loses : (most n : ℕ) → IsGreenWithin (lines node) k most → (row_at (lines node) 0).from ≤ n → n + times.greatest + most < end_of (lines node)
      → gone net arriving (signs_by lines) l inside link-is.travel.0 (driven-by net network l inside plain) node ends n + min (stands net arriving (signs_by lines) l inside link-is.travel.0 (driven-by net network l inside plain) node ends n) (least_discharge (plan_at net node) k (least_rate (link_at net l)))
      ≤ gone net arriving (signs_by lines) l inside link-is.travel.0 (driven-by net network l inside plain) node ends (n + (times.greatest + most + times.greatest))
  turn-loses most n turns begun end =
      let one = whole (plan_at net node) p (lines node) k most lawful turns n begun end in
      let least : one.row.from + times.least ≤ one.row.to = subst (λ (j : ℕ). one.row.from + (phase_at (plan_at net node) j).least ≤ one.row.to) one.phase one.green.least in
      let count = times.least - times.loss in
      let x = one.row.from + times.loss in
      let shows : times.loss < times.least → (y : ℕ) → one.row.from ≤ y → y < x + count → signs_by lines y node ≡ On k one.row.from = λ some y low less.
      on-at (lines node) y one.row k (order-lawful (plan_at net node) (lines node) p lawful) (one.found y low (omega (arith, some, less, least))) one.phase in
      elim (cases_lt times.loss times.least) [
        | inl some ↦
            let loss = loses net arriving (signs_by lines) l inside link-is.travel.0 (driven-by net network l inside plain) node ends n x one.row.from count (omega (arith, one.after)) (omega arith) (shows some) in
            omega (arith, loss, left-later net arriving (signs_by lines) l inside (x + count) (n + (times.greatest + most + times.greatest)) (omega (arith, least, one.before, some)))
        | inr none ↦
            let e : count ≡ 0 = omega (arith, none) in
            omega (arith, ap (λ (c : ℕ). c * least_rate (link_at net l)) e, left-later net arriving (signs_by lines) l inside n (n + (times.greatest + most + times.greatest)) (omega arith))
      ]

  abbrev left_by : ℕ → ℕ
  left_by n = gone net arriving (signs_by lines) l inside link-is.travel.0 (driven-by net network l inside plain) node ends n

  abbrev queue_by : ℕ → ℕ
  queue_by n = stands net arriving (signs_by lines) l inside link-is.travel.0 (driven-by net network l inside plain) node ends n

  -- turn by turn
  pub turns-lose : (most n now turns : ℕ) → IsGreenWithin (lines node) k most → (row_at (lines node) 0).from ≤ n → n + turns * (times.greatest + most + times.greatest) ≤ now → now < end_of (lines node)
      → left_by n + min (queue_by n) (turns * least_discharge (plan_at net node) k (least_rate (link_at net l))) ≤ left_by (n + turns * (times.greatest + most + times.greatest))
  turns-lose most n now zero within begun room end =
      let e : n + 0 * (times.greatest + most + times.greatest) ≡ n = omega arith in
      omega (arith, ap left_by e)
  turns-lose most n now (suc turns) within begun room end =
      let span = times.greatest + most + times.greatest in
      let share = least_discharge (plan_at net node) k (least_rate (link_at net l)) in
      let m = n + turns * span in
      let grown = suc-mul turns span in
      let before = turns-lose most n now turns within begun (omega (arith, room, grown)) end in
      let one = turn-loses most m within (omega (arith, begun)) (omega (arith, room, grown, end)) in
      let e : n + suc turns * span ≡ m + span = omega (arith, grown) in
      let come = entered-later net arriving (signs_by lines) l inside (n - (link_at net l).travel) (m - (link_at net l).travel) (omega arith) in
      omega (arith, before, one, come, suc-mul turns share, queue-is net arriving (signs_by lines) l inside link-is.travel.0 (driven-by net network l inside plain) node ends n, queue-is net arriving (signs_by lines) l inside link-is.travel.0 (driven-by net network l inside plain) node ends m, ap left_by e)

-- where the greens follow one another within intergreens
pub emptying-law : (net : Net) → IsNetwork net → (arriving : ℕ → ℕ → ℕ) (lines : ℕ → List Green) (intergreen : ℕ → ℕ) (l node now n turns : ℕ) → l < length net.link_names
    → (link_at net l).to ≡ Some node → (link_at net l).walk ≡ None → is_unmarked_at (plan_at net node) (link_at net l).phase ≡ true
    → IsLawful (plan_at net node) (lines node) → AreIntergreensWithin intergreen (lines node) → (row_at (lines node) 0).from ≤ n
    → n + turns * whole_green_within (plan_at net node) intergreen (link_at net l).phase ≤ now → now < end_of (lines node)
    → (cumulative_under net arriving (signs_by lines) now n l).left + min (queue net (cumulative_under net arriving (signs_by lines) now) n l) (turns * least_discharge (plan_at net node) (link_at net l).phase (least_rate (link_at net l)))
    ≤ (cumulative_under net arriving (signs_by lines) now (n + turns * whole_green_within (plan_at net node) intergreen (link_at net l).phase) l).left
emptying-law net network arriving lines intergreen l node now n turns inside ends plain free lawful intergreens begun room end =
    let link : IsLink (length net.node_names) (link_at net l) = All-get_or (IsLink (length net.node_names)) net.links l no_link (let f = network.outline.road_count in omega (arith, f, inside)) network.outline.links in
    let there : node < length net.node_names = subst (λ (o : Option ℕ). IfSome o (λ n. n < length net.node_names)) ends link.to in
    let plan = plan_at net node in
    let p : IsRing plan = (All-get_or IsOwnRing net.plans node [] (let e = network.outline.plan_count in omega (arith, e, there)) network.outline.plans).ring in
    let k = (link_at net l).phase in
    let below : k < length plan = ((served net network.outline network.joins).entries l node inside ends).0 in
    let most = longest_way plan intergreen k k in
    let turning : IsGreenWithin (lines node) k most = within plan p.phases intergreen k below free (lines node) lawful intergreens in
    let m = n + turns * whole_green_within plan intergreen k in
    let lost = turns-lose net network arriving lines l node inside ends plain p lawful most n now turns turning begun room end in
    let same = in-past net arriving (signs_by lines) l inside now n (omega (arith, room)) in
    let later = in-past net arriving (signs_by lines) l inside now m room in
    omega (arith, lost, queue-kept net arriving (signs_by lines) l inside now n (omega (arith, room)), ap (λ (q : Cumulative). q.left) same, ap (λ (q : Cumulative). q.left) later)
