-- A world that stands for its past stands for it one second later.
use Rattle.std.proofs.Common.{◌≡◌, ◌≢◌, ℕ, zero, suc, ◌+◌, ◌-◌, ◌*◌, ◌%◌, ◌<◌, ◌≤◌, List, Option, Some, None, length, replicate, get_or, slice_index, slice_index_or, refl, sym, ap, subst, ◌∙◌, add-one, arith}
use Rattle.net_parts.specs.Limits.{most_seconds}
use Rattle.net_parts.specs.Numbers.{Net}
use Rattle.net_parts.specs.Outline.{link_at, turns_at}
use Rattle.road_net.specs.Joins.{split_of}
use Rattle.road_net.specs.Network.{IsNetwork}
use Rattle.control_flow.specs.declared.greens.Green.{Green}
use Rattle.control_flow.specs.Signs.{sign_at}
use Rattle.control_flow.specs.declared.greens.Sign.{Sign}
use Rattle.control_flow.specs.declared.greens.Sign.TheVariants.{Dark}
use Rattle.net_simulator.specs.declared.totals.LinkTotals.{LinkTotals}
use Rattle.net_simulator.specs.declared.totals.Totals.{Totals}
use Rattle.road_net.specs.Totals.{total}
use Rattle.net_simulator.specs.Flow.{Cumulative, passed_in, nothing, queue, waiting, discharge, entered_in, cumulative_under}
use Rattle.arrivals.specs.Amounts.{Amounts, AreArrivals, arriving_of}
use Rattle.net_simulator.specs.Sums.{outward, total_arrived, total_left, on_road, delay, link_totals, totals, AreFew}
use Rattle.net_simulator.specs.LinkGreens.{is_green, last_sign, lit_since, never}
use Rattle.net_simulator.specs.Moves.{Moves}
use Rattle.net_simulator.specs.Rows.{cell}
use Rattle.net_simulator.specs.Counts.{counts_at, no_totals}
use Rattle.net_simulator.specs.LinkSeconds.{waits_at, stands_on}
use Rattle.net_simulator.specs.Steps.{goes_at, goes_out, all_of, counted, FitsSeconds}
use Rattle.net_simulator.specs.Senses.{stood}
use Rattle.net_simulator.specs.Worlds.{AreShown, WorldState, HasShape, Keeps, Stands, signs_by}
use Rattle.road_net.proofs.TotalLaws.{total-same, total-le, total-zero}
use Rattle.net_simulator.proofs.Sums.{total-of}
use Rattle.net_simulator.proofs.MoveLaws.{flowing, same-history, zero-by}
use Rattle.net_simulator.proofs.FlowLaws.{history-alike}
use Rattle.net_simulator.proofs.LightLaws.{AreAlike, alike-shown, are-shown-same}
use Rattle.net_simulator.proofs.Sound.{IsSound, Continues, AreMoved, flows, flow-moved, next-one}
use Rattle.net_simulator.proofs.Keeping.{waits-same, goes-same, kept-queue, keeps-next}
use Rattle.net_simulator.proofs.EveryWorld.{bounds-of, are-sound, all-there, gone-more, delay-more, delays-more, road-most, out-most, waits-most, enters-most, entered-most, delay-within}
use Rattle.net_simulator.proofs.Standing.{stood-none, stood-most, stood-kept, stood-next}
use Rattle.net_simulator.proofs.Conserving.{left-entered}

-- the bound on arrivals, over the links by name
pub few-of : (net : Net) → IsNetwork net → (a : Amounts) → AreArrivals net a → AreFew net (arriving_of a)
few-of net network a enter n = subst (λ k. total (λ x. total (arriving_of a x) k) n ≤ 2000000000) network.outline.road_count (enter.few n)

-- what the signals show
pub seen-by : (signs : List Sign) (nodes : ℕ) (lines : ℕ → List Green) (x : ℕ) → ((n : ℕ) → n < nodes → slice_index_or signs n Dark ≡ sign_at (lines n) x)
    → (n : ℕ) → n < nodes → signs_by lines x n ≡ slice_index_or signs n Dark
seen-by signs nodes lines x seen n h = sym (seen n h)

same-link : (s t : LinkTotals) → s.entered ≡ t.entered → s.left ≡ t.left → s.delay ≡ t.delay → s ≡ t
same-link s t a b c = λ i. record { entered = a i; left = b i; delay = c i }

same-totals : (s t : Totals) → s.entered ≡ t.entered → s.left ≡ t.left → s.on ≡ t.on → s.delay ≡ t.delay → s ≡ t
same-totals s t a b c d = λ i. record { entered = a i; left = b i; on = c i; delay = d i }

-- what holds of every world, of the world that stands
module _ (net : Net) (network : IsNetwork net) (arriving : ℕ → ℕ → ℕ) (shown : ℕ → ℕ → Sign) where
  pub sound-at : (n : ℕ) → IsSound net (cumulative_under net arriving shown n) n
  sound-at = are-sound net network (flows net arriving shown) (cumulative_under net arriving shown) (flow-moved net arriving shown)

  pub whole-at : (n : ℕ) → on_road net (cumulative_under net arriving shown n) n + total_left net (cumulative_under net arriving shown n) n ≡ total_arrived net arriving n
  whole-at = all-there net network (flows net arriving shown) (cumulative_under net arriving shown) (flow-moved net arriving shown)

module _ (net : Net) (network : IsNetwork net) (arriving : ℕ → ℕ → ℕ) (shown : ℕ → ℕ → Sign) (arrivals : AreFew net arriving) where
  pub on-road-most : (n : ℕ) → on_road net (cumulative_under net arriving shown n) n ≤ 2000000000
  on-road-most = road-most net network (flows net arriving shown) (cumulative_under net arriving shown) (flow-moved net arriving shown) arrivals

  pub gone-most : (n : ℕ) → total_left net (cumulative_under net arriving shown n) n ≤ 2000000000
  gone-most = out-most net network (flows net arriving shown) (cumulative_under net arriving shown) (flow-moved net arriving shown) arrivals

  pub entering-most : (x l : ℕ) → l < length net.link_names → entered_in net (arriving x) shown (cumulative_under net arriving shown x) x l ≤ 2000000000
  entering-most = enters-most net network (flows net arriving shown) (cumulative_under net arriving shown) (flow-moved net arriving shown) arrivals

  pub entered-small : (n l : ℕ) → l < length net.link_names → (cumulative_under net arriving shown n n l).entered ≤ n * 2000000000
  entered-small = entered-most net network (flows net arriving shown) (cumulative_under net arriving shown) (flow-moved net arriving shown) arrivals

  pub delay-small : (n l : ℕ) → l < length net.link_names → delay net (cumulative_under net arriving shown n) n l ≤ n * 2000000000
  delay-small = delay-within net network (flows net arriving shown) (cumulative_under net arriving shown) (flow-moved net arriving shown) arrivals

-- what the code does in second x
pub record IsStep (net : Net) (arriving : ℕ → ℕ) (x : ℕ) (rs1 ready lv : List ℕ) (w v : WorldState) : Type 0 where
  pub arrives : (l : ℕ) → l < length net.link_names → cell rs1 l x ≡ arriving l
  pub arrives-others : (l y : ℕ) → y % 128 ≢ x % 128 → cell rs1 l y ≡ cell w.recent l y
  pub gathers : (l : ℕ) → l < length net.link_names → slice_index ready l ≡ waits_at net w.queues rs1 x l
  pub leaves : (l : ℕ) → l < length net.link_names → slice_index lv l ≡ goes_at net v.signs v.since w.waits ready x l
  pub queues : (l : ℕ) → l < length net.link_names → slice_index v.queues l ≡ slice_index ready l - slice_index lv l
  pub enters : (l : ℕ) → l < length net.link_names → cell v.recent l x ≡ cell rs1 l x + total (λ k. split_of (turns_at net k) (slice_index lv k) l) (length net.link_names)
  pub enters-others : (l y : ℕ) → y % 128 ≢ x % 128 → cell v.recent l y ≡ cell rs1 l y
  pub remembers : (l : ℕ) → l < length net.link_names → cell v.waits l (x + 1) ≡ slice_index v.queues l
  pub remembers-others : (l y : ℕ) → y % 128 ≢ (x + 1) % 128 → cell v.waits l y ≡ cell w.waits l y
  pub stands : (l : ℕ) → l < length net.link_names → slice_index v.stood l ≡ stands_on (slice_index v.queues l) (slice_index w.stood l)
  pub counts : (l : ℕ) → l < length net.link_names → counts_at v.counts l ≡ counted (counts_at w.counts l) (cell v.recent l x) (slice_index lv l) (slice_index v.queues l)
  pub entered : v.totals.entered ≡ w.totals.entered + total arriving (length net.link_names)
  pub left : v.totals.left ≡ w.totals.left + goes_out net lv
  pub delay : v.totals.delay ≡ w.totals.delay + all_of v.queues (length net.link_names)
  pub on : v.totals.on ≡ v.totals.entered - v.totals.left

module _ (net : Net) (network : IsNetwork net) (arriving : ℕ → ℕ → ℕ) (lines : ℕ → List Green) (arrivals : AreFew net arriving) (w : WorldState) (stands : Stands net arriving (signs_by lines) w) where
  abbrev past : ℕ → ℕ → ℕ → Cumulative
  past = cumulative_under net arriving (signs_by lines)

  abbrev before : ℕ → ℕ → Cumulative
  before = cumulative_under net arriving (signs_by lines) w.second

  abbrev moves : ℕ → Moves
  moves = flows net arriving (signs_by lines)

  course : AreMoved net (flows net arriving (signs_by lines)) (cumulative_under net arriving (signs_by lines))
  course = flow-moved net arriving (signs_by lines)

  abbrev sound : IsSound net (cumulative_under net arriving (signs_by lines) w.second) w.second
  sound = sound-at net network arriving (signs_by lines) w.second

  -- what waits in this second
  pub waits-now : (rs1 : List ℕ) → ((l y : ℕ) → y % 128 ≢ w.second % 128 → cell rs1 l y ≡ cell w.recent l y) → (l : ℕ) → l < length net.link_names → waits_at net w.queues rs1 w.second l ≡ waiting net before w.second l
  waits-now rs1 others l h = waits-same net w.second before w.queues w.recent w.waits (bounds-of net network) sound stands.keeps rs1 others l h

  pub room-leave : (rs1 : List ℕ) → ((l y : ℕ) → y % 128 ≢ w.second % 128 → cell rs1 l y ≡ cell w.recent l y) → (l : ℕ) → l < length net.link_names → waits_at net w.queues rs1 w.second l < 4294967296
  room-leave rs1 others l h = omega (arith, waits-now rs1 others l h, waits-most net network moves past course arrivals w.second l h)

  -- what leaves in this second
  pub leaves-now : (signs : List Sign) (since rs1 ready : List ℕ) (lv : ℕ → ℕ) → w.second < most_seconds → ((n : ℕ) → n < length net.node_names → slice_index_or signs n Dark ≡ sign_at (lines n) w.second)
      → ((l : ℕ) → l < length net.link_names → slice_index since l ≡ lit_since (is_green net (signs_by lines) l) (w.second + 1))
      → ((l y : ℕ) → y % 128 ≢ w.second % 128 → cell rs1 l y ≡ cell w.recent l y)
      → ((l : ℕ) → l < length net.link_names → slice_index ready l ≡ waits_at net w.queues rs1 w.second l)
      → ((l : ℕ) → l < length net.link_names → lv l ≡ goes_at net signs since w.waits ready w.second l)
      → (l : ℕ) → l < length net.link_names → lv l ≡ discharge net (signs_by lines) before w.second l
  leaves-now signs since rs1 ready lv early seen lit others gathers leaves l h =
      leaves l h ∙ goes-same net w.second before w.queues w.recent w.waits (bounds-of net network) sound stands.keeps (signs_by lines) signs since ready (omega (arith, early)) lit
      (seen-by signs (length net.node_names) lines w.second seen) (λ k b. gathers k b ∙ waits-now rs1 others k b) l h

  -- what enters in this second, by what the code keeps
  pub enters-now : (lv : ℕ → ℕ) → ((l : ℕ) → l < length net.link_names → lv l ≡ discharge net (signs_by lines) before w.second l)
      → (l : ℕ) → arriving w.second l + total (λ k. split_of (turns_at net k) (lv k) l) (length net.link_names) ≡ entered_in net (arriving w.second) (signs_by lines) before w.second l
  enters-now lv leaves l =
      let same = total-same (λ k. split_of (turns_at net k) (lv k) l) (λ k. split_of (turns_at net k) (discharge net (signs_by lines) before w.second k) l) (length net.link_names) (λ k b. ap (λ a. split_of (turns_at net k) a l) (leaves k b)) in
      omega (arith, same)

  pub room-enter : (rs1 : List ℕ) (lv : ℕ → ℕ) → ((l : ℕ) → l < length net.link_names → lv l ≡ discharge net (signs_by lines) before w.second l)
      → ((l : ℕ) → l < length net.link_names → cell rs1 l w.second ≡ arriving w.second l)
      → (l : ℕ) → l < length net.link_names → cell rs1 l w.second + total (λ k. split_of (turns_at net k) (lv k) l) (length net.link_names) < 4294967296
  room-enter rs1 lv leaves here l h = omega (arith, here l h, enters-now lv leaves l, entering-most net network arriving (signs_by lines) arrivals w.second l h)

  -- what the totals may become in this second
  pub room-entered : w.totals.entered + total (arriving w.second) (length net.link_names) ≤ 2000000000
  room-entered = let most = arrivals (suc w.second) in omega (arith, ap (λ (t : Totals). t.entered) stands.totals, most)

  pub room-left : (lv : List ℕ) → ((l : ℕ) → l < length net.link_names → slice_index lv l ≡ discharge net (signs_by lines) before w.second l)
      → w.totals.left + goes_out net lv ≤ w.totals.entered + total (arriving w.second) (length net.link_names)
  room-left lv leaves =
      let whole = whole-at net network arriving (signs_by lines) (w.second + 1) in
      let more = ap (total_arrived net arriving) (add-one w.second) in
      omega (arith, ap (λ (t : Totals). t.entered) stands.totals, ap (λ (t : Totals). t.left) stands.totals, gone-more net network moves past course w.second lv leaves, whole, more)

  pub delay-most : w.totals.delay ≤ 1415577600000000000
  delay-most =
      let each = total-le (delay net before w.second) (λ l. 172800000000000) (length net.link_names) (λ l h. omega (arith, delay-small net network arriving (signs_by lines) arrivals w.second l h, stands.by)) in
      let all = total-of 172800000000000 (length net.link_names) in
      let few = network.outline.link_count.1 in
      omega (arith, ap (λ (t : Totals). t.delay) stands.totals, each, all, few)

  pub stands-next : (rs1 ready lv : List ℕ) (v : WorldState) → w.second < most_seconds → v.second ≡ w.second + 1 → HasShape net v
      → ((n : ℕ) → n < length net.node_names → slice_index_or v.signs n Dark ≡ sign_at (lines n) w.second)
      → ((l : ℕ) → l < length net.link_names → slice_index v.since l ≡ lit_since (is_green net (signs_by lines) l) (w.second + 1))
      → IsStep net (arriving w.second) w.second rs1 ready lv w v → Stands net arriving (signs_by lines) v
  stands-next rs1 ready lv v below second shape seen lit step =
      let x : ℕ = w.second in
      let S : ℕ → ℕ → Sign = signs_by lines in
      let Q : ℕ → ℕ → Cumulative = cumulative_under net arriving S (x + 1) in
      let on : Continues net (moves x) x before Q = next-one net moves past course x in
      let leaves = leaves-now v.signs v.since rs1 ready (slice_index lv) below seen lit step.arrives-others step.gathers step.leaves in
      let recent : (l : ℕ) → l < length net.link_names → cell v.recent l x ≡ arriving x l + total (λ k. split_of (turns_at net k) (slice_index lv k) l) (length net.link_names) = λ l h. omega (arith, step.enters l h, step.arrives l h) in
      let keeps : Keeps net Q v.queues v.recent v.waits (x + 1) =
      keeps-next net (moves x) x before Q w.queues w.recent w.waits (bounds-of net network) on stands.keeps lv v.queues v.recent v.waits leaves
      (λ l h. step.queues l h ∙ ap (λ n. n - slice_index lv l) (step.gathers l h ∙ waits-now rs1 step.arrives-others l h)) recent (λ l y ne. step.enters-others l y ne ∙ step.arrives-others l y ne) step.remembers step.remembers-others in
      let kept : (l y : ℕ) → y ≤ x → queue net Q y l ≡ queue net before y l = λ l y h. kept-queue net (moves x) x before Q w.queues w.recent w.waits (bounds-of net network) on stands.keeps y l h in
      let entered : (l : ℕ) → l < length net.link_names → (counts_at v.counts l).entered ≡ (Q (x + 1) l).entered = λ l h.
      omega (arith, ap (λ (q : LinkTotals). q.entered) (step.counts l h), ap (λ (q : LinkTotals). q.entered) (stands.counts l h), ap (λ (q : Cumulative). q.entered) (on.next l h), recent l h, enters-now (slice_index lv) leaves l) in
      let left : (l : ℕ) → l < length net.link_names → (counts_at v.counts l).left ≡ (Q (x + 1) l).left = λ l h.
      omega (arith, ap (λ (q : LinkTotals). q.left) (step.counts l h), ap (λ (q : LinkTotals). q.left) (stands.counts l h), ap (λ (q : Cumulative). q.left) (on.next l h), leaves l h) in
      let delays : (l : ℕ) → l < length net.link_names → (counts_at v.counts l).delay ≡ delay net Q (x + 1) l = λ l h.
      omega (arith, ap (λ (q : LinkTotals). q.delay) (step.counts l h), ap (λ (q : LinkTotals). q.delay) (stands.counts l h), keeps.queues l h, delay-more net network moves past course x l) in
      let counts : (l : ℕ) → l < length net.link_names → counts_at v.counts l ≡ link_totals net Q (x + 1) l = λ l h. same-link (counts_at v.counts l) (link_totals net Q (x + 1) l) (entered l h) (left l h) (delays l h) in
      let standing : (l : ℕ) → l < length net.link_names → slice_index v.stood l ≡ stood net Q (x + 1) l = λ l h.
      step.stands l h ∙ ap (λ q. stands_on q (slice_index w.stood l)) (keeps.queues l h) ∙ ap (stands_on (queue net Q (x + 1) l)) (stands.stood l h ∙ sym (stood-kept net Q before x l (kept l))) ∙ sym (stood-next net Q x l) in
      let all-entered : v.totals.entered ≡ total_arrived net arriving (x + 1) = omega (arith, step.entered, ap (λ (t : Totals). t.entered) stands.totals, ap (total_arrived net arriving) (add-one x)) in
      let all-left : v.totals.left ≡ total_left net Q (x + 1) = omega (arith, step.left, ap (λ (t : Totals). t.left) stands.totals, gone-more net network moves past course x lv leaves) in
      let all-on : v.totals.on ≡ on_road net Q (x + 1) = omega (arith, step.on, all-entered, all-left, whole-at net network arriving S (x + 1)) in
      let all-delay : v.totals.delay ≡ total (delay net Q (x + 1)) (length net.link_names) = omega (arith, step.delay, ap (λ (t : Totals). t.delay) stands.totals, delays-more net network moves past course x v.queues keeps.queues) in
      record {
        shape = shape;
        by = omega (arith, second);
        keeps = subst (λ n. Keeps net (cumulative_under net arriving S n) v.queues v.recent v.waits n) (sym second) keeps;
        counts = λ l h. subst (λ n. counts_at v.counts l ≡ link_totals net (cumulative_under net arriving S n) n l) (sym second) (counts l h);
        totals = subst (λ n. v.totals ≡ totals net arriving (cumulative_under net arriving S n) n) (sym second) (same-totals v.totals (totals net arriving Q (x + 1)) all-entered all-left all-on all-delay);
        stood = λ l h. subst (λ n. slice_index v.stood l ≡ stood net (cumulative_under net arriving S n) n l) (sym second) (standing l h);
        lights = subst (λ n. AreShown net S n v.signs v.since) (sym second) (record { signs = λ node h. seen node h ∙ sym (ap (λ n. last_sign S n node) (add-one x)); since = lit });
      }

  -- a queue has stood for no longer than the world
  pub standing-small : w.second < most_seconds → (l : ℕ) → l < length net.link_names → slice_index w.stood l < most_seconds
  standing-small early l h = omega (arith, stands.stood l h, stood-most net before w.second l)

  -- what the first n seconds can count
  pub counts-small : (l : ℕ) → l < length net.link_names → FitsSeconds w.second (counts_at w.counts l)
  counts-small l h =
      let n : ℕ = w.second in
      let S : ℕ → ℕ → Sign = signs_by lines in
      let small = entered-small net network arriving S arrivals n l h in
      let less = left-entered net (cumulative_under net arriving S n) n (sound-at net network arriving S n) l n h (omega arith) in
      record {
        entered = omega (arith, ap (λ (q : LinkTotals). q.entered) (stands.counts l h), small);
        left = omega (arith, ap (λ (q : LinkTotals). q.left) (stands.counts l h), small, less);
        delay = omega (arith, ap (λ (q : LinkTotals). q.delay) (stands.counts l h), delay-small net network arriving S arrivals n l h);
      }

-- a world that stands, seen as `v`, by lists that are those that it keeps
pub stands-parts : (net : Net) (arriving : ℕ → ℕ → ℕ) (shown : ℕ → ℕ → Sign) (w v : WorldState) (gs : List Sign) (fs qs rs ws ss : List ℕ) (cs : List LinkTotals)
    → w ≡ v → gs ≡ w.signs → fs ≡ w.since → qs ≡ w.queues → rs ≡ w.recent → ws ≡ w.waits → ss ≡ w.stood → cs ≡ w.counts → Stands net arriving shown v
    → Stands net arriving shown (record { second = w.second; signs = gs; since = fs; queues = qs; recent = rs; waits = ws; stood = ss; counts = cs; totals = w.totals; walks = w.walks })
stands-parts net arriving shown w v gs fs qs rs ws ss cs seen a z b c d e f stands =
    subst (Stands net arriving shown) (λ i. record { second = w.second; signs = sym a i; since = sym z i; queues = sym b i; recent = sym c i; waits = sym d i; stood = sym e i; counts = sym f i; totals = w.totals; walks = w.walks }) (subst (Stands net arriving shown) (sym seen) stands)

-- what is kept of lights, in lists that are those that are kept
pub lights-parts : (net : Net) (shown : ℕ → ℕ → Sign) (x : ℕ) (last gs : List Sign) (lit fs : List ℕ) → gs ≡ last → fs ≡ lit → AreShown net shown x last lit → AreShown net shown x gs fs
lights-parts net shown x last gs lit fs a b are = subst (AreShown net shown x gs) (sym b) (subst (λ ss. AreShown net shown x ss lit) (sym a) are)

outward-none : (to : Option ℕ) → outward to 0 ≡ 0
outward-none None = refl
outward-none (Some node) = refl

-- before the first second nothing has passed
past-zero : (net : Net) (arriving : ℕ → ℕ → ℕ) (shown : ℕ → ℕ → Sign) (n l : ℕ) → cumulative_under net arriving shown 0 n l ≡ nothing
past-zero net arriving shown n l = rw (same-history net arriving shown 0) (zero-by net (flowing net arriving shown) n l)

pub stands-new : (net : Net) (arriving : ℕ → ℕ → ℕ) (shown : ℕ → ℕ → Sign) (w : WorldState) → w.second ≡ 0 → HasShape net w → ((k : ℕ) → get_or w.queues k 0 ≡ 0) → ((k : ℕ) → get_or w.recent k 0 ≡ 0) → ((k : ℕ) → get_or w.waits k 0 ≡ 0) → ((k : ℕ) → get_or w.stood k 0 ≡ 0)
    → ((k : ℕ) → counts_at w.counts k ≡ no_totals) → w.totals ≡ record { entered = 0; left = 0; on = 0; delay = 0 }
    → ((k : ℕ) → get_or w.signs k Dark ≡ Dark) → ((k : ℕ) → k < length net.link_names → get_or w.since k 0 ≡ never) → Stands net arriving shown w
stands-new net arriving shown w at shape qs rs ws ss cs ts gs fs =
    let P : ℕ → ℕ → Cumulative = cumulative_under net arriving shown w.second in
    let none : (n l : ℕ) → P n l ≡ nothing = λ n l. ap (λ x. cumulative_under net arriving shown x n l) at ∙ past-zero net arriving shown n l in
    let in-none : (n l : ℕ) → (P n l).entered ≡ 0 = λ n l. ap (λ (q : Cumulative). q.entered) (none n l) in
    let out-none : (n l : ℕ) → (P n l).left ≡ 0 = λ n l. ap (λ (q : Cumulative). q.left) (none n l) in
    let no-delay : (l : ℕ) → delay net P w.second l ≡ 0 = λ l. ap (λ n. delay net P n l) at in
    let left-none = total-same (λ l. outward (link_at net l).to (P w.second l).left) (λ l. 0) (length net.link_names) (λ l h. ap (outward (link_at net l).to) (out-none w.second l) ∙ outward-none (link_at net l).to) ∙ total-zero (length net.link_names) in
    let on-none = total-same (λ l. (P w.second l).entered - (P w.second l).left) (λ l. 0) (length net.link_names) (λ l h. omega (arith, in-none w.second l)) ∙ total-zero (length net.link_names) in
    let delay-none = total-same (delay net P w.second) (λ l. 0) (length net.link_names) (λ l h. no-delay l) ∙ total-zero (length net.link_names) in
    record {
      shape = shape;
      by = omega (arith, at);
      keeps = record {
        queues = λ l h. omega (arith, qs l, in-none (w.second - (link_at net l).travel) l);
        recent = λ l d h some most. omega (arith, rs (l * 128 + (w.second + 128 - d) % 128), in-none (w.second + 1 - d) l);
        waits = λ l d h most. omega (arith, ws (l * 128 + (w.second + 128 - d) % 128), in-none (w.second - d - (link_at net l).travel) l);
      };
      counts = λ l h. cs l ∙ same-link no_totals (link_totals net P w.second l) (sym (in-none w.second l)) (sym (out-none w.second l)) (sym (no-delay l));
      totals = ts ∙ same-totals (record { entered = 0; left = 0; on = 0; delay = 0 }) (totals net arriving P w.second) (sym (ap (total_arrived net arriving) at)) (sym left-none) (sym on-none) (sym delay-none);
      stood = λ l h. ss l ∙ sym (ap (λ n. stood net P n l) at ∙ stood-none net P l);
      lights = subst (λ n. AreShown net shown n w.signs w.since) (sym at) (record { signs = λ node h. gs node; since = fs });
    }

-- signs count only by which links are green in the seconds below now, and by the last ones
pub stands-alike : (net : Net) (arriving : ℕ → ℕ → ℕ) (shown seen : ℕ → ℕ → Sign) (w : WorldState) → AreAlike net w.second shown seen
    → ((x node : ℕ) → x < w.second → node < length net.node_names → shown x node ≡ seen x node) → Stands net arriving shown w → Stands net arriving seen w
stands-alike net arriving shown seen w alike same stands =
    let e = history-alike net arriving shown seen w.second alike in
    record {
      shape = stands.shape;
      by = stands.by;
      keeps = subst (λ h. Keeps net (passed_in h) w.queues w.recent w.waits w.second) e stands.keeps;
      counts = λ l h. subst (λ p. counts_at w.counts l ≡ link_totals net (passed_in p) w.second l) e (stands.counts l h);
      totals = subst (λ p. w.totals ≡ totals net arriving (passed_in p) w.second) e stands.totals;
      stood = λ l h. subst (λ p. slice_index w.stood l ≡ stood net (passed_in p) w.second l) e (stands.stood l h);
      lights = are-shown-same net w.second shown seen w.signs w.since alike same stands.lights;
    }

-- a timeline counts only by what it shows in the seconds below now
pub stands-under : (net : Net) (arriving : ℕ → ℕ → ℕ) (shown seen : ℕ → ℕ → Sign) (w : WorldState) → ((x node : ℕ) → x < w.second → shown x node ≡ seen x node) → Stands net arriving shown w → Stands net arriving seen w
stands-under net arriving shown seen w same =
    stands-alike net arriving shown seen w (alike-shown net w.second shown seen (λ x l node h to. same x node h)) (λ x node h below. same x node h)

pub zeros : {A : Type 0} (n k : ℕ) (a : A) → get_or (replicate n a) k a ≡ a
zeros zero k a = refl
zeros (suc n) zero a = refl
zeros (suc n) (suc k) a = zeros n k a
