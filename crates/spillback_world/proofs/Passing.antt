-- A world that stands for its past stands for it one second later.
use Rattle.std.proofs.Common.{◌≡◌, ◌≢◌, ℕ, suc, ◌+◌, ◌-◌, ◌%◌, ◌<◌, ◌≤◌, Bool, min, List, Option, Some, None, length, slice_index, slice_index_or, refl, sym, ap, subst, ◌∙◌, add-one, arith, cond}
use Rattle.net_parts.specs.Limits.{most_seconds}
use Rattle.net_parts.specs.Numbers.{Net}
use Rattle.net_parts.specs.Outline.{link_at, turns_at}
use Rattle.road_net.specs.Joins.{split_of}
use Rattle.road_net.specs.Network.{IsNetwork}
use Rattle.road_net.specs.Totals.{total}
use Rattle.road_net.proofs.TotalLaws.{total-same, total-le, total-swap, total-zero}
use Rattle.net_simulator.specs.Flow.{Cumulative, may_go, queue, rate, waiting}
use Rattle.net_simulator.specs.LinkSeconds.{is_open, rate_by, stands_on, waits_at}
use Rattle.net_simulator.specs.LinkGreens.{is_green, last_sign, lit_since}
use Rattle.net_simulator.specs.Moves.{Moves}
use Rattle.net_simulator.specs.Rows.{cell}
use Rattle.net_simulator.specs.Senses.{stood}
use Rattle.net_simulator.specs.Sums.{AreFew, total_left, outward}
use Rattle.net_simulator.specs.Worlds.{AreShown, Keeps}
use Rattle.net_simulator.proofs.Conserving.{come, grown, left-entered}
use Rattle.net_simulator.proofs.EveryWorld.{are-sound, bounds-of, gone-more, queue-still, queues-most}
use Rattle.net_simulator.proofs.Keeping.{keeps-next, kept-queue, open-same, rate-seen, waits-same}
use Rattle.net_simulator.proofs.MoveLaws.{moves_by, cumulative_by}
use Rattle.net_simulator.proofs.Outside.{comes-none, comes-within, few-come, only-comes}
use Rattle.net_simulator.proofs.Passing.{lights-parts}
use Rattle.net_simulator.proofs.Sound.{AreMoved, Continues, IsSound, next-one}
use Rattle.net_simulator.proofs.Standing.{stood-kept, stood-most, stood-next}
use Rattle.net_simulator.proofs.Sums.{total-most, total-of, total-part}
use Rattle.spillback_world.specs.declared.totals.SpillTotals.{SpillTotals}
use Rattle.spillback_world.specs.StoredTotals.{outside_all, stored_totals}
use Rattle.spillback_world.specs.Steps.{AreHeld, HaveDischarged, HaveLeft, comes_of, first_given, first_goes, opening_by, rate_at}
use Rattle.spillback_world.specs.Storage.{goes_of, held_after, inward, opening, outside, stored_moves}
use Rattle.spillback_world.specs.Worlds.{HasShape, SpillState, Stands}
use Rattle.spillback_world.proofs.Agreeing.{AgreeAt, goes-same}
use Rattle.spillback_world.proofs.Course.{course, entered-come, let-in-most, own-goes, spilled-whole, within-at}
use Rattle.spillback_world.proofs.Within.{held-given}
use Rattle.control_flow.specs.declared.greens.Sign.{Sign}
use Rattle.control_flow.specs.declared.greens.Sign.TheVariants.{Dark}

outward-most : (to : Option ℕ) (a : ℕ) → outward to a ≤ a
outward-most None a = omega arith
outward-most (Some node) a = omega arith

-- what leaves the network at the end of a link is what of its discharge does
out-same : (to : Option ℕ) (w g : ℕ) → outward to w + inward to g ≡ g → outward to w ≡ outward to g
out-same None w g whole = omega (arith, whole)
out-same (Some node) w g whole = refl

pub same-totals : (s t : SpillTotals) → s.entered ≡ t.entered → s.left ≡ t.left → s.on ≡ t.on → s.outside ≡ t.outside → s.delay ≡ t.delay → s ≡ t
same-totals s t a b c d e = λ i. record { entered = a i; left = b i; on = c i; outside = d i; delay = e i }

-- a world that stands, by lists that are those that it keeps
pub stands-seen : (net : Net) (arriving : ℕ → ℕ → ℕ) (store : ℕ → ℕ) (shown : ℕ → ℕ → Sign) (w : SpillState) (qs rs ws ss os hs : List ℕ)
    → qs ≡ w.queues → rs ≡ w.recent → ws ≡ w.waits → ss ≡ w.stood → os ≡ w.outside → hs ≡ w.held → Stands net arriving store shown w
    → Stands net arriving store shown (record { second = w.second; signs = w.signs; since = w.since; walks = w.walks; queues = qs; recent = rs; waits = ws; stood = ss; outside = os; held = hs; totals = w.totals })
stands-seen net arriving store shown w qs rs ws ss os hs a b c d e f stands =
    subst (Stands net arriving store shown) (λ i. record { second = w.second; signs = w.signs; since = w.since; walks = w.walks; queues = sym a i; recent = sym b i; waits = sym c i; stood = sym d i; outside = sym e i; held = sym f i; totals = w.totals }) stands

out-none : (to : Option ℕ) (w q v : ℕ) → to ≡ None → v ≡ outward to w → q ≡ w - v → q ≡ 0
out-none None w q v e goes queue = omega (arith, goes, queue)
out-none (Some node) w q v e goes queue = let gone : ⊥ = cc in absurd gone

stays-none : (to : Option ℕ) (w v node : ℕ) → to ≡ Some node → v ≡ outward to w → v ≡ 0
stays-none None w v node e goes = let gone : ⊥ = cc in absurd gone
stays-none (Some n) w v node e goes = goes

-- what reached the ends of links and leaves the network has left, by what waited there
pub left-of : (net : Net) (waits : ℕ → ℕ) (qs lv : List ℕ) → ((l : ℕ) → l < length net.link_names → slice_index lv l ≡ outward (link_at net l).to (waits l)) → ((l : ℕ) → l < length net.link_names → slice_index qs l ≡ waits l - slice_index lv l)
    → HaveLeft net qs lv
left-of net waits qs lv leaves queues = record {
  out = λ l h none. out-none (link_at net l).to (waits l) (slice_index qs l) (slice_index lv l) none (leaves l h) (queues l h);
  stays = λ l node h some. stays-none (link_at net l).to (waits l) (slice_index lv l) node some (leaves l h);
}

-- what entered a link is on it
pub entering-held : (net : Net) (store queues entering held : List ℕ) → AreHeld net store queues entering held → (l : ℕ) → l < length net.link_names → slice_index entering l ≤ slice_index held l
entering-held net store queues entering held are l h = omega (arith, are.there l h)

-- What has been done when the links discharge: the lists of what leaves, of the queues, of what enters and of what is held, and which
-- links may discharge where the nodes show these signs.
pub record IsBegun (net : Net) (w : SpillState) (signs : List Sign) (since : List ℕ) (rates : List ℕ) (lv1 qs1 en1 hs1 : List ℕ) : Type 0 where
  pub leaving : (l : ℕ) → l < length net.link_names → slice_index lv1 l ≡ outward (link_at net l).to (waits_at net w.queues w.recent w.second l)
  pub queues : (l : ℕ) → l < length net.link_names → slice_index qs1 l ≡ waits_at net w.queues w.recent w.second l - slice_index lv1 l
  pub held : (l : ℕ) → l < length net.link_names → slice_index hs1 l ≡ slice_index w.held l - slice_index lv1 l
  pub none : (l : ℕ) → l < length net.link_names → slice_index en1 l ≡ 0
  pub serves : (l : ℕ) → l < length net.link_names → slice_index rates l ≡ rate_at net w.waits signs since qs1 w.second l (link_at net l).to

-- What the code has done after that in the second, by the lists of what enters and of what is held once all have discharged.
pub record IsEnded (net : Net) (arriving : ℕ → ℕ) (store : List ℕ) (w : SpillState) (qs en hs : List ℕ) (v : SpillState) : Type 0 where
  pub outside : (l : ℕ) → l < length net.link_names → slice_index v.outside l ≡ slice_index w.outside l + arriving l - comes_of store hs w.outside arriving l
  pub held : (l : ℕ) → l < length net.link_names → slice_index v.held l ≡ slice_index hs l + comes_of store hs w.outside arriving l
  pub here : (l : ℕ) → l < length net.link_names → cell v.recent l w.second ≡ slice_index en l + comes_of store hs w.outside arriving l
  pub others : (l y : ℕ) → y % 128 ≢ w.second % 128 → cell v.recent l y ≡ cell w.recent l y
  pub remembers : (l : ℕ) → l < length net.link_names → cell v.waits l (w.second + 1) ≡ slice_index qs l
  pub remembers_others : (l y : ℕ) → y % 128 ≢ (w.second + 1) % 128 → cell v.waits l y ≡ cell w.waits l y
  pub stands : (l : ℕ) → l < length net.link_names → slice_index v.stood l ≡ stands_on (slice_index qs l) (slice_index w.stood l)

module _ (net : Net) (network : IsNetwork net) (arriving : ℕ → ℕ → ℕ) (store : List ℕ) (shown : ℕ → ℕ → Sign)
    (few : AreFew net arriving) (sources : (x l node : ℕ) → (link_at net l).from ≡ Some node → arriving x l ≡ 0) (w : SpillState) (stands : Stands net arriving (slice_index store) shown w) where
  abbrev past : ℕ → ℕ → ℕ → Cumulative
  past = cumulative_by net (stored_moves net arriving (slice_index store) shown)

  abbrev moves : ℕ → Moves
  moves = moves_by net (stored_moves net arriving (slice_index store) shown)

  abbrev x : ℕ
  x = w.second

  abbrev P : ℕ → ℕ → Cumulative
  P = cumulative_by net (stored_moves net arriving (slice_index store) shown) w.second

  moved-on : AreMoved net (moves_by net (stored_moves net arriving (slice_index store) shown)) (cumulative_by net (stored_moves net arriving (slice_index store) shown))
  moved-on = course net network arriving (slice_index store) shown

  sound : (n : ℕ) → IsSound net (past n) n
  sound n = are-sound net network moves past moved-on n

  come-most : (n : ℕ) → come net moves n ≤ 2000000000
  come-most = few-come net network moves past moved-on arriving (let-in-most net network arriving (slice_index store) shown sources) sources few

  -- what waits at the end of a link
  waits-now : (l : ℕ) → l < length net.link_names → waits_at net w.queues w.recent x l ≡ waiting net P x l
  waits-now l h = waits-same net x P w.queues w.recent w.waits (bounds-of net network) (sound x) stands.keeps w.recent (λ k y ne. refl) l h

  -- is on it
  pub waits-held : (l : ℕ) → l < length net.link_names → waits_at net w.queues w.recent x l ≤ slice_index w.held l
  waits-held l h =
      let t : ℕ = (link_at net l).travel in
      let some : 1 ≤ t = (bounds-of net network).some l h in
      let e : (x + 1 - t) + (x - (x + 1 - t)) ≡ x = omega arith in
      omega (arith, waits-now l h, stands.held l h, ap (λ i. (P i l).entered) e, grown net P x (sound x) l (x + 1 - t) (x - (x + 1 - t)) h (omega arith))

  -- what has arrived at a link
  arrived-most : (n l : ℕ) → l < length net.link_names → total (λ y. arriving y l) n ≤ 2000000000
  arrived-most n l h =
      let most = few n in
      let part = total-part (λ k. total (λ y. arriving y k) n) (length net.link_names) l h in
      omega (arith, most, part, total-swap arriving (length net.link_names) n)

  pub outside-fits : (l : ℕ) → l < length net.link_names → slice_index w.outside l + arriving x l ≤ 2000000000
  outside-fits l h = omega (arith, stands.outside l h, arrived-most (suc x) l h)

  -- a queue has stood for no longer than the world
  pub stood-small : w.second < most_seconds → (l : ℕ) → l < length net.link_names → slice_index w.stood l < most_seconds
  stood-small early l h = omega (arith, stands.stood l h, stood-most net P x l)

  outside-most : (past : ℕ → ℕ → Cumulative) (n : ℕ) → outside_all net arriving past n ≤ 2000000000
  outside-most past n =
      let most = few n in
      omega (arith, most, total-swap arriving (length net.link_names) n, total-le (outside arriving past n) (λ l. total (λ y. arriving y l) n) (length net.link_names) (λ l h. omega arith))

  -- what the seconds so far have added to the delay
  pub delay-most : w.totals.delay ≤ 1415750400000000000
  delay-most =
      let links = network.outline.link_count.1 in
      let each = total-le (λ y. total (λ l. queue net P (y + 1) l) (length net.link_names) + outside_all net arriving P (y + 1)) (λ y. 16386000000000) x (λ y b.
      let queues = total-most (λ l. queue net P (y + 1) l) (length net.link_names) (λ l h. queues-most net network moves past moved-on come-most x (y + 1) l (omega arith) h) in
      omega (arith, queues, links, outside-most P (y + 1))) in
      omega (arith, each, total-of 16386000000000 x, stands.by, ap (λ (t : SpillTotals). t.delay) stands.totals)

  module _ (signs : List Sign) (since : List ℕ) (rates : List ℕ) (lv1 qs1 en1 hs1 : List ℕ) (begun : IsBegun net w signs since rates lv1 qs1 en1 hs1) where
    -- what waits and what is held, as the links discharge
    pub are-held : AreHeld net store qs1 en1 hs1
    are-held = record {
      there = λ l h. omega (arith, begun.queues l h, begun.held l h, begun.none l h, waits-held l h);
      within = λ l h. omega (arith, begun.held l h, stands.held l h, within-at net network arriving (slice_index store) shown x l h);
    }

    module _ (early : w.second < most_seconds) (lit : (l : ℕ) → l < length net.link_names → slice_index since l ≡ lit_since (is_green net shown l) (w.second + 1))
        (seen : (n : ℕ) → n < length net.node_names → shown w.second n ≡ slice_index_or signs n Dark) where
      -- what a link discharges at the most; those to which it gives way end at its node, so that nothing of what waits there has left
      rate-at : (l : ℕ) → rate_by net since qs1 w.second l ≡ rate net shown P w.second l
      rate-at l =
          rate-seen net x P w.queues w.recent w.waits (bounds-of net network) (sound x) stands.keeps shown since qs1 (omega (arith, early)) lit
          (λ k node h to.
          let stays : outward (link_at net k).to (waits_at net w.queues w.recent w.second k) ≡ 0 = ap (λ (o : Option ℕ). outward o (waits_at net w.queues w.recent w.second k)) to in
          omega (arith, begun.queues k h, begun.leaving k h, stays, waits-now k h))
          l

      agree : AgreeAt net (opening_by qs1 lv1 rates hs1) (opening net shown P w.second)
      agree = record {
        waits = λ l h. omega (arith, begun.queues l h, begun.leaving l h, waits-now l h, outward-most (link_at net l).to (waits_at net w.queues w.recent w.second l));
        rate = λ l node h to.
            let there = (bounds-of net network).ends l node h to in
            let may = ap (is_open net w.waits since w.second l node) (sym (seen node there))
            ∙ open-same net x P w.queues w.recent w.waits (bounds-of net network) (sound x) stands.keeps shown since l node h to (omega (arith, early)) (lit l h) in
            begun.serves l h ∙ ap (rate_at net w.waits signs since qs1 w.second l) to
            ∙ ap (λ (b : Bool). cond b (rate_by net since qs1 w.second l) 0) may
            ∙ ap (λ r. cond (may_go net shown P w.second l node) r 0) (rate-at l);
        holds = λ l h. omega (arith, begun.held l h, begun.leaving l h, stands.held l h, ap (outward (link_at net l).to) (waits-now l h));
      }

      module _ (lv qs en hs : List ℕ) (done : HaveDischarged net store rates (length net.link_names) lv1 qs1 en1 hs1 lv qs en hs) where
        same : first_goes net store rates (length net.link_names) lv1 qs1 hs1 ≡ goes_of net (slice_index store) shown P w.second (length net.link_names)
        same = goes-same net network (slice_index store) (opening_by qs1 lv1 rates hs1) (opening net shown P w.second) agree (length net.link_names) (omega arith)

        goes-are : (l : ℕ) → l < length net.link_names → slice_index lv l ≡ (moves x).goes l
        goes-are l h = done.goes l h ∙ ap (λ g. slice_index g l) same

        -- what leaves the network, and what goes into other links, is all that a link discharges
        whole : (l : ℕ) → l < length net.link_names → outward (link_at net l).to (waits_at net w.queues w.recent x l) + inward (link_at net l).to (slice_index (first_goes net store rates (length net.link_names) lv1 qs1 hs1) l) ≡ slice_index lv l
        whole l h =
            let own = own-goes net network arriving (slice_index store) shown x l h (link_at net l).to refl in
            let into = ap (λ g. inward (link_at net l).to (slice_index g l)) same in
            omega (arith, own, into, ap (outward (link_at net l).to) (waits-now l h), goes-are l h)

        queues-are : (l : ℕ) → l < length net.link_names → slice_index qs l ≡ waiting net P x l - slice_index lv l
        queues-are l h = omega (arith, done.waits l, begun.queues l h, begun.leaving l h, waits-now l h, whole l h)

        -- what the links give to another one
        abbrev parts : ℕ → ℕ
        parts l = total (λ k. split_of (turns_at net k) ((moves x).goes k) l) (length net.link_names)

        given-are : (l : ℕ) → first_given net store rates (length net.link_names) lv1 qs1 hs1 l ≡ parts l
        given-are l = ap (λ g. total (λ k. split_of (turns_at net k) (slice_index g k) l) (length net.link_names)) same

        held-are : (l : ℕ) → l < length net.link_names → slice_index hs l ≡ held_after net shown P x (goes_of net (slice_index store) shown P w.second (length net.link_names)) l
        held-are l h =
            let by = held-given net (slice_index store) (opening net shown P w.second) (length net.link_names) l in
            let into = ap (λ g. inward (link_at net l).to (slice_index g l)) same in
            omega (arith, by, into, done.holds l, given-are l, agree.holds l h)

        comes-are : (l : ℕ) → l < length net.link_names → comes_of store hs w.outside (arriving x) l ≡ (moves x).comes l
        comes-are l h =
            ap (λ a. min (a + arriving x l) (slice_index store l - slice_index hs l)) (stands.outside l h)
            ∙ ap (λ a. min (outside arriving P x l + arriving x l) (slice_index store l - a)) (held-are l h)

        -- what has come in and what has left after the second
        pub entered-next : w.totals.entered + total (comes_of store hs w.outside (arriving x)) (length net.link_names) ≡ (stored_totals net arriving (past (x + 1)) (x + 1)).entered
        entered-next =
            let each = total-same (comes_of store hs w.outside (arriving x)) (moves x).comes (length net.link_names) comes-are in
            omega (arith, each, ap (λ (t : SpillTotals). t.entered) stands.totals, entered-come net network arriving (slice_index store) shown sources x, entered-come net network arriving (slice_index store) shown sources (x + 1), ap (come net moves) (add-one x))

        pub left-next : w.totals.left + total (λ l. outward (link_at net l).to (waits_at net w.queues w.recent x l)) (length net.link_names) ≡ total_left net (past (x + 1)) (x + 1)
        left-next =
            let each = total-same (λ l. outward (link_at net l).to (waits_at net w.queues w.recent x l)) (λ l. outward (link_at net l).to (slice_index lv l)) (length net.link_names) (λ l h.
            let into = ap (λ g. inward (link_at net l).to (slice_index g l)) same in
            out-same (link_at net l).to (waits_at net w.queues w.recent x l) (slice_index lv l) (omega (arith, whole l h, into, ap (inward (link_at net l).to) (goes-are l h)))) in
            omega (arith, each, ap (λ (t : SpillTotals). t.left) stands.totals, gone-more net network moves past moved-on x lv goes-are)

        pub room-entered : w.totals.entered + total (comes_of store hs w.outside (arriving x)) (length net.link_names) ≤ 2000000000
        room-entered = omega (arith, entered-next, entered-come net network arriving (slice_index store) shown sources (x + 1), come-most (x + 1))

        pub room-left : w.totals.left + total (λ l. outward (link_at net l).to (waits_at net w.queues w.recent x l)) (length net.link_names)
            ≤ w.totals.entered + total (comes_of store hs w.outside (arriving x)) (length net.link_names)
        room-left = omega (arith, entered-next, left-next, spilled-whole net network arriving (slice_index store) shown sources (x + 1))

        abbrev Q : ℕ → ℕ → Cumulative
        Q = cumulative_by net (stored_moves net arriving (slice_index store) shown) (w.second + 1)

        on : Continues net (moves x) x P Q
        on = next-one net moves past moved-on x

        module _ (v : SpillState) (ended : IsEnded net (arriving w.second) store w qs en hs v) where
          entered-now : (l : ℕ) → l < length net.link_names → cell v.recent l x ≡ (moves x).comes l + total (λ k. split_of (turns_at net k) (slice_index lv k) l) (length net.link_names)
          entered-now l h =
              let parted = total-same (λ k. split_of (turns_at net k) (slice_index lv k) l) (λ k. split_of (turns_at net k) ((moves x).goes k) l) (length net.link_names) (λ k b. ap (λ a. split_of (turns_at net k) a l) (goes-are k b)) in
              omega (arith, ended.here l h, done.enters l, begun.none l h, given-are l, comes-are l h, parted)

          keeps : Keeps net Q qs v.recent v.waits (x + 1)
          keeps =
              keeps-next net (moves x) x P Q w.queues w.recent w.waits (bounds-of net network) on stands.keeps lv qs v.recent v.waits goes-are queues-are entered-now ended.others ended.remembers ended.remembers_others

          held-next : (l : ℕ) → l < length net.link_names → slice_index v.held l ≡ (Q (x + 1) l).entered - (Q (x + 1) l).left
          held-next l h =
              let next = on.next l h in
              let entered = ap (λ (q : Cumulative). q.entered) next in
              let left = ap (λ (q : Cumulative). q.left) next in
              omega (arith, ended.held l h, comes-are l h, done.holds l, given-are l, begun.held l h, begun.leaving l h, stands.held l h, whole l h, goes-are l h, waits-held l h, queues-are l h, waits-now l h, done.waits l, begun.queues l h, entered, left, left-entered net P x (sound x) l x h (omega arith), outward-most (link_at net l).to (waits_at net w.queues w.recent w.second l))

          outside-next : (l : ℕ) → l < length net.link_names → slice_index v.outside l ≡ outside arriving Q (x + 1) l
          outside-next l h = by (link_at net l).from refl
            where
              most : (y k : ℕ) → k < length net.link_names → (moves y).comes k ≤ (total (λ z. arriving z k) y - (past y y k).entered) + arriving y k
              most = let-in-most net network arriving (slice_index store) shown sources

              long : total (λ y. arriving y l) (x + 1) ≡ total (λ y. arriving y l) x + arriving x l
              long = ap (total (λ y. arriving y l)) (add-one x)

              by : (from : Option ℕ) → (link_at net l).from ≡ from → slice_index v.outside l ≡ outside arriving Q (x + 1) l
              by None from =
                  let before = only-comes net network moves past moved-on x l h from in
                  let after = only-comes net network moves past moved-on (x + 1) l h from ∙ ap (total (λ y. (moves y).comes l)) (add-one x) in
                  omega (arith, ended.outside l h, comes-are l h, stands.outside l h, long, before, after, comes-within net network moves past moved-on arriving most sources x l h, most x l h)
              by (Some node) from =
                  let none = total-same (λ y. arriving y l) (λ y. 0) x (λ y b. sources y l node from) ∙ total-zero x in
                  omega (arith, ended.outside l h, comes-are l h, stands.outside l h, long, none, sources x l node from, comes-none net network moves past moved-on arriving most sources x l node h from)

          delay-next : (stored_totals net arriving Q (x + 1)).delay ≡ (stored_totals net arriving P x).delay + (total (slice_index qs) (length net.link_names) + total (slice_index v.outside) (length net.link_names))
          delay-next =
              let f : ℕ → ℕ = λ y. total (λ l. queue net Q (y + 1) l) (length net.link_names) + outside_all net arriving Q (y + 1) in
              let earlier = total-same (λ y. total (λ l. queue net Q (y + 1) l) (length net.link_names) + outside_all net arriving Q (y + 1)) (λ y. total (λ l. queue net P (y + 1) l) (length net.link_names) + outside_all net arriving P (y + 1)) x (λ y b.
              let queues = total-same (λ l. queue net Q (y + 1) l) (λ l. queue net P (y + 1) l) (length net.link_names) (λ l h. queue-still net network moves past moved-on (x + 1) (y + 1) l (omega arith) ∙ sym (queue-still net network moves past moved-on x (y + 1) l (omega arith))) in
              let waits = total-same (outside arriving Q (y + 1)) (outside arriving P (y + 1)) (length net.link_names) (λ l h. ap (λ (q : Cumulative). total (λ z. arriving z l) (y + 1) - q.entered) (on.kept (y + 1) l (omega arith))) in
              omega (arith, queues, waits)) in
              let queues = total-same (slice_index qs) (λ l. queue net Q (x + 1) l) (length net.link_names) keeps.queues in
              let waits = total-same (slice_index v.outside) (outside arriving Q (x + 1)) (length net.link_names) outside-next in
              omega (arith, earlier, queues, waits, ap (total (λ y. total (λ l. queue net Q (y + 1) l) (length net.link_names) + outside_all net arriving Q (y + 1))) (add-one x))

          stood-now : (l : ℕ) → l < length net.link_names → slice_index v.stood l ≡ stood net Q (x + 1) l
          stood-now l h =
              let kept : (y : ℕ) → y ≤ x → queue net Q y l ≡ queue net P y l = λ y b. kept-queue net (moves x) x P Q w.queues w.recent w.waits (bounds-of net network) on stands.keeps y l b in
              ended.stands l h ∙ ap (λ q. stands_on q (slice_index w.stood l)) (keeps.queues l h) ∙ ap (stands_on (queue net Q (x + 1) l)) (stands.stood l h ∙ sym (stood-kept net Q P x l kept)) ∙ sym (stood-next net Q x l)

          pub stands-next : v.second ≡ w.second + 1 → v.signs ≡ signs → v.since ≡ since → v.queues ≡ qs → HasShape net v
              → v.totals.entered ≡ w.totals.entered + total (comes_of store hs w.outside (arriving w.second)) (length net.link_names)
              → v.totals.left ≡ w.totals.left + total (λ l. outward (link_at net l).to (waits_at net w.queues w.recent w.second l)) (length net.link_names)
              → v.totals.on ≡ v.totals.entered - v.totals.left → v.totals.outside ≡ total (slice_index v.outside) (length net.link_names)
              → v.totals.delay ≡ w.totals.delay + (total (slice_index qs) (length net.link_names) + total (slice_index v.outside) (length net.link_names))
              → Stands net arriving (slice_index store) shown v
          stands-next second own_signs own_since queues shape entered left on_links waits delay =
              let all-entered : v.totals.entered ≡ (stored_totals net arriving Q (x + 1)).entered = entered ∙ entered-next in
              let all-left : v.totals.left ≡ total_left net Q (x + 1) = left ∙ left-next in
              let all-on : v.totals.on ≡ (stored_totals net arriving Q (x + 1)).on = omega (arith, on_links, all-entered, all-left, spilled-whole net network arriving (slice_index store) shown sources (x + 1)) in
              let all-outside : v.totals.outside ≡ outside_all net arriving Q (x + 1) = waits ∙ total-same (slice_index v.outside) (outside arriving Q (x + 1)) (length net.link_names) outside-next in
              let all-delay : v.totals.delay ≡ (stored_totals net arriving Q (x + 1)).delay = omega (arith, delay, delay-next, ap (λ (t : SpillTotals). t.delay) stands.totals) in
              record {
                shape = shape;
                by = omega (arith, second);
                keeps = subst (λ n. Keeps net (past n) v.queues v.recent v.waits n) (sym second) (subst (λ q. Keeps net Q q v.recent v.waits (x + 1)) (sym queues) keeps);
                held = λ l h. subst (λ n. slice_index v.held l ≡ (past n n l).entered - (past n n l).left) (sym second) (held-next l h);
                totals = subst (λ n. v.totals ≡ stored_totals net arriving (past n) n) (sym second) (same-totals v.totals (stored_totals net arriving Q (x + 1)) all-entered all-left all-on all-outside all-delay);
                stood = λ l h. subst (λ n. slice_index v.stood l ≡ stood net (past n) n l) (sym second) (stood-now l h);
                outside = λ l h. subst (λ n. slice_index v.outside l ≡ outside arriving (past n) n l) (sym second) (outside-next l h);
                lights = subst (λ n. AreShown net shown n v.signs v.since) (sym second) (lights-parts net shown (x + 1) signs v.signs since v.since own_signs own_since (record { signs = λ node h. sym (seen node h) ∙ sym (ap (λ n. last_sign shown n node) (add-one x)); since = lit }));
              }
