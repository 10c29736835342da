-- Each link is counted second by second.
use Rattle.std.proofs.Common.{◌≡◌, ℕ, ◌+◌, ◌-◌, ◌<◌, ◌≤◌, List, Some, length, replicate, slice_index, sym, ap, ◌∙◌, arith}
use Rattle.std.proofs.lemmas.List.{get_or-replicate, length-replicate}
use Rattle.std.proofs.lemmas.List.FromFn.{fill_by_all}
use Rattle.control_flow.specs.declared.greens.Sign.{Sign}
use Rattle.net_parts.specs.Limits.{most_seconds}
use Rattle.net_parts.specs.Numbers.{Net}
use Rattle.net_parts.specs.Outline.{link_at}
use Rattle.road_net.specs.Network.{IsNetwork}
use Rattle.net_simulator.specs.Counts.{counts_at, no_totals}
use Rattle.net_simulator.specs.Flow.{Cumulative, queue}
use Rattle.net_simulator.specs.Moves.{Moves}
use Rattle.net_simulator.specs.Rows.{cell}
use Rattle.net_simulator.specs.Sums.{AreFew, delay, link_totals}
use Rattle.net_simulator.specs.declared.totals.LinkTotals.{LinkTotals}
use Rattle.net_simulator.proofs.Conserving.{come, left-entered}
use Rattle.net_simulator.proofs.EveryWorld.{are-sound, delay-more, delay-within, entered-most}
use Rattle.net_simulator.proofs.MoveLaws.{moves_by}
use Rattle.net_simulator.proofs.Outside.{few-come}
use Rattle.net_simulator.proofs.Sound.{AreMoved, Continues, next-one}
use Rattle.spillback_world.specs.Counting.{CanBeCounted, HaveCounted, counted_by}
use Rattle.spillback_world.specs.Storage.{cumulative_in, stored_moves}
use Rattle.spillback_world.specs.StoredLinks.{stored_links}
use Rattle.spillback_world.specs.Worlds.{SpillState, Stands}
use Rattle.spillback_world.proofs.Course.{course, let-in-most}

same-link : (s t : LinkTotals) → s.entered ≡ t.entered → s.left ≡ t.left → s.delay ≡ t.delay → s ≡ t
same-link s t a b c = λ i. record { entered = a i; left = b i; delay = c i }

module _ (net : Net) (network : IsNetwork net) (arriving : ℕ → ℕ → ℕ) (store : ℕ → ℕ) (shown : ℕ → ℕ → Sign) where
  abbrev past : ℕ → ℕ → ℕ → Cumulative
  past = cumulative_in net arriving store shown

  abbrev moves : ℕ → Moves
  moves = moves_by net (stored_moves net arriving store shown)

  moved-on : AreMoved net (moves_by net (stored_moves net arriving store shown)) (cumulative_in net arriving store shown)
  moved-on = course net network arriving store shown

  -- at second 0
  pub none-counted : (w : SpillState) → w.second ≡ 0 → Stands net arriving store shown w → (counts : List LinkTotals) → counts ≡ replicate (length net.link_names) no_totals
      → HaveCounted net arriving store shown 0 w counts
  none-counted w second stands counts none = record {
    second = second;
    stands = stands;
    count = ap length none ∙ length-replicate (length net.link_names) no_totals;
    are = λ l h.
        let first = moved-on.first l in
        let here : counts_at counts l ≡ no_totals = ap (λ (c : List LinkTotals). counts_at c l) none ∙ get_or-replicate (length net.link_names) l no_totals no_totals h in
        here ∙ same-link no_totals (link_totals net (past 0) 0 l) (sym (ap (λ (q : Cumulative). q.entered) first)) (sym (ap (λ (q : Cumulative). q.left) first)) (let e : 0 ≡ delay net (past 0) 0 l = omega arith in e);
  }

  module _ (few : AreFew net arriving) (sources : (x l node : ℕ) → (link_at net l).from ≡ Some node → arriving x l ≡ 0)
      (n : ℕ) (early : n ≤ most_seconds) (w v : SpillState) (counts : List LinkTotals) (have : HaveCounted net arriving store shown n w counts) (second : v.second ≡ w.second + 1) (stands : Stands net arriving store shown v) where
    then : v.second ≡ n + 1
    then = omega (arith, second, have.second)

    come-most : (k : ℕ) → come net moves k ≤ 2000000000
    come-most = few-come net network moves past moved-on arriving (let-in-most net network arriving store shown sources) sources few

    on : Continues net (moves n) n (past n) (past (n + 1))
    on = next-one net moves past moved-on n

    -- what came in the last second
    came : (l : ℕ) → l < length net.link_names → cell v.recent l (v.second + 127) ≡ (past (n + 1) (n + 1) l).entered - (past (n + 1) n l).entered
    came l h =
        let kept = stands.keeps.recent l 1 h (omega arith) (omega arith) in
        let place : v.second + 128 - 1 ≡ v.second + 127 = omega arith in
        let now : v.second + 1 - 1 ≡ v.second = omega arith in
        let was : v.second - 1 ≡ n = omega (arith, then) in
        let here : cell v.recent l (v.second + 127) ≡ (past v.second v.second l).entered - (past v.second n l).entered =
        sym (ap (cell v.recent l) place) ∙ kept ∙ ap (λ i. (past v.second i l).entered - (past v.second (v.second - 1) l).entered) now ∙ ap (λ i. (past v.second v.second l).entered - (past v.second i l).entered) was in
        here ∙ ap (λ k. (past k k l).entered - (past k n l).entered) then

    entered : (l : ℕ) → l < length net.link_names → (counts_at counts l).entered + cell v.recent l (v.second + 127) ≡ (past (n + 1) (n + 1) l).entered
    entered l h =
        let before = ap (λ (t : LinkTotals). t.entered) (have.are l h) in
        let kept = ap (λ (q : Cumulative). q.entered) (on.kept n l (omega arith)) in
        let grows = (are-sound net network moves past moved-on (n + 1)).grows n l (omega arith) h in
        omega (arith, came l h, before, kept, grows)

    held : (l : ℕ) → l < length net.link_names → slice_index v.held l ≡ (past (n + 1) (n + 1) l).entered - (past (n + 1) (n + 1) l).left
    held l h = stands.held l h ∙ ap (λ k. (past k k l).entered - (past k k l).left) then

    queued : (l : ℕ) → l < length net.link_names → slice_index v.queues l ≡ queue net (past (n + 1)) (n + 1) l
    queued l h = stands.keeps.queues l h ∙ ap (λ k. queue net (past k) k l) then

    -- a second more can be counted
    pub can-be : (l : ℕ) → l < length net.link_names → CanBeCounted (counts_at counts l) v l
    can-be l h =
        let most = entered-most net network moves past moved-on come-most n l h in
        let waits = delay-within net network moves past moved-on come-most n l h in
        record {
          entered = omega (arith, ap (λ (t : LinkTotals). t.entered) (have.are l h), most, early);
          delay = omega (arith, ap (λ (t : LinkTotals). t.delay) (have.are l h), waits, early);
          held = omega (arith, held l h, entered l h);
        }

    -- and is
    pub more-counted : (next : List LinkTotals) → length next ≡ length counts → ((l : ℕ) → l < length net.link_names → counts_at next l ≡ counted_by (counts_at counts l) v l)
        → HaveCounted net arriving store shown (n + 1) v next
    more-counted next count are = record {
      second = then;
      stands = stands;
      count = count ∙ have.count;
      are = λ l h.
          let less = left-entered net (past (n + 1)) (n + 1) (are-sound net network moves past moved-on (n + 1)) l (n + 1) h (omega arith) in
          are l h
          ∙ same-link (counted_by (counts_at counts l) v l) (link_totals net (past (n + 1)) (n + 1) l) (entered l h) (omega (arith, entered l h, held l h, less))
          (omega (arith, ap (λ (t : LinkTotals). t.delay) (have.are l h), queued l h, delay-more net network moves past moved-on n l));
    }

  -- at the end
  pub all-counted : (n k : ℕ) (w : SpillState) (counts : List LinkTotals) → k ≡ n → HaveCounted net arriving store shown k w counts → counts ≡ stored_links net arriving store shown n
  all-counted n k w counts same have =
      fill_by_all (link_totals net (past k) k) counts (length net.link_names) no_totals have.count have.are
      ∙ ap (stored_links net arriving store shown) same
