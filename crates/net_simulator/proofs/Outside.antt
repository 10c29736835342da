-- Where what arrives may wait outside of a link: what has come in, and that it is no more than has arrived.
use Rattle.std.proofs.Common.{◌≡◌, ℕ, zero, suc, ◌+◌, ◌-◌, ◌<◌, ◌≤◌, List, Option, Some, None, length, get_or, sym, ap, ◌∙◌, refl, add-one, arith}
use Rattle.net_parts.specs.declared.roads.Link.{Link}
use Rattle.net_parts.specs.declared.roads.Turn.{Turn}
use Rattle.net_parts.specs.Numbers.{Net, no_link}
use Rattle.net_parts.specs.Outline.{link_at, turns_at}
use Rattle.road_net.specs.Joins.{split_of, HasShares}
use Rattle.road_net.specs.Network.{IsNetwork}
use Rattle.road_net.specs.Totals.{total}
use Rattle.road_net.proofs.Shares.{split-none}
use Rattle.road_net.proofs.TotalLaws.{total-same, total-add, total-swap, total-le, total-zero}
use Rattle.net_simulator.specs.Flow.{Cumulative}
use Rattle.net_simulator.specs.Moves.{Moves}
use Rattle.net_simulator.specs.Sums.{total_arrived, AreFew}
use Rattle.net_simulator.proofs.Conserving.{come}
use Rattle.net_simulator.proofs.EveryWorld.{parts-of}
use Rattle.net_simulator.proofs.Sound.{AreMoved}
use Rattle.net_simulator.proofs.Turning.{no_turn}

-- nothing turns into a link that comes from no node
no-part : (links : List Link) (turns : List Turn) (to : Option ℕ) → HasShares links turns to → (l a : ℕ) → (get_or links l no_link).from ≡ None → split_of turns a l ≡ 0
no-part links turns None none l a out = ap (λ ts. split_of ts a l) none
no-part links turns (Some node) shares l a out = split-none turns a l no_turn (λ i h same.
    let both : Some node ≡ None = sym (shares.leave i no_turn h) ∙ ap (λ k. (get_or links k no_link).from) same ∙ out in
    absurd (cc))

module _ (net : Net) (network : IsNetwork net) (moves : ℕ → Moves) (past : ℕ → ℕ → ℕ → Cumulative) (course : AreMoved net moves past) where
  -- what entered a link that comes from no node is what came from outside
  pub only-comes : (x l : ℕ) → l < length net.link_names → (link_at net l).from ≡ None → (past x x l).entered ≡ total (λ y. (moves y).comes l) x
  only-comes zero l inside out = ap (λ (q : Cumulative). q.entered) (course.first l)
  only-comes (suc x) l inside out =
      let next = ap (λ (q : Cumulative). q.entered) ((course.next x).next l inside) in
      let none = total-same (λ k. split_of (turns_at net k) ((moves x).goes k) l) (λ k. 0) (length net.link_names) (λ k h. no-part net.links (turns_at net k) (link_at net k).to (parts-of net network k h).0 l ((moves x).goes k) out) ∙ total-zero (length net.link_names) in
      omega (arith, next, none, only-comes x l inside out, ap (λ i. (past (suc x) i l).entered) (add-one x))

  -- Below, no more comes in than has arrived and has not entered, and nothing arrives at a link that comes from a node.
  module _ (arriving : ℕ → ℕ → ℕ) (most : (x l : ℕ) → l < length net.link_names → (moves x).comes l ≤ (total (λ y. arriving y l) x - (past x x l).entered) + arriving x l)
      (sources : (x l node : ℕ) → (link_at net l).from ≡ Some node → arriving x l ≡ 0) where
    -- nothing comes in there
    pub comes-none : (x l node : ℕ) → l < length net.link_names → (link_at net l).from ≡ Some node → (moves x).comes l ≡ 0
    comes-none x l node inside from =
        let all = total-same (λ y. arriving y l) (λ y. 0) x (λ y h. sources y l node from) ∙ total-zero x in
        omega (arith, all, most x l inside, sources x l node from)

    -- no more has come in than has arrived
    pub comes-within : (x l : ℕ) → l < length net.link_names → total (λ y. (moves y).comes l) x ≤ total (λ y. arriving y l) x
    comes-within zero l inside = omega arith
    comes-within (suc x) l inside = by (comes-within x l inside) (link_at net l).from refl
      where
        by : total (λ y. (moves y).comes l) x ≤ total (λ y. arriving y l) x → (from : Option ℕ) → (link_at net l).from ≡ from → total (λ y. (moves y).comes l) (suc x) ≤ total (λ y. arriving y l) (suc x)
        by before None from = omega (arith, before, only-comes x l inside from, most x l inside)
        by before (Some node) from = omega (arith, before, comes-none x l node inside from)

    pub come-within : (x : ℕ) → come net moves x ≤ total_arrived net arriving x
    come-within x =
        let one = total-swap (λ y. (moves y).comes) (length net.link_names) x in
        let two = total-swap arriving (length net.link_names) x in
        omega (arith, one, two, total-le (λ l. total (λ y. (moves y).comes l) x) (λ l. total (λ y. arriving y l) x) (length net.link_names) (λ l h. comes-within x l h))

    pub few-come : AreFew net arriving → (x : ℕ) → come net moves x ≤ 2000000000
    few-come few x = let most = few x in omega (arith, come-within x, most)

    -- all that arrived has come in or waits outside
    pub all-arrived : (x : ℕ) → come net moves x + total (λ l. total (λ y. arriving y l) x - (past x x l).entered) (length net.link_names) ≡ total_arrived net arriving x
    all-arrived x =
        let one = total-swap (λ y. (moves y).comes) (length net.link_names) x in
        let two = total-swap arriving (length net.link_names) x in
        let each = total-same (λ l. total (λ y. (moves y).comes l) x + (total (λ y. arriving y l) x - (past x x l).entered)) (λ l. total (λ y. arriving y l) x) (length net.link_names) (λ l h. by l h (link_at net l).from refl) in
        let sum = total-add (λ l. total (λ y. (moves y).comes l) x) (λ l. total (λ y. arriving y l) x - (past x x l).entered) (length net.link_names) in
        omega (arith, one, two, each, sum)
      where
        by : (l : ℕ) → l < length net.link_names → (from : Option ℕ) → (link_at net l).from ≡ from → total (λ y. (moves y).comes l) x + (total (λ y. arriving y l) x - (past x x l).entered) ≡ total (λ y. arriving y l) x
        by l inside None from = omega (arith, comes-within x l inside, only-comes x l inside from)
        by l inside (Some node) from =
            let none = total-same (λ y. arriving y l) (λ y. 0) x (λ y h. sources y l node from) ∙ total-zero x in
            omega (arith, comes-within x l inside, none)
