-- The world in which full links hold back is one of moves, so nothing is lost in it; and no link holds more than its storage.
use Rattle.std.proofs.Common.{◌≡◌, ℕ, zero, suc, ◌+◌, ◌-◌, ◌<◌, ◌≤◌, Bool, min, List, [], Option, Some, None, length, slice_index, refl, sym, ap, ◌∙◌, inl, inr, add-one, arith}
use Rattle.std.proofs.lemmas.Bool.{cases_lt, cond_both}
use Rattle.std.proofs.lemmas.List.{get_or_past}
use Rattle.std.proofs.lemmas.Bool.Decides.{eqb_tells}
use Rattle.net_parts.specs.Numbers.{Net}
use Rattle.net_parts.specs.Outline.{link_at, turns_at}
use Rattle.road_net.specs.Joins.{HasShares}
use Rattle.road_net.specs.Network.{IsNetwork}
use Rattle.road_net.specs.Totals.{total}
use Rattle.road_net.proofs.TotalLaws.{total-same, total-swap, total-zero}
use Rattle.net_simulator.specs.Flow.{Cumulative, waiting}
use Rattle.net_simulator.specs.Moves.{Moves}
use Rattle.net_simulator.specs.Sums.{total_arrived, outward}
use Rattle.net_simulator.proofs.Conserving.{come}
use Rattle.net_simulator.proofs.EveryWorld.{all-there, parts-of, past-still}
use Rattle.net_simulator.proofs.MoveLaws.{moves_by, cumulative_by}
use Rattle.net_simulator.proofs.Outside.{all-arrived, comes-none, only-comes}
use Rattle.net_simulator.proofs.Sound.{AreMoved, rule-moved}
use Rattle.spillback_world.specs.Filling.{greatest, has_room}
use Rattle.spillback_world.specs.StoredTotals.{from_outside, stored_totals}
use Rattle.spillback_world.specs.Storage.{AreWithin, Opening, held_by, inward, next_goes, opening, cumulative_in, stored_moves}
use Rattle.spillback_world.proofs.Within.{at-last, before-last, first, held-given, past-last, within}
use Rattle.control_flow.specs.declared.greens.Sign.{Sign}

greatest-most : (fits : ℕ → Bool) (wish : ℕ) → greatest fits wish ≤ wish
greatest-most fits zero = omega arith
greatest-most fits (suc n) = cond_both (fits (suc n)) (suc n) (greatest fits n) (λ a. a ≤ suc n) (λ e. omega arith) (λ e. omega (arith, greatest-most fits n))

module _ (net : Net) (store : ℕ → ℕ) (o : Opening) where
  -- a link discharges no more than waits on it
  next-most : (goes : List ℕ) (l : ℕ) (to : Option ℕ) → next_goes net store o goes l to ≤ o.waits l
  next-most goes l None = omega arith
  next-most goes l (Some node) =
      omega (arith, greatest-most (has_room (turns_at net l) (λ e. store e - held_by net o goes e)) (min (o.rate l node) (o.waits l)))

  pub goes-most : (n l : ℕ) → slice_index (first net store o n) l ≤ o.waits l
  goes-most zero l = omega (arith, past-last net store o 0 l (omega arith))
  goes-most (suc n) l = elim (eqb_tells l n) [
    | inl p ↦ rw p.1 (omega (arith, at-last net store o n, next-most (first net store o n) n (link_at net n).to))
    | inr q ↦ elim (cases_lt l n) [
      | inl less ↦ omega (arith, before-last net store o n l less, goes-most n l)
      | inr more ↦ omega (arith, past-last net store o (suc n) l (let ne = q.1 in omega (arith, more)))
    ]
  ]

  -- all that waits on a link that ends at no node goes
  pub goes-out : (n l : ℕ) → l < n → (link_at net l).to ≡ None → slice_index (first net store o n) l ≡ o.waits l
  goes-out zero l h to = absurd (omega (arith, h))
  goes-out (suc n) l h to = elim (eqb_tells l n) [
    | inl p ↦ ap (slice_index (first net store o (suc n))) p.1 ∙ at-last net store o n ∙ ap (next_goes net store o (first net store o n) n) (ap (λ k. (link_at net k).to) (sym p.1) ∙ to) ∙ ap o.waits (sym p.1)
    | inr q ↦ let less : l < n = (let ne = q.1 in omega (arith, h)) in before-last net store o n l less ∙ goes-out n l less to
  ]

plain-turns : (net : Net) → IsNetwork net → (l : ℕ) → l < length net.link_names → (link_at net l).to ≡ None → turns_at net l ≡ []
plain-turns net network l inside to = by (link_at net l).to to (parts-of net network l inside).0
  where
    by : (o : Option ℕ) → o ≡ None → HasShares net.links (turns_at net l) o → turns_at net l ≡ []
    by None e none = none
    by (Some node) e shares = absurd (cc)

-- a link that is none of the network has no turns either
plain-any : (net : Net) → IsNetwork net → (l : ℕ) → (link_at net l).to ≡ None → turns_at net l ≡ []
plain-any net network l to = elim (cases_lt l (length net.link_names)) [
  | inl inside ↦ plain-turns net network l inside to
  | inr past ↦ get_or_past net.turns l [] (let e = network.outline.turn_count in omega (arith, past))
]

module _ (net : Net) (network : IsNetwork net) (arriving : ℕ → ℕ → ℕ) (store : ℕ → ℕ) (shown : ℕ → ℕ → Sign) where
  abbrev rule : List (List Cumulative) → ℕ → Moves
  rule = stored_moves net arriving store shown

  abbrev past : ℕ → ℕ → ℕ → Cumulative
  past = cumulative_by net (stored_moves net arriving store shown)

  abbrev moves : ℕ → Moves
  moves = moves_by net (stored_moves net arriving store shown)

  abbrev begin : ℕ → Opening
  begin x = opening net shown (cumulative_by net (stored_moves net arriving store shown) x) x

  pub course : AreMoved net (moves_by net (stored_moves net arriving store shown)) (cumulative_by net (stored_moves net arriving store shown))
  course = rule-moved net (stored_moves net arriving store shown) (λ x l h. goes-most net store (begin x) (length net.link_names) l)

  -- what a link discharges leaves the network, or goes into others
  pub own-goes : (x l : ℕ) → l < length net.link_names → (to : Option ℕ) → (link_at net l).to ≡ to
      → outward to (waiting net (past x) x l) + inward to (slice_index (first net store (begin x) (length net.link_names)) l) ≡ slice_index (first net store (begin x) (length net.link_names)) l
  own-goes x l inside None to = omega (arith, goes-out net store (begin x) (length net.link_names) l inside to)
  own-goes x l inside (Some node) to = omega arith

  -- after one second more a link holds no more than its storage
  within-next : (x l : ℕ) → l < length net.link_names → (past x x l).entered ≤ (past x x l).left + store l → (past (suc x) (x + 1) l).entered ≤ (past (suc x) (x + 1) l).left + store l
  within-next x l inside was =
      let next = (course.next x).next l inside in
      let entered = ap (λ (q : Cumulative). q.entered) next in
      let left = ap (λ (q : Cumulative). q.left) next in
      let held = within net store (begin x) (plain-any net network) l (omega (arith, was)) (length net.link_names) in
      omega (arith, entered, left, held, held-given net store (begin x) (length net.link_names) l, own-goes x l inside (link_at net l).to refl)

  pub within-at : (k l : ℕ) → l < length net.link_names → (past k k l).entered ≤ (past k k l).left + store l
  within-at zero l inside = omega (arith, ap (λ (q : Cumulative). q.entered) (course.first l))
  within-at (suc k) l inside =
      let e = add-one k in
      omega (arith, within-next k l inside (within-at k l inside), ap (λ i. (past (suc k) i l).entered) e, ap (λ i. (past (suc k) i l).left) e)

  pub within-all : (n : ℕ) → AreWithin net store (cumulative_in net arriving store shown n) n
  within-all n k l h inside =
      let still = past-still net network (moves_by net (stored_moves net arriving store shown)) (cumulative_by net (stored_moves net arriving store shown)) course n k l h in
      omega (arith, within-at k l inside, ap (λ (q : Cumulative). q.entered) still, ap (λ (q : Cumulative). q.left) still)

  -- Below, nothing arrives at a link that comes from a node.
  module _ (sources : (x l node : ℕ) → (link_at net l).from ≡ Some node → arriving x l ≡ 0) where
    pub let-in-most : (x l : ℕ) → l < length net.link_names → (moves x).comes l ≤ (total (λ y. arriving y l) x - (past x x l).entered) + arriving x l
    let-in-most x l inside = omega arith

    -- what is counted as entered is what came in from outside
    pub entered-come : (n : ℕ) → (stored_totals net arriving (past n) n).entered ≡ come net (moves_by net (stored_moves net arriving store shown)) n
    entered-come n =
        let each = total-same (λ l. from_outside (link_at net l).from (past n n l).entered) (λ l. total (λ y. (moves y).comes l) n) (length net.link_names) (λ l h. by l h (link_at net l).from refl) in
        omega (arith, each, total-swap (λ y. (moves_by net (stored_moves net arriving store shown) y).comes) (length net.link_names) n)
      where
        by : (l : ℕ) → l < length net.link_names → (from : Option ℕ) → (link_at net l).from ≡ from → from_outside from (past n n l).entered ≡ total (λ y. (moves y).comes l) n
        by l inside None from = only-comes net network (moves_by net (stored_moves net arriving store shown)) (cumulative_by net (stored_moves net arriving store shown)) course n l inside from
        by l inside (Some node) from =
            sym (total-same (λ y. (moves y).comes l) (λ y. 0) n (λ y h. comes-none net network (moves_by net (stored_moves net arriving store shown)) (cumulative_by net (stored_moves net arriving store shown)) course arriving let-in-most sources y l node inside from) ∙ total-zero n)

    -- what entered has left or is on the links
    pub spilled-whole : (n : ℕ) → (stored_totals net arriving (past n) n).entered ≡ (stored_totals net arriving (past n) n).left + (stored_totals net arriving (past n) n).on
    spilled-whole n = omega (arith, entered-come n, all-there net network (moves_by net (stored_moves net arriving store shown)) (cumulative_by net (stored_moves net arriving store shown)) course n)

    -- what arrived has entered or waits outside
    pub spilled-all : (n : ℕ) → total_arrived net arriving n ≡ (stored_totals net arriving (past n) n).entered + (stored_totals net arriving (past n) n).outside
    spilled-all n = omega (arith, entered-come n, all-arrived net network (moves_by net (stored_moves net arriving store shown)) (cumulative_by net (stored_moves net arriving store shown)) course arriving let-in-most sources n)
