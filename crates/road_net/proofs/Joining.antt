-- What the tests of the joins of a network depend on.
use Rattle.std.proofs.Common.{◌≡◌, ℕ, ◌+◌, ◌<◌, ◌^◌, List, length, sum_by, subst, inl, inr, arith}
use Rattle.std.proofs.lemmas.Bool.{cases_lt}
use Rattle.std.proofs.Math.Nat.{mul-le-mul_right}
use Rattle.std.proofs.lemmas.List.Sums.{sum_by-le}
use Rattle.net_parts.specs.declared.roads.Link.{Link}
use Rattle.net_parts.specs.declared.roads.Turn.{Turn}
use Rattle.net_parts.specs.Outline.{AreTurns}
use Rattle.road_net.specs.declared.joins.Side.TheVariants.{To}
use Rattle.foundation.specs.Firsts.{IsFirstWithout}
use Rattle.road_net.specs.Joins.{share_of, AreByNode, HasFewEntries, HaveFewEntries}
use Rattle.road_net.specs.Stored.{HasFewAt}

-- the sum of the shares of a link fits
pub shares-small : (links : ℕ) (ts : List Turn) → AreTurns links ts → sum_by share_of ts < 2 ^ 32
shares-small links ts bounds = omega (arith, sum_by-le share_of 1000 ts bounds.shares, mul-le-mul_right 1000 bounds.count)

-- lists of the links of each node, of which none is too long
pub few-entries : (links : List Link) (nodes : ℕ) (lists : List (List ℕ)) → AreByNode To links nodes lists → ((k : ℕ) → k < length lists → HasFewAt lists k) → HaveFewEntries links nodes
few-entries links nodes lists by_node short n h = rw (← by_node.each n h) (short n (omega (arith, by_node.count)))

-- the first list that is too long is that of the first node with more links than it may have
pub crowded : (links : List Link) (nodes n : ℕ) (lists : List (List ℕ)) → AreByNode To links nodes lists → IsFirstWithout (HasFewAt lists) (length lists) n → IsFirstWithout (HasFewEntries links) nodes n
crowded links nodes n lists by_node long =
    let inside : n < nodes = omega (arith, by_node.count, long.below) in
    record {
      below = inside;
      before = λ k h. rw (← by_node.each k (omega arith)) (long.before k h);
      here = λ short. long.here (rw (by_node.each n inside) short);
    }

-- one number more of which it holds
pub below-more : (fact : ℕ → Type 0) (n : ℕ) → ((k : ℕ) → k < n → fact k) → fact n → (k : ℕ) → k < n + 1 → fact k
below-more fact n before here k h = elim (cases_lt k n) [
  | inl earlier ↦ before k earlier
  | inr past ↦ let same : n ≡ k = omega arith in subst fact same here
]
