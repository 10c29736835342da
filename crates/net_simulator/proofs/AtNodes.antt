-- What passes the links depends only on what the nodes of the network show before.
use Rattle.std.proofs.Common.{◌≡◌, ℕ, ◌<◌, Option, length, sym, ap, subst, inl, inr}
use Rattle.std.specs.Prelude.{IfSome}
use Rattle.std.proofs.lemmas.Bool.{cases_lt}
use Rattle.std.proofs.lemmas.List.{get_or_past}
use Rattle.std.proofs.lemmas.List.Elements.{All-get_or}
use Rattle.net_parts.specs.Numbers.{Net, no_link}
use Rattle.net_parts.specs.Outline.{IsLink, link_at}
use Rattle.road_net.specs.Network.{IsNetwork}
use Rattle.net_simulator.specs.Flow.{history, passed_in, cumulative_under}
use Rattle.control_flow.specs.declared.greens.Sign.{Sign}
use Rattle.net_simulator.specs.Worlds.{Stands, WorldState}
use Rattle.net_simulator.proofs.FlowLaws.{history-alike}
use Rattle.net_simulator.proofs.LightLaws.{AreAlike, alike-shown}
use Rattle.net_simulator.proofs.Passing.{stands-alike}

-- the node at the end of a link is one of the network
pub end-below : (net : Net) → IsNetwork net → (l : ℕ) → IfSome (link_at net l).to (λ n. n < length net.node_names)
end-below net network l = elim (cases_lt l (length net.links)) [
  | inl inside ↦ (All-get_or (IsLink (length net.node_names)) net.links l no_link inside network.outline.links).to
  | inr past ↦ subst (λ link. IfSome link.to (λ n. n < length net.node_names)) (sym (get_or_past net.links l no_link past)) tt
]

-- signs under which the links are green alike move the world alike
pub past-alike : (net : Net) (arriving : ℕ → ℕ → ℕ) (shown seen : ℕ → ℕ → Sign) (n : ℕ) → AreAlike net n shown seen → cumulative_under net arriving shown n ≡ cumulative_under net arriving seen n
past-alike net arriving shown seen n alike = ap passed_in (history-alike net arriving shown seen n alike)

-- only the signs of the nodes of the network count
pub alike-at-nodes : (net : Net) → IsNetwork net → (shown seen : ℕ → ℕ → Sign) (n : ℕ) → ((x node : ℕ) → x < n → node < length net.node_names → shown x node ≡ seen x node) → AreAlike net n shown seen
alike-at-nodes net network shown seen n same =
    alike-shown net n shown seen (λ x l node h to. same x node h (subst (λ (o : Option ℕ). IfSome o (λ k. k < length net.node_names)) to (end-below net network l)))

module _ (net : Net) (network : IsNetwork net) (arriving : ℕ → ℕ → ℕ) (shown seen : ℕ → ℕ → Sign) where
  pub history-at-nodes : (n : ℕ) → ((x node : ℕ) → x < n → node < length net.node_names → shown x node ≡ seen x node) → history net arriving shown n ≡ history net arriving seen n
  history-at-nodes n same = history-alike net arriving shown seen n (alike-at-nodes net network shown seen n same)

  pub past-at-nodes : (n : ℕ) → ((x node : ℕ) → x < n → node < length net.node_names → shown x node ≡ seen x node) → cumulative_under net arriving shown n ≡ cumulative_under net arriving seen n
  past-at-nodes n same = ap passed_in (history-at-nodes n same)

-- a world counts what is shown only at the nodes of the network, and before its second
pub stands-at-nodes : (net : Net) → IsNetwork net → (arriving : ℕ → ℕ → ℕ) (shown seen : ℕ → ℕ → Sign) (w : WorldState)
    → ((x node : ℕ) → x < w.second → node < length net.node_names → shown x node ≡ seen x node) → Stands net arriving shown w → Stands net arriving seen w
stands-at-nodes net network arriving shown seen w same = stands-alike net arriving shown seen w (alike-at-nodes net network shown seen w.second same) same
