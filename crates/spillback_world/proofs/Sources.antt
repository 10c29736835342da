-- Where nothing arrives, and that nothing waits outside where all that may ever arrive has capacity.
use Rattle.std.proofs.Common.{◌≡◌, ℕ, Some, length, sym, ◌∙◌, inl, inr, arith}
use Rattle.std.proofs.lemmas.Bool.{cases_lt}
use Rattle.std.proofs.lemmas.Option.{none-some}
use Rattle.arrivals.specs.Amounts.{Amounts, AreArrivals, arriving_of}
use Rattle.net_parts.specs.Numbers.{Net}
use Rattle.net_parts.specs.Outline.{link_at}
use Rattle.road_net.specs.Network.{IsNetwork}
use Rattle.road_net.proofs.TotalLaws.{total-same, total-zero}
use Rattle.net_simulator.specs.Flow.{cumulative_under}
use Rattle.net_simulator.specs.Sums.{AreFew}
use Rattle.spillback_world.specs.StoredTotals.{outside_all}
use Rattle.spillback_world.specs.Storage.{outside}
use Rattle.spillback_world.proofs.Whole.{all-entered}
use Rattle.control_flow.specs.declared.greens.Sign.{Sign}

-- nothing arrives at a link that comes from a node
pub sources-of : (net : Net) (a : Amounts) → AreArrivals net a → (x l node : ℕ) → (link_at net l).from ≡ Some node → arriving_of a x l ≡ 0
sources-of net a are x l node from = elim (cases_lt 0 (arriving_of a x l)) [
  | inl some ↦ absurd (none-some node (sym (are.sources l x some).outside ∙ from))
  | inr none ↦ omega (arith, none)
]

-- all that arrived has entered
pub none-outside : (net : Net) (network : IsNetwork net) (arriving : ℕ → ℕ → ℕ) (few : AreFew net arriving) (shown : ℕ → ℕ → Sign) (n : ℕ) → outside_all net arriving (cumulative_under net arriving shown n) n ≡ 0
none-outside net network arriving few shown n =
    total-same (outside arriving (cumulative_under net arriving shown n) n) (λ l. 0) (length net.link_names) (λ l h. let all = all-entered net network arriving few shown n l h in omega (arith, all)) ∙ total-zero (length net.link_names)
