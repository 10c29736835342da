-- Where every link holds as much as may ever arrive, the totals are those of the world without bounds, and nothing waits outside.
use Rattle.std.proofs.Common.{◌≡◌, ℕ, ◌+◌, ◌<◌, Some, length, refl, ap, ◌∙◌, arith}
use Rattle.net_parts.specs.Numbers.{Net}
use Rattle.road_net.specs.Network.{IsNetwork}
use Rattle.road_net.specs.Totals.{total}
use Rattle.road_net.proofs.TotalLaws.{total-same, total-swap, total-zero}
use Rattle.net_parts.specs.Outline.{link_at}
use Rattle.net_simulator.specs.Flow.{Cumulative, passed_in, cumulative_under, queue}
use Rattle.net_simulator.specs.Sums.{AreFew, total_arrived, delay, totals}
use Rattle.net_simulator.proofs.EveryWorld.{past-still}
use Rattle.net_simulator.proofs.Sound.{flow-moved, flows}
use Rattle.spillback_world.specs.Laws.{spill_totals_of}
use Rattle.spillback_world.specs.StoredTotals.{outside_all, stored_totals}
use Rattle.spillback_world.specs.Storage.{outside, cumulative_in}
use Rattle.spillback_world.proofs.Course.{spilled-all}
use Rattle.spillback_world.proofs.Passing.{same-totals}
use Rattle.spillback_world.proofs.Sources.{none-outside}
use Rattle.spillback_world.proofs.Whole.{all-entered, ample}
use Rattle.control_flow.specs.declared.greens.Sign.{Sign}

module _ (net : Net) (network : IsNetwork net) (arriving : ℕ → ℕ → ℕ) (few : AreFew net arriving) (sources : (x l node : ℕ) → (link_at net l).from ≡ Some node → arriving x l ≡ 0) (shown : ℕ → ℕ → Sign) (n : ℕ) where
  abbrev P : ℕ → ℕ → Cumulative
  P = cumulative_under net arriving shown n

  abbrev links : ℕ
  links = length net.link_names

  -- nothing waits outside after any of the seconds
  none-after : (x : ℕ) → x < n → outside_all net arriving (cumulative_under net arriving shown n) (x + 1) ≡ 0
  none-after x less =
      total-same (outside arriving P (x + 1)) (λ l. 0) links (λ l inside.
      let still = past-still net network (flows net arriving shown) (cumulative_under net arriving shown) (flow-moved net arriving shown) n (x + 1) l (omega (arith, less)) in
      omega (arith, all-entered net network arriving few shown (x + 1) l inside, ap (λ (q : Cumulative). q.entered) still)) ∙ total-zero links

  same-delay : total (λ x. total (λ l. queue net P (x + 1) l) links + outside_all net arriving P (x + 1)) n ≡ total (delay net P n) links
  same-delay =
      total-same (λ x. total (λ l. queue net P (x + 1) l) links + outside_all net arriving P (x + 1)) (λ x. total (λ l. queue net P (x + 1) l) links) n (λ x less. omega (arith, none-after x less))
      ∙ total-swap (λ x l. queue net P (x + 1) l) links n

  module _ (store : ℕ → ℕ) (wide : (e : ℕ) → e < length net.link_names → store e ≡ 2000000000) where
    all-arrived : (stored_totals net arriving (cumulative_under net arriving shown n) n).entered ≡ total_arrived net arriving n
    all-arrived =
        let same = ample net network arriving few shown store wide n in
        let entered = ap (λ h. (stored_totals net arriving (passed_in h) n).entered) same in
        let none = ap (λ h. outside_all net arriving (passed_in h) n) same in
        omega (arith, spilled-all net network arriving store shown sources n, entered, none, none-outside net network arriving few shown n)

    pub ample-totals : stored_totals net arriving (cumulative_in net arriving store shown n) n ≡ spill_totals_of (totals net arriving (cumulative_under net arriving shown n) n)
    ample-totals =
        ap (λ h. stored_totals net arriving (passed_in h) n) (ample net network arriving few shown store wide n)
        ∙ same-totals (stored_totals net arriving P n) (spill_totals_of (totals net arriving P n)) all-arrived refl refl (none-outside net network arriving few shown n) same-delay
