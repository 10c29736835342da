-- What is counted of a world that was played.
use Rattle.std.proofs.Common.{◌≡◌, ℕ, subst, ◌∙◌}
use Rattle.arrivals.specs.Amounts.{Amounts, arriving_of}
use Rattle.net_parts.specs.Numbers.{Net}
use Rattle.spillback_world.specs.declared.totals.SpillTotals.{SpillTotals}
use Rattle.spillback_world.specs.Laws.{spilled_in}
use Rattle.spillback_world.specs.Worlds.{SpillState, Stands}
use Rattle.control_flow.specs.declared.greens.Sign.{Sign}

pub counted : (net : Net) (arrivals : Amounts) (store : ℕ → ℕ) (shown : ℕ → ℕ → Sign) (w : SpillState) (n : ℕ) (t : SpillTotals) → t ≡ w.totals → w.second ≡ n → Stands net (arriving_of arrivals) store shown w → t ≡ spilled_in net arrivals store shown n
counted net arrivals store shown w n t is second stands = subst (λ k. t ≡ spilled_in net arrivals store shown k) second (is ∙ stands.totals)
