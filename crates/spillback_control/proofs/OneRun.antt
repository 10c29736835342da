-- In a world with a store a network has one run under actuated control for what arrives at it.
use Rattle.std.proofs.Common.{◌≡◌, ℕ, ◌<◌, length, sym, ap, subst, ◌∙◌, arith}
use Rattle.net_parts.specs.Numbers.{Net}
use Rattle.net_simulator.specs.Flow.{Cumulative}
use Rattle.net_simulator.specs.Sums.{end_of_run}
use Rattle.road_net.specs.Network.{IsNetwork}
use Rattle.actuated.specs.ActRuns.{shown_in}
use Rattle.actuated.specs.ActSteps.{act_rounds}
use Rattle.actuated.proofs.ActStepLaws.{act-rounds}
use Rattle.actuated.proofs.OneRun.{past-same, same-before}
use Rattle.spillback_world.specs.StoredTotals.{stored_totals}
use Rattle.spillback_world.specs.Storage.{cumulative_in}
use Rattle.spillback_world.specs.declared.totals.SpillTotals.{SpillTotals}
use Rattle.spillback_world.proofs.Shown.{past-at-nodes}
use Rattle.spillback_control.specs.SpillRuns.{IsActuatedIn}

pub one-spill : (net : Net) → IsNetwork net → (arriving : ℕ → ℕ → ℕ) (store : ℕ → ℕ) (one other : SpillTotals) → IsActuatedIn net arriving store one → IsActuatedIn net arriving store other → one ≡ other
one-spill net network arriving store one other a b =
    let before : (s n : ℕ) → s < act_rounds net → n < length net.node_names → a.made s n ≡ b.made s n =
    same-before net network (cumulative_in net arriving store) (past-at-nodes net network arriving store) a.made b.made (act_rounds net) a.acts b.acts (act_rounds net) (omega arith) in
    let past : cumulative_in net arriving store (shown_in net a.made) (end_of_run net) ≡ cumulative_in net arriving store (shown_in net b.made) (end_of_run net) =
    subst (λ n. cumulative_in net arriving store (shown_in net a.made) n ≡ cumulative_in net arriving store (shown_in net b.made) n) (act-rounds net network).whole
    (past-same net network (cumulative_in net arriving store) (past-at-nodes net network arriving store) a.made b.made (act_rounds net) before) in
    a.are
    ∙ ap (λ (p : ℕ → ℕ → Cumulative). stored_totals net arriving p (end_of_run net)) past
    ∙ sym b.are
