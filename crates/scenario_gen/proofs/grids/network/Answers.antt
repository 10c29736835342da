use Rattle.std.proofs.Common.{subst}
use Rattle.net_parts.specs.Numbers.{Net}
use Rattle.net_parts.specs.FirstFaults.{Refuses}
use Rattle.net_parts.specs.declared.drafts.Draft.{Draft}
use Rattle.road_net.specs.Network.{IsNetworkOf}
use Rattle.scenario_gen.specs.Drafts.{grid_draft}
use Rattle.scenario_gen.proofs.Lawful.{memory-alone}
use Rattle.scenario_gen.proofs.Squares.{square}
use Rattle.scenario_gen.proofs.grids.network.Goals as goal

pub alloc_error-requires : goal.alloc_error-requires
alloc_error-requires c =
    memory-alone (grid_draft c.args.side c.args.rounds) c.in-Err.fault (square c.args.side c.args.rounds c.requires.side c.requires.rounds)
    (subst (λ (d : Draft). Refuses c.in-Err.fault ((net : Net) → IsNetworkOf d net → ⊥)) c.in_ok-draft.ensures c.in-Err.ensures.refused)
