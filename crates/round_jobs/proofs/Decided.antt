-- Decisions as texts, and a node that a network has, or has not.
use Rattle.std.proofs.Common.{◌≡◌, ℕ, List, Option, Some, None, IsSome}
use Rattle.outside_world.specs.Shelf.{ShelfState}
use Rattle.net_parts.specs.Numbers.{Net, number_of}
use Rattle.round_states.specs.declared.states.RoundState.{RoundState}
use Rattle.scene_jobs.specs.Kinds.{NetworkText}
use Rattle.round_jobs.specs.Kinds.{node_state_of}
use Rattle.commands.specs.Texts.{IsIn}
use Rattle.commands.specs.declared.refusals.Named.TheVariants.{Node, Round, Factor}
use Rattle.commands.specs.declared.refusals.Refusal.{Refusal}
use Rattle.commands.specs.declared.refusals.Refusal.TheVariants as refusal
use Rattle.commands.specs.Meanings.{MissesNothing}
use Rattle.commands.specs.Ending.{Explains}
use Rattle.round_jobs.specs.Meanings.{decide_node_meaning}
use Rattle.round_jobs.specs.Nodes.{IsUndecided}

some_none : {X : Type 0} (o : Option X) → IsSome o → o ≡ None → ⊥
some_none None some none = absurd (cc)
some_none (Some x) some none = absurd (cc)

module _ (net file node : List ℕ) (network : Net) (state : RoundState) where
  -- a missing node explains that nothing was made
  pub missed : (old new : ShelfState) (why : Refusal) → new ≡ old → IsIn old.files net NetworkText network → IsIn old.files file (node_state_of node network) state → IsUndecided network node why → Explains (decide_node_meaning net file node) old new why
  missed old new (refusal.Missing Node) same is tells misses = (same, ((network, (state, tt)), (is, (tells, tt)), misses))
  missed old new (refusal.Missing Round) same is tells misses = absurd misses
  missed old new (refusal.Missing Factor) same is tells misses = absurd misses
  missed old new refusal.NoMemory same is tells misses = same
  missed old new refusal.Usage same is tells misses = misses
  missed old new (refusal.Bad text why) same is tells misses = absurd misses
  missed old new (refusal.Unread text) same is tells misses = absurd misses
  missed old new refusal.Unwritten same is tells misses = misses

  -- and where it is there, nothing is missing
  pub none_missed : IsSome (number_of network.node_names node) → MissesNothing (decide_node_meaning net file node) (network, (state, tt))
  none_missed some Node missing = some_none (number_of network.node_names node) some missing
  none_missed some Round missing = missing
  none_missed some Factor missing = missing
