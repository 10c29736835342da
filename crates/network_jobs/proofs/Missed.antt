-- A node and a round that a network has, or has not.
use Rattle.std.proofs.Common.{◌≡◌, ℕ, ◌<◌, List, Option, Some, None, IsSome, arith}
use Rattle.outside_world.specs.Shelf.{ShelfState}
use Rattle.net_parts.specs.Numbers.{Net, number_of}
use Rattle.scene_jobs.specs.Kinds.{ArrivalsText, NetworkText}
use Rattle.network_jobs.specs.Kinds.{HistoryText}
use Rattle.commands.specs.Texts.{IsIn}
use Rattle.commands.specs.declared.refusals.Named.TheVariants.{Factor, Node, Round}
use Rattle.commands.specs.declared.refusals.Refusal.{Refusal}
use Rattle.commands.specs.declared.refusals.Refusal.TheVariants as refusal
use Rattle.commands.specs.Meanings.{MissesNothing}
use Rattle.commands.specs.Ending.{Explains}
use Rattle.network_jobs.specs.Meanings.{instance_meaning}
use Rattle.network_jobs.specs.Missing.{IsWithoutPlan}

some_none : {X : Type 0} (o : Option X) → IsSome o → o ≡ None → ⊥
some_none None some none = absurd (cc)
some_none (Some x) some none = absurd (cc)

module _ (net arr hist node : List ℕ) (round : ℕ) (network : Net) (arriving : ℕ → ℕ → ℕ) (history : List ℕ) where
  -- what is missing explains that nothing was made
  pub missed : (old new : ShelfState) (why : Refusal) → new ≡ old → IsIn old.files net NetworkText network → IsIn old.files arr (ArrivalsText network) arriving → IsIn old.files hist (HistoryText network) history
      → IsWithoutPlan network node round why → Explains (instance_meaning net arr hist node round) old new why
  missed old new (refusal.Missing Node) same is bring tells misses = (same, ((network, (arriving, (history, tt))), (is, (bring, (tells, tt))), misses))
  missed old new (refusal.Missing Round) same is bring tells misses = (same, ((network, (arriving, (history, tt))), (is, (bring, (tells, tt))), misses))
  missed old new (refusal.Missing Factor) same is bring tells misses = absurd misses
  missed old new refusal.NoMemory same is bring tells misses = same
  missed old new refusal.Usage same is bring tells misses = misses
  missed old new (refusal.Bad text why) same is bring tells misses = absurd misses
  missed old new (refusal.Unread text) same is bring tells misses = absurd misses
  missed old new refusal.Unwritten same is bring tells misses = misses

  -- and where both are there, nothing is missing
  pub none_missed : IsSome (number_of network.node_names node) → round < network.run.rounds → MissesNothing (instance_meaning net arr hist node round) (network, (arriving, (history, tt)))
  none_missed some within Node missing = some_none (number_of network.node_names node) some missing
  none_missed some within Round missing = omega (arith, missing.1, within)
  none_missed some within Factor missing = missing
