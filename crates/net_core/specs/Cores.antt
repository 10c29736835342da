-- A core, as contracts see it: a run under way.
use Rattle.std.specs.Prelude.{◌≡◌, ◌≢◌, ℕ, ◌==◌, ◌<◌, ◌≤◌, Bool, true, false, if◌then◌else◌, List, Option, Some, None, length, slice_get}
use Rattle.arrivals.specs.Amounts.{Amounts}
use Rattle.histories.specs.Histories.{count, IsLawful, IsUnderWay}
use Rattle.histories.specs.Steps.{board_steps}
use Rattle.histories.specs.declared.steps.BoardStep.{BoardStep}
use Rattle.histories.specs.declared.steps.BoardStep.TheVariants as steps
use Rattle.intersection_actor.specs.declared.records.Want.{Want}
use Rattle.intersection_actor.specs.declared.records.Want.TheVariants.{Read, Publish, Done}
use Rattle.net_parts.specs.Numbers.{Net}
use Rattle.net_core.specs.declared.faults.StepFault.{StepFault}
use Rattle.net_core.specs.declared.faults.StepFault.TheVariants.{UnknownNode, Spent, Over, NotItsTurn, NoMemory}

-- the network and the arrivals of a run, its history so far, and whether it is spent
pub record Course : Type 0 where
  pub net : Net
  pub arrivals : Amounts
  pub steps : List ℕ
  pub spent : Bool

-- what a node wants whose next board step is this one, if there is one
abbrev pub wanted_step : Option BoardStep → Want
wanted_step None = Done
wanted_step (Some (steps.Read link)) = Read link
wanted_step (Some (steps.Publish link)) = Publish link

-- What a node wants after a history under way: the next of its board steps in the round that is under way; nothing where it has
-- done them, or where all rounds are done.
pub record IsWanted (net : Net) (history : List ℕ) (node : ℕ) (want : Want) : Type 0 where
  pub done : ℕ
  pub way : IsUnderWay (board_steps net) net.run.rounds done history
  pub is : want
      ≡ (if done == net.run.rounds then Done else wanted_step (slice_get (board_steps net node) (count node way.part)))

-- a node may do its next step: it exists, the core is not spent, and the node wants something, and this alone
pub record MayStep (core : Course) (node : ℕ) : Type 0 where
  pub exists : node < length core.net.node_names
  pub fresh : core.spent ≡ false
  pub want : Want
  pub wanted : IsWanted core.net core.steps node want
  pub some : want ≢ Done
  pub only : (other : Want) → IsWanted core.net core.steps node other → other ≡ want

-- a node exists, but the core is spent; or all its rounds are done; or not all are, and the node wants nothing in this one
pub record IsSpent (core : Course) (node : ℕ) : Type 0 where
  pub exists : node < length core.net.node_names
  pub spent : core.spent ≡ true

pub record IsOver (core : Course) (node : ℕ) : Type 0 where
  pub exists : node < length core.net.node_names
  pub fresh : core.spent ≡ false
  pub lawful : IsLawful core.net core.steps

pub record HasNoTurn (core : Course) (node : ℕ) : Type 0 where
  pub exists : node < length core.net.node_names
  pub fresh : core.spent ≡ false
  pub unlawful : ¬ IsLawful core.net core.steps
  pub wanted : IsWanted core.net core.steps node Done

-- why a core does no step of a node: the network has no such node; or else the core is spent; or else all rounds are done; or else
-- the node wants nothing in this round; or else memory ran out
abbrev pub IsStepFault : Course → ℕ → StepFault → Type 0
IsStepFault core node UnknownNode = length core.net.node_names ≤ node
IsStepFault core node Spent = IsSpent core node
IsStepFault core node Over = IsOver core node
IsStepFault core node NotItsTurn = HasNoTurn core node
IsStepFault core node NoMemory = MayStep core node

-- what a core is after a step that was not done: as it was, and spent where memory ran out
abbrev pub Stays : Course → Course → StepFault → Type 0
Stays old new UnknownNode = new ≡ old
Stays old new Spent = new ≡ old
Stays old new Over = new ≡ old
Stays old new NotItsTurn = new ≡ old
Stays old new NoMemory = new ≡ record old { spent = true }
