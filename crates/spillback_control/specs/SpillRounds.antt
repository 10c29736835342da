-- How far a run has come. No public clause names this definition.
use Rattle.std.specs.Prelude.{◌≡◌, ℕ, ◌*◌, List}
use Rattle.actuated.specs.ActSteps.{act_step}
use Rattle.actuated.specs.RunsSoFar.{HaveActed}
use Rattle.control_flow.specs.declared.greens.Green.{Green}
use Rattle.net_parts.specs.Numbers.{Net}
use Rattle.net_simulator.specs.Worlds.{line_in, signs_by}
use Rattle.spillback_world.specs.Storage.{cumulative_in}
use Rattle.spillback_world.specs.Worlds.{SpillState, Stands}

-- after this number of rounds: these are the lines that the nodes made, and the world with this store is the one that moved by them
pub record HaveSpilled (net : Net) (arriving : ℕ → ℕ → ℕ) (store : ℕ → ℕ) (rounds : ℕ) (lines : List (List Green))
    (w : SpillState) : Type 0 where
  pub acted : HaveActed net (cumulative_in net arriving store) rounds lines
  pub second : w.second ≡ rounds * act_step net
  pub stands : Stands net arriving store (signs_by (line_in lines)) w
