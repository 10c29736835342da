-- The rounds of the controller: it may look at its links more often than the run has rounds.
use Rattle.std.specs.Prelude.{◌≡◌, ℕ, ◌*◌, ◌/◌, ◌≤◌, unwrap_or}
use Rattle.net_parts.specs.Numbers.{Net}
use Rattle.net_simulator.specs.Sums.{end_of_run}

-- the seconds of a round of the controller: `act_step` of the run, or its step where it has none
unfoldable pub act_step : Net → ℕ
act_step net = unwrap_or net.run.act_step net.run.step

-- how many such rounds there are in a run
unfoldable pub act_rounds : Net → ℕ
act_rounds net = net.run.rounds * (net.run.step / act_step net)

-- such a round is no longer than one of the run, and together they are as long
pub record AreActRounds (net : Net) : Type 0 where
  pub some : 1 ≤ act_step net
  pub within : act_step net ≤ net.run.step
  pub whole : act_rounds net * act_step net ≡ end_of_run net
