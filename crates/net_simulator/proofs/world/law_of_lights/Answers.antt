use Rattle.net_simulator.specs.Worlds.{signs_by}
use Rattle.net_simulator.proofs.Passing.{stands-under}
use Rattle.net_simulator.proofs.world.law_of_lights.Goals as goal

pub returns : goal.returns
returns c net arriving lines others w stands same = stands-under net arriving (signs_by lines) (signs_by others) w same stands
