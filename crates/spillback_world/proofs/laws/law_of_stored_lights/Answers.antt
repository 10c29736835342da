use Rattle.net_simulator.specs.Worlds.{signs_by}
use Rattle.spillback_world.proofs.Shown.{stands-under}
use Rattle.spillback_world.proofs.laws.law_of_stored_lights.Goals as goal

pub returns : goal.returns
returns c net arriving store lines others w stands same = stands-under net arriving store (signs_by lines) (signs_by others) w same stands
