use Rattle.std.proofs.Common.{[], refl}
use Rattle.net_core.proofs.Starting.{at-first}
use Rattle.net_core.proofs.first_parts.parts_of.Goals as goal

pub returns-clause-first : goal.returns-clause-first
returns-clause-first c = λ arrivals. record {
  between = at-first c.args.net.now c.law_of_network.ensures arrivals [] c.in_ok-actors.actors.all.items c.in_ok-boards.boards.items c.in_ok-world.world [] refl c.in_ok-actors.ensures c.in_ok-boards.ensures c.in_ok-world.ensures.second c.in_ok-world.ensures.stands refl;
  round = refl;
}
