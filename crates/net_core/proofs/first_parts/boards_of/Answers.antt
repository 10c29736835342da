use Rattle.net_core.proofs.Starting.{blank-none}
use Rattle.net_core.proofs.first_parts.boards_of.Goals as goal

pub loop-link-init : goal.loop-link-init
loop-link-init c = blank-none _ c.in_ok-boards.ensures.items
