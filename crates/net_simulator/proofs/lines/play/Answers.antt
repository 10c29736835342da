use Rattle.net_simulator.proofs.lines.play.Goals as goal

pub advance-requires-clause-stands : goal.advance-requires-clause-stands
advance-requires-clause-stands c = c.in_ok-world.ensures.stands _ _
