use Rattle.net_build.proofs.Plans.{IsOwnRing-from_bounds}
use Rattle.net_build.proofs.numbering.plan.Goals as goal

pub unreachable-requires : goal.unreachable-requires
unreachable-requires c = c.in-Err.ensures.refused (rw c.in_ok-times.ensures (IsOwnRing-from_bounds c.args.phases.now c.requires.some c.requires.few c.requires.ring c.requires.bounds))
