use Rattle.std.proofs.Common.{drop}
use Rattle.schedule_meaning.proofs.Underway.{Lists}
use Rattle.schedule_meaning.proofs.listing.list_servings.Given as goal

-- the list has what the sequence served so far
abbrev pub invariant-loop-phase : goal.invariant-loop-phase
invariant-loop-phase g l = Lists l.i l.seq l.left l.head l.list.items (drop l.phase-index l.seq)
