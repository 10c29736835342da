use Rattle.world_records.proofs.ToldLaws.{IsToldTo}
use Rattle.world_records.proofs.shown.write_greens_of.Given as goal

-- the first rows are told, and their records written
abbrev pub invariant-loop-green : goal.invariant-loop-green
invariant-loop-green l = IsToldTo l.net l.node l.end l.greens l.green-index l.last l.fn.out l.out
