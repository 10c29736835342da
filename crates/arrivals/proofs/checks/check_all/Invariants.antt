use Rattle.std.proofs.Common.{take}
use Rattle.arrivals.proofs.FaultLaws.{HasChecked}
use Rattle.arrivals.proofs.checks.check_all.Given as goal

-- the rows so far are lawful
abbrev pub invariant-loop-index : goal.invariant-loop-index
invariant-loop-index l = HasChecked l.net (take l.index l.rows) l.whole
