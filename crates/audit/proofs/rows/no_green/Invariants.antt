use Rattle.std.proofs.Common.{ℕ, ◌<◌}
use Rattle.audit.specs.Audits.{IsGreenAt}
use Rattle.audit.proofs.rows.no_green.Given as goal

-- the rows up to here are greens
abbrev pub invariant-loop-index : goal.invariant-loop-index
invariant-loop-index l = (k : ℕ) → k < l.index → IsGreenAt l.plan l.rows k
