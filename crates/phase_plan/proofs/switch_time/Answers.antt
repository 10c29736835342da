use Rattle.std.proofs.Common.{arith}
use Rattle.phase_plan.proofs.RingLaws.{passed-up, passed-round}
use Rattle.phase_plan.proofs.switch_time.Goals as goal
use Rattle.phase_plan.proofs.switch_time.Goals.{then-s-j, else-s-j}

pub returns-clause-value : goal.returns-clause-value
returns-clause-value c = elim c.if-s-j.branch [
  | then-s-j w ↦ omega (
    arith,
    w.passed-is,
    w.passing_time-passed.ensures.value,
    passed-up c.args.phases.now c.args.s c.args.j c.passes_all-all.result c.passes_all-all.ensures w.if-s-j.true,
  )
  | else-s-j w ↦ omega (
    arith,
    w.passed-is,
    w.passing_time.ensures.value,
    w.passing_time-else-s-j.ensures.value,
    passed-round c.args.phases.now c.args.s c.args.j c.passes_all-all.result c.passes_all-all.ensures w.if-s-j.false,
  )
]
